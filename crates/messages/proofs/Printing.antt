-- Two texts that are printed one after the other.
use Rattle.std.proofs.Common.{◌≡◌, ℕ, List, ◌++◌, OnOk, OnErr, Result, Ok, Err, ap, ◌∙◌, subst}
use Rattle.std.specs.declared.option.Option.{Option}
use Rattle.std.specs.Io.KnownBytes.{append_known}
use Rattle.tl_device.specs.Contents.{PrintedInPart}
use Rattle.tl_device.proofs.Known.{append_more, part_of_second}

-- the second as it was handed on
module _ (old mid new : Option (List ℕ)) (first second handed : List ℕ) (same : handed ≡ second) where
  pub both_printed : {A E : Type 0} (result : Result A E) → mid ≡ append_known old first → OnOk result (new ≡ append_known mid handed) → OnOk result (new ≡ append_known old (first ++ second))
  both_printed (Ok value) before grows =
      grows ∙ ap (λ (k : Option (List ℕ)). append_known k handed) before ∙ append_more old first handed ∙ ap (λ (s : List ℕ). append_known old (first ++ s)) same
  both_printed (Err error) before grows = tt

  pub plan_broke : {A E : Type 0} (result : Result A E) → mid ≡ append_known old first → OnErr result (PrintedInPart mid new handed) → OnErr result (PrintedInPart old new (first ++ second))
  plan_broke (Ok value) before broke = tt
  plan_broke (Err error) before broke = part_of_second old mid new first second before (subst (PrintedInPart mid new) same broke)
