-- What the code holds of the possible pairs is the choice of the pass.
use Rattle.std.proofs.Common.{◌≡◌, ℕ, ◌<◌, List, map, filter, length, None, sym, ap, ◌∙◌, subst}
use Rattle.std.specs.List.{All, range_with_len}
use Rattle.std.specs.List.Sorted.{IsStrictlyIncreasing}
use Rattle.std.proofs.Math.Path.{fun_ext}
use Rattle.std.proofs.lemmas.List.FromFn.{length-map-range_with_len}
use Rattle.std.proofs.lemmas.List.Kept.{IsStrictlyIncreasing-filter}
use Rattle.lists.proofs.Members.{range_member, all_from_members, map_member}
use Rattle.sas_task.specs.Task.{Task}
use Rattle.sas_restriction.specs.Listed.{Listed, with_operators}
use Rattle.sas_restriction.specs.Everything.{all_values}
use Rattle.pass_possible.specs.Possible.{Pairs, is_possible}
use Rattle.pass_possible.specs.Pruned.{is_wanted, possible_alone}
use Rattle.lists.proofs.Ordered.{range_increasing}
use Rattle.sas_restriction.proofs.AllValues.{no_values, listed_at}

module _ (T : Task) (pairs : Pairs) where
  abbrev pub wanted : ℕ → List ℕ
  wanted v = filter (is_wanted pairs T v) (all_values T v)

  abbrev variables : List ℕ
  variables = range_with_len 0 (length T.variables)

  -- what the code holds
  abbrev pub listed : List ℕ → List (List ℕ) → Listed
  listed vars values = record { vars = vars; values = values; holder = None }

  module _ (vars : List ℕ) (values : List (List ℕ)) (vars-are : vars ≡ variables) (values-are : values ≡ map wanted variables) where
    pub choice_is : (shown : Listed) → shown ≡ listed vars values → with_operators shown (is_possible pairs) ≡ possible_alone pairs T
    choice_is shown is =
        ap (λ (shown : Listed). with_operators shown (is_possible pairs)) is
        ∙ ap (λ vars. with_operators (listed vars values) (is_possible pairs)) vars-are
        ∙ ap (λ values. with_operators (listed variables values) (is_possible pairs)) values-are
        ∙ (λ i. record { vars = variables; values = fun_ext (listed_at T wanted (λ v past. ap (filter (is_wanted pairs T v)) (no_values T v past))) i; operators = is_possible pairs; holder = None })

    -- each variable has a list, and each list rises
    pub inside : All (λ v. v < length values) vars
    inside =
        subst (λ vs. All (λ v. v < length vs) vars) (sym values-are)
        (subst (λ n. All (λ v. v < n) vars) (sym (length-map-range_with_len wanted 0 (length T.variables)))
        (subst (All (λ v. v < length T.variables)) (sym vars-are) (all_from_members (λ v. v < length T.variables) variables (λ v in'. range_member (length T.variables) v in'))))

    pub rising : All IsStrictlyIncreasing values
    rising =
        subst (All IsStrictlyIncreasing) (sym values-are) (all_from_members IsStrictlyIncreasing (map wanted variables) (λ xs in'.
        let from = map_member wanted variables xs in' in
        subst IsStrictlyIncreasing from.2 (IsStrictlyIncreasing-filter (is_wanted pairs T from.0) (all_values T from.0) (range_increasing _))))
