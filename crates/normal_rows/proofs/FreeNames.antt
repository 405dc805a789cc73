-- The names of free variables, added in one walk.
use Rattle.std.proofs.Common.{◌≡◌, Bool, true, false, ◌||◌, List, [], ◌∷◌, ◌++◌, refl, ap, ◌∙◌}
use Rattle.std.specs.Prelude.{if◌then◌else◌}
use Rattle.std.specs.Cmp.{nat_eq_equiv}
use Rattle.std.proofs.lemmas.Cmp.{lists_equiv}
use Rattle.std.proofs.lemmas.List.{append_assoc}
use Rattle.pddl_syntax.specs.Words.{Name, is_same}

pub same-swap : (a b : Name) → is_same a b ≡ is_same b a
same-swap a b = (lists_equiv nat_eq_equiv).symm a b

-- a list that goes on
pub record GoesOn (before after : List Name) : Type 0 where
  pub more : List Name
  pub is : after ≡ before ++ more

pub goes-further : (before mid after : List Name) (added : Name) → GoesOn before mid → (known : Bool) → after ≡ (if known then mid else mid ++ added ∷ []) → GoesOn before after
goes-further before mid after added on true same = record { more = on.more; is = same ∙ on.is }
goes-further before mid after added on false same = record { more = on.more ++ added ∷ []; is = same ∙ ap (λ (l : List Name). l ++ added ∷ []) on.is ∙ append_assoc before on.more (added ∷ []) }

pub one-more : (s l b : Bool) → (s || (l || b)) ≡ ((l || s) || b)
one-more true true b = refl
one-more true false b = refl
one-more false true b = refl
one-more false false b = refl
