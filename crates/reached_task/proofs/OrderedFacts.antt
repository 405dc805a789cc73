-- Atoms that are the same, and lists of facts in order.
use Rattle.std.proofs.Common.{◌≡◌, List, [], ◌∷◌, subst}
use Rattle.std.specs.List.Sorted.{IsStrictlySortedBy}
use Rattle.std.specs.Cmp.{IsTotalOrder}
use Rattle.std.specs.declared.cmp.Ordering.TheVariants.{Less}
use Rattle.std.proofs.lemmas.Bool.{false_from_ne_true}
use Rattle.std.proofs.lemmas.List.Elements.{All-contains}
use Rattle.std.proofs.lemmas.Map.Keys.{sorted_tail}
use Rattle.std.proofs.lemmas.Map.Views.{All-after_first}
use Rattle.std.proofs.lemmas.Cmp.{nat_cmp_total, nat_list_cmp_total, then_total, on_total, tied_itself}
use Rattle.normal_task.specs.declared.task.GroundAtom.{GroundAtom}
use Rattle.normal_task.specs.Meaning.{is_same_atom}
use Rattle.lists.proofs.Items.{Among, contains_among}
use Rattle.reached_task.specs.Reachable.{fact_cmp}
use Rattle.reached_task.proofs.Numbers.{Apart}
use Rattle.normal_task.proofs.OnceEach.{same_atom, atom_same}

pub fact_total : IsTotalOrder fact_cmp
fact_total = then_total (on_total (λ (a : GroundAtom). a.predicate) nat_cmp_total) (on_total (λ (a : GroundAtom). a.objects) nat_list_cmp_total)

-- nothing is before itself
not_before : (a : GroundAtom) → fact_cmp a a ≡ Less → ⊥
not_before a before = let equal = tied_itself fact_total a in absurd cc

later : (x : GroundAtom) (xs : List GroundAtom) → IsStrictlySortedBy fact_cmp (x ∷ xs) → (a : GroundAtom) → Among a xs → fact_cmp x a ≡ Less
later x xs sorted a among = All-contains (λ b. fact_cmp x b ≡ Less) xs a (All-after_first fact_cmp x xs sorted) (contains_among xs a among)

-- facts in order have no repeats
pub facts_apart : (atoms : List GroundAtom) → IsStrictlySortedBy fact_cmp atoms → Apart is_same_atom atom_same same_atom atoms
facts_apart [] sorted = tt
facts_apart (x ∷ xs) sorted =
    (λ a among. false_from_ne_true (is_same_atom a x) (λ same. not_before x (subst (λ b. fact_cmp x b ≡ Less) (same_atom a x same) (later x xs sorted a among))), facts_apart xs (sorted_tail fact_cmp x xs sorted))
