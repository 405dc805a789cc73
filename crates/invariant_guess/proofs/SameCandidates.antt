-- Candidates that are told to be the same are equal.
use Rattle.std.proofs.Common.{◌≡◌, Bool, true, ◌&&◌, List, refl, sym, ap, ◌∙◌}
use Rattle.std.specs.Prelude.{nat_eq}
use Rattle.std.specs.Cmp.{nat_eq_equiv}
use Rattle.std.specs.Cmp.Lexicographic.{pointwise, pointwise_decides, bytes_decides, options_equiv}
use Rattle.std.specs.Option.{option_eq}
use Rattle.std.proofs.lemmas.Bool.{eqb-true, and_parts, and_from}
use Rattle.contradictions.specs.declared.types.Candidate.{Candidate}
use Rattle.contradictions.specs.declared.types.Part.{Part}
use Rattle.contradictions.specs.contracts.types.PartPartialEq.TheImpl.{eq-value as equality}
use Rattle.invariant_check.specs.Names.{of_parts}
use Rattle.invariant_check.specs.Extensions.{part_at}
use Rattle.invariant_guess.specs.Trial.{is_same}
use Rattle.lists.proofs.Exact.{same_option}

abbrev is_same_part : Part → Part → Bool
is_same_part = equality.it

same_part : (a b : Part) → is_same_part a b ≡ true → a ≡ b
same_part a b is =
    let halves = and_parts (nat_eq a.predicate b.predicate) (pointwise nat_eq a.places b.places && option_eq nat_eq a.counted b.counted) is in
    let back = and_parts (pointwise nat_eq a.places b.places) (option_eq nat_eq a.counted b.counted) halves.1 in
    ap (λ p. part_at p a.counted a.places) (eqb-true a.predicate b.predicate halves.0)
    ∙ ap (part_at b.predicate a.counted) ((bytes_decides a.places b.places).0 back.0)
    ∙ ap (λ c. part_at b.predicate c b.places) (same_option a.counted b.counted back.1)

part-itself : (a : Part) → is_same_part a a ≡ true
part-itself a =
    and_from (nat_eq a.predicate a.predicate) (pointwise nat_eq a.places a.places && option_eq nat_eq a.counted a.counted) (nat_eq_equiv.refl a.predicate)
    (and_from (pointwise nat_eq a.places a.places) (option_eq nat_eq a.counted a.counted) ((bytes_decides a.places a.places).1 refl) ((options_equiv nat_eq_equiv).refl a.counted))

parts_decided : (xs ys : List Part) → (pointwise is_same_part xs ys ≡ true → xs ≡ ys) × (xs ≡ ys → pointwise is_same_part xs ys ≡ true)
parts_decided = pointwise_decides (λ a b. (same_part a b, λ same. ap (is_same_part a) (sym same) ∙ part-itself a))

pub same_candidate : (a b : Candidate) → is_same a b ≡ true → a ≡ b
same_candidate a b is =
    let halves = and_parts (nat_eq a.parameters b.parameters) (pointwise is_same_part a.parts b.parts) is in
    ap (λ n. of_parts n a.parts) (eqb-true a.parameters b.parameters halves.0) ∙ ap (of_parts b.parameters) ((parts_decided a.parts b.parts).0 halves.1)

pub candidate-itself : (a : Candidate) → is_same a a ≡ true
candidate-itself a = and_from (nat_eq a.parameters a.parameters) (pointwise is_same_part a.parts a.parts) (nat_eq_equiv.refl a.parameters) ((parts_decided a.parts a.parts).1 refl)
