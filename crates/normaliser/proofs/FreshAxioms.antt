-- The axioms of new predicates.
use Rattle.std.proofs.Common.{append-nil, append_assoc, ◌≡◌, ℕ, suc, ◌+◌, ◌<◌, List, [], ◌∷◌, ◌++◌, map, take, length, get_or, sym, ap, ◌∙◌, arith}
use Rattle.std.proofs.lemmas.List.{length-take-le}
use Rattle.lists.proofs.LoopSteps.{take_next}
use Rattle.pddl_syntax.specs.declared.types.Domain.{Domain}
use Rattle.pddl_syntax.specs.declared.types.Problem.{Problem}
use Rattle.normal_task.specs.declared.task.AxiomRow.{AxiomRow}
use Rattle.normal_task.specs.Normalised.{axiom_row, fresh_rows}
use Rattle.normal_task.specs.declared.parts.Fresh.{Fresh}
use Rattle.normal_task.specs.Parts.{fresh_number}

module _ (domain : Domain) (problem : Problem) where
  -- the axioms of a new predicate
  abbrev axioms_at : ℕ → Fresh → List AxiomRow
  axioms_at next fresh = map (axiom_row domain problem (fresh_number domain problem next) fresh.arguments) fresh.parts

  axioms-last : (next : ℕ) (list : List Fresh) (fresh : Fresh) → fresh_rows domain problem next (list ++ fresh ∷ []) ≡ fresh_rows domain problem next list ++ axioms_at (next + length list) fresh
  axioms-last next [] fresh =
      let same : next ≡ next + length {A = Fresh} [] = omega arith in
      append-nil (axioms_at next fresh) ∙ ap (λ (n : ℕ). axioms_at n fresh) same
  axioms-last next (first ∷ list) fresh =
      let same : suc next + length list ≡ next + length (first ∷ list) = omega arith in
      ap (λ (rows : List AxiomRow). axioms_at next first ++ rows) (axioms-last (suc next) list fresh ∙ ap (λ (n : ℕ). fresh_rows domain problem (suc next) list ++ axioms_at n fresh) same)
      ∙ sym (append_assoc (axioms_at next first) (fresh_rows domain problem (suc next) list) (axioms_at (next + length (first ∷ list)) fresh))

  pub axioms-more : (list : List Fresh) (i : ℕ) (fresh : Fresh) → i < length list → fresh ≡ get_or list i fresh → (start before after : List AxiomRow) →
      before ≡ start ++ fresh_rows domain problem 0 (take i list) → (predicate : ℕ) → predicate ≡ fresh_number domain problem i → after ≡ before ++ map (axiom_row domain problem predicate fresh.arguments) fresh.parts →
      after ≡ start ++ fresh_rows domain problem 0 (take (i + 1) list)
  axioms-more list i fresh within is start before after held predicate predicate_is made =
      let prefix : length (take i list) ≡ i = length-take-le i list (omega (arith, within)) in
      let at : 0 + length (take i list) ≡ i = omega (arith, prefix) in
      made ∙ ap (λ (n : ℕ). before ++ map (axiom_row domain problem n fresh.arguments) fresh.parts) predicate_is
      ∙ ap (λ (rows : List AxiomRow). rows ++ axioms_at i fresh) held
      ∙ append_assoc start (fresh_rows domain problem 0 (take i list)) (axioms_at i fresh)
      ∙ ap (λ (n : ℕ). start ++ (fresh_rows domain problem 0 (take i list) ++ axioms_at n fresh)) (sym at)
      ∙ ap (λ (rows : List AxiomRow). start ++ rows) (sym (axioms-last 0 (take i list) fresh))
      ∙ ap (λ (rows : List Fresh). start ++ fresh_rows domain problem 0 rows) (sym (take_next list i fresh within is))
