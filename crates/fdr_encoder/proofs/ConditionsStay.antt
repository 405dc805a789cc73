-- No condition can go where none is on the variable of its effect.
use Rattle.std.proofs.Common.{◌≡◌, Bool, true, false, not, eqb, cond, ◌&&◌, List, [], ◌∷◌, map, refl, ap, ◌∙◌}
use Rattle.std.specs.List.{filter, list_all}
use Rattle.std.proofs.lemmas.Bool.{and_parts}
use Rattle.sas_task.specs.declared.parts.Pair.{Pair}
use Rattle.sas_task.specs.declared.parts.Effect.{Effect}
use Rattle.fdr_effects.specs.Places.{Cover, last_value}
use Rattle.fdr_encoder.specs.Operators.{is_given, can_go, less_idle}

module _ (cover : Cover) (all : List Effect) where
  all_stay : (e : Effect) (ps : List Pair) → list_all (λ p. not (eqb p.var e.var)) ps ≡ true → filter (λ p. not (can_go cover all e p)) ps ≡ ps
  all_stay e [] apart = refl
  all_stay e (p ∷ ps) apart =
      let parts = and_parts (not (eqb p.var e.var)) (list_all (λ p. not (eqb p.var e.var)) ps) apart in
      by_test (eqb p.var e.var) parts.0 (all_stay e ps parts.1)
    where
      by_test : (b : Bool) → not b ≡ true → filter (λ p. not (can_go cover all e p)) ps ≡ ps →
          cond (not (b && (eqb (last_value cover e.var) 1 && (not (eqb p.val e.after) && not (is_given all p))))) (p ∷ filter (λ p. not (can_go cover all e p)) ps) (filter (λ p. not (can_go cover all e p)) ps) ≡ p ∷ ps
      by_test true off rest = cc
      by_test false off rest = ap (λ qs. p ∷ qs) rest

  pub apart_stay : (es : List Effect) → list_all (λ e. list_all (λ p. not (eqb p.var e.var)) e.conditions) es ≡ true → map (less_idle cover all) es ≡ es
  apart_stay [] apart = refl
  apart_stay (e ∷ es) apart =
      let parts = and_parts (list_all (λ p. not (eqb p.var e.var)) e.conditions) (list_all (λ e. list_all (λ p. not (eqb p.var e.var)) e.conditions) es) apart in
      let kept = λ (ps : List Pair). let r : Effect = record { conditions = ps; var = e.var; after = e.after } in r in
      ap (λ ps. kept ps ∷ map (less_idle cover all) es) (all_stay e e.conditions parts.0) ∙ ap (λ rest. e ∷ rest) (apart_stay es parts.1)
