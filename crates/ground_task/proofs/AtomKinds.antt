-- Effects and initial atoms are basic, and axioms are for derived atoms, and stay so when atoms are settled.
use Rattle.std.proofs.Common.{◌≡◌, true, false, ◌&&◌, List, sym, ◌∙◌, subst}
use Rattle.std.specs.Prelude.{filter}
use Rattle.std.proofs.lemmas.Bool.{and_parts}
use Rattle.lists.proofs.Items.{Among, among_contains, contains_among, map_source, filter_among}
use Rattle.normal_task.specs.Meaning as task
use Rattle.ground_task.specs.Literals.{EffectRow, ActionRow, AxiomRow, LiteralTask}
use Rattle.ground_task.specs.Settled.{Settling, is_open, kept_effect, kept_action, kept_actions, kept_axiom, kept_axioms, IsSettled}
use Rattle.ground_task.proofs.Settling.{Names}

-- initial atoms and those of effects are basic, and those of axioms derived
pub record HasKinds {A : Type 0} (task : LiteralTask A) : Type 0 where
  pub initially : (a : A) → Among a task.init → task.is_derived a ≡ false
  pub effects : (row : ActionRow A) → Among row task.actions → (e : EffectRow A) → Among e row.effects → task.is_derived e.atom ≡ false
  pub rules : (row : AxiomRow A) → Among row task.axioms → task.is_derived row.atom ≡ true

pub kinds_kept : {A B : Type 0} (by : Settling A B) (task : LiteralTask A) (task' : LiteralTask B) → IsSettled by task task' → Names by task task' → HasKinds task → HasKinds task'
kinds_kept {A} {B} by task task' is names kinds = record {
  initially = λ b among.
      let from = map_source by.named (filter by.keeps task.init) b (subst (λ (l : List B). Among b l) is.init among) in
      let found = filter_among by.keeps from.source task.init from.among in
      subst (λ (b : B). task'.is_derived b ≡ false) from.gives (names.derived_named from.source found.1 ∙ kinds.initially from.source found.0);
  effects = λ row' among e' among_e.
      let from = map_source (kept_action by) (filter (λ r. is_open by r.condition) task.actions) row' (among_contains (kept_actions by task.actions) row' ((is.actions row').1 (contains_among task'.actions row' among))) in
      let found = filter_among (λ r. is_open by r.condition) from.source task.actions from.among in
      let inside = subst (λ (r : ActionRow B). Among e' r.effects) (sym from.gives) among_e in
      let from_e = map_source (kept_effect by) (filter (λ e. by.keeps e.atom && is_open by e.condition) from.source.effects) e' inside in
      let found_e = filter_among (λ e. by.keeps e.atom && is_open by e.condition) from_e.source from.source.effects from_e.among in
      let kept = (and_parts (by.keeps from_e.source.atom) (is_open by from_e.source.condition) found_e.1).0 in
      subst (λ (e : EffectRow B). task'.is_derived e.atom ≡ false) from_e.gives (names.derived_named from_e.source.atom kept ∙ kinds.effects from.source found.0 from_e.source found_e.0);
  rules = λ row' among.
      let from = map_source (kept_axiom by) (filter (λ r. by.keeps r.atom && is_open by r.condition) task.axioms) row' (among_contains (kept_axioms by task.axioms) row' ((is.axioms row').1 (contains_among task'.axioms row' among))) in
      let found = filter_among (λ r. by.keeps r.atom && is_open by r.condition) from.source task.axioms from.among in
      let kept = (and_parts (by.keeps from.source.atom) (is_open by from.source.condition) found.1).0 in
      subst (λ (r : AxiomRow B). task'.is_derived r.atom ≡ true) from.gives (names.derived_named from.source.atom kept ∙ kinds.rules from.source found.0);
}
