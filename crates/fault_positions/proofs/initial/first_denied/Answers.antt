use Rattle.std.proofs.Common.{◌≡◌, List, None, sym, ap, ◌∙◌, subst}
use Rattle.std.specs.Prelude.{IfOk}
use Rattle.pddl_syntax.specs.declared.types.Init.{Init}
use Rattle.fault_positions.specs.Initial.{denied_positions}
use Rattle.fault_positions.specs.Positions.{earliest}
use Rattle.fault_positions.proofs.InitialEntries.{none_denied}
use Rattle.fault_positions.proofs.initial.first_denied.Goals as goal

pub returns-then-some_denies : goal.returns-then-some_denies
returns-then-some_denies c =
    subst (λ (entries : List Init). IfOk c.first_denied_of.result (λ at. at ≡ earliest (denied_positions entries))) c.as_slice-init.ensures c.first_denied_of.ensures

pub returns-else-some_denies : goal.returns-else-some_denies
returns-else-some_denies c =
    let init = c.as_slice-init.result.now in
    subst (λ (entries : List Init). None ≡ earliest (denied_positions entries)) c.as_slice-init.ensures
    (sym (ap earliest (none_denied init init (sym c.some_denies.ensures ∙ c.if-some_denies.false))))
