-- A variable with a layer ends the search, and one without a layer is one more without.
use Rattle.std.proofs.Common.{◌≡◌, ℕ, Bool, true, false, not, take, Option, Some, None, sym, ap, ◌∙◌}
use Rattle.std.specs.Prelude.{is_none}
use Rattle.std.specs.List.{list_all}
use Rattle.std.specs.Option.{is_some}
use Rattle.std.proofs.lemmas.Bool.{and_from}
use Rattle.std.proofs.lemmas.List.Folds.{list_all_more, list_all_at}
use Rattle.std.proofs.lemmas.Option.{slice_get_within, get_or_from_slice_get}
use Rattle.sas_task.specs.declared.parts.Variable.{Variable}
use Rattle.pass_h2.proofs.facts.has_no_layer.Goals as goal

none_is : (o : Option ℕ) (b : Bool) → is_some o ≡ b → is_none o ≡ not b
none_is None b is = ap not is
none_is (Some x) b is = ap not is

abbrev basic : Variable → Bool
basic v = is_none v.layer

pub returns-then-is_some : goal.returns-then-is_some
returns-then-is_some c =
    let variables = c.args.task.now.variables in
    let i = c.loop-var.var in
    let v = c.variable.result.now in
    let at = c.variable.ensures in
    sym (list_all_at basic variables i v (slice_get_within variables i v at) (ap basic (get_or_from_slice_get variables i v v at) ∙ none_is v.layer true (sym c.if-is_some.ensures)))

pub loop-var-preserved : goal.loop-var-preserved
loop-var-preserved c =
    let variables = c.args.task.now.variables in
    let i = c.loop-var.var in
    let v = c.variable.result.now in
    let at = c.variable.ensures in
    list_all_more basic variables i v (slice_get_within variables i v at)
    ∙ and_from (list_all basic (take i variables)) _ c.loop-var.invariant (ap basic (get_or_from_slice_get variables i v v at) ∙ none_is v.layer false (sym c.if-is_some.ensures))
