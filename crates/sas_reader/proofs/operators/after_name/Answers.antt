use Rattle.std.proofs.Common.{◌≡◌, ◌<◌, ℕ, [], List, length, map, Some, Ok, sym, ◌∙◌, subst}
use Rattle.std.proofs.lemmas.Result.{err_from_is_err_and}
use Rattle.sas_task.specs.declared.parts.Pair.{Pair}
use Rattle.sas_reader.specs.Contexts.{so_far}
use Rattle.sas_reader.specs.Operators.{Told, required}
use Rattle.sas_reader.specs.Tables.{requirement, after_name}
use Rattle.sas_reader.specs.declared.requirements.Requirement.{Requirement}
use Rattle.sas_reader.proofs.Listed.{stops}
use Rattle.sas_reader.proofs.Conditions.{conditions_read}
use Rattle.sas_reader.proofs.ToldEffects.{effects_read, required_below}
use Rattle.sas_reader.proofs.Finished.{after_name_is}
use Rattle.sas_reader.proofs.operators.after_name.Goals as goal

pub returns-in_err-required : goal.returns-in_err-required
unfolding after_name
returns-in_err-required c =
    let p = err_from_is_err_and c.from_residual-in_err-required.result c.from_residual-in_err-required.ensures.1 in
    rw (p.1, p.2, c.in_ok-prevail.ensures, c.in_ok-count.ensures) (stops c.in_err-required.field-0.0 _ _ c.in_err-required.ensures.read)

pub returns-in_err-cost : goal.returns-in_err-cost
unfolding after_name
returns-in_err-cost c =
    let p = err_from_is_err_and c.from_residual-in_err-cost.result c.from_residual-in_err-cost.ensures.1 in
    rw (p.1, p.2, c.in_ok-prevail.ensures, c.in_ok-count.ensures, c.in_ok-required.ensures.read) (stops c.in_err-cost.field-0.0 _ _ c.in_err-cost.ensures)

pub returns-in_err-fixed : goal.returns-in_err-fixed
unfolding after_name
returns-in_err-fixed c =
    let p = err_from_is_err_and c.from_residual-in_err-fixed.result c.from_residual-in_err-fixed.ensures.1 in
    rw (p.1, p.2, c.in_ok-prevail.ensures, c.in_ok-count.ensures, c.in_ok-required.ensures.read, c.in_ok-cost.ensures) (stops c.in_err-fixed.field-0.0 _ _ c.in_err-fixed.ensures)

pub returns : goal.returns
returns c =
    let task = so_far c.args.variables.now [] in
    let n = length c.args.variables.now in
    let prevail = c.in_ok-prevail.prevail in
    let told = c.in_ok-required.required.1 in
    let facts = (conditions_read task c.args.reader.now prevail c.conditions.new.reader c.in_ok-prevail.ensures).1.facts in
    let are = (effects_read task prevail c.in_ok-count.count c.number_line.new.self told c.effect_lines.new.reader c.in_ok-required.ensures.read).0.are in
    let conds : c.in_ok-conditions.conditions ≡ required n prevail told =
    subst (λ (ps : List Pair). (variables : ℕ) → ((var : ℕ) (q : Requirement) → requirement ps told var ≡ Some q → var < variables) → c.in_ok-conditions.conditions ≡ required variables ps told) c.in_ok-required.ensures.prevail c.in_ok-conditions.ensures.conditions n (required_below task prevail told facts are) in
    let effs : c.in_ok-conditions.effects ≡ map (λ (t : Told). t.0) told = c.in_ok-conditions.ensures.effects in
    after_name_is c.args.metric task c.args.name.now c.args.reader.now c.conditions.new.reader c.number_line.new.self c.effect_lines.new.reader c.cost.new.reader c.fixed.new.self prevail c.in_ok-count.count told c.in_ok-cost.cost
    c.in_ok-prevail.ensures c.in_ok-count.ensures c.in_ok-required.ensures.read c.in_ok-cost.ensures c.in_ok-fixed.ensures
    ∙ (λ i. Ok (record { name = sym c.in_ok-name.ensures i; conditions = sym conds i; effects = sym effs i; cost = c.in_ok-cost.cost }, c.fixed.new.self))
