use Rattle.std.proofs.Common.{◌+◌, ◌++◌, ◌∙◌, ap, sym, drop}
use Rattle.std.specs.List.{list_any}
use Rattle.std.proofs.lemmas.List.{get_or_default}
use Rattle.normal_task.specs.Meaning.{choices}
use Rattle.invariant_check.specs.Attempts.{balances_given}
use Rattle.invariant_check.proofs.Choices.{found, next, none}
use Rattle.invariant_check.proofs.balanced.+balances_from.Goals as goal

pub returns-then-branch : goal.returns-then-branch
returns-then-branch n c =
    let add = c.args.add.now in
    let test = balances_given c.args.normal.now c.args.candidate.now add.schema.now add.row.now add.required.now add.instance.now c.args.delete.now in
    found test c.args.given.now c.args.tried.now c.args.variable c.as_slice-term-items.result.now c.if-variable-tried.false (c.as_slice-term-items.ensures ∙ c.index-tried-variable.is ∙ get_or_default c.args.tried.now c.args.variable c.index-tried-variable.result c.as_slice-term-items.result.now c.if-variable-tried.false) c.loop-term.term-index _ c.loop-term-test.true c.loop-term.invariant
    (ap (λ longer. list_any (λ others. test (longer ++ others)) (choices (drop (c.args.variable + 1) c.args.tried.now))) (sym (c.as_slice.ensures.value ∙ c.in_ok-longer.ensures)) ∙ sym c.in_ok-balances_from.ensures ∙ c.if-branch.true)

pub loop-term-preserved : goal.loop-term-preserved
loop-term-preserved n c =
    let add = c.args.add.now in
    let test = balances_given c.args.normal.now c.args.candidate.now add.schema.now add.row.now add.required.now add.instance.now c.args.delete.now in
    next test c.args.given.now c.args.tried.now c.args.variable c.as_slice-term-items.result.now c.if-variable-tried.false (c.as_slice-term-items.ensures ∙ c.index-tried-variable.is ∙ get_or_default c.args.tried.now c.args.variable c.index-tried-variable.result c.as_slice-term-items.result.now c.if-variable-tried.false) c.loop-term.term-index _ c.loop-term-test.true c.loop-term.invariant
    (ap (λ longer. list_any (λ others. test (longer ++ others)) (choices (drop (c.args.variable + 1) c.args.tried.now))) (sym (c.as_slice.ensures.value ∙ c.in_ok-longer.ensures)) ∙ sym c.in_ok-balances_from.ensures ∙ c.if-branch.false)

pub returns : goal.returns
returns n c =
    let add = c.args.add.now in
    let test = balances_given c.args.normal.now c.args.candidate.now add.schema.now add.row.now add.required.now add.instance.now c.args.delete.now in
    none test c.args.given.now c.args.tried.now c.args.variable c.as_slice-term-items.result.now c.if-variable-tried.false (c.as_slice-term-items.ensures ∙ c.index-tried-variable.is ∙ get_or_default c.args.tried.now c.args.variable c.index-tried-variable.result c.as_slice-term-items.result.now c.if-variable-tried.false) c.loop-term.term-index c.loop-term-test.false c.loop-term.invariant
