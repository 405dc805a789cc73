use Rattle.std.proofs.Common.{ℕ, ◌≡◌, ◌∙◌, ap, map, length}
use Rattle.std.specs.List.{list_all}
use Rattle.contradictions.specs.GivenTerms.{with_terms, literal_with}
use Rattle.contradictions.proofs.Cases.{answers_too}
use Rattle.invariant_check.specs.Accepted.{apart_from}
use Rattle.invariant_check.specs.Attempts.{leaves_deleted, balances_given}
use Rattle.invariant_check.proofs.AddCases.{with_given}
use Rattle.invariant_check.proofs.balanced.balances_given.Goals as goal

pub returns : goal.returns
returns c =
    let add = c.args.add.now in
    let d = c.args.delete.now in
    let given = c.args.given.now in
    let row = c.in_ok-row.row in
    let places : row.places ≡ map (with_terms (length add.schema.now.parameters) given) d.places = c.in_ok-row.ensures.places ∙ ap (λ (n : ℕ). map (with_terms n given) d.places) c.len-parameters.ensures in
    let condition : row.condition.items ≡ map (literal_with (length add.schema.now.parameters) given) d.condition = c.in_ok-row.ensures.condition ∙ ap (λ (n : ℕ). map (literal_with n given) d.condition) c.len-parameters.ensures in
    answers_too c.is_left_deleted.result
    (list_all (λ a. leaves_deleted c.args.candidate.now add.schema.now add.row.now add.required.now add.instance.now d.predicate c.as_slice.result.now (apart_from add.schema.now add.row.now a)) add.schema.now.effects)
    (balances_given c.args.normal.now c.args.candidate.now add.schema.now add.row.now add.required.now add.instance.now d given)
    (ap (λ places. list_all (λ a. leaves_deleted c.args.candidate.now add.schema.now add.row.now add.required.now add.instance.now d.predicate places (apart_from add.schema.now add.row.now a)) add.schema.now.effects) c.as_slice.ensures
    ∙ with_given c.args.normal.now c.args.candidate.now add.schema.now add.row.now add.required.now add.instance.now d given row.places row.condition.items c.is_required.result places condition c.is_required.ensures c.if-not-is_required.false)
    c.is_left_deleted.ensures
