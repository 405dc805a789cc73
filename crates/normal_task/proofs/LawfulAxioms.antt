-- The axioms of a checked pair's normal task are lawful.
use Rattle.std.proofs.Common.{◌≡◌, ℕ, suc, ◌+◌, Bool, true, ◌&&◌, List, [], ◌∷◌, ◌++◌, map, length, refl, sym, subst, arith}
use Rattle.std.specs.Prelude.{nat_le}
use Rattle.std.specs.List.{list_all}
use Rattle.std.proofs.lemmas.Bool.{and_parts, and_from, le-leb}
use Rattle.pddl_syntax.specs.declared.types.Derived.{Derived}
use Rattle.pddl_syntax.specs.declared.types.Domain.{Domain}
use Rattle.pddl_syntax.specs.declared.types.Problem.{Problem}
use Rattle.pddl_syntax.specs.Words.{is_same}
use Rattle.fault_positions.specs.Mentions.{Derives, head_use, in_condition}
use Rattle.fault_positions.specs.Names as names
use Rattle.fault_positions.specs.Scopes as scopes
use Rattle.type_checker.specs.Faultless.{has_predicate, has_objects}
use Rattle.type_checker.specs.Faults.{check_faults}
use Rattle.type_checker.proofs.Bound.{axiom_bound}
use Rattle.lists.proofs.Items.{Among, any_passes}
use Rattle.normal_task.specs.declared.task.Normal.{Normal}
use Rattle.normal_task.specs.Lawful.{is_range, is_predicate, has_arity, is_literal, is_axiom}
use Rattle.normal_task.specs.Numbers.{predicate_number, range_of, ranges_of}
use Rattle.normal_task.specs.Parts.{Scope, Part, Fresh, fresh_number}
use Rattle.normal_task.specs.Normalised.{parameter_scope, axiom_row, body_parts, axiom_rows, fresh_rows, normal}
use Rattle.normal_task.proofs.Alls.{all-both, all-images, all-weaker}
use Rattle.normal_task.proofs.Bound.{free-bound}
use Rattle.normal_task.proofs.EffectsFit.{parameters-in_scope}
use Rattle.normal_task.proofs.Faultless.{rule_sound}
use Rattle.normal_task.proofs.Fits.{literal_within, literal_from, fits, part_fits, parts_fit, fresh_fit, MadeFits, condition-fits}
use Rattle.normal_task.proofs.FullStatesMatch.{body-mentioned}
use Rattle.normal_task.proofs.KnownParts.{all-by_both, literal_known, literal-lawful, part_known, fresh_known, MadeKnown, ranges-known, inside-known, well_mentioned, condition-known}
use Rattle.normal_task.proofs.PredicateTable.{HaveRows, declared-derived}
use Rattle.normal_task.proofs.Scopes.{length-append, length-map}
use Rattle.normal_task.proofs.WellMentioned.{tables, rule-well}
use Rattle.pddl_syntax.proofs.Steps.{name_same}

-- ---- variables below their bounds, wherever new predicates begin

abbrev pub part_within : ℕ → Part → Bool
part_within around part = list_all (literal_within (around + length part.variables)) part.literals

abbrev pub fresh_within : Fresh → Bool
fresh_within fresh = list_all (part_within (length fresh.arguments)) fresh.parts

pub parts-within : (declared around next : ℕ) (parts : List Part) → parts_fit declared around next parts ≡ true → list_all (part_within around) parts ≡ true
parts-within declared around next =
    all-weaker (part_fits declared around next) (part_within around)
    (λ part fit.
    let bound = around + length part.variables in
    all-weaker (fits declared bound next) (literal_within bound) (λ literal is. (and_parts (literal_within bound literal) (literal_from declared next literal) is).0) part.literals fit)

pub fits-within : (declared next : ℕ) (fresh : List Fresh) → fresh_fit declared next fresh ≡ true → list_all fresh_within fresh ≡ true
fits-within declared next [] fit = refl
fits-within declared next (first ∷ fresh) fit =
    let sides = and_parts (parts_fit declared (length first.arguments) (suc next) first.parts) (fresh_fit declared (suc next) fresh) fit in
    and_from (fresh_within first) (list_all fresh_within fresh) (parts-within declared (length first.arguments) (suc next) first.parts sides.0) (fits-within declared (suc next) fresh sides.1)

module _ (domain : Domain) (problem : Problem) where
  abbrev task : Normal
  task = normal domain problem

  abbrev base : ℕ
  base = length domain.predicates

  -- ---- rows of axioms

  abbrev HasDerivedRow : ℕ → ℕ → Type 0
  HasDerivedRow arguments predicate = is_predicate task (λ row. has_arity task arguments row && row.derived) predicate ≡ true

  axiom-lawful : (predicate : ℕ) (arguments : List (List ℕ)) → list_all (is_range task) arguments ≡ true → HasDerivedRow (length arguments) predicate → (part : Part) → part_within (length arguments) part ≡ true → part_known task part ≡ true →
      is_axiom task (axiom_row domain problem predicate arguments part) ≡ true
  axiom-lawful predicate arguments sorted row part within is =
      let sides = and_parts (list_all (is_range task) part.variables) (list_all (literal_known task) part.literals) is in
      let parameters = arguments ++ part.variables in
      let size = length-append arguments part.variables in
      let few = nat_le (length arguments) (length parameters) in
      let ranges = list_all (is_range task) parameters in
      let condition = list_all (is_literal task (length parameters)) part.literals in
      let bound = length arguments + length part.variables in
      and_from (few && ranges && condition) (is_predicate task (λ row. has_arity task (length arguments) row && row.derived) predicate)
      (and_from (few && ranges) condition
      (and_from few ranges (le-leb (length arguments) (length parameters) (omega (arith, size))) (all-both (is_range task) arguments part.variables sorted sides.0))
      (subst (λ (n : ℕ). list_all (is_literal task n) part.literals ≡ true) (sym size)
      (all-by_both (literal_within bound) (literal_known task) (is_literal task bound) (literal-lawful task bound) part.literals within sides.1))) row

  axioms-lawful : (predicate : ℕ) (arguments : List (List ℕ)) → list_all (is_range task) arguments ≡ true → HasDerivedRow (length arguments) predicate → (parts : List Part) → list_all (part_within (length arguments)) parts ≡ true → list_all (part_known task) parts ≡ true →
      list_all (is_axiom task) (map (axiom_row domain problem predicate arguments) parts) ≡ true
  axioms-lawful predicate arguments sorted row parts within is =
      let test : Part → Bool = λ part. is_axiom task (axiom_row domain problem predicate arguments part) in
      all-images test (is_axiom task) (axiom_row domain problem predicate arguments) (λ part one. one) parts
      (all-by_both (part_within (length arguments)) (part_known task) test (axiom-lawful predicate arguments sorted row) parts within is)

  -- the axioms of new predicates that are numbered from here on
  pub fresh-lawful : (next : ℕ) (fresh : List Fresh) → list_all fresh_within fresh ≡ true → list_all (fresh_known task) fresh ≡ true → HaveRows task base next fresh → list_all (is_axiom task) (fresh_rows domain problem next fresh) ≡ true
  fresh-lawful next [] within is rows = refl
  fresh-lawful next (first ∷ fresh) within is rows =
      let withins = and_parts (fresh_within first) (list_all fresh_within fresh) within in
      let knowns = and_parts (fresh_known task first) (list_all (fresh_known task) fresh) is in
      let sides = and_parts (list_all (is_range task) first.arguments) (list_all (part_known task) first.parts) knowns.0 in
      all-both (is_axiom task) (map (axiom_row domain problem (fresh_number domain problem next) first.arguments) first.parts) (fresh_rows domain problem (suc next) fresh)
      (axioms-lawful (fresh_number domain problem next) first.arguments sides.0 rows.0 first.parts withins.0 sides.1) (fresh-lawful (suc next) fresh withins.1 knowns.1 rows.1)

  -- ---- axioms of the files

  module _ (none : check_faults domain problem ≡ []) (rule : Derived) (among : Among rule domain.axioms) where
    abbrev scope : Scope
    scope = parameter_scope domain problem rule.head.variables

    abbrev ranges : List (List ℕ)
    ranges = ranges_of domain problem rule.head.variables

    same-count : length rule.head.variables ≡ length (ranges_of domain problem rule.head.variables)
    same-count = sym (length-map (range_of domain problem) rule.head.variables)

    body-fits : (next : ℕ) → MadeFits base (length rule.head.variables) next (body_parts domain problem rule next)
    body-fits next =
        condition-fits domain problem rule.body (body-mentioned domain problem rule (rule_sound domain problem none rule among)) true scope (length rule.head.variables)
        (λ name free.
        parameters-in_scope domain problem rule.head.variables name
        (free-bound domain problem rule.body (scopes.inside_of rule.head.variables []) (axiom_bound domain problem none rule among) name free)) next

    told : (well_mentioned domain problem task (tables domain problem none) (Derives rule.head) ≡ true) × (list_all (well_mentioned domain problem task (tables domain problem none)) (in_condition rule.body) ≡ true)
    told =
        let sides = and_parts (well_mentioned domain problem task (tables domain problem none) (Derives rule.head)) _ (rule-well domain problem none rule among) in
        (sides.0, (and_parts (true && true) _ sides.1).1)

    body-known : (next : ℕ) → HaveRows task base next (body_parts domain problem rule next).fresh → MadeKnown task (body_parts domain problem rule next)
    body-known next rows =
        condition-known domain problem task (tables domain problem none) rule.body told.1 true scope (length rule.head.variables) (inside-known domain problem task (tables domain problem none) rule.head.variables 0 [] refl) next rows

    head-row : HasDerivedRow (length (ranges_of domain problem rule.head.variables)) (predicate_number domain rule.head.name.name)
    head-row =
        let declared = (and_parts (names.has_arity domain.predicates (head_use rule.head)) true (and_parts (has_predicate domain (Derives rule.head)) (has_objects domain problem (Derives rule.head)) told.0).0).0 in
        let derived = any_passes (λ (other : Derived). is_same other.head.name.name rule.head.name.name) rule domain.axioms among (name_same rule.head.name.name) in
        subst (λ (n : ℕ). HasDerivedRow n (predicate_number domain rule.head.name.name)) same-count (declared-derived domain problem none (head_use rule.head) derived declared)

    pub rule-lawful : (next : ℕ) → HaveRows task base next (axiom_rows domain problem rule next).fresh →
        (list_all (is_axiom task) (axiom_rows domain problem rule next).items ≡ true) × (list_all (fresh_known task) (axiom_rows domain problem rule next).fresh ≡ true)
    rule-lawful next rows =
        let made = body_parts domain problem rule next in
        let is = body-known next rows in (
          axioms-lawful (predicate_number domain rule.head.name.name) (ranges_of domain problem rule.head.variables) (ranges-known domain problem task (tables domain problem none) rule.head.variables) head-row made.items
              (subst (λ (n : ℕ). list_all (part_within n) made.items ≡ true) same-count (parts-within base (length rule.head.variables) next made.items (body-fits next).items)) is.items,
          is.fresh,
        )
