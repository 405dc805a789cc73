-- The text of a valid task is read as that task: operators, rules, and the whole text.
use Rattle.std.proofs.Common.{◌≡◌, ℕ, ◌^◌, ◌<◌, ◌≤◌, List, [], ◌∷◌, ◌++◌, length, map, get_or, Option, Some, None, Ok, refl, sym, ap, ◌∙◌, subst, append_assoc, append-nil, arith, length-append}
use Rattle.std.specs.Prelude.{codes, IsSomeAnd, slice_get}
use Rattle.std.specs.List.{All, AllPairs, flat_map, enumerate_from}
use Rattle.std.proofs.lemmas.List.{get_or_append_left}
use Rattle.std.proofs.lemmas.Option.{slice_get_within}
use Rattle.std.proofs.lemmas.List.Elements.{All-nil, All-cons, All-head, All-tail, All-append, All-weaker}
use Rattle.sas_task.specs.declared.parts.Variable.{Variable}
use Rattle.sas_task.specs.declared.parts.Operator.{Operator}
use Rattle.sas_task.specs.declared.parts.Rule.{Rule}
use Rattle.sas_task.specs.Output.{Line, numeral, counted, bytes_of, text_of, pair_lines, variable_lines, group_lines, goal_lines, state_lines, prevail, effect_line, operator_lines, rule_lines, lines, version_lines, metric_lines}
use Rattle.sas_task.specs.Task.{Task, of_parts}
use Rattle.sas_task.specs.Valid.{IsValid, IsValue, IsValidGroup, IsValidEffect, IsValidOperator, IsValidRule, SetAlike, default_of}
use Rattle.sas_reader.specs.declared.fault.SasPlace.TheVariants as places
use Rattle.sas_reader.specs.Contexts.{so_far}
use Rattle.sas_reader.specs.Forms.{◌>>=◌, ◌>>◌, Unread, unread, pieces_of, section, listed}
use Rattle.sas_reader.specs.Numbers.{number_line}
use Rattle.sas_reader.specs.Operators.{operator, operators, spared}
use Rattle.sas_reader.specs.Rules.{rule, rules}
use Rattle.sas_reader.specs.Sections.{version, metric, variables, groups, state, goal}
use Rattle.sas_reader.proofs.Again.{IsSmall, Again, again_then, again_next, again_number, again_listed}
use Rattle.sas_reader.proofs.AgainPairs.{Fits, value_fits, at_place, in_all, same_lines, again_each}
use Rattle.sas_reader.proofs.AgainSections.{again_version, again_metric, again_state}
use Rattle.sas_reader.proofs.AgainOperators.{IsShort, less_is, again_operator}
use Rattle.sas_reader.proofs.AgainRules.{again_rule}
use Rattle.sas_reader.proofs.AgainText.{many, each_short, conditions_short, flat_each, mapped_each}
use Rattle.lists.proofs.Members.{all_front, all_behind}
use Rattle.sas_reader.proofs.WrittenLines.{name_clean, pieces_back}
use Rattle.sas_task.proofs.TextsTellTasks.{IsSorted, lines_clean}
use Rattle.sas_reader.specs.Text.{task, with_operators, IsTextOf}
use Rattle.sas_reader.proofs.WholeText.{to_end, to_rules, to_operators, to_goal, to_state, to_groups, to_variables}
use Rattle.sas_reader.proofs.AgainWhole.{again_when, AgainEnd, bind_end, section_again, then_end, ends, variables_small, rule_short, variables_again, groups_again, goal_again}

operator_short : (o : Operator) → length (operator_lines o) < 2 ^ 63 → All (λ p. length p < 2 ^ 63) (operator_lines o) → IsShort o
operator_short o short each =
    let Q : Line → Type 0 = λ p. length p < 2 ^ 63 in
    let A = counted pair_lines (prevail o) in
    let B = counted (λ e. effect_line o e ∷ []) o.effects in
    let c = numeral o.cost ∷ [] in
    let inside = all_front Q (codes "begin_operator" ∷ o.name ∷ (A ++ B ++ c)) (codes "end_operator" ∷ []) each in
    let body = All-tail Q o.name (A ++ B ++ c) (All-tail Q (codes "begin_operator") (o.name ∷ (A ++ B ++ c)) inside) in
    let effects = All-tail Q (numeral (length o.effects)) (flat_map (λ e. effect_line o e ∷ []) o.effects) (all_behind Q A B (all_front Q (A ++ B) c body)) in
    let lines-each = flat_each Q (λ e. effect_line o e ∷ []) o.effects effects in
    let l1 = length-append (o.name ∷ (A ++ B ++ c)) (codes "end_operator" ∷ []) in
    let l2 = length-append (A ++ B) c in
    let l3 = length-append A B in
    record {
      prevail-short = omega (arith, short, l1, l2, l3, many pair_lines (prevail o) (λ p. omega arith));
      effects-short = omega (arith, short, l1, l2, l3, many (λ e. effect_line o e ∷ []) o.effects (λ e. omega arith));
      conditions-short = All-weaker (λ e. All Q (effect_line o e ∷ [])) (λ e. length e.conditions < 2 ^ 64) (λ e good. conditions_short o e (All-head Q (effect_line o e) [] good)) o.effects lines-each;
    }

-- some names have one space more
pub operators_again : (t : Task) (written : List Operator) → Fits (so_far t.variables []) → All (λ o. IsValidOperator t (spared o)) written
    → Again (operators t.metric (so_far t.variables [])) (map spared written) (counted operator_lines written)
unfolding operators
operators_again t written fits are =
    let base = so_far t.variables [] in
    again_when (number_line >>= λ count. listed (λ _. operator t.metric base) count []) (map spared written) (counted operator_lines written) (λ short each.
    let all : length (flat_map operator_lines written) < 2 ^ 63 = omega (arith, short) in
    let shorts = each_short operator_lines written (2 ^ 63) all in
    let lines-each = flat_each (λ p. length p < 2 ^ 63) operator_lines written (All-tail (λ (p : Line). length p < 2 ^ 63) (numeral (length written)) (flat_map operator_lines written) each) in
    again_each (operator t.metric base) (λ o. IsValidOperator t (spared o) × IsShort o) spared operator_lines written (omega (arith, all, many operator_lines written (λ o. omega arith)))
    (λ k d within. (are k d within, operator_short (get_or written k d) (shorts k d within) (lines-each k d within)))
    (λ o good. again_operator t.metric base o fits good.0.name (record { facts = good.0.conditions.facts; sorted = good.0.conditions.sorted })
    (All-weaker (IsValidEffect t) (IsValidEffect base) (λ e fine. record { conditions = record { facts = fine.conditions.facts; sorted = fine.conditions.sorted }; value = fine.value; basic = fine.basic }) o.effects good.0.effects)
    good.0.cost good.0.unit_cost good.1))

-- a value of the state is small
default_small : (t : Task) (var : ℕ) → Fits (so_far t.variables []) → IsValid t → (val : ℕ) → IsValue t var val → default_of t var < 2 ^ 64
default_small t var fits valid val is = from (slice_get t.variables var) refl is
  where
    from : (o : Option Variable) → slice_get t.variables var ≡ o → IsSomeAnd o (λ v. val < length v.facts) → default_of t var < 2 ^ 64
    from None at is = absurd is
    from (Some v) at is = (value_fits (so_far t.variables []) var (default_of t var) fits (valid.state var (slice_get_within t.variables var v at))).1

before_alike : (all before more : List Rule) (r : Rule) → AllPairs SetAlike all → before ++ r ∷ more ≡ all → All (λ s. SetAlike s r) before
before_alike all before more r alike is k d within =
    let len : length (before ++ r ∷ more) ≡ length all = ap length is in
    let pair = alike k (length before) d within (omega (arith, len, length-append before (r ∷ more))) in
    let low : get_or all k d ≡ get_or before k d = sym (ap (λ l. get_or l k d) is) ∙ get_or_append_left before (r ∷ more) d k within in
    subst (λ s. SetAlike s r) low (subst (λ q. SetAlike (get_or all k d) q) (at_place before r more all d is) pair)

pub rules_again : (t : Task) → Fits (so_far t.variables []) → IsValid t → Again (rules t.variables t.state) t.rules (counted rule_lines t.rules)
unfolding rules
rules_again t fits valid =
    again_when (number_line >>= λ count. listed (rule t.variables t.state) count []) t.rules (counted rule_lines t.rules) (λ short each.
    let all : length (flat_map rule_lines t.rules) < 2 ^ 63 = omega (arith, short) in
    let shorts = each_short rule_lines t.rules (2 ^ 63) all in
    again_then number_line (λ count. listed (rule t.variables t.state) count []) (length t.rules) t.rules (numeral (length t.rules) ∷ []) (flat_map rule_lines t.rules) (again_number (length t.rules) (omega (arith, all, many rule_lines t.rules (λ r. omega arith))))
    (subst (Again (listed (rule t.variables t.state) (length t.rules) []) t.rules) (same_lines rule_lines [] t.rules)
    (again_listed (rule t.variables t.state) (λ _. rule_lines) t.rules
    (λ before r more is.
    let good = in_all (IsValidRule t) before r more t.rules is valid.rules in
    let few = in_all (λ r. length (rule_lines r) < 2 ^ 63) before r more t.rules is shorts in
    again_rule t.variables t.state before r fits (record { conditions = record { facts = good.conditions.facts; sorted = good.conditions.sorted }; derived = good.derived; value = good.value; default = good.default; changes = good.changes; below = good.below })
    (subst (λ n. n < 2 ^ 64) (sym good.default) (default_small t r.var fits valid r.after good.value)) (rule_short r few) (before_alike t.rules before more r valid.one_after is)) t.rules [] refl)))

regroup : (a b c d e f g h : List Line) → (a ++ b) ++ (c ++ (d ++ (e ++ (f ++ (g ++ (h ++ [])))))) ≡ a ++ b ++ c ++ d ++ e ++ f ++ g ++ h
regroup a b c d e f g h = simp (append_assoc, append-nil)

pub task_again : (t : Task) (written : List Operator) → Fits (so_far t.variables []) → IsValid t → map spared written ≡ t.operators → AgainEnd task t (lines (with_operators t written))
unfolding task
task_again t written fits valid spares =
    let base = so_far t.variables [] in
    let m = t.metric in
    let vs = t.variables in
    let l2 = counted variable_lines (enumerate_from 0 vs) in
    let l3 = counted group_lines t.groups in
    let l4 = state_lines t.state in
    let l5 = goal_lines t.goal in
    let l6 = counted operator_lines written in
    let l7 = counted rule_lines t.rules in
    let good : All (λ o. IsValidOperator t (spared o)) written = mapped_each (IsValidOperator t) spared written (subst (All (IsValidOperator t)) (sym spares) valid.operators) in
    let named : Again (operators m base) t.operators l6 = subst (λ os. Again (operators m base) os l6) spares (operators_again t written fits good) in
    let r7 : AgainEnd (to_rules m vs t.groups t.state t.goal t.operators) t (l7 ++ []) = then_end places.Rules (rules vs t.state) (λ rs. to_end (of_parts m vs t.groups t.state t.goal t.operators rs)) t.rules t l7 [] (rules_again t fits valid) (ends t) in
    let r6 : AgainEnd (to_operators m vs t.groups t.state t.goal) t (l6 ++ (l7 ++ [])) = then_end places.Operators (operators m base) (to_rules m vs t.groups t.state t.goal) t.operators t l6 (l7 ++ []) named r7 in
    let r5 : AgainEnd (to_goal m vs t.groups t.state) t (l5 ++ (l6 ++ (l7 ++ []))) = then_end places.Goal (goal base) (to_operators m vs t.groups t.state) t.goal t l5 (l6 ++ (l7 ++ [])) (goal_again base t.goal fits (record { facts = valid.goal.facts; sorted = valid.goal.sorted })) r6 in
    let r4 : AgainEnd (to_state m vs t.groups) t (l4 ++ (l5 ++ (l6 ++ (l7 ++ [])))) = then_end places.State (state base) (to_goal m vs t.groups) t.state t l4 (l5 ++ (l6 ++ (l7 ++ []))) (again_state base t.state fits valid.one_value (λ var within. valid.state var (omega (arith, within, valid.one_value)))) r5 in
    let r3 : AgainEnd (to_groups m vs) t (l3 ++ (l4 ++ (l5 ++ (l6 ++ (l7 ++ []))))) = then_end places.Groups (groups base) (to_state m vs) t.groups t l3 (l4 ++ (l5 ++ (l6 ++ (l7 ++ [])))) (groups_again base t.groups fits (All-weaker (IsValidGroup t) (IsValidGroup base) (λ g good. record { facts = good.facts; sorted = good.sorted; two_facts = good.two_facts }) t.groups valid.groups)) r4 in
    let r2 : AgainEnd (to_variables m) t (l2 ++ (l3 ++ (l4 ++ (l5 ++ (l6 ++ (l7 ++ [])))))) = then_end places.Variables variables (to_groups m) vs t l2 (l3 ++ (l4 ++ (l5 ++ (l6 ++ (l7 ++ []))))) (variables_again vs valid.variables) r3 in
    subst (AgainEnd task t) (regroup version_lines (metric_lines m) l2 l3 l4 l5 l6 l7)
    (bind_end ((version >> section places.Metric) >> metric) to_variables m t (version_lines ++ metric_lines m) (l2 ++ (l3 ++ (l4 ++ (l5 ++ (l6 ++ (l7 ++ []))))))
    (again_next (version >> section places.Metric) metric tt m version_lines (metric_lines m) (again_next version (section places.Metric) tt tt version_lines [] again_version (section_again places.Metric)) (again_metric m)) r2)

lines_many : (ls : List Line) → length ls ≤ length (bytes_of ls)
lines_many [] = omega arith
lines_many (l ∷ ls) = omega (arith, lines_many ls, length-append (l ++ 10 ∷ []) (bytes_of ls), length-append l (10 ∷ []))

lines_short : (ls : List Line) (n : ℕ) → length (bytes_of ls) < n → All (λ p. length p < n) ls
lines_short [] n short = All-nil (λ (p : Line). length p < n)
lines_short (l ∷ ls) n short =
    let a = length-append (l ++ 10 ∷ []) (bytes_of ls) in
    let b = length-append l (10 ∷ []) in
    All-cons (λ (p : Line). length p < n) l ls (omega (arith, short, a, b)) (lines_short ls n (omega (arith, short, a, b)))

third_short : (a b c d e f g h : List Line) → length c ≤ length (a ++ b ++ c ++ d ++ e ++ f ++ g ++ h)
third_short a b c d e f g h =
    omega (arith, length-append (a ++ b) c, length-append (a ++ b ++ c) d, length-append (a ++ b ++ c ++ d) e, length-append (a ++ b ++ c ++ d ++ e) f, length-append (a ++ b ++ c ++ d ++ e ++ f) g, length-append (a ++ b ++ c ++ d ++ e ++ f ++ g) h)

-- the text of a valid task, but for spaces at the end of operators' names, is read as that task
pub text_again : (bytes : List ℕ) (t : Task) → IsValid t → length bytes < 2 ^ 32 → IsTextOf bytes t → (after : Unread) × (task (unread bytes) ≡ Ok (t, after))
unfolding AgainEnd
text_again bytes t valid short is =
    let shown = with_operators t is.written in
    let good : All (λ o. IsValidOperator t (spared o)) is.written = mapped_each (IsValidOperator t) spared is.written (subst (All (IsValidOperator t)) (sym is.spares) valid.operators) in
    let named = All-weaker (λ o. IsValidOperator t (spared o)) IsSorted (λ o fine. (name_clean o.name fine.name, fine.conditions.sorted)) is.written good in
    let size : length bytes ≡ length (bytes_of (lines shown)) = ap length is.text in
    let few : length (lines shown) < 2 ^ 32 = omega (arith, short, size, lines_many (lines shown)) in
    let cut : pieces_of 10 bytes ≡ lines shown ++ [] ∷ [] = ap (pieces_of 10) is.text ∙ pieces_back (lines shown) (lines_clean shown valid.variables named) in
    let P : Line → Type 0 = λ p. length p < 2 ^ 63 in
    let each : All P (lines shown ++ [] ∷ []) = All-append P (lines shown) ([] ∷ []) (lines_short (lines shown) (2 ^ 63) (omega (arith, short, size))) (All-cons P [] [] (omega arith) (All-nil P)) in
    let count : length (pieces_of 10 bytes) ≡ length (lines shown ++ [] ∷ []) = ap length cut in
    let small : IsSmall (unread bytes) = record { pieces = omega (arith, few, count, length-append (lines shown) ([] ∷ [])); each = subst (All P) (sym cut) each } in
    let third = third_short version_lines (metric_lines t.metric) (counted variable_lines (enumerate_from 0 t.variables)) (counted group_lines t.groups) (state_lines t.state) (goal_lines t.goal) (counted operator_lines is.written) (counted rule_lines t.rules) in
    let sizes = variables_small t.variables (omega (arith, few, third)) in
    let fits : Fits (so_far t.variables []) = record { variables = sizes.0; facts = sizes.1 } in
    let r = task_again t is.written fits valid is.spares (unread bytes) small cut in
    (r.after, r.is)

-- no name of a valid task has a space at its end
all_spared : (t : Task) (os : List Operator) → All (IsValidOperator t) os → map spared os ≡ os
all_spared t [] are = refl
all_spared t (o ∷ os) are =
    let first = less_is o.name (All-head (IsValidOperator t) o os are).name in
    let rest = all_spared t os (All-tail (IsValidOperator t) o os are) in
    λ i. record { name = first i; conditions = o.conditions; effects = o.effects; cost = o.cost } ∷ rest i

pub own_text : (t : Task) → IsValid t → IsTextOf (text_of t) t
own_text t valid = record { written = t.operators; spares = all_spared t t.operators valid.operators; text = refl }
