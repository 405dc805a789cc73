-- Operators, rules and whole texts that were read are valid, and are written as they were read.
use Rattle.std.proofs.Common.{◌≡◌, ℕ, ◌≤◌, Bool, true, false, not, ◌&&◌, cond, eqb, List, [], ◌∷◌, ◌++◌, length, map, get_or, Option, Some, None, Ok, refl, sym, ap, ◌∙◌, subst, arith}
use Rattle.std.specs.Prelude.{codes, is_some}
use Rattle.std.specs.List.{All, AllPairs, find, list_all, flat_map}
use Rattle.std.specs.Option.{option_map, option_map_or}
use Rattle.std.proofs.lemmas.Bool.{eq-eqb, eqb-true, and_parts}
use Rattle.std.proofs.lemmas.Option.{same_Some}
use Rattle.std.proofs.lemmas.List.{length-map, map-append}
use Rattle.std.proofs.lemmas.List.Elements.{All-nil, All-push, All-map, All-weaker}
use Rattle.sas_task.specs.declared.parts.Pair.{Pair}
use Rattle.sas_task.specs.declared.parts.Variable.{Variable}
use Rattle.sas_task.specs.declared.parts.Operator.{Operator}
use Rattle.sas_task.specs.declared.parts.Rule.{Rule}
use Rattle.sas_task.specs.Output.{Line, numeral, counted, pair_lines, prevail, effect_line, operator_lines, rule_line, rule_lines}
use Rattle.sas_task.specs.Task.{Task}
use Rattle.sas_task.specs.Valid.{IsValue, AreConditions, IsValidEffect, IsValidRule, IsBelow, SetAlike, layer_of, default_of}
use Rattle.sas_reader.specs.Contexts.{so_far, is_below}
use Rattle.sas_reader.specs.Forms.{◌>>=◌, ◌>>◌, Unread, Form, line, listed, fixed, passing, given}
use Rattle.sas_reader.specs.Numbers.{number, number_line}
use Rattle.sas_reader.specs.Words.{less_space}
use Rattle.sas_reader.specs.Operators.{Told, name, effect, cost, required, operator, operators, spared}
use Rattle.sas_reader.specs.Pairs.{value, conditions}
use Rattle.sas_reader.specs.Rules.{may_set, change, rule, rules}
use Rattle.sas_reader.specs.Tables.{first_of, after_name}
use Rattle.sas_task.proofs.Checks.{all_from_test, differs_from_test, lower_from_test}
use Rattle.sas_reader.proofs.Kept.{parts, passed, read_same, kept, TakesLines, TakesWords, then_lines, then_words}
use Rattle.sas_reader.proofs.Lines.{IsClean, clean_after, fixed_is, number_line_is, number_is, line_is_words}
use Rattle.sas_reader.proofs.Conditions.{value_read, conditions_read, more_lines}
use Rattle.sas_reader.proofs.Sectioned.{around}
use Rattle.sas_reader.proofs.Tabled.{found_push}
use Rattle.sas_reader.proofs.ToldEffects.{IsTold, effects_read, name_read, cost_read, wanted_valid, prevail_is, lines_are}
use Rattle.lists.specs.Names.{IsName}

pub record IsGood (metric : Bool) (task : Task) (o : Operator) : Type 0 where
  pub name : IsName o.name
  pub conditions : AreConditions task o.conditions
  pub effects : All (IsValidEffect task) o.effects
  pub cost : o.cost ≤ 2147483647
  pub unit_cost : metric ≡ false → o.cost ≡ 1

-- an operator and its name as it is written
abbrev pub named : Operator → Line → Operator
named o written = record { name = written; conditions = o.conditions; effects = o.effects; cost = o.cost }

valid_effects : (task : Task) (told : List Told) → All (IsTold task) told → All (IsValidEffect task) (map (λ (t : Told). t.0) told)
valid_effects task told are = All-map (IsValidEffect task) (λ (t : Told). t.0) told (All-weaker (IsTold task) (λ t. IsValidEffect task t.0) (λ t good. good.valid) told are)

-- the lines of an operator after its name, and what is shown of it
record IsAfterName (metric : Bool) (task : Task) (name : Line) (now : Unread) (o : Operator) (after : Unread) : Type 0 where
  called : o.name ≡ name
  taken : TakesLines now ((counted pair_lines (prevail o) ++ counted (λ e. effect_line o e ∷ []) o.effects ++ numeral o.cost ∷ []) ++ codes "end_operator" ∷ []) after
  good : IsName name → IsGood metric task o

after_name_read : (metric : Bool) (task : Task) (name : Line) (now : Unread) (o : Operator) (after : Unread) → after_name metric task name now ≡ Ok (o, after) → IsAfterName metric task name now o after
unfolding after_name
after_name_read metric task name now o after e =
    let made : List Pair → List Told → ℕ → Operator = λ pairs told cost. record { name = name; conditions = required (length task.variables) pairs told; effects = map (λ (t : Told). t.0) told; cost = cost } in
    let last : List Pair → List Told → ℕ → Form Operator = λ pairs told cost. fixed (codes "end_operator") >> given (made pairs told cost) in
    let lines : List Pair → ℕ → Form (List Told) = λ pairs count. listed (λ earlier. line (effect task pairs earlier)) count [] in
    let c = parts (conditions task now) (λ pairs. number_line >>= λ count. lines pairs count >>= λ told. cost metric >>= last pairs told) o after e in
    let d = parts (number_line c.1) (λ count. lines c.0 count >>= λ told. cost metric >>= last c.0 told) o after c.3 in
    let t = parts (lines c.0 d.0 d.1) (λ told. cost metric >>= last c.0 told) o after d.3 in
    let k = parts (cost metric t.1) (last c.0 t.0) o after t.3 in
    let h = parts (fixed (codes "end_operator") k.1) (λ _. given (made c.0 t.0 k.0)) o after k.3 in
    let same = read_same (made c.0 t.0 k.0) o h.1 after h.3 in
    let before = conditions_read task now c.0 c.1 c.2 in
    let told = effects_read task c.0 d.0 d.1 t.0 t.1 t.2 in
    let costs = cost_read metric t.1 k.0 k.1 k.2 in
    let one : Operator = made c.0 t.0 k.0 in
    let shown : TakesLines now (counted pair_lines (prevail one)) c.1 = subst (λ ps. TakesLines now (counted pair_lines ps) c.1) (sym (prevail_is task c.0 t.0 d.1 t.1 before.1 told.0)) before.0 in
    let len : d.0 ≡ length one.effects = omega (arith, told.1, length-map t.0 (λ (t : Told). t.0)) in
    let effect-lines : TakesLines d.1 (flat_map (λ e. effect_line one e ∷ []) one.effects) t.1 = subst (λ l. TakesLines d.1 l t.1) (sym (lines_are task c.0 t.0 d.1 t.1 before.1 told.0 one refl)) told.0.taken in
    let all-effects : TakesLines c.1 (counted (λ e. effect_line one e ∷ []) one.effects) t.1 = subst (λ m. TakesLines c.1 (numeral m ∷ flat_map (λ e. effect_line one e ∷ []) one.effects) t.1) len (then_lines c.1 d.1 t.1 (numeral d.0 ∷ []) (flat_map (λ e. effect_line one e ∷ []) one.effects) (number_line_is c.1 d.0 d.1 d.2).0 effect-lines) in
    let both = then_lines now c.1 t.1 (counted pair_lines (prevail one)) (counted (λ e. effect_line one e ∷ []) one.effects) shown all-effects in
    let body = then_lines now t.1 k.1 (counted pair_lines (prevail one) ++ counted (λ e. effect_line one e ∷ []) one.effects) (numeral k.0 ∷ []) both costs.0 in
    let all : IsAfterName metric task name now one h.1 = record {
      called = refl;
      taken = then_lines now k.1 h.1 (counted pair_lines (prevail one) ++ counted (λ e. effect_line one e ∷ []) one.effects ++ numeral k.0 ∷ []) (codes "end_operator" ∷ []) body (fixed_is (codes "end_operator") k.1 h.0 h.1 h.2);
      good = λ named. record { name = named; conditions = wanted_valid task c.0 t.0 d.1 t.1 before.1 told.0; effects = valid_effects task t.0 told.0.are; cost = costs.1; unit_cost = costs.2 };
    } in
    subst (IsAfterName metric task name now o) same.1 (subst (λ o. IsAfterName metric task name now o h.1) same.0 all)

pub operator_read : (metric : Bool) (task : Task) (now : Unread) (o : Operator) (after : Unread) → IsClean now → operator metric task now ≡ Ok (o, after)
    → (written : Line) × (less_space written ≡ o.name) × TakesLines now (operator_lines (named o written)) after × IsGood metric task o
unfolding operator after_name
operator_read metric task now o after clean e =
    let b = parts ((fixed (codes "begin_operator") >> name) now) (after_name metric task) o after e in
    let a = parts (fixed (codes "begin_operator") now) (λ _. name) b.0 b.1 b.2 in
    let begun = fixed_is (codes "begin_operator") now a.0 a.1 a.2 in
    let called = name_read a.1 b.0 b.1 (clean_after now (codes "begin_operator" ∷ []) a.1 begun clean) a.3 in
    let rest = after_name_read metric task b.0 b.1 o after b.3 in
    let head : TakesLines now (codes "begin_operator" ∷ called.0 ∷ []) b.1 = then_lines now a.1 b.1 (codes "begin_operator" ∷ []) (called.0 ∷ []) begun called.3 in
    (called.0, called.1 ∙ sym rest.called, then_lines now b.1 after (codes "begin_operator" ∷ called.0 ∷ []) ((counted pair_lines (prevail o) ++ counted (λ e. effect_line o e ∷ []) o.effects ++ numeral o.cost ∷ []) ++ codes "end_operator" ∷ []) head rest.taken, rest.good called.2)

-- operators in lines, some names with one space more
pub record AreGood (metric : Bool) (task : Task) (start : Unread) (os : List Operator) (now : Unread) : Type 0 where
  pub written : List Operator
  pub spares : map spared written ≡ os
  pub are : All (IsGood metric task) os
  pub clean : IsClean now
  pub taken : TakesLines start (flat_map operator_lines written) now

one_more_operator : (metric : Bool) (task : Task) (start at later : Unread) (before : List Operator) (o : Operator) → AreGood metric task start before at
    → (written : Line) × (less_space written ≡ o.name) × TakesLines at (operator_lines (named o written)) later × IsGood metric task o → AreGood metric task start (before ++ o ∷ []) later
one_more_operator metric task start at later before o holds r = record {
  written = holds.written ++ named o r.0 ∷ [];
  spares = map-append spared holds.written (named o r.0 ∷ []) ∙ (λ i. holds.spares i ++ named o (r.1 i) ∷ []);
  are = All-push (IsGood metric task) before o holds.are r.3;
  clean = clean_after at (operator_lines (named o r.0)) later r.2 holds.clean;
  taken = more_lines operator_lines start at later holds.written (named o r.0) holds.taken r.2;
}

pub operators_read : (metric : Bool) (task : Task) (now : Unread) (os : List Operator) (after : Unread) → IsClean now → operators metric task now ≡ Ok (os, after)
    → (written : List Operator) × (map spared written ≡ os) × TakesLines now (counted operator_lines written) after × All (IsGood metric task) os
unfolding operators
operators_read metric task now os after clean e =
    let a = parts (number_line now) (λ count. listed (λ _. operator metric task) count []) os after e in
    let count = number_line_is now a.0 a.1 a.2 in
    let start : AreGood metric task a.1 [] a.1 = record { written = []; spares = refl; are = All-nil (IsGood metric task); clean = clean_after now (numeral a.0 ∷ []) a.1 count.0 clean; taken = refl } in
    let all = kept (λ _. operator metric task) (AreGood metric task a.1) (λ before at o later holds e. one_more_operator metric task a.1 at later before o holds (operator_read metric task at o later holds.clean e)) a.0 [] a.1 os after start a.3 in
    let same : length all.0.written ≡ length os = sym (length-map all.0.written spared) ∙ ap length all.0.spares in
    let len : a.0 ≡ length all.0.written = omega (arith, all.1, same) in
    (all.0.written, all.0.spares, subst (λ n. TakesLines now (numeral n ∷ flat_map operator_lines all.0.written) after) len (then_lines now a.1 after (numeral a.0 ∷ []) (flat_map operator_lines all.0.written) count.0 all.0.taken), all.0.are)

-- the first rule for the variable sets it alike
abbrev pub after_before : List Rule → ℕ → Option ℕ
after_before earlier var = option_map (λ r. r.after) (find (λ r. eqb r.var var) earlier)

abbrev pub IsAlike : List Rule → Rule → Type 0
IsAlike earlier r = after_before earlier r.var ≡ Some r.after

alike_here : (before : Option Rule) (b : Bool) (r : Rule) → b ≡ true → option_map_or (λ (same : Rule). eqb same.after r.after) before true ≡ true → first_of (option_map (λ (r : Rule). r.after) before) (cond b (Some r.after) None) ≡ Some r.after
alike_here None b r here is = ap (λ t. cond t (Some r.after) None) here
alike_here (Some s) b r here is = ap Some (eqb-true s.after r.after is)

alike_more : (earlier : List Rule) (r : Rule) → option_map_or (λ (same : Rule). eqb same.after r.after) (find (λ same. eqb same.var r.var) earlier) true ≡ true → All (IsAlike earlier) earlier → All (IsAlike (earlier ++ r ∷ [])) (earlier ++ r ∷ [])
alike_more earlier r same alike =
    All-push (IsAlike (earlier ++ r ∷ [])) earlier r
    (All-weaker (IsAlike earlier) (IsAlike (earlier ++ r ∷ [])) (λ s is. push s.var ∙ ap (λ o. first_of o (cond (eqb r.var s.var) (Some r.after) None)) is) earlier alike)
    (push r.var ∙ alike_here (find (λ same. eqb same.var r.var) earlier) (eqb r.var r.var) r (eq-eqb r.var r.var refl) same)
  where
    push : (var : ℕ) → after_before (earlier ++ r ∷ []) var ≡ first_of (after_before earlier var) (cond (eqb r.var var) (Some r.after) None)
    push var = found_push (λ (r : Rule). r.after) (λ r. eqb r.var var) earlier r

pub set_alike : (rs : List Rule) → All (IsAlike rs) rs → AllPairs SetAlike rs
set_alike rs alike i j d less within on =
    let first : after_before rs (get_or rs i d).var ≡ Some (get_or rs i d).after = alike i d (omega (arith, less, within)) in
    let second : after_before rs (get_or rs j d).var ≡ Some (get_or rs j d).after = alike j d within in
    same_Some (get_or rs i d).after (get_or rs j d).after (sym first ∙ ap (after_before rs) on ∙ second)

pub change_read : (variables : List Variable) (state : List ℕ) (earlier : List Rule) (pairs : List Pair) (now : Unread) (r : Rule) (after : Unread) → change variables state earlier pairs now ≡ Ok (r, after)
    → TakesWords now (numeral r.var ∷ numeral r.before ∷ numeral r.after ∷ []) after × (r.conditions ≡ pairs) × IsValue (so_far variables state) r.var r.after × (may_set (so_far variables state) earlier r ≡ true)
unfolding change
change_read variables state earlier pairs now r after e =
    let task = so_far variables state in
    let made : ℕ → ℕ → ℕ → Rule = λ var before after. record { conditions = pairs; var = var; before = before; after = after } in
    let last : ℕ → ℕ → ℕ → Form Rule = λ var before after. passing (may_set task earlier (made var before after)) (made var before after) in
    let a = parts (number now) (λ var. number >>= λ before. value (so_far variables []) var >>= last var before) r after e in
    let b = parts (number a.1) (λ before. value (so_far variables []) a.0 >>= last a.0 before) r after a.3 in
    let c = parts (value (so_far variables []) a.0 b.1) (last a.0 b.0) r after b.3 in
    let q = passed (may_set task earlier (made a.0 b.0 c.0)) (made a.0 b.0 c.0) r c.1 after c.3 in
    let v = value_read (so_far variables []) a.0 b.1 c.0 c.1 c.2 in
    let words = then_words now a.1 c.1 (numeral a.0 ∷ []) (numeral b.0 ∷ numeral c.0 ∷ []) (number_is now a.0 a.1 a.2) (then_words a.1 b.1 c.1 (numeral b.0 ∷ []) (numeral c.0 ∷ []) (number_is a.1 b.0 b.1 b.2) v.0) in
    let one = made a.0 b.0 c.0 in
    let all : TakesWords now (numeral one.var ∷ numeral one.before ∷ numeral one.after ∷ []) c.1 × (one.conditions ≡ pairs) × IsValue task one.var one.after × (may_set task earlier one ≡ true) = (words, refl, v.1, q.0) in
    let moved = subst (λ w. TakesWords now (numeral w.var ∷ numeral w.before ∷ numeral w.after ∷ []) c.1 × (w.conditions ≡ pairs) × IsValue task w.var w.after × (may_set task earlier w ≡ true)) q.1 all in
    (subst (λ n. TakesWords now (numeral r.var ∷ numeral r.before ∷ numeral r.after ∷ []) n) q.2 moved.0, moved.1, moved.2, moved.3)

pub rule_read : (variables : List Variable) (state : List ℕ) (earlier : List Rule) (now : Unread) (r : Rule) (after : Unread) → rule variables state earlier now ≡ Ok (r, after)
    → TakesLines now (rule_lines r) after × IsValidRule (so_far variables state) r × (option_map_or (λ (same : Rule). eqb same.after r.after) (find (λ same. eqb same.var r.var) earlier) true ≡ true)
unfolding rule
rule_read variables state earlier now r after e =
    let task = so_far variables state in
    let last : Rule → Form Rule = λ r. fixed (codes "end_rule") >> given r in
    let b = parts ((fixed (codes "begin_rule") >> conditions (so_far variables [])) now) (λ pairs. line (change variables state earlier pairs) >>= last) r after e in
    let a = parts (fixed (codes "begin_rule") now) (λ _. conditions (so_far variables [])) b.0 b.1 b.2 in
    let c = parts (line (change variables state earlier b.0) b.1) last r after b.3 in
    let h = parts (fixed (codes "end_rule") c.1) (λ _. given c.0) r after c.3 in
    let same = read_same c.0 r h.1 after h.3 in
    let conds = conditions_read (so_far variables []) a.1 b.0 b.1 a.3 in
    let words : Rule → List Line = λ r. numeral r.var ∷ numeral r.before ∷ numeral r.after ∷ [] in
    let l = line_is_words (change variables state earlier b.0) words (λ r. (r.conditions ≡ b.0) × IsValue task r.var r.after × (may_set task earlier r ≡ true)) (λ now r after e. let k = change_read variables state earlier b.0 now r after e in (k.0, (k.1, k.2, k.3))) b.1 c.0 c.1 c.2 in
    let one = c.0 in
    let tests = and_parts (is_some (layer_of task one.var) && list_all (is_below task one.var) one.conditions && eqb one.before (default_of task one.var) && not (eqb one.before one.after)) (option_map_or (λ (same : Rule). eqb same.after one.after) (find (λ same. eqb same.var one.var) earlier) true) l.1.2 in
    let tests3 = and_parts (is_some (layer_of task one.var) && list_all (is_below task one.var) one.conditions && eqb one.before (default_of task one.var)) (not (eqb one.before one.after)) tests.0 in
    let tests2 = and_parts (is_some (layer_of task one.var) && list_all (is_below task one.var) one.conditions) (eqb one.before (default_of task one.var)) tests3.0 in
    let tests1 = and_parts (is_some (layer_of task one.var)) (list_all (is_below task one.var) one.conditions) tests2.0 in
    let are : AreConditions task one.conditions = subst (AreConditions task) (sym l.1.0) (record { facts = conds.1.facts; sorted = conds.1.sorted }) in
    let valid : IsValidRule task one = record {
      conditions = are;
      derived = tests1.0;
      value = l.1.1;
      default = eqb-true one.before (default_of task one.var) tests2.1;
      changes = differs_from_test one.before one.after tests3.1;
      below = all_from_test (is_below task one.var) (IsBelow task one.var) (λ p. lower_from_test task (layer_of task p.var) (layer_of task one.var)) one.conditions tests1.1;
    } in
    let shown : TakesLines a.1 (counted pair_lines one.conditions) b.1 = subst (λ ps. TakesLines a.1 (counted pair_lines ps) b.1) (sym l.1.0) conds.0 in
    let inside = then_lines a.1 b.1 c.1 (counted pair_lines one.conditions) (rule_line one ∷ []) shown l.0 in
    let whole = around (codes "begin_rule") (codes "end_rule") (counted pair_lines one.conditions ++ rule_line one ∷ []) now a.1 c.1 h.1 (fixed_is (codes "begin_rule") now a.0 a.1 a.2) inside (fixed_is (codes "end_rule") c.1 h.0 h.1 h.2) in
    let result : TakesLines now (rule_lines one) h.1 × IsValidRule task one × (option_map_or (λ (same : Rule). eqb same.after one.after) (find (λ same. eqb same.var one.var) earlier) true ≡ true) = (whole, valid, tests.1) in
    let moved = subst (λ w. TakesLines now (rule_lines w) h.1 × IsValidRule task w × (option_map_or (λ (same : Rule). eqb same.after w.after) (find (λ same. eqb same.var w.var) earlier) true ≡ true)) same.0 result in
    (subst (λ n. TakesLines now (rule_lines r) n) same.1 moved.0, moved.1, moved.2)

record AreRules (variables : List Variable) (state : List ℕ) (start : Unread) (rs : List Rule) (now : Unread) : Type 0 where
  are : All (IsValidRule (so_far variables state)) rs
  alike : All (IsAlike rs) rs
  taken : TakesLines start (flat_map rule_lines rs) now

pub rules_read : (variables : List Variable) (state : List ℕ) (now : Unread) (rs : List Rule) (after : Unread) → rules variables state now ≡ Ok (rs, after)
    → TakesLines now (counted rule_lines rs) after × All (IsValidRule (so_far variables state)) rs × AllPairs SetAlike rs
unfolding rules
rules_read variables state now rs after e =
    let a = parts (number_line now) (λ count. listed (rule variables state) count []) rs after e in
    let all = kept (rule variables state) (AreRules variables state a.1) (λ before at r later holds e.
    let k = rule_read variables state before at r later e in
    record { are = All-push (IsValidRule (so_far variables state)) before r holds.are k.1; alike = alike_more before r k.2 holds.alike; taken = more_lines rule_lines a.1 at later before r holds.taken k.0 })
    a.0 [] a.1 rs after (record { are = All-nil (IsValidRule (so_far variables state)); alike = All-nil (IsAlike []); taken = refl }) a.3 in
    let len : a.0 ≡ length rs = omega (arith, all.1) in
    (subst (λ n. TakesLines now (numeral n ∷ flat_map rule_lines rs) after) len (then_lines now a.1 after (numeral a.0 ∷ []) (flat_map rule_lines rs) (number_line_is now a.0 a.1 a.2).0 all.0.taken), all.0.are, set_alike rs all.0.alike)

-- an operator after its name, by its parts
pub after_name_is : (metric : Bool) (task : Task) (name : Line) (n0 n1 n2 n3 n4 n5 : Unread) (pairs : List Pair) (count : ℕ) (told : List Told) (costs : ℕ)
    → conditions task n0 ≡ Ok (pairs, n1) → number_line n1 ≡ Ok (count, n2) → listed (λ earlier. line (effect task pairs earlier)) count [] n2 ≡ Ok (told, n3) → cost metric n3 ≡ Ok (costs, n4) → fixed (codes "end_operator") n4 ≡ Ok (tt, n5)
    → after_name metric task name n0 ≡ Ok (record { name = name; conditions = required (length task.variables) pairs told; effects = map (λ (t : Told). t.0) told; cost = costs }, n5)
unfolding after_name
after_name_is metric task name n0 n1 n2 n3 n4 n5 pairs count told costs e1 e2 e3 e4 e5 = rw (e1, e2, e3, e4, e5) refl
