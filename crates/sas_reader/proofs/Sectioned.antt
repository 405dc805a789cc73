-- Sections that were read are valid, and are written as they were read.
use Rattle.std.proofs.Common.{◌≡◌, ℕ, suc, ◌+◌, ◌-◌, ◌<◌, Bool, true, ◌||◌, List, [], ◌∷◌, ◌++◌, length, map, get_or, Option, Ok, inl, inr, refl, sym, ap, ◌∙◌, subst, arith, length-append}
use Rattle.std.specs.Prelude.{codes, slice_index, if◌then◌else◌}
use Rattle.std.specs.List.{All, flat_map, enumerate_from}
use Rattle.std.proofs.lemmas.Bool.{cases_lt, cases_Bool}
use Rattle.std.proofs.lemmas.List.{get_or_append_left, get_or-append_right, map-append}
use Rattle.std.proofs.lemmas.List.FromFn.{length-enumerate_from}
use Rattle.std.proofs.lemmas.List.Elements.{All-nil, All-push}
use Rattle.sas_task.specs.declared.parts.Pair.{Pair}
use Rattle.sas_task.specs.declared.parts.Variable.{Variable}
use Rattle.sas_task.specs.declared.parts.Group.{Group}
use Rattle.sas_task.specs.Output.{Line, numeral, number_or_none, counted, pair_lines, version_lines, metric_lines, variable_lines, group_lines, state_lines, goal_lines}
use Rattle.sas_task.specs.Task.{Task}
use Rattle.sas_task.specs.Valid.{IsValue, AreConditions, IsValidVariable, IsValidGroup}
use Rattle.sas_reader.specs.Contexts.{is_value}
use Rattle.sas_reader.specs.Forms.{◌>>=◌, ◌>>◌, Unread, Form, line, listed, fixed, passing, given, next_line}
use Rattle.sas_reader.specs.Numbers.{number_line, at_least, number_or_none_line}
use Rattle.sas_reader.specs.Words.{is_same, is_name}
use Rattle.sas_reader.specs.Pairs.{fact, conditions}
use Rattle.sas_reader.specs.Sections.{version, metric, variable_name, fact_name, variable, variables, group, groups, state_value, state, goal}
use Rattle.sas_task.proofs.Checks.{value_from_test}
use Rattle.sas_reader.proofs.Kept.{parts, passed, checked, read_same, kept, TakesLines, then_lines, line_taken}
use Rattle.sas_reader.proofs.Lines.{IsClean, clean_after, clean_line, same_bytes, tested_line, fixed_is, number_line_is, at_least_is, number_or_none_line_is, name_is}
use Rattle.sas_reader.proofs.Conditions.{conditions_read, facts_read, more_lines}
use Rattle.lists.specs.Names.{IsName}

-- two fixed lines around others
pub around : (first last : Line) (lines : List Line) (a b c d : Unread) → TakesLines a (first ∷ []) b → TakesLines b lines c → TakesLines c (last ∷ []) d → TakesLines a ((first ∷ lines) ++ last ∷ []) d
around first last lines a b c d x y z = then_lines a c d (first ∷ lines) (last ∷ []) (then_lines a b c (first ∷ []) lines x y) z

pub version_read : (now : Unread) (x : Unit {0}) (after : Unread) → version now ≡ Ok (x, after) → TakesLines now version_lines after
unfolding version
version_read now x after e =
    let b = parts ((fixed (codes "begin_version") >> fixed (codes "3")) now) (λ _. fixed (codes "end_version")) x after e in
    let a = parts (fixed (codes "begin_version") now) (λ _. fixed (codes "3")) b.0 b.1 b.2 in
    around (codes "begin_version") (codes "end_version") (codes "3" ∷ []) now a.1 b.1 after (fixed_is _ now a.0 a.1 a.2) (fixed_is _ a.1 b.0 b.1 a.3) (fixed_is _ b.1 x after b.3)

pub metric_read : (now : Unread) (m : Bool) (after : Unread) → metric now ≡ Ok (m, after) → TakesLines now (metric_lines m) after
unfolding metric
metric_read now m after e =
    let test : Line → Bool = λ l. is_same l (codes "1") || is_same l (codes "0") in
    let value : Line → Bool = λ l. is_same l (codes "1") in
    let last : Bool → Form Bool = λ metric. fixed (codes "end_metric") >> given metric in
    let c = parts ((fixed (codes "begin_metric") >> next_line) now) (λ l. passing (test l) (value l) >>= last) m after e in
    let b = parts (fixed (codes "begin_metric") now) (λ _. next_line) c.0 c.1 c.2 in
    let d = parts (passing (test c.0) (value c.0) c.1) last m after c.3 in
    let q = passed (test c.0) (value c.0) d.0 c.1 d.1 d.2 in
    let h = parts (fixed (codes "end_metric") d.1) (λ _. given d.0) m after d.3 in
    let same = read_same d.0 m h.1 after h.3 in
    let flag : c.0 ≡ (if d.0 then codes "1" else codes "0") = which c.0 q.0 ∙ ap (λ b. if b then codes "1" else codes "0") q.1 in
    let middle : TakesLines b.1 ((if d.0 then codes "1" else codes "0") ∷ []) d.1 = subst (λ n. TakesLines b.1 ((if d.0 then codes "1" else codes "0") ∷ []) n) q.2 (subst (λ l. TakesLines b.1 (l ∷ []) c.1) flag (line_taken b.1 c.0 c.1 b.3)) in
    let whole = around (codes "begin_metric") (codes "end_metric") ((if d.0 then codes "1" else codes "0") ∷ []) now b.1 d.1 h.1 (fixed_is _ now b.0 b.1 b.2) middle (fixed_is _ d.1 h.0 h.1 h.2) in
    subst (λ a. TakesLines now (metric_lines m) a) same.1 (subst (λ w. TakesLines now (metric_lines w) h.1) same.0 whole)
  where
    which : (l : Line) → (is_same l (codes "1") || is_same l (codes "0")) ≡ true → l ≡ (if is_same l (codes "1") then codes "1" else codes "0")
    which l is =
        elim (cases_Bool (is_same l (codes "1"))) [
          | inl one ↦ same_bytes l (codes "1") one ∙ sym (ap (λ b. if b then codes "1" else codes "0") one)
          | inr other ↦ same_bytes l (codes "0") (sym (ap (λ b. b || is_same l (codes "0")) other) ∙ is) ∙ sym (ap (λ b. if b then codes "1" else codes "0") other)
        ]

pub fact_name_read : (now : Unread) (name : Line) (after : Unread) → IsClean now → fact_name now ≡ Ok (name, after) → TakesLines now (name ∷ []) after × IsName name
unfolding fact_name
fact_name_read now name after clean e =
    let p = tested_line is_name (λ l. l) now name after e in
    let good : TakesLines now (p.0 ∷ []) after × IsName p.0 = (p.3, name_is p.0 p.1 (clean_line now p.0 after p.3 clean)) in
    subst (λ l. TakesLines now (l ∷ []) after × IsName l) p.2 good

record AreNames (start : Unread) (names : List Line) (now : Unread) : Type 0 where
  are : All IsName names
  clean : IsClean now
  taken : TakesLines start (flat_map (λ name. name ∷ []) names) now

pub variable_read : (number : ℕ) (now : Unread) (v : Variable) (after : Unread) → IsClean now → variable number now ≡ Ok (v, after) → TakesLines now (variable_lines (number, v)) after × IsValidVariable v
unfolding variable variable_name
variable_read number now v after clean e =
    let head : Form (Option ℕ) = (fixed (codes "begin_variable") >> fixed (codes "var" ++ numeral number)) >> number_or_none_line in
    let last : Option ℕ → List Line → Form Variable = λ layer facts. fixed (codes "end_variable") >> given (record { layer = layer; facts = facts }) in
    let d = parts (head now) (λ layer. at_least 1 >>= λ range. listed (λ _. fact_name) range [] >>= last layer) v after e in
    let c = parts ((fixed (codes "begin_variable") >> fixed (codes "var" ++ numeral number)) now) (λ _. number_or_none_line) d.0 d.1 d.2 in
    let b = parts (fixed (codes "begin_variable") now) (λ _. fixed (codes "var" ++ numeral number)) c.0 c.1 c.2 in
    let f = parts (at_least 1 d.1) (λ range. listed (λ _. fact_name) range [] >>= last d.0) v after d.3 in
    let g = parts (listed (λ _. fact_name) f.0 [] f.1) (last d.0) v after f.3 in
    let h = parts (fixed (codes "end_variable") g.1) (λ _. given (record { layer = d.0; facts = g.0 })) v after g.3 in
    let same = read_same (record { layer = d.0; facts = g.0 }) v h.1 after h.3 in
    let begun = fixed_is (codes "begin_variable") now b.0 b.1 b.2 in
    let named = fixed_is (codes "var" ++ numeral number) b.1 c.0 c.1 b.3 in
    let layer = number_or_none_line_is c.1 d.0 d.1 c.3 in
    let range = at_least_is 1 d.1 f.0 f.1 f.2 in
    let to-facts = then_lines b.1 d.1 f.1 ((codes "var" ++ numeral number) ∷ number_or_none d.0 ∷ []) (numeral f.0 ∷ []) (then_lines b.1 c.1 d.1 ((codes "var" ++ numeral number) ∷ []) (number_or_none d.0 ∷ []) named layer.0) range.0 in
    let clean-facts = clean_after b.1 ((codes "var" ++ numeral number) ∷ number_or_none d.0 ∷ numeral f.0 ∷ []) f.1 to-facts (clean_after now (codes "begin_variable" ∷ []) b.1 begun clean) in
    let all = kept (λ _. fact_name) (AreNames f.1) (λ before at name later holds e.
    let r = fact_name_read at name later holds.clean e in
    record { are = All-push IsName before name holds.are r.1; clean = clean_after at (name ∷ []) later r.0 holds.clean; taken = more_lines (λ (name : Line). name ∷ []) f.1 at later before name holds.taken r.0 })
    f.0 [] f.1 g.0 g.1 (record { are = All-nil IsName; clean = clean-facts; taken = refl }) g.2 in
    let count : f.0 ≡ length g.0 = omega (arith, all.1) in
    let inside = then_lines b.1 f.1 g.1 ((codes "var" ++ numeral number) ∷ number_or_none d.0 ∷ numeral f.0 ∷ []) (flat_map (λ (name : Line). name ∷ []) g.0) to-facts all.0.taken in
    let whole = around (codes "begin_variable") (codes "end_variable") ((codes "var" ++ numeral number) ∷ number_or_none d.0 ∷ numeral f.0 ∷ flat_map (λ (name : Line). name ∷ []) g.0) now b.1 g.1 h.1 begun inside (fixed_is (codes "end_variable") g.1 h.0 h.1 h.2) in
    let made : Variable = record { layer = d.0; facts = g.0 } in
    let result : TakesLines now (variable_lines (number, made)) h.1 × IsValidVariable made = (
      subst (λ n. TakesLines now ((codes "begin_variable" ∷ (codes "var" ++ numeral number) ∷ number_or_none d.0 ∷ numeral n ∷ flat_map (λ (name : Line). name ∷ []) g.0) ++ codes "end_variable" ∷ []) h.1) count whole,
      record { layer = layer.1; has_value = omega (arith, range.1, count); names = all.0.are },
    ) in
    subst (λ a. TakesLines now (variable_lines (number, v)) a × IsValidVariable v) same.1 (subst (λ w. TakesLines now (variable_lines (number, w)) h.1 × IsValidVariable w) same.0 result)

enumerate_push : {X : Type 0} (n : ℕ) (xs : List X) (x : X) → enumerate_from n (xs ++ x ∷ []) ≡ enumerate_from n xs ++ (n + length xs, x) ∷ []
enumerate_push n [] x = let e : n ≡ n + 0 = omega arith in λ i. (e i, x) ∷ []
enumerate_push n (y ∷ xs) x =
    let e : n + 1 + length xs ≡ n + suc (length xs) = omega arith in
    (λ i. (n, y) ∷ enumerate_push (n + 1) xs x i) ∙ (λ i. (n, y) ∷ (enumerate_from (n + 1) xs ++ (e i, x) ∷ []))

record AreVariables (start : Unread) (vs : List Variable) (now : Unread) : Type 0 where
  are : All IsValidVariable vs
  clean : IsClean now
  taken : TakesLines start (flat_map variable_lines (enumerate_from 0 vs)) now

pub variables_read : (now : Unread) (vs : List Variable) (after : Unread) → IsClean now → variables now ≡ Ok (vs, after) → TakesLines now (counted variable_lines (enumerate_from 0 vs)) after × All IsValidVariable vs
unfolding variables
variables_read now vs after clean e =
    let a = parts (number_line now) (λ count. listed (λ before. variable (length before)) count []) vs after e in
    let count = number_line_is now a.0 a.1 a.2 in
    let all = kept (λ before. variable (length before)) (AreVariables a.1) (λ before at v later holds e.
    let r = variable_read (length before) at v later holds.clean e in
    let numbered : enumerate_from 0 (before ++ v ∷ []) ≡ enumerate_from 0 before ++ (length before, v) ∷ [] = enumerate_push 0 before v ∙ (let z : 0 + length before ≡ length before = omega arith in ap (λ n. enumerate_from 0 before ++ (n, v) ∷ []) z) in
    record {
      are = All-push IsValidVariable before v holds.are r.1;
      clean = clean_after at (variable_lines (length before, v)) later r.0 holds.clean;
      taken = subst (λ l. TakesLines a.1 (flat_map variable_lines l) later) (sym numbered) (more_lines variable_lines a.1 at later (enumerate_from 0 before) (length before, v) holds.taken r.0);
    })
    a.0 [] a.1 vs after (record { are = All-nil IsValidVariable; clean = clean_after now (numeral a.0 ∷ []) a.1 count.0 clean; taken = refl }) a.3 in
    let len : a.0 ≡ length (enumerate_from 0 vs) = omega (arith, all.1, length-enumerate_from 0 vs) in
    (subst (λ n. TakesLines now (numeral n ∷ flat_map variable_lines (enumerate_from 0 vs)) after) len (then_lines now a.1 after (numeral a.0 ∷ []) (flat_map variable_lines (enumerate_from 0 vs)) count.0 all.0.taken), all.0.are)

pub group_read : (task : Task) (now : Unread) (g : Group) (after : Unread) → group task now ≡ Ok (g, after) → TakesLines now (group_lines g) after × IsValidGroup task g
unfolding group
group_read task now g after e =
    let last : List Pair → Form Group = λ facts. fixed (codes "end_mutex_group") >> given (record { facts = facts }) in
    let c = parts ((fixed (codes "begin_mutex_group") >> at_least 2) now) (λ count. listed (λ before. line (fact task before)) count [] >>= last) g after e in
    let b = parts (fixed (codes "begin_mutex_group") now) (λ _. at_least 2) c.0 c.1 c.2 in
    let f = parts (listed (λ before. line (fact task before)) c.0 [] c.1) last g after c.3 in
    let h = parts (fixed (codes "end_mutex_group") f.1) (λ _. given (record { facts = f.0 })) g after f.3 in
    let same = read_same (record { facts = f.0 }) g h.1 after h.3 in
    let count = at_least_is 2 b.1 c.0 c.1 b.3 in
    let all = facts_read task c.0 c.1 f.0 f.1 f.2 in
    let len : c.0 ≡ length f.0 = omega (arith, all.3) in
    let inside : TakesLines b.1 (counted pair_lines f.0) f.1 = subst (λ n. TakesLines b.1 (numeral n ∷ flat_map pair_lines f.0) f.1) len (then_lines b.1 c.1 f.1 (numeral c.0 ∷ []) (flat_map pair_lines f.0) count.0 all.0) in
    let whole = around (codes "begin_mutex_group") (codes "end_mutex_group") (counted pair_lines f.0) now b.1 f.1 h.1 (fixed_is _ now b.0 b.1 b.2) inside (fixed_is _ f.1 h.0 h.1 h.2) in
    let made : Group = record { facts = f.0 } in
    let result : TakesLines now (group_lines made) h.1 × IsValidGroup task made = (whole, record { facts = all.1; sorted = all.2; two_facts = omega (arith, count.1, len) }) in
    subst (λ a. TakesLines now (group_lines g) a × IsValidGroup task g) same.1 (subst (λ w. TakesLines now (group_lines w) h.1 × IsValidGroup task w) same.0 result)

-- items that are read one after the other, each for itself
record Are {X : Type 0} (Good : X → Type 0) (lines : X → List Line) (start : Unread) (xs : List X) (now : Unread) : Type 0 where
  are : All Good xs
  taken : TakesLines start (flat_map lines xs) now

pub each_read : {X : Type 0} (one : Form X) (Good : X → Type 0) (lines : X → List Line) → ((now : Unread) (x : X) (after : Unread) → one now ≡ Ok (x, after) → TakesLines now (lines x) after × Good x)
    → (now : Unread) (xs : List X) (after : Unread) → (number_line >>= λ count. listed (λ _. one) count []) now ≡ Ok (xs, after) → TakesLines now (counted lines xs) after × All Good xs
each_read one Good lines reads now xs after e =
    let a = parts (number_line now) (λ count. listed (λ _. one) count []) xs after e in
    let all = kept (λ _. one) (Are Good lines a.1) (λ before at x later holds e.
    let r = reads at x later e in
    record { are = All-push Good before x holds.are r.1; taken = more_lines lines a.1 at later before x holds.taken r.0 })
    a.0 [] a.1 xs after (record { are = All-nil Good; taken = refl }) a.3 in
    let len : a.0 ≡ length xs = omega (arith, all.1) in
    (subst (λ n. TakesLines now (numeral n ∷ flat_map lines xs) after) len (then_lines now a.1 after (numeral a.0 ∷ []) (flat_map lines xs) (number_line_is now a.0 a.1 a.2).0 all.0.taken), all.0.are)

pub groups_read : (task : Task) (now : Unread) (gs : List Group) (after : Unread) → groups task now ≡ Ok (gs, after) → TakesLines now (counted group_lines gs) after × All (IsValidGroup task) gs
unfolding groups
groups_read task now gs after e = each_read (group task) (IsValidGroup task) group_lines (group_read task) now gs after e

pub state_value_read : (task : Task) (var : ℕ) (now : Unread) (val : ℕ) (after : Unread) → state_value task var now ≡ Ok (val, after) → TakesLines now (numeral val ∷ []) after × IsValue task var val
unfolding state_value
state_value_read task var now val after e =
    let p = checked number_line (is_value task var) now val after e in
    ((number_line_is now val after p.0).0, value_from_test task var val p.1)

record AreValues (task : Task) (start : Unread) (values : List ℕ) (now : Unread) : Type 0 where
  are : (var : ℕ) → var < length values → IsValue task var (slice_index values var)
  taken : TakesLines start (map numeral values) now

value_more : (task : Task) (values : List ℕ) (val : ℕ) → ((var : ℕ) → var < length values → IsValue task var (slice_index values var)) → IsValue task (length values) val → (var : ℕ) → var < length (values ++ val ∷ []) → IsValue task var (slice_index (values ++ val ∷ []) var)
value_more task values val are is var within =
    elim (cases_lt var (length values)) [
      | inl before ↦ subst (IsValue task var) (sym (get_or_append_left values (val ∷ []) 0 var before)) (are var before)
      | inr last ↦
          let place : length values ≡ var = omega (arith, last, within, length-append values (val ∷ [])) in
          let zeroth : var - length values ≡ 0 = omega (arith, place) in
          let at : val ≡ slice_index (values ++ val ∷ []) var = sym (get_or-append_right values (val ∷ []) (length values) var 0 refl last ∙ ap (λ i. get_or (val ∷ []) i 0) zeroth) in
          subst (λ v. IsValue task v (slice_index (values ++ val ∷ []) var)) place (subst (IsValue task (length values)) at is)
    ]

pub state_read : (task : Task) (now : Unread) (values : List ℕ) (after : Unread) → state task now ≡ Ok (values, after)
    → TakesLines now (state_lines values) after × (length values ≡ length task.variables) × ((var : ℕ) → var < length values → IsValue task var (slice_index values var))
unfolding state
state_read task now values after e =
    let one : List ℕ → Form ℕ = λ before. state_value task (length before) in
    let n = length task.variables in
    let c = parts ((fixed (codes "begin_state") >> listed one n []) now) (λ values. fixed (codes "end_state") >> given values) values after e in
    let b = parts (fixed (codes "begin_state") now) (λ _. listed one n []) c.0 c.1 c.2 in
    let h = parts (fixed (codes "end_state") c.1) (λ _. given c.0) values after c.3 in
    let same = read_same c.0 values h.1 after h.3 in
    let all = kept one (AreValues task b.1) (λ before at val later holds e.
    let r = state_value_read task (length before) at val later e in
    record {
      are = value_more task before val holds.are r.1;
      taken = subst (λ l. TakesLines b.1 l later) (sym (map-append numeral before (val ∷ []))) (then_lines b.1 at later (map numeral before) (numeral val ∷ []) holds.taken r.0);
    })
    n [] b.1 c.0 c.1 (record { are = λ var within. absurd (omega (arith, within)); taken = refl }) b.3 in
    let whole = around (codes "begin_state") (codes "end_state") (map numeral c.0) now b.1 c.1 h.1 (fixed_is _ now b.0 b.1 b.2) all.0.taken (fixed_is _ c.1 h.0 h.1 h.2) in
    let result : TakesLines now (state_lines c.0) h.1 × (length c.0 ≡ n) × ((var : ℕ) → var < length c.0 → IsValue task var (slice_index c.0 var)) = (whole, omega (arith, all.1), all.0.are) in
    subst (λ a. TakesLines now (state_lines values) a × (length values ≡ n) × ((var : ℕ) → var < length values → IsValue task var (slice_index values var))) same.1
    (subst (λ w. TakesLines now (state_lines w) h.1 × (length w ≡ n) × ((var : ℕ) → var < length w → IsValue task var (slice_index w var))) same.0 result)

pub goal_read : (task : Task) (now : Unread) (pairs : List Pair) (after : Unread) → goal task now ≡ Ok (pairs, after) → TakesLines now (goal_lines pairs) after × AreConditions task pairs
unfolding goal
goal_read task now pairs after e =
    let c = parts ((fixed (codes "begin_goal") >> conditions task) now) (λ pairs. fixed (codes "end_goal") >> given pairs) pairs after e in
    let b = parts (fixed (codes "begin_goal") now) (λ _. conditions task) c.0 c.1 c.2 in
    let h = parts (fixed (codes "end_goal") c.1) (λ _. given c.0) pairs after c.3 in
    let same = read_same c.0 pairs h.1 after h.3 in
    let all = conditions_read task b.1 c.0 c.1 b.3 in
    let whole = around (codes "begin_goal") (codes "end_goal") (counted pair_lines c.0) now b.1 c.1 h.1 (fixed_is _ now b.0 b.1 b.2) all.0 (fixed_is _ c.1 h.0 h.1 h.2) in
    let result : TakesLines now (goal_lines c.0) h.1 × AreConditions task c.0 = (whole, all.1) in
    subst (λ a. TakesLines now (goal_lines pairs) a × AreConditions task pairs) same.1 (subst (λ w. TakesLines now (goal_lines w) h.1 × AreConditions task w) same.0 result)
