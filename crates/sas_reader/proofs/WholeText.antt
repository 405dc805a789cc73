-- A text that was read is that of the task, which is valid.
use Rattle.std.proofs.Common.{◌≡◌, ℕ, ◌<◌, Bool, List, [], ◌∷◌, ◌++◌, length, Ok, refl, sym, ap, ◌∙◌, subst, append_assoc, arith}
use Rattle.std.specs.Prelude.{slice_index}
use Rattle.std.specs.List.{All, AllPairs, enumerate_from, join_with_byte}
use Rattle.std.proofs.lemmas.List.Splits.{join_with_byte-slice_split}
use Rattle.std.proofs.lemmas.List.Elements.{All-weaker}
use Rattle.sas_task.specs.declared.parts.Pair.{Pair}
use Rattle.sas_task.specs.declared.parts.Variable.{Variable}
use Rattle.sas_task.specs.declared.parts.Group.{Group}
use Rattle.sas_task.specs.declared.parts.Operator.{Operator}
use Rattle.sas_task.specs.declared.parts.Rule.{Rule}
use Rattle.sas_task.specs.Output.{Line, counted, bytes_of, version_lines, metric_lines, variable_lines, group_lines, state_lines, goal_lines, operator_lines, rule_lines}
use Rattle.sas_task.specs.Task.{Task, of_parts}
use Rattle.sas_task.specs.Valid.{IsValid, IsValue, AreConditions, IsValidVariable, IsValidGroup, IsValidEffect, IsValidOperator, IsValidRule, SetAlike}
use Rattle.sas_reader.specs.declared.fault.SasPlace.TheVariants as places
use Rattle.sas_reader.specs.Contexts.{so_far}
use Rattle.sas_reader.specs.Forms.{◌>>=◌, ◌>>◌, Unread, Form, unread, pieces_of, in_section, section, end, nothing, given}
use Rattle.sas_reader.specs.Operators.{operators}
use Rattle.sas_reader.specs.Rules.{rules}
use Rattle.sas_reader.specs.Sections.{version, metric, variables, groups, state, goal}
use Rattle.sas_reader.proofs.Kept.{parts, read_same, TakesLines, then_lines}
use Rattle.sas_reader.proofs.Lines.{IsClean, clean_after, clean_pieces}
use Rattle.sas_reader.proofs.Sectioned.{version_read, metric_read, variables_read, groups_read, state_read, goal_read}
use Rattle.sas_reader.proofs.Finished.{IsGood, operators_read, rules_read}
use Rattle.sas_reader.specs.Text.{task, IsTextOf}

at_end : (now : Unread) (x : Unit {0}) (after : Unread) → end now ≡ Ok (x, after) → now.pieces ≡ [] ∷ []
at_end now x after e = from now.pieces e
  where
    from : (pieces : List Line) → nothing pieces now ≡ Ok (x, after) → pieces ≡ [] ∷ []
    from [] e = absurd cc
    from ([] ∷ []) e = refl
    from ((b ∷ bytes) ∷ []) e = absurd cc
    from (p ∷ q ∷ pieces) e = absurd cc

joined_lines : (ls : List Line) → join_with_byte 10 (ls ++ [] ∷ []) ≡ bytes_of ls
joined_lines [] = refl
joined_lines (l ∷ []) = sym (append_assoc l (10 ∷ []) [])
joined_lines (l ∷ m ∷ ls) = ap (λ r. l ++ 10 ∷ r) (joined_lines (m ∷ ls)) ∙ sym (append_assoc l (10 ∷ []) (bytes_of (m ∷ ls)))

whole_text : (bytes : List ℕ) (ls : List Line) → pieces_of 10 bytes ≡ ls ++ [] ∷ [] → bytes ≡ bytes_of ls
whole_text bytes ls is = sym (join_with_byte-slice_split 10 bytes) ∙ ap (join_with_byte 10) is ∙ joined_lines ls

abbrev pub to_end : Task → Form Task
to_end t = (section places.End >> end) >> given t

abbrev pub to_rules : Bool → List Variable → List Group → List ℕ → List Pair → List Operator → Form Task
to_rules m vs gs st g os = (section places.Rules >> rules vs st) >>= λ rs. to_end (of_parts m vs gs st g os rs)

abbrev pub to_operators : Bool → List Variable → List Group → List ℕ → List Pair → Form Task
to_operators m vs gs st g = (section places.Operators >> operators m (so_far vs [])) >>= to_rules m vs gs st g

abbrev pub to_goal : Bool → List Variable → List Group → List ℕ → Form Task
to_goal m vs gs st = (section places.Goal >> goal (so_far vs [])) >>= to_operators m vs gs st

abbrev pub to_state : Bool → List Variable → List Group → Form Task
to_state m vs gs = (section places.State >> state (so_far vs [])) >>= to_goal m vs gs

abbrev pub to_groups : Bool → List Variable → Form Task
to_groups m vs = (section places.Groups >> groups (so_far vs [])) >>= to_state m vs

abbrev pub to_variables : Bool → Form Task
to_variables m = (section places.Variables >> variables) >>= to_groups m

-- what was read of each section, and where
record AreParts (bytes : List ℕ) (t : Task) : Type 0 where
  metric-is : Bool
  vs : List Variable
  gs : List Group
  st : List ℕ
  g : List Pair
  os : List Operator
  rs : List Rule
  a0 : Unread
  a1 : Unread
  a2 : Unread
  a3 : Unread
  a4 : Unread
  a5 : Unread
  a6 : Unread
  a7 : Unread
  e0 : version (unread bytes) ≡ Ok (tt, a0)
  e1 : metric (in_section places.Metric a0) ≡ Ok (metric-is, a1)
  e2 : variables (in_section places.Variables a1) ≡ Ok (vs, a2)
  e3 : groups (so_far vs []) (in_section places.Groups a2) ≡ Ok (gs, a3)
  e4 : state (so_far vs []) (in_section places.State a3) ≡ Ok (st, a4)
  e5 : goal (so_far vs []) (in_section places.Goal a4) ≡ Ok (g, a5)
  e6 : operators metric-is (so_far vs []) (in_section places.Operators a5) ≡ Ok (os, a6)
  e7 : rules vs st (in_section places.Rules a6) ≡ Ok (rs, a7)
  e8 : a7.pieces ≡ [] ∷ []
  same : of_parts metric-is vs gs st g os rs ≡ t

ended_is : (one t : Task) (now after : Unread) → to_end one now ≡ Ok (t, after) → (now.pieces ≡ [] ∷ []) × (one ≡ t)
ended_is one t now after e =
    let z = parts (end (in_section places.End now)) (λ _. given one) t after e in
    (at_end (in_section places.End now) z.0 z.1 z.2, (read_same one t z.1 after z.3).0)

-- the metric, and what is read after it
first_parts : (bytes : List ℕ) (t : Task) (after : Unread) → task (unread bytes) ≡ Ok (t, after)
    → (a0 : Unread) × (m : Bool) × (a1 : Unread) × (version (unread bytes) ≡ Ok (tt, a0)) × (metric (in_section places.Metric a0) ≡ Ok (m, a1)) × (to_variables m a1 ≡ Ok (t, after))
unfolding task
first_parts bytes t after e =
    let now = unread bytes in
    let m = parts (((version >> section places.Metric) >> metric) now) to_variables t after e in
    let v0 = parts ((version >> section places.Metric) now) (λ _. metric) m.0 m.1 m.2 in
    let v = parts (version now) (λ _. section places.Metric) v0.0 v0.1 v0.2 in
    let in-metric = read_same tt v0.0 (in_section places.Metric v.1) v0.1 v.3 in
    (v.1, m.0, m.1, v.2, ap metric in-metric.1 ∙ v0.3, m.3)

all_parts : (bytes : List ℕ) (t : Task) (after : Unread) → task (unread bytes) ≡ Ok (t, after) → AreParts bytes t
all_parts bytes t after e =
    let m = first_parts bytes t after e in
    let vs = parts (variables (in_section places.Variables m.2)) (to_groups m.1) t after m.5 in
    let gs = parts (groups (so_far vs.0 []) (in_section places.Groups vs.1)) (to_state m.1 vs.0) t after vs.3 in
    let st = parts (state (so_far vs.0 []) (in_section places.State gs.1)) (to_goal m.1 vs.0 gs.0) t after gs.3 in
    let g = parts (goal (so_far vs.0 []) (in_section places.Goal st.1)) (to_operators m.1 vs.0 gs.0 st.0) t after st.3 in
    let os = parts (operators m.1 (so_far vs.0 []) (in_section places.Operators g.1)) (to_rules m.1 vs.0 gs.0 st.0 g.0) t after g.3 in
    let rs = parts (rules vs.0 st.0 (in_section places.Rules os.1)) (λ rs. to_end (of_parts m.1 vs.0 gs.0 st.0 g.0 os.0 rs)) t after os.3 in
    let z = ended_is (of_parts m.1 vs.0 gs.0 st.0 g.0 os.0 rs.0) t rs.1 after rs.3 in
    record {
      metric-is = m.1;
      vs = vs.0;
      gs = gs.0;
      st = st.0;
      g = g.0;
      os = os.0;
      rs = rs.0;
      a0 = m.0;
      a1 = m.2;
      a2 = vs.1;
      a3 = gs.1;
      a4 = st.1;
      a5 = g.1;
      a6 = os.1;
      a7 = rs.1;
      e0 = m.3;
      e1 = m.4;
      e2 = vs.2;
      e3 = gs.2;
      e4 = st.2;
      e5 = g.2;
      e6 = os.2;
      e7 = rs.2;
      e8 = z.0;
      same = z.1;
    }

valid_made : (m : Bool) (vs : List Variable) (gs : List Group) (st : List ℕ) (g : List Pair) (os : List Operator) (rs : List Rule)
    → All IsValidVariable vs → All (IsValidGroup (so_far vs [])) gs → length st ≡ length vs → ((var : ℕ) → var < length st → IsValue (so_far vs []) var (slice_index st var)) → AreConditions (so_far vs []) g
    → All (IsGood m (so_far vs [])) os → All (IsValidRule (so_far vs st)) rs → AllPairs SetAlike rs → IsValid (of_parts m vs gs st g os rs)
valid_made m vs gs st g os rs r2 r3 len r4 r5 r6 r7 alike =
    let base = so_far vs [] in
    let one = of_parts m vs gs st g os rs in
    record {
      variables = r2;
      groups = All-weaker (IsValidGroup base) (IsValidGroup one) (λ g good. record { facts = good.facts; sorted = good.sorted; two_facts = good.two_facts }) gs r3;
      one_value = len;
      state = λ var within. r4 var (omega (arith, within, len));
      goal = record { facts = r5.facts; sorted = r5.sorted };
      operators = All-weaker (IsGood m base) (IsValidOperator one) (λ o good. record {
        name = good.name;
        conditions = record { facts = good.conditions.facts; sorted = good.conditions.sorted };
        effects = All-weaker (IsValidEffect base) (IsValidEffect one) (λ e fine. record { conditions = record { facts = fine.conditions.facts; sorted = fine.conditions.sorted }; value = fine.value; basic = fine.basic }) o.effects good.effects;
        cost = good.cost;
        unit_cost = good.unit_cost;
      }) os r6;
      rules = All-weaker (IsValidRule (so_far vs st)) (IsValidRule one) (λ r good. record {
        conditions = record { facts = good.conditions.facts; sorted = good.conditions.sorted };
        derived = good.derived;
        value = good.value;
        default = good.default;
        changes = good.changes;
        below = good.below;
      }) rs r7;
      one_after = alike;
    }

record AreFront (bytes : List ℕ) (m : Bool) (vs : List Variable) (gs : List Group) (st : List ℕ) (g : List Pair) (now : Unread) : Type 0 where
  taken : TakesLines (unread bytes) (version_lines ++ metric_lines m ++ counted variable_lines (enumerate_from 0 vs) ++ counted group_lines gs ++ state_lines st ++ goal_lines g) now
  variables-are : All IsValidVariable vs
  groups-are : All (IsValidGroup (so_far vs [])) gs
  one-value : length st ≡ length vs
  state-is : (var : ℕ) → var < length st → IsValue (so_far vs []) var (slice_index st var)
  goal-is : AreConditions (so_far vs []) g

front_read : (bytes : List ℕ) (t : Task) (p : AreParts bytes t) → AreFront bytes p.metric-is p.vs p.gs p.st p.g p.a5
front_read bytes t p =
    let now = unread bytes in
    let l0 : TakesLines now version_lines p.a0 = version_read now tt p.a0 p.e0 in
    let r1 = metric_read (in_section places.Metric p.a0) p.metric-is p.a1 p.e1 in
    let l1 = then_lines now p.a0 p.a1 version_lines (metric_lines p.metric-is) l0 r1 in
    let clean : IsClean now = clean_pieces bytes in
    let r2 = variables_read (in_section places.Variables p.a1) p.vs p.a2 (clean_after now (version_lines ++ metric_lines p.metric-is) p.a1 l1 clean) p.e2 in
    let l2 = then_lines now p.a1 p.a2 (version_lines ++ metric_lines p.metric-is) (counted variable_lines (enumerate_from 0 p.vs)) l1 r2.0 in
    let r3 = groups_read (so_far p.vs []) (in_section places.Groups p.a2) p.gs p.a3 p.e3 in
    let l3 = then_lines now p.a2 p.a3 (version_lines ++ metric_lines p.metric-is ++ counted variable_lines (enumerate_from 0 p.vs)) (counted group_lines p.gs) l2 r3.0 in
    let r4 = state_read (so_far p.vs []) (in_section places.State p.a3) p.st p.a4 p.e4 in
    let l4 = then_lines now p.a3 p.a4 (version_lines ++ metric_lines p.metric-is ++ counted variable_lines (enumerate_from 0 p.vs) ++ counted group_lines p.gs) (state_lines p.st) l3 r4.0 in
    let r5 = goal_read (so_far p.vs []) (in_section places.Goal p.a4) p.g p.a5 p.e5 in
    let l5 = then_lines now p.a4 p.a5 (version_lines ++ metric_lines p.metric-is ++ counted variable_lines (enumerate_from 0 p.vs) ++ counted group_lines p.gs ++ state_lines p.st) (goal_lines p.g) l4 r5.0 in
    record { taken = l5; variables-are = r2.1; groups-are = r3.1; one-value = r4.1; state-is = r4.2; goal-is = r5.1 }

pub task_read : (bytes : List ℕ) (t : Task) (after : Unread) → task (unread bytes) ≡ Ok (t, after) → IsValid t × IsTextOf bytes t
task_read bytes t after e =
    let p = all_parts bytes t after e in
    let f = front_read bytes t p in
    let front = version_lines ++ metric_lines p.metric-is ++ counted variable_lines (enumerate_from 0 p.vs) ++ counted group_lines p.gs ++ state_lines p.st ++ goal_lines p.g in
    let r6 = operators_read p.metric-is (so_far p.vs []) (in_section places.Operators p.a5) p.os p.a6 (clean_after (unread bytes) front p.a5 f.taken (clean_pieces bytes)) p.e6 in
    let l6 = then_lines (unread bytes) p.a5 p.a6 front (counted operator_lines r6.0) f.taken r6.2 in
    let r7 = rules_read p.vs p.st (in_section places.Rules p.a6) p.rs p.a7 p.e7 in
    let l7 = then_lines (unread bytes) p.a6 p.a7 (front ++ counted operator_lines r6.0) (counted rule_lines p.rs) l6 r7.0 in
    let one = of_parts p.metric-is p.vs p.gs p.st p.g p.os p.rs in
    let valid : IsValid one = valid_made p.metric-is p.vs p.gs p.st p.g p.os p.rs f.variables-are f.groups-are f.one-value f.state-is f.goal-is r6.3 r7.1 r7.2 in
    let text : IsTextOf bytes one = record { written = r6.0; spares = r6.1; text = whole_text bytes (front ++ counted operator_lines r6.0 ++ counted rule_lines p.rs) (l7 ∙ ap (λ ps. (front ++ counted operator_lines r6.0 ++ counted rule_lines p.rs) ++ ps) p.e8) } in
    subst (λ w. IsValid w × IsTextOf bytes w) p.same (valid, text)

-- a whole text by its parts
parts_are : (bytes : List ℕ) (a0 a1 a2 a3 a4 a5 a6 a7 a8 : Unread) (m : Bool) (vs : List Variable) (gs : List Group) (st : List ℕ) (g : List Pair) (os : List Operator) (rs : List Rule)
    → version (unread bytes) ≡ Ok (tt, a0) → metric (in_section places.Metric a0) ≡ Ok (m, a1) → variables (in_section places.Variables a1) ≡ Ok (vs, a2) → groups (so_far vs []) (in_section places.Groups a2) ≡ Ok (gs, a3)
    → state (so_far vs []) (in_section places.State a3) ≡ Ok (st, a4) → goal (so_far vs []) (in_section places.Goal a4) ≡ Ok (g, a5) → operators m (so_far vs []) (in_section places.Operators a5) ≡ Ok (os, a6)
    → rules vs st (in_section places.Rules a6) ≡ Ok (rs, a7) → end (in_section places.End a7) ≡ Ok (tt, a8)
    → task (unread bytes) ≡ Ok (record { metric = m; variables = vs; groups = gs; state = st; goal = g; operators = os; rules = rs }, a8)
unfolding task
parts_are bytes a0 a1 a2 a3 a4 a5 a6 a7 a8 m vs gs st g os rs e0 e1 e2 e3 e4 e5 e6 e7 e8 = rw (e0, e1, e2, e3, e4, e5, e6, e7, e8) refl

-- A whole text by its parts, as the code reads them: the readers at the beginnings of the sections, and the slices of the variables and of the state, are other words for these.
pub parts_read : (bytes : List ℕ) (n0 n1 n2 n3 n4 n5 n6 n7 n8 a0 a1 a2 a3 a4 a5 a6 a7 a8 : Unread) (v3 v4 v5 v6 v7 vs : List Variable) (s7 st : List ℕ)
    (m : Bool) (gs : List Group) (g : List Pair) (os : List Operator) (rs : List Rule)
    → n0 ≡ unread bytes → n1 ≡ in_section places.Metric a0 → n2 ≡ in_section places.Variables a1 → n3 ≡ in_section places.Groups a2 → n4 ≡ in_section places.State a3
    → n5 ≡ in_section places.Goal a4 → n6 ≡ in_section places.Operators a5 → n7 ≡ in_section places.Rules a6 → n8 ≡ in_section places.End a7
    → v3 ≡ vs → v4 ≡ vs → v5 ≡ vs → v6 ≡ vs → v7 ≡ vs → s7 ≡ st
    → version n0 ≡ Ok (tt, a0) → metric n1 ≡ Ok (m, a1) → variables n2 ≡ Ok (vs, a2) → groups (so_far v3 []) n3 ≡ Ok (gs, a3) → state (so_far v4 []) n4 ≡ Ok (st, a4)
    → goal (so_far v5 []) n5 ≡ Ok (g, a5) → operators m (so_far v6 []) n6 ≡ Ok (os, a6) → rules v7 s7 n7 ≡ Ok (rs, a7) → end n8 ≡ Ok (tt, a8)
    → task (unread bytes) ≡ Ok (of_parts m vs gs st g os rs, a8)
parts_read bytes n0 n1 n2 n3 n4 n5 n6 n7 n8 a0 a1 a2 a3 a4 a5 a6 a7 a8 v3 v4 v5 v6 v7 vs s7 st m gs g os rs i0 i1 i2 i3 i4 i5 i6 i7 i8 j3 j4 j5 j6 j7 k7 e0 e1 e2 e3 e4 e5 e6 e7 e8 =
    parts_are bytes a0 a1 a2 a3 a4 a5 a6 a7 a8 m vs gs st g os rs
    (subst (λ r. version r ≡ Ok (tt, a0)) i0 e0)
    (subst (λ r. metric r ≡ Ok (m, a1)) i1 e1)
    (subst (λ r. variables r ≡ Ok (vs, a2)) i2 e2)
    (subst (λ r. groups (so_far vs []) r ≡ Ok (gs, a3)) i3 (subst (λ l. groups (so_far l []) n3 ≡ Ok (gs, a3)) j3 e3))
    (subst (λ r. state (so_far vs []) r ≡ Ok (st, a4)) i4 (subst (λ l. state (so_far l []) n4 ≡ Ok (st, a4)) j4 e4))
    (subst (λ r. goal (so_far vs []) r ≡ Ok (g, a5)) i5 (subst (λ l. goal (so_far l []) n5 ≡ Ok (g, a5)) j5 e5))
    (subst (λ r. operators m (so_far vs []) r ≡ Ok (os, a6)) i6 (subst (λ l. operators m (so_far l []) n6 ≡ Ok (os, a6)) j6 e6))
    (subst (λ r. rules vs st r ≡ Ok (rs, a7)) i7 (subst (λ l. rules l st n7 ≡ Ok (rs, a7)) j7 (subst (λ l. rules v7 l n7 ≡ Ok (rs, a7)) k7 e7)))
    (subst (λ r. end r ≡ Ok (tt, a8)) i8 e8)
