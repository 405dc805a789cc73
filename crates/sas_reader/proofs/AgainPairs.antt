-- What is written is read again: pairs, conditions, mutex groups, the state and the goal.
use Rattle.std.proofs.Common.{◌≡◌, ℕ, ◌+◌, ◌-◌, ◌^◌, ◌<◌, true, false, eqb, ltb, ◌||◌, ◌&&◌, List, [], ◌∷◌, ◌++◌, length, map, get_or, Option, Some, None, Ok, inl, inr, refl, sym, ap, ◌∙◌, subst, append_assoc, append-nil, arith, length-append}
use Rattle.std.specs.Prelude.{codes, slice_get, IsSomeAnd}
use Rattle.std.specs.List.{All, AllPairs, flat_map}
use Rattle.std.specs.List.Sorted.{IsStrictlyIncreasing}
use Rattle.std.specs.Option.{option_map_or}
use Rattle.std.proofs.lemmas.Bool.{lt-ltb, eq-eqb, le-ltb}
use Rattle.std.proofs.lemmas.Option.{slice_get_within, get_or_from_slice_get}
use Rattle.std.proofs.lemmas.List.{get_or-map, get_or_append_left, get_or-append_right, length-map, map-id}
use Rattle.std.proofs.lemmas.List.Elements.{All-nil, All-cons, All-head, All-tail}
use Rattle.sas_task.specs.declared.parts.Pair.{Pair}
use Rattle.sas_task.specs.declared.parts.Variable.{Variable}
use Rattle.sas_task.specs.declared.parts.Group.{Group}
use Rattle.sas_task.specs.Output.{Line, numeral, counted, pair_words, pair_lines, group_lines, goal_lines}
use Rattle.sas_task.specs.Task.{Task}
use Rattle.sas_task.specs.Valid.{IsValue, IsFact, AreConditions, ComesBefore, IsValidGroup}
use Rattle.sas_reader.specs.Contexts.{is_value, is_next_condition, is_next_fact}
use Rattle.sas_reader.specs.Forms.{◌>>=◌, ◌>>◌, Form, passing, given, fixed, line, listed}
use Rattle.sas_reader.specs.Numbers.{number, number_line, at_least}
use Rattle.sas_reader.specs.Pairs.{value, pair, condition, fact, effect_conditions, conditions}
use Rattle.sas_reader.specs.Sections.{group, groups, goal}
use Rattle.sas_reader.proofs.Again.{Again, again_then, again_next, again_given, again_fixed, again_number, again_at_least, lines_from, again_listed}
use Rattle.sas_reader.proofs.Conditions.{last_is}
use Rattle.sas_reader.proofs.AgainWords.{AgainWords, words_then, words_given, words_passing, words_number, words_listed, NoSpace, numeral_no_space, again_words}

-- so few variables and values that their numbers can be read
pub record Fits (task : Task) : Type 0 where
  pub variables : length task.variables < 2 ^ 64
  pub facts : All (λ v. length v.facts < 2 ^ 64) task.variables

pub value_fits : (task : Task) (var val : ℕ) → Fits task → IsValue task var val → (var < 2 ^ 64) × (val < 2 ^ 64) × (is_value task var val ≡ true)
value_fits task var val fits is = from (slice_get task.variables var) refl is
  where
    from : (o : Option Variable) → slice_get task.variables var ≡ o → IsSomeAnd o (λ v. val < length v.facts) → (var < 2 ^ 64) × (val < 2 ^ 64) × (option_map_or (λ (v : Variable). ltb val (length v.facts)) (slice_get task.variables var) false ≡ true)
    from None at is = absurd is
    from (Some v) at is =
        let within = slice_get_within task.variables var v at in
        let small : length v.facts < 2 ^ 64 = subst (λ w. length w.facts < 2 ^ 64) (get_or_from_slice_get task.variables var v v at) (fits.facts var v within) in
        (omega (arith, within, fits.variables), omega (arith, is, small), ap (λ o. option_map_or (λ (v : Variable). ltb val (length v.facts)) o false) at ∙ lt-ltb val (length v.facts) is)

pub again_value : (task : Task) (var val : ℕ) → Fits task → IsValue task var val → AgainWords (value task var) val (numeral val ∷ [])
unfolding value
again_value task var val fits is =
    let k = value_fits task var val fits is in
    words_then number (λ v. passing (is_value task var v) v) val val (numeral val ∷ []) [] (words_number val k.1) (words_passing (is_value task var val) val k.2)

pub again_pair : (task : Task) (p : Pair) → Fits task → IsFact task p → AgainWords (pair task) p (pair_words p)
unfolding pair
again_pair task p fits is =
    words_then number (λ var. value task var >>= λ val. given (record { var = var; val = val })) p.var p (numeral p.var ∷ []) (numeral p.val ∷ []) (words_number p.var (value_fits task p.var p.val fits is).0)
    (words_then (value task p.var) (λ val. given (record { var = p.var; val = val })) p.val p (numeral p.val ∷ []) [] (again_value task p.var p.val fits is) (words_given p))

pub at_place : {X : Type 0} (before : List X) (x : X) (more all : List X) (d : X) → before ++ x ∷ more ≡ all → get_or all (length before) d ≡ x
at_place before x more all d is =
    let zeroth : length before - length before ≡ 0 = omega arith in
    sym (ap (λ l. get_or l (length before) d) is) ∙ get_or-append_right before (x ∷ more) (length before) (length before) d refl (omega arith) ∙ ap (λ i. get_or (x ∷ more) i d) zeroth

at_last : {X : Type 0} (before : List X) (x : X) (more all : List X) (d : X) → before ++ x ∷ more ≡ all → 0 < length before → get_or all (length before - 1) d ≡ get_or before (length before - 1) d
at_last before x more all d is some = sym (ap (λ l. get_or l (length before - 1) d) is) ∙ get_or_append_left before (x ∷ more) d (length before - 1) (omega (arith, some))

next_condition : (all before more : List Pair) (p : Pair) → IsStrictlyIncreasing (map (λ q. q.var) all) → before ++ p ∷ more ≡ all → is_next_condition before p ≡ true
next_condition all [] more p rises is = refl
next_condition all (b ∷ before) more p rises is =
    let front = b ∷ before in
    let nothing : Pair = record { var = 0; val = 0 } in
    let some : 0 < length front = omega arith in
    let last = get_or front (length front - 1) nothing in
    let len : length (front ++ p ∷ more) ≡ length all = ap length is in
    let within : length front < length all = omega (arith, len, length-append front (p ∷ more)) in
    let up = rises (length front - 1) (omega (arith, within, some, length-map all (λ (q : Pair). q.var))) in
    let step : length front - 1 + 1 ≡ length front = omega (arith, some) in
    let low : get_or (map (λ (q : Pair). q.var) all) (length front - 1) 0 ≡ last.var = get_or-map (λ (q : Pair). q.var) all (length front - 1) nothing 0 (omega (arith, within)) ∙ ap (λ (q : Pair). q.var) (at_last front p more all nothing is some) in
    let high : get_or (map (λ (q : Pair). q.var) all) (length front - 1 + 1) 0 ≡ p.var = ap (λ i. get_or (map (λ (q : Pair). q.var) all) i 0) step ∙ get_or-map (λ (q : Pair). q.var) all (length front) nothing 0 within ∙ ap (λ (q : Pair). q.var) (at_place front p more all nothing is) in
    ap (λ o. option_map_or (λ (q : Pair). ltb q.var p.var) o true) (last_is front nothing some) ∙ lt-ltb last.var p.var (omega (arith, up, low, high))

pub in_all : {X : Type 0} (P : X → Type 0) (before : List X) (x : X) (more all : List X) → before ++ x ∷ more ≡ all → All P all → P x
in_all P before x more all is each =
    let len : length (before ++ x ∷ more) ≡ length all = ap length is in
    subst P (at_place before x more all x is) (each (length before) x (omega (arith, len, length-append before (x ∷ more))))

again_condition : (task : Task) (all before more : List Pair) (p : Pair) → Fits task → AreConditions task all → before ++ p ∷ more ≡ all → AgainWords (condition task before) p (pair_words p)
unfolding condition
again_condition task all before more p fits are is =
    words_then (pair task) (λ q. passing (is_next_condition before q) q) p p (pair_words p) [] (again_pair task p fits (in_all (IsFact task) before p more all is are.facts))
    (words_passing (is_next_condition before p) p (next_condition all before more p are.sorted is))

pub again_effect_conditions : (task : Task) (ps : List Pair) → Fits task → AreConditions task ps → length ps < 2 ^ 64 → AgainWords (effect_conditions task) ps (numeral (length ps) ∷ flat_map pair_words ps)
unfolding effect_conditions
again_effect_conditions task ps fits are small =
    words_then number (λ count. listed (condition task) count []) (length ps) ps (numeral (length ps) ∷ []) (flat_map pair_words ps) (words_number (length ps) small)
    (words_listed (condition task) pair_words ps (λ before p more is. again_condition task ps before more p fits are is) ps [] refl)

pair_no_space : (p : Pair) → All NoSpace (numeral p.val ∷ [])
pair_no_space p = All-cons NoSpace (numeral p.val) [] (numeral_no_space p.val) (All-nil NoSpace)

pub same_lines : {A : Type 0} (lines : A → List Line) (before more : List A) → lines_from (λ _. lines) before more ≡ flat_map lines more
same_lines lines before [] = refl
same_lines lines before (x ∷ more) = ap (λ l. lines x ++ l) (same_lines lines (before ++ x ∷ []) more)

pub again_conditions : (task : Task) (ps : List Pair) → Fits task → AreConditions task ps → length ps < 2 ^ 64 → Again (conditions task) ps (counted pair_lines ps)
unfolding conditions
again_conditions task ps fits are small =
    again_then number_line (λ count. listed (λ before. line (condition task before)) count []) (length ps) ps (numeral (length ps) ∷ []) (flat_map pair_lines ps) (again_number (length ps) small)
    (subst (Again (listed (λ before. line (condition task before)) (length ps) []) ps) (same_lines pair_lines [] ps)
    (again_listed (λ before. line (condition task before)) (λ _. pair_lines) ps
    (λ before p more is. again_words (condition task before) p (numeral p.var) (numeral p.val ∷ []) (numeral_no_space p.var) (pair_no_space p) (again_condition task ps before more p fits are is)) ps [] refl))

pub again_goal : (task : Task) (ps : List Pair) → Fits task → AreConditions task ps → length ps < 2 ^ 64 → Again (goal task) ps (goal_lines ps)
unfolding goal
again_goal task ps fits are small =
    again_then (fixed (codes "begin_goal") >> conditions task) (λ pairs. fixed (codes "end_goal") >> given pairs) ps ps (codes "begin_goal" ∷ counted pair_lines ps) (codes "end_goal" ∷ [])
    (again_next (fixed (codes "begin_goal")) (conditions task) tt ps (codes "begin_goal" ∷ []) (counted pair_lines ps) (again_fixed (codes "begin_goal")) (again_conditions task ps fits are small))
    (again_next (fixed (codes "end_goal")) (given ps) tt ps (codes "end_goal" ∷ []) [] (again_fixed (codes "end_goal")) (again_given ps))

comes_test : (p q : Pair) → ComesBefore p q → (ltb p.var q.var || (eqb p.var q.var && ltb p.val q.val)) ≡ true
comes_test p q (inl less) = ap (λ b. b || (eqb p.var q.var && ltb p.val q.val)) (lt-ltb p.var q.var less)
comes_test p q (inr same) =
    ap (λ b. b || (eqb p.var q.var && ltb p.val q.val)) (le-ltb p.var q.var (omega (arith, same.0)))
    ∙ (λ i. eq-eqb p.var q.var same.0 i && lt-ltb p.val q.val same.1 i)

next_fact : (all before more : List Pair) (p : Pair) → AllPairs ComesBefore all → before ++ p ∷ more ≡ all → is_next_fact before p ≡ true
next_fact all [] more p sorted is = refl
next_fact all (b ∷ before) more p sorted is =
    let front = b ∷ before in
    let some : 0 < length front = omega arith in
    let last = get_or front (length front - 1) p in
    let len : length (front ++ p ∷ more) ≡ length all = ap length is in
    let within : length front < length all = omega (arith, len, length-append front (p ∷ more)) in
    let comes = sorted (length front - 1) (length front) p (omega (arith, some)) within in
    let pair-comes : ComesBefore last p = subst (λ q. ComesBefore last q) (at_place front p more all p is) (subst (λ q. ComesBefore q (get_or all (length front) p)) (at_last front p more all p is some) comes) in
    ap (λ o. option_map_or (λ (q : Pair). ltb q.var p.var || (eqb q.var p.var && ltb q.val p.val)) o true) (last_is front p some) ∙ comes_test last p pair-comes

again_fact : (task : Task) (all before more : List Pair) (p : Pair) → Fits task → All (IsFact task) all → AllPairs ComesBefore all → before ++ p ∷ more ≡ all → AgainWords (fact task before) p (pair_words p)
unfolding fact
again_fact task all before more p fits facts sorted is =
    words_then (pair task) (λ q. passing (is_next_fact before q) q) p p (pair_words p) [] (again_pair task p fits (in_all (IsFact task) before p more all is facts))
    (words_passing (is_next_fact before p) p (next_fact all before more p sorted is))

pub again_group : (task : Task) (g : Group) → Fits task → IsValidGroup task g → length g.facts < 2 ^ 64 → Again (group task) g (group_lines g)
unfolding group
again_group task g fits valid small =
    let ps = g.facts in
    let last : List Pair → Form Group = λ facts. fixed (codes "end_mutex_group") >> given (record { facts = facts }) in
    let body : ℕ → Form Group = λ count. listed (λ before. line (fact task before)) count [] >>= last in
    again_then (fixed (codes "begin_mutex_group") >> at_least 2) body (length ps) g (codes "begin_mutex_group" ∷ numeral (length ps) ∷ []) (flat_map pair_lines ps ++ codes "end_mutex_group" ∷ [])
    (again_next (fixed (codes "begin_mutex_group")) (at_least 2) tt (length ps) (codes "begin_mutex_group" ∷ []) (numeral (length ps) ∷ []) (again_fixed (codes "begin_mutex_group")) (again_at_least 2 (length ps) small valid.two_facts))
    (again_then (listed (λ before. line (fact task before)) (length ps) []) last ps g (flat_map pair_lines ps) (codes "end_mutex_group" ∷ [])
    (subst (Again (listed (λ before. line (fact task before)) (length ps) []) ps) (same_lines pair_lines [] ps)
    (again_listed (λ before. line (fact task before)) (λ _. pair_lines) ps
    (λ before p more is. again_words (fact task before) p (numeral p.var) (numeral p.val ∷ []) (numeral_no_space p.var) (pair_no_space p) (again_fact task ps before more p fits valid.facts valid.sorted is)) ps [] refl))
    (again_next (fixed (codes "end_mutex_group")) (given g) tt g (codes "end_mutex_group" ∷ []) [] (again_fixed (codes "end_mutex_group")) (again_given g)))

again_items : {X Y : Type 0} (one : Form Y) (P : X → Type 0) (read : X → Y) (lines : X → List Line) → ((x : X) → P x → Again one (read x) (lines x))
    → (xs : List X) (before : List Y) → All P xs → Again (listed (λ _. one) (length xs) before) (before ++ map read xs) (flat_map lines xs)
unfolding listed
again_items one P read lines each [] before are = λ now rest small some at. record { after = now; is = ap (λ ys. Ok (ys, now)) (sym (append-nil before)); left = at }
again_items one P read lines each (x ∷ xs) before are =
    again_then one (λ y. listed (λ _. one) (length xs) (before ++ y ∷ [])) (read x) (before ++ map read (x ∷ xs)) (lines x) (flat_map lines xs) (each x (All-head P x xs are))
    (subst (λ ys. Again (listed (λ _. one) (length xs) (before ++ read x ∷ [])) ys (flat_map lines xs)) (append_assoc before (read x ∷ []) (map read xs))
    (again_items one P read lines each xs (before ++ read x ∷ []) (All-tail P x xs are)))

-- items that are read one after the other, each for itself
pub again_each : {X Y : Type 0} (one : Form Y) (P : X → Type 0) (read : X → Y) (lines : X → List Line) (xs : List X) → length xs < 2 ^ 64 → All P xs → ((x : X) → P x → Again one (read x) (lines x))
    → Again (number_line >>= λ count. listed (λ _. one) count []) (map read xs) (counted lines xs)
again_each one P read lines xs small are each =
    again_then number_line (λ count. listed (λ _. one) count []) (length xs) (map read xs) (numeral (length xs) ∷ []) (flat_map lines xs) (again_number (length xs) small)
    (again_items one P read lines each xs [] are)

pub again_groups : (task : Task) (gs : List Group) → Fits task → length gs < 2 ^ 64 → All (λ g. IsValidGroup task g × (length g.facts < 2 ^ 64)) gs → Again (groups task) gs (counted group_lines gs)
unfolding groups
again_groups task gs fits small are =
    subst (λ l. Again (groups task) l (counted group_lines gs)) (map-id gs)
    (again_each (group task) (λ g. IsValidGroup task g × (length g.facts < 2 ^ 64)) (λ g. g) group_lines gs small are (λ g good. again_group task g fits good.0 good.1))
