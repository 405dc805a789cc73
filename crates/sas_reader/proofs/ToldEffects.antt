-- Operators that were read are valid, and are written as they were read.
use Rattle.std.proofs.Common.{◌≡◌, ◌≢◌, ℕ, ◌+◌, ◌-◌, ◌<◌, ◌≤◌, Bool, true, false, not, ◌&&◌, ◌||◌, cond, eqb, leb, List, [], ◌∷◌, ◌++◌, length, map, take, get_or, Option, Some, None, Ok, inl, inr, refl, sym, ap, ◌∙◌, subst, arith}
use Rattle.std.specs.Prelude.{filter, IfSome, is_some, nat_eq, nat_le}
use Rattle.std.specs.List.{All, find, list_any, flat_map}
use Rattle.std.specs.Option.{option_map, option_map_or, option_eq}
use Rattle.std.proofs.lemmas.Bool.{cases_Bool, eq-eqb, eqb-true, leb-true, and_parts, false≢true, not-true}
use Rattle.std.proofs.lemmas.Option.{same_Some}
use Rattle.std.proofs.lemmas.List.Folds.{flat_map-map}
use Rattle.std.proofs.lemmas.List.Elements.{All-nil, All-push, All-take, All-weaker, All-contains}
use Rattle.sas_task.specs.declared.parts.Pair.{Pair}
use Rattle.sas_task.specs.declared.parts.Effect.{Effect}
use Rattle.sas_task.specs.declared.parts.Operator.{Operator}
use Rattle.sas_task.specs.Output.{Line, numeral, spaced, pair_words, effect_line, value_in}
use Rattle.sas_task.specs.Output as output
use Rattle.sas_task.specs.Task.{Task}
use Rattle.sas_task.specs.Valid.{IsValue, IsFact, AreConditions, IsValidEffect, layer_of}
use Rattle.sas_reader.specs.Contexts.{is_value}
use Rattle.sas_reader.specs.Forms.{◌>>=◌, Unread, line, listed, passing}
use Rattle.sas_reader.specs.Numbers.{number, number_or_none, number_line}
use Rattle.sas_reader.specs.Words.{is_name, less_space}
use Rattle.sas_reader.specs.Operators.{Told, told_before, may_change, name, required_value, effect, cost, required_of, required}
use Rattle.sas_reader.specs.Pairs.{value, effect_conditions}
use Rattle.sas_reader.specs.declared.requirements.Requirement.{Requirement}
use Rattle.sas_reader.specs.declared.requirements.Requirement.TheVariants.{Prevails, Changes}
use Rattle.sas_reader.specs.Tables.{first_of, requirement}
use Rattle.lists.proofs.Items.{contains_among, any_map, same_flat_map}
use Rattle.lists.proofs.Members.{find_found}
use Rattle.lists.proofs.Names.{IsOneLine}
use Rattle.sas_task.proofs.Checks.{value_from_test}
use Rattle.sas_reader.proofs.Kept.{parts, passed, checked, kept, TakesLines, TakesWords, then_words}
use Rattle.sas_reader.proofs.Lines.{IsClean, clean_line, tested_line, number_line_is, number_is, number_or_none_is, line_is_words, name_is}
use Rattle.sas_reader.proofs.Conditions.{value_read, effect_conditions_read, more_lines}
use Rattle.sas_reader.proofs.Tabled.{found_push, any_found}
use Rattle.sas_task.proofs.States.{is_variable}
use Rattle.sas_reader.proofs.InTurn.{in_turn_rises, in_turn_all, in_turn_value, same_in_turn, pairs_in_turn, filter_in_turn}
use Rattle.lists.proofs.Exact.{same_option}
use Rattle.lists.specs.Names.{IsName}

abbrev pub told_words : Told → List Line
told_words t = numeral (length t.0.conditions) ∷ (flat_map pair_words t.0.conditions ++ numeral t.0.var ∷ output.number_or_none t.1 ∷ numeral t.0.after ∷ [])

abbrev pub told_lines : Told → List Line
told_lines t = spaced (told_words t) ∷ []

-- the effect is valid, and the value that is required of its variable is one of it
pub record IsTold (task : Task) (t : Told) : Type 0 where
  pub valid : IsValidEffect task t.0
  pub value : IfSome t.1 (λ val. IsValue task t.0.var val)

required_holds : (task : Task) (var : ℕ) (o : Option ℕ) → option_map_or (is_value task var) o true ≡ true → IfSome o (λ val. IsValue task var val)
required_holds task var None is = tt
required_holds task var (Some val) is = value_from_test task var val is

required_read : (task : Task) (var : ℕ) (now : Unread) (o : Option ℕ) (after : Unread) → required_value task var now ≡ Ok (o, after) → TakesWords now (output.number_or_none o ∷ []) after × IfSome o (λ val. IsValue task var val)
unfolding required_value
required_read task var now o after e =
    let p = checked number_or_none (λ r. option_map_or (is_value task var) r true) now o after e in
    (number_or_none_is now o after p.0, required_holds task var o p.1)

pub effect_read : (task : Task) (pairs : List Pair) (earlier : List Told) (now : Unread) (t : Told) (after : Unread) → effect task pairs earlier now ≡ Ok (t, after)
    → TakesWords now (told_words t) after × IsTold task t × (may_change pairs earlier t.0.var t.1 ≡ true)
unfolding effect
effect_read task pairs earlier now t after e =
    let test : ℕ → Option ℕ → Bool = λ var r. not (is_some (layer_of task var)) && may_change pairs earlier var r in
    let made : List Pair → ℕ → Option ℕ → ℕ → Told = λ ps var r val. (record { conditions = ps; var = var; after = val }, r) in
    let a = parts (effect_conditions task now) (λ ps. number >>= λ var. required_value task var >>= λ r. value task var >>= λ val. passing (test var r) (made ps var r val)) t after e in
    let b = parts (number a.1) (λ var. required_value task var >>= λ r. value task var >>= λ val. passing (test var r) (made a.0 var r val)) t after a.3 in
    let c = parts (required_value task b.0 b.1) (λ r. value task b.0 >>= λ val. passing (test b.0 r) (made a.0 b.0 r val)) t after b.3 in
    let d = parts (value task b.0 c.1) (λ val. passing (test b.0 c.0) (made a.0 b.0 c.0 val)) t after c.3 in
    let q = passed (test b.0 c.0) (made a.0 b.0 c.0 d.0) t d.1 after d.3 in
    let lawful = and_parts (not (is_some (layer_of task b.0))) (may_change pairs earlier b.0 c.0) q.0 in
    let conds = effect_conditions_read task now a.0 a.1 a.2 in
    let wanted = required_read task b.0 b.1 c.0 c.1 c.2 in
    let value = value_read task b.0 c.1 d.0 d.1 d.2 in
    let tail = then_words a.1 b.1 d.1 (numeral b.0 ∷ []) (output.number_or_none c.0 ∷ numeral d.0 ∷ []) (number_is a.1 b.0 b.1 b.2) (then_words b.1 c.1 d.1 (output.number_or_none c.0 ∷ []) (numeral d.0 ∷ []) wanted.0 value.0) in
    let words = then_words now a.1 d.1 (numeral (length a.0) ∷ flat_map pair_words a.0) (numeral b.0 ∷ output.number_or_none c.0 ∷ numeral d.0 ∷ []) conds.0 tail in
    let one : Told = made a.0 b.0 c.0 d.0 in
    let all : TakesWords now (told_words one) d.1 × IsTold task one × (may_change pairs earlier one.0.var one.1 ≡ true) =
    (words, record { valid = record { conditions = conds.1; value = value.1; basic = not-true (is_some (layer_of task b.0)) lawful.0 }; value = wanted.1 }, lawful.1) in
    let moved = subst (λ o. TakesWords now (told_words o) d.1 × IsTold task o × (may_change pairs earlier o.0.var o.1 ≡ true)) q.1 all in
    (subst (λ n. TakesWords now (told_words t) n) q.2 moved.0, moved.1, moved.2)

abbrev pub IsApart : List Pair → Told → Type 0
IsApart pairs t = list_any (λ p. eqb p.var t.0.var) pairs ≡ false

-- the first line on its variable tells the same
abbrev pub IsFirst : List Told → Told → Type 0
IsFirst told t = told_before told t.0.var ≡ Some t.1

pub record AreTold (task : Task) (pairs : List Pair) (start : Unread) (told : List Told) (now : Unread) : Type 0 where
  pub are : All (IsTold task) told
  pub apart : All (IsApart pairs) told
  pub first : All (IsFirst told) told
  pub taken : TakesLines start (flat_map told_lines told) now

first_here : (before : Option (Option ℕ)) (b : Bool) (value : Option ℕ) → b ≡ true → option_map_or (λ r. option_eq nat_eq r value) before true ≡ true → first_of before (cond b (Some value) None) ≡ Some value
first_here None b value here is = ap (λ t. cond t (Some value) None) here
first_here (Some r) b value here is = ap Some (same_option r value is)

first_more : (told : List Told) (t : Told) → option_map_or (λ r. option_eq nat_eq r t.1) (told_before told t.0.var) true ≡ true → All (IsFirst told) told → All (IsFirst (told ++ t ∷ [])) (told ++ t ∷ [])
first_more told t same first =
    All-push (IsFirst (told ++ t ∷ [])) told t
    (All-weaker (IsFirst told) (IsFirst (told ++ t ∷ [])) (λ s is. push s.0.var ∙ ap (λ o. first_of o (cond (eqb t.0.var s.0.var) (Some t.1) None)) is) told first)
    (push t.0.var ∙ first_here (told_before told t.0.var) (eqb t.0.var t.0.var) t.1 (eq-eqb t.0.var t.0.var refl) same)
  where
    push : (var : ℕ) → told_before (told ++ t ∷ []) var ≡ first_of (told_before told var) (cond (eqb t.0.var var) (Some t.1) None)
    push var = found_push (λ (t : Told). t.1) (λ t. eqb t.0.var var) told t

pub effects_read : (task : Task) (pairs : List Pair) (count : ℕ) (now : Unread) (told : List Told) (after : Unread) → listed (λ earlier. line (effect task pairs earlier)) count [] now ≡ Ok (told, after) → AreTold task pairs now told after × (length told ≡ count)
effects_read task pairs count now told after e =
    let start : AreTold task pairs now [] now = record { are = All-nil (IsTold task); apart = All-nil (IsApart pairs); first = All-nil (IsFirst []); taken = refl } in
    let all = kept (λ earlier. line (effect task pairs earlier)) (AreTold task pairs now) (λ before at t later holds e.
    let r = line_is_words (effect task pairs before) told_words (λ t. IsTold task t × (may_change pairs before t.0.var t.1 ≡ true)) (λ now t after e. let c = effect_read task pairs before now t after e in (c.0, (c.1, c.2))) at t later e in
    let lawful = and_parts (not (list_any (λ (p : Pair). eqb p.var t.0.var) pairs)) (option_map_or (λ r. option_eq nat_eq r t.1) (told_before before t.0.var) true) r.1.1 in
    record {
      are = All-push (IsTold task) before t holds.are r.1.0;
      apart = All-push (IsApart pairs) before t holds.apart (not-true _ lawful.0);
      first = first_more before t lawful.1 holds.first;
      taken = more_lines told_lines now at later before t holds.taken r.0;
    })
    count [] now told after start e in
    (all.0, omega (arith, all.1))

-- what holds of each item's value holds of the one that is found by its key
pub found_value : {X Y : Type 0} (key : X → ℕ) (value : X → Y) (P : X → Type 0) (Q : Y → Type 0) (xs : List X) (var : ℕ) (y : Y) → All P xs → ((x : X) → P x → key x ≡ var → Q (value x)) → option_map value (find (λ x. eqb (key x) var) xs) ≡ Some y → Q y
found_value {X} key value P Q xs var y all gives is = from (find (λ x. eqb (key x) var) xs) refl is
  where
    from : (o : Option X) → find (λ x. eqb (key x) var) xs ≡ o → option_map value o ≡ Some y → Q y
    from None at is = absurd cc
    from (Some x) at is =
        let found = find_found (λ x. eqb (key x) var) xs x at in
        subst Q (same_Some (value x) y is) (gives x (All-contains P xs x all found.0) (eqb-true (key x) var found.1))

pub pair_value : (P : Pair → Type 0) (Q : ℕ → Type 0) (ps : List Pair) (var val : ℕ) → All P ps → ((p : Pair) → P p → p.var ≡ var → Q p.val) → value_in ps var ≡ Some val → Q val
pair_value = found_value (λ (p : Pair). p.var) (λ p. p.val)

pub told_value : (P : Told → Type 0) (Q : Option ℕ → Type 0) (ts : List Told) (var : ℕ) (r : Option ℕ) → All P ts → ((t : Told) → P t → t.0.var ≡ var → Q t.1) → told_before ts var ≡ Some r → Q r
told_value = found_value (λ (t : Told). t.0.var) (λ t. t.1)

pub nothing_found : {X : Type 0} (p : X → Bool) (xs : List X) → list_any p xs ≡ false → find p xs ≡ None
nothing_found {X} p xs none = from (find p xs) (sym (any_found p xs) ∙ none)
  where
    from : (o : Option X) → is_some o ≡ false → o ≡ None
    from None is = refl
    from (Some x) is = absurd (false≢true (sym is))

module _ (task : Task) (pairs : List Pair) (told : List Told) (start now : Unread) (are : AreConditions task pairs) (tell : AreTold task pairs start told now) where
  prevail_value : (var : ℕ) (p : Option Pair) (before : Option (Option ℕ)) (val : ℕ) → (option_map (λ (p : Pair). p.val) p ≡ Some val → IsValue task var val) → (((r : Option ℕ) → before ≡ Some r → IfSome r (λ v. IsValue task var v)))
      → option_map_or (λ (p : Pair). Some p.val) p (option_map_or (λ r. r) before None) ≡ Some val → IsValue task var val
  prevail_value var (Some p) before val from-pairs from-told is = from-pairs is
  prevail_value var None (Some r) val from-pairs from-told is = subst (λ o. IfSome o (λ v. IsValue task var v)) is (from-told r refl)
  prevail_value var None None val from-pairs from-told is = absurd cc

  f_value : (var val : ℕ) → required_of pairs told var ≡ Some val → IsValue task var val
  f_value var val is =
      prevail_value var (find (λ p. eqb p.var var) pairs) (told_before told var) val
      (λ found. pair_value (IsFact task) (IsValue task var) pairs var val are.facts (λ p fact on. subst (λ v. IsValue task v p.val) on fact) found)
      (λ r found. told_value (IsTold task) (λ o. IfSome o (λ v. IsValue task var v)) told var r tell.are (λ t good on. subst (λ w. IfSome t.1 (λ v. IsValue task w v)) on good.value) found)
      is

  pub wanted_valid : AreConditions task (required (length task.variables) pairs told)
  wanted_valid = record { facts = in_turn_all (IsFact task) (required_of pairs told) (length task.variables) 0 f_value; sorted = in_turn_rises (required_of pairs told) (length task.variables) 0 }

  not_prevailing : (var : ℕ) (r : Option ℕ) → told_before told var ≡ Some r → find (λ p. eqb p.var var) pairs ≡ None
  not_prevailing var r is =
      told_value (IsApart pairs) (λ o. find (λ (p : Pair). eqb p.var var) pairs ≡ None) told var r tell.apart
      (λ t apart on. nothing_found (λ (p : Pair). eqb p.var var) pairs (subst (λ w. list_any (λ (p : Pair). eqb p.var w) pairs ≡ false) on apart)) is

  kept_value : (var : ℕ) → cond (not (list_any (λ (e : Effect). eqb e.var var) (map (λ (t : Told). t.0) told))) (required_of pairs told var) None ≡ value_in pairs var
  kept_value var =
      ap (λ b. cond (not b) (required_of pairs told var) None) (any_map (λ (e : Effect). eqb e.var var) (λ (t : Told). t.0) told ∙ any_found (λ (t : Told). eqb t.0.var var) told)
      ∙ both (find (λ (t : Told). eqb t.0.var var) told) refl
    where
      simple : (p : Option Pair) → option_map_or (λ (p : Pair). Some p.val) p None ≡ option_map (λ (p : Pair). p.val) p
      simple (Some p) = refl
      simple None = refl

      both : (t : Option Told) → find (λ (t : Told). eqb t.0.var var) told ≡ t → cond (not (is_some t)) (required_of pairs told var) None ≡ value_in pairs var
      both (Some t) is = sym (ap (option_map (λ (p : Pair). p.val)) (not_prevailing var t.1 (ap (option_map (λ (t : Told). t.1)) is)))
      both None is =
          ap (λ o. option_map_or (λ (p : Pair). Some p.val) (find (λ p. eqb p.var var) pairs) (option_map_or (λ r. r) (option_map (λ (t : Told). t.1) o) None)) is
          ∙ simple (find (λ p. eqb p.var var) pairs)

  pub prevail_is : filter (λ (p : Pair). not (list_any (λ (e : Effect). eqb e.var p.var) (map (λ (t : Told). t.0) told))) (required (length task.variables) pairs told) ≡ pairs
  prevail_is =
      filter_in_turn (λ var. not (list_any (λ (e : Effect). eqb e.var var) (map (λ (t : Told). t.0) told))) (required_of pairs told) (length task.variables) 0
      ∙ same_in_turn _ (value_in pairs) (length task.variables) 0 (λ var from. kept_value var)
      ∙ pairs_in_turn (length task.variables) 0 pairs are.sorted (All-weaker (IsFact task) (λ p. 0 ≤ p.var) (λ p fact. omega arith) pairs are.facts)
      (All-weaker (IsFact task) (λ p. p.var < 0 + length task.variables) (λ p fact. let b = is_variable task p.var p.val fact in omega (arith, b)) pairs are.facts)

  tells : (t : Told) → IsTold task t × IsApart pairs t × IsFirst told t → option_map (λ (p : Pair). p.val) (find (λ p. eqb p.var t.0.var) (required (length task.variables) pairs told)) ≡ t.1
  tells t good =
      let below : t.0.var < 0 + length task.variables = (let b = is_variable task t.0.var t.0.after good.0.valid.value in omega (arith, b)) in
      in_turn_value (required_of pairs told) (length task.variables) 0 t.0.var (omega arith) below
      ∙ (λ i. option_map_or (λ (p : Pair). Some p.val) (nothing_found (λ (p : Pair). eqb p.var t.0.var) pairs good.1 i) (option_map_or (λ r. r) (good.2 i) None))

  all_good : All (λ t. IsTold task t × IsApart pairs t × IsFirst told t) told
  all_good k d within = (tell.are k d within, tell.apart k d within, tell.first k d within)

  pub lines_are : (o : Operator) → o.conditions ≡ required (length task.variables) pairs told → flat_map (λ e. effect_line o e ∷ []) (map (λ (t : Told). t.0) told) ≡ flat_map told_lines told
  lines_are o conds =
      flat_map-map (λ e. effect_line o e ∷ []) (λ (t : Told). t.0) told
      ∙ same_flat_map (λ (t : Told). effect_line o t.0 ∷ []) told_lines told
      (λ t among. ap (λ r. spaced (numeral (length t.0.conditions) ∷ (flat_map pair_words t.0.conditions ++ numeral t.0.var ∷ output.number_or_none r ∷ numeral t.0.after ∷ [])) ∷ [])
      (ap (λ cs. option_map (λ (p : Pair). p.val) (find (λ p. eqb p.var t.0.var) cs)) conds ∙ tells t (All-contains (λ t. IsTold task t × IsApart pairs t × IsFirst told t) told t all_good (contains_among told t among))))

-- the line of a name, and the name in it
pub name_read : (now : Unread) (n : Line) (after : Unread) → IsClean now → name now ≡ Ok (n, after) → (written : Line) × (less_space written ≡ n) × IsName n × TakesLines now (written ∷ []) after
unfolding name
name_read now n after clean e =
    let p = tested_line (λ l. is_name (less_space l)) less_space now n after e in
    let line = clean_line now p.0 after p.3 clean in
    (p.0, p.2, subst IsName p.2 (name_is (less_space p.0) p.1 (shorter p.0 line)), p.3)
  where
    shorter : (l : Line) → IsOneLine l → IsOneLine (less_space l)
    shorter l clean =
        elim (cases_Bool (eqb (get_or l (length l - 1) 0) 32)) [
          | inl space ↦ subst IsOneLine (sym (ap (λ b. cond b (take (length l - 1) l) l) space)) (All-take (λ b. b ≢ 10) (length l - 1) l clean)
          | inr other ↦ subst IsOneLine (sym (ap (λ b. cond b (take (length l - 1) l) l) other)) clean
        ]

pub cost_read : (metric : Bool) (now : Unread) (n : ℕ) (after : Unread) → cost metric now ≡ Ok (n, after) → TakesLines now (numeral n ∷ []) after × (n ≤ 2147483647) × (metric ≡ false → n ≡ 1)
unfolding cost
cost_read metric now n after e =
    let p = checked number_line (λ n. nat_le n 2147483647 && (metric || eqb n 1)) now n after e in
    let tests = and_parts (leb n 2147483647) (metric || eqb n 1) p.1 in
    ((number_line_is now n after p.0).0, leb-true n 2147483647 tests.0, λ none. eqb-true n 1 (sym (ap (λ b. b || eqb n 1) none) ∙ tests.1))

-- each variable of which something is required is one of the task
pub required_below : (task : Task) (pairs : List Pair) (told : List Told) → All (IsFact task) pairs → All (IsTold task) told → (var : ℕ) (r : Requirement) → requirement pairs told var ≡ Some r → var < length task.variables
required_below task pairs told facts are var r is = from (find (λ p. eqb p.var var) pairs) refl (told_before told var) refl is
  where
    from : (p : Option Pair) → find (λ p. eqb p.var var) pairs ≡ p → (before : Option (Option ℕ)) → told_before told var ≡ before → option_map_or (λ (p : Pair). Some (Prevails p.val)) p (option_map Changes before) ≡ Some r → var < length task.variables
    from (Some p) found before at is =
        pair_value (IsFact task) (λ v. var < length task.variables) pairs var p.val facts (λ q fact on. subst (λ w. w < length task.variables) on (is_variable task q.var q.val fact)) (ap (option_map (λ (q : Pair). q.val)) found)
    from None found (Some b) at is =
        told_value (IsTold task) (λ o. var < length task.variables) told var b are (λ t good on. subst (λ w. w < length task.variables) on (is_variable task t.0.var t.0.after good.valid.value)) at
    from None found None at is = absurd cc
