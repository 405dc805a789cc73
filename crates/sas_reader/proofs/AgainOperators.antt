-- What is written is read again: operators.
use Rattle.std.proofs.Common.{◌≡◌, ℕ, ◌+◌, ◌-◌, ◌^◌, ◌<◌, ◌≤◌, Bool, true, false, not, cond, eqb, ◌&&◌, ◌||◌, List, [], ◌∷◌, ◌++◌, length, map, take, get_or, Option, Some, None, inl, inr, refl, sym, ap, ◌∙◌, subst, append_assoc, arith}
use Rattle.std.specs.Prelude.{codes, filter, is_some, nat_eq, nat_le, IfSome}
use Rattle.std.specs.List.{All, find, list_any, flat_map}
use Rattle.std.specs.Option.{option_map, option_map_or, option_eq}
use Rattle.std.proofs.lemmas.Bool.{cases_Bool, cases_eq, eq-eqb, eqb-true, ne_eqb, le-leb, false≢true}
use Rattle.std.proofs.lemmas.List.{length-map}
use Rattle.std.proofs.lemmas.List.Folds.{flat_map-map}
use Rattle.std.proofs.lemmas.List.Elements.{All-nil, All-cons, All-append, All-map, All-weaker}
use Rattle.sas_task.specs.declared.parts.Pair.{Pair}
use Rattle.sas_task.specs.declared.parts.Effect.{Effect}
use Rattle.sas_task.specs.declared.parts.Operator.{Operator}
use Rattle.sas_task.specs.Output.{Line, numeral, counted, pair_words, pair_lines, prevail, required_value, effect_line, operator_lines, value_in}
use Rattle.sas_task.specs.Output as output
use Rattle.sas_task.specs.Task.{Task}
use Rattle.sas_task.specs.Valid.{IsValue, IsFact, AreConditions, IsValidEffect, layer_of}
use Rattle.sas_reader.specs.Contexts.{is_value}
use Rattle.sas_reader.specs.Forms.{◌>>=◌, ◌>>◌, Form, passing, given, fixed, line, next_line, listed}
use Rattle.sas_reader.specs.Numbers.{number, number_or_none, number_line}
use Rattle.sas_reader.specs.Words.{is_name, less_space}
use Rattle.sas_reader.specs.Operators.{Told, told_before, may_change, name, effect, cost, required_of, required, operator, spared}
use Rattle.sas_reader.specs.Operators as rules
use Rattle.sas_reader.specs.Pairs.{value, effect_conditions, conditions}
use Rattle.sas_reader.specs.Tables.{first_of}
use Rattle.sas_reader.proofs.Again.{Again, again_then, again_next, again_given, again_passing, again_line, again_fixed, again_number, again_listed}
use Rattle.sas_reader.proofs.AgainWords.{AgainWords, words_then, words_passing, words_number, words_number_or_none, NoSpace, numeral_no_space, again_words}
use Rattle.sas_reader.proofs.AgainPairs.{Fits, value_fits, again_value, in_all, same_lines, again_effect_conditions, again_conditions}
use Rattle.sas_reader.proofs.AgainSections.{name_passes}
use Rattle.sas_task.proofs.States.{is_variable}
use Rattle.sas_task.proofs.TextsTellTasks.{find_kept}
use Rattle.lists.proofs.Items.{filter_among, none_passes, map_back}
use Rattle.lists.proofs.Members.{all_from_members, all_front, member_any}
use Rattle.sas_reader.proofs.InTurn.{in_turn, in_turn_rises, in_turn_all, same_in_turn, pairs_in_turn, filter_in_turn}
use Rattle.sas_reader.proofs.Tabled.{any_found}
use Rattle.sas_reader.proofs.ToldEffects.{told_words, told_lines, pair_value, told_value, nothing_found}
use Rattle.std.specs.Cmp.{nat_eq_equiv}
use Rattle.std.specs.Cmp.Lexicographic.{options_equiv}
use Rattle.lists.specs.Names.{IsName}
use Rattle.lists.proofs.Names.{name_parts}

told_map : (g : ℕ → Option ℕ) (es : List Effect) (var : ℕ) → told_before (map (λ e. (e, g e.var)) es) var ≡ cond (list_any (λ e. eqb e.var var) es) (Some (g var)) None
told_map g [] var = refl
told_map g (e ∷ es) var =
    elim (cases_eq e.var var) [
      | inl on ↦
          ap (λ b. option_map (λ (t : Told). t.1) (cond b (Some (e, g e.var)) (find (λ (t : Told). eqb t.0.var var) (map (λ e. (e, g e.var)) es)))) (eq-eqb e.var var on)
          ∙ ap (λ v. Some (g v)) on
          ∙ sym (ap (λ b. cond (b || list_any (λ (e : Effect). eqb e.var var) es) (Some (g var)) None) (eq-eqb e.var var on))
      | inr off ↦
          ap (λ b. option_map (λ (t : Told). t.1) (cond b (Some (e, g e.var)) (find (λ (t : Told). eqb t.0.var var) (map (λ e. (e, g e.var)) es)))) (ne_eqb e.var var off)
          ∙ told_map g es var
          ∙ sym (ap (λ b. cond (b || list_any (λ (e : Effect). eqb e.var var) es) (Some (g var)) None) (ne_eqb e.var var off))
    ]

kept_value : (keep : ℕ → Bool) (ps : List Pair) (var : ℕ) → value_in (filter (λ (p : Pair). keep p.var) ps) var ≡ cond (keep var) (value_in ps var) None
kept_value keep ps var =
    elim (cases_Bool (keep var)) [
      | inl stays ↦
          ap (option_map (λ (p : Pair). p.val)) (find_kept (λ (p : Pair). eqb p.var var) (λ p. keep p.var) ps (λ p on. ap keep (eqb-true p.var var on) ∙ stays))
          ∙ sym (ap (λ b. cond b (value_in ps var) None) stays)
      | inr goes ↦
          ap (option_map (λ (p : Pair). p.val)) (nothing_found (λ (p : Pair). eqb p.var var) (filter (λ p. keep p.var) ps) (none_passes (λ (p : Pair). eqb p.var var) (filter (λ p. keep p.var) ps) (λ p among on.
          false≢true (sym goes ∙ ap keep (sym (eqb-true p.var var on)) ∙ (filter_among (λ (p : Pair). keep p.var) p ps among).1))))
          ∙ sym (ap (λ b. cond b (value_in ps var) None) goes)
    ]

module _ (task : Task) (o : Operator) (are : AreConditions task o.conditions) where
  -- what is required of each variable is what the conditions have
  same_required : (var : ℕ) → required_of (prevail o) (map (λ e. (e, required_value o e.var)) o.effects) var ≡ value_in o.conditions var
  same_required var =
      joined (find (λ p. eqb p.var var) (prevail o)) (told_before (map (λ e. (e, required_value o e.var)) o.effects) var)
      ∙ (λ i. first_of (kept_value (λ v. not (list_any (λ (e : Effect). eqb e.var v) o.effects)) o.conditions var i) (option_map_or (λ r. r) (told_map (required_value o) o.effects var i) None))
      ∙ both (list_any (λ (e : Effect). eqb e.var var) o.effects) (value_in o.conditions var)
    where
      joined : (p : Option Pair) (told : Option (Option ℕ)) → option_map_or (λ (p : Pair). Some p.val) p (option_map_or (λ r. r) told None) ≡ first_of (option_map (λ (p : Pair). p.val) p) (option_map_or (λ r. r) told None)
      joined (Some p) told = refl
      joined None told = refl

      both : (b : Bool) (v : Option ℕ) → first_of (cond (not b) v None) (option_map_or (λ r. r) (cond b (Some v) None) None) ≡ v
      both true v = refl
      both false None = refl
      both false (Some x) = refl

  conditions_in_turn : in_turn (value_in o.conditions) 0 (length task.variables) ≡ o.conditions
  conditions_in_turn =
      pairs_in_turn (length task.variables) 0 o.conditions are.sorted (All-weaker (IsFact task) (λ p. 0 ≤ p.var) (λ p fact. omega arith) o.conditions are.facts)
      (All-weaker (IsFact task) (λ p. p.var < 0 + length task.variables) (λ p fact. let b = is_variable task p.var p.val fact in omega (arith, b)) o.conditions are.facts)

  pub required_again : required (length task.variables) (prevail o) (map (λ e. (e, required_value o e.var)) o.effects) ≡ o.conditions
  required_again = same_in_turn _ (value_in o.conditions) (length task.variables) 0 (λ var from. same_required var) ∙ conditions_in_turn

  prevail_in_turn : prevail o ≡ in_turn (λ v. cond (not (list_any (λ (e : Effect). eqb e.var v) o.effects)) (value_in o.conditions v) None) 0 (length task.variables)
  prevail_in_turn =
      ap (filter (λ (p : Pair). not (list_any (λ (e : Effect). eqb e.var p.var) o.effects))) (sym conditions_in_turn)
      ∙ filter_in_turn (λ v. not (list_any (λ (e : Effect). eqb e.var v) o.effects)) (value_in o.conditions) (length task.variables) 0

  value_is : (var val : ℕ) → value_in o.conditions var ≡ Some val → IsValue task var val
  value_is var val is = pair_value (IsFact task) (IsValue task var) o.conditions var val are.facts (λ p fact on. subst (λ v. IsValue task v p.val) on fact) is

  pub prevail_valid : AreConditions task (prevail o)
  prevail_valid =
      let f : ℕ → Option ℕ = λ v. cond (not (list_any (λ (e : Effect). eqb e.var v) o.effects)) (value_in o.conditions v) None in
      subst (AreConditions task) (sym prevail_in_turn) (record {
        facts = in_turn_all (IsFact task) f (length task.variables) 0 (λ var val is. value_is var val (some (not (list_any (λ (e : Effect). eqb e.var var) o.effects)) (value_in o.conditions var) val is));
        sorted = in_turn_rises f (length task.variables) 0;
      })
    where
      some : (b : Bool) (v : Option ℕ) (val : ℕ) → cond b v None ≡ Some val → v ≡ Some val
      some true v val is = is
      some false v val is = absurd cc

none_no_space : (r : Option ℕ) → NoSpace (output.number_or_none r)
none_no_space None = All-cons (λ b. eqb b 32 ≡ false) 45 (49 ∷ []) refl (All-cons (λ b. eqb b 32 ≡ false) 49 [] refl (All-nil (λ b. eqb b 32 ≡ false)))
none_no_space (Some n) = numeral_no_space n

pairs_no_space : (ps : List Pair) → All NoSpace (flat_map pair_words ps)
pairs_no_space [] = All-nil NoSpace
pairs_no_space (p ∷ ps) = All-cons NoSpace (numeral p.var) (numeral p.val ∷ flat_map pair_words ps) (numeral_no_space p.var) (All-cons NoSpace (numeral p.val) (flat_map pair_words ps) (numeral_no_space p.val) (pairs_no_space ps))

told_no_space : (t : Told) → All NoSpace (flat_map pair_words t.0.conditions ++ numeral t.0.var ∷ output.number_or_none t.1 ∷ numeral t.0.after ∷ [])
told_no_space t =
    All-append NoSpace (flat_map pair_words t.0.conditions) (numeral t.0.var ∷ output.number_or_none t.1 ∷ numeral t.0.after ∷ []) (pairs_no_space t.0.conditions)
    (All-cons NoSpace (numeral t.0.var) (output.number_or_none t.1 ∷ numeral t.0.after ∷ []) (numeral_no_space t.0.var)
    (All-cons NoSpace (output.number_or_none t.1) (numeral t.0.after ∷ []) (none_no_space t.1) (All-cons NoSpace (numeral t.0.after) [] (numeral_no_space t.0.after) (All-nil NoSpace))))

required_small : (task : Task) (var : ℕ) (r : Option ℕ) → Fits task → IfSome r (λ val. IsValue task var val) → IfSome r (λ n. n < 2 ^ 64) × (option_map_or (is_value task var) r true ≡ true)
required_small task var None fits is = (tt, refl)
required_small task var (Some val) fits is = let k = value_fits task var val fits is in (k.1, k.2)

again_required : (task : Task) (var : ℕ) (r : Option ℕ) → Fits task → IfSome r (λ val. IsValue task var val) → AgainWords (rules.required_value task var) r (output.number_or_none r ∷ [])
unfolding rules.required_value
again_required task var r fits is =
    let k = required_small task var r fits is in
    words_then number_or_none (λ q. passing (option_map_or (is_value task var) q true) q) r r (output.number_or_none r ∷ []) [] (words_number_or_none r k.0) (words_passing (option_map_or (is_value task var) r true) r k.1)

-- an effect of the operator beside what is required of its variable
record IsEffectOf (task : Task) (o : Operator) (t : Told) : Type 0 where
  valid : IsValidEffect task t.0
  value : IfSome t.1 (λ val. IsValue task t.0.var val)
  told : t.1 ≡ required_value o t.0.var
  apart : list_any (λ p. eqb p.var t.0.var) (prevail o) ≡ false
  short : length t.0.conditions < 2 ^ 64

told_alike : (o : Operator) (before : List Told) (t : Told) → All (λ s. s.1 ≡ required_value o s.0.var) before → t.1 ≡ required_value o t.0.var → option_map_or (λ b. option_eq nat_eq b t.1) (told_before before t.0.var) true ≡ true
told_alike o before t are is = from (told_before before t.0.var) refl
  where
    from : (b : Option (Option ℕ)) → told_before before t.0.var ≡ b → option_map_or (λ b. option_eq nat_eq b t.1) b true ≡ true
    from None at = refl
    from (Some r) at =
        let same : r ≡ t.1 = told_value (λ s. s.1 ≡ required_value o s.0.var) (λ q. q ≡ required_value o t.0.var) before t.0.var r are (λ s told on. told ∙ ap (required_value o) on) at ∙ sym is in
        ap (λ q. option_eq nat_eq q t.1) same ∙ (options_equiv nat_eq_equiv).refl t.1

again_effect : (task : Task) (o : Operator) (before : List Told) (t : Told) → Fits task → All (IsEffectOf task o) before → IsEffectOf task o t → AgainWords (effect task (prevail o) before) t (told_words t)
unfolding effect
again_effect task o before t fits are good =
    let e = t.0 in
    let made : List Pair → ℕ → Option ℕ → ℕ → Told = λ ps var r val. (record { conditions = ps; var = var; after = val }, r) in
    let test : ℕ → Option ℕ → Bool = λ var r. not (is_some (layer_of task var)) && may_change (prevail o) before var r in
    let last : List Pair → ℕ → Option ℕ → ℕ → Form Told = λ ps var r val. passing (test var r) (made ps var r val) in
    let allowed : may_change (prevail o) before e.var t.1 ≡ true = λ i. not (good.apart i) && told_alike o before t (All-weaker (IsEffectOf task o) (λ s. s.1 ≡ required_value o s.0.var) (λ s g. g.told) before are) good.told i in
    let passes : test e.var t.1 ≡ true = λ i. not (good.valid.basic i) && allowed i in
    words_then (effect_conditions task) (λ ps. number >>= λ var. rules.required_value task var >>= λ r. value task var >>= last ps var r) e.conditions t (numeral (length e.conditions) ∷ flat_map pair_words e.conditions) (numeral e.var ∷ output.number_or_none t.1 ∷ numeral e.after ∷ [])
    (again_effect_conditions task e.conditions fits good.valid.conditions good.short)
    (words_then number (λ var. rules.required_value task var >>= λ r. value task var >>= last e.conditions var r) e.var t (numeral e.var ∷ []) (output.number_or_none t.1 ∷ numeral e.after ∷ []) (words_number e.var (value_fits task e.var e.after fits good.valid.value).0)
    (words_then (rules.required_value task e.var) (λ r. value task e.var >>= last e.conditions e.var r) t.1 t (output.number_or_none t.1 ∷ []) (numeral e.after ∷ []) (again_required task e.var t.1 fits good.value)
    (words_then (value task e.var) (last e.conditions e.var t.1) e.after t (numeral e.after ∷ []) [] (again_value task e.var e.after fits good.valid.value) (words_passing (test e.var t.1) t passes))))

any_itself : (es : List Effect) → All (λ e. list_any (λ (d : Effect). eqb d.var e.var) es ≡ true) es
any_itself es = all_from_members (λ e. list_any (λ (d : Effect). eqb d.var e.var) es ≡ true) es (λ e in'. member_any (λ (d : Effect). eqb d.var e.var) es e in' (eq-eqb e.var e.var refl))

not_prevailing : (o : Operator) (var : ℕ) → list_any (λ (e : Effect). eqb e.var var) o.effects ≡ true → list_any (λ p. eqb p.var var) (prevail o) ≡ false
not_prevailing o var changed =
    any_found (λ (p : Pair). eqb p.var var) (prevail o)
    ∙ none (find (λ p. eqb p.var var) (prevail o)) (kept_value (λ v. not (list_any (λ (e : Effect). eqb e.var v) o.effects)) o.conditions var ∙ ap (λ b. cond (not b) (value_in o.conditions var) None) changed)
  where
    none : (p : Option Pair) → option_map (λ (p : Pair). p.val) p ≡ None → is_some p ≡ false
    none None is = refl
    none (Some p) is = absurd cc

-- what an operator's lists may be
pub record IsShort (o : Operator) : Type 0 where
  pub prevail-short : length (prevail o) < 2 ^ 64
  pub effects-short : length o.effects < 2 ^ 64
  pub conditions-short : All (λ e. length e.conditions < 2 ^ 64) o.effects

required_valid : (task : Task) (o : Operator) (var : ℕ) → AreConditions task o.conditions → IfSome (required_value o var) (λ val. IsValue task var val)
required_valid task o var are = from (required_value o var) refl
  where
    from : (r : Option ℕ) → required_value o var ≡ r → IfSome r (λ val. IsValue task var val)
    from None is = tt
    from (Some val) is = pair_value (IsFact task) (IsValue task var) o.conditions var val are.facts (λ p fact on. subst (λ v. IsValue task v p.val) on fact) is

effects_of : (task : Task) (o : Operator) → AreConditions task o.conditions → All (IsValidEffect task) o.effects → IsShort o → All (IsEffectOf task o) (map (λ e. (e, required_value o e.var)) o.effects)
effects_of task o are valid short =
    All-map (IsEffectOf task o) (λ e. (e, required_value o e.var)) o.effects
    (λ k d within. record {
      valid = valid k d within;
      value = required_valid task o (get_or o.effects k d).var are;
      told = refl;
      apart = not_prevailing o (get_or o.effects k d).var (any_itself o.effects k d within);
      short = short.conditions-short k d within;
    })

-- a name without a space at its end is its own
pub less_is : (n : Line) → IsName n → less_space n ≡ n
less_is n is = ap (λ b. cond b (take (length n - 1) n) n) (ne_eqb (get_or n (length n - 1) 0) 32 (name_parts n is).last)

again_name : (written : Line) → IsName (less_space written) → Again name (less_space written) (written ∷ [])
unfolding name
again_name written is =
    again_then next_line (λ l. passing (is_name (less_space l)) (less_space l)) written (less_space written) (written ∷ []) [] (again_line written)
    (again_passing (is_name (less_space written)) (less_space written) (name_passes (less_space written) is))

again_cost : (metric : Bool) (c : ℕ) → c ≤ 2147483647 → (metric ≡ false → c ≡ 1) → Again (cost metric) c (numeral c ∷ [])
unfolding cost
again_cost metric c small unit =
    again_then number_line (λ n. passing (nat_le n 2147483647 && (metric || eqb n 1)) n) c c (numeral c ∷ []) [] (again_number c (omega (arith, small)))
    (again_passing (nat_le c 2147483647 && (metric || eqb c 1)) c (λ i. le-leb c 2147483647 small i && fits metric unit i))
  where
    fits : (m : Bool) → (m ≡ false → c ≡ 1) → (m || eqb c 1) ≡ true
    fits true unit = refl
    fits false unit = eq-eqb c 1 (unit refl)

pub again_operator : (metric : Bool) (task : Task) (o : Operator) → Fits task → IsName (less_space o.name) → AreConditions task o.conditions → All (IsValidEffect task) o.effects → o.cost ≤ 2147483647 → (metric ≡ false → o.cost ≡ 1) → IsShort o → Again (operator metric task) (spared o) (operator_lines o)
unfolding operator
again_operator metric task o fits named are valid small unit short =
    let n = length task.variables in
    let ps = prevail o in
    let called : Line = less_space o.name in
    let own : Operator = spared o in
    let told : List Told = map (λ e. (e, required_value o e.var)) o.effects in
    let made : Line → List Pair → List Told → ℕ → Operator = λ name pairs told cost. record { name = name; conditions = required n pairs told; effects = map (λ (t : Told). t.0) told; cost = cost } in
    let last : Line → List Pair → List Told → ℕ → Form Operator = λ name pairs told cost. fixed (codes "end_operator") >> given (made name pairs told cost) in
    let costed : Line → List Pair → List Told → Form Operator = λ name pairs told. cost metric >>= last name pairs told in
    let items : List Pair → ℕ → Form (List Told) = λ pairs count. listed (λ earlier. line (effect task pairs earlier)) count [] in
    let counted-items : Line → List Pair → Form Operator = λ name pairs. number_line >>= λ count. items pairs count >>= costed name pairs in
    let es-lines : List Line = flat_map (λ e. effect_line o e ∷ []) o.effects in
    let tail-lines : List Line = numeral (length o.effects) ∷ (es-lines ++ numeral o.cost ∷ codes "end_operator" ∷ []) in
    let count : length told ≡ length o.effects = length-map o.effects (λ e. (e, required_value o e.var)) in
    let is : made called ps told o.cost ≡ own = λ i. record { name = called; conditions = required_again task o are i; effects = map_back (λ (e : Effect). (e, required_value o e.var)) (λ (t : Told). t.0) (λ e. refl) o.effects i; cost = o.cost } in
    let good = effects_of task o are valid short in
    let read-items : Again (items ps (length o.effects)) told es-lines =
    subst (λ k. Again (items ps k) told es-lines) count
    (subst (Again (items ps (length told)) told) (same_lines told_lines [] told ∙ flat_map-map told_lines (λ e. (e, required_value o e.var)) o.effects)
    (again_listed (λ earlier. line (effect task ps earlier)) (λ _. told_lines) told
    (λ before t more at. again_words (effect task ps before) t (numeral (length t.0.conditions)) (flat_map pair_words t.0.conditions ++ numeral t.0.var ∷ output.number_or_none t.1 ∷ numeral t.0.after ∷ []) (numeral_no_space (length t.0.conditions)) (told_no_space t)
    (again_effect task o before t fits (all_front (IsEffectOf task o) before (t ∷ more) (subst (All (IsEffectOf task o)) (sym at) good)) (in_all (IsEffectOf task o) before t more told at good))) told [] refl)) in
    let read-end : Again (last called ps told o.cost) own (codes "end_operator" ∷ []) = again_next (fixed (codes "end_operator")) (given (made called ps told o.cost)) tt own (codes "end_operator" ∷ []) [] (again_fixed (codes "end_operator")) (subst (λ w. Again (given (made called ps told o.cost)) w []) is (again_given (made called ps told o.cost))) in
    let read-cost : Again (costed called ps told) own (numeral o.cost ∷ codes "end_operator" ∷ []) = again_then (cost metric) (last called ps told) o.cost own (numeral o.cost ∷ []) (codes "end_operator" ∷ []) (again_cost metric o.cost small unit) read-end in
    let read-effects : Again (items ps (length o.effects) >>= costed called ps) own (es-lines ++ numeral o.cost ∷ codes "end_operator" ∷ []) = again_then (items ps (length o.effects)) (costed called ps) told own es-lines (numeral o.cost ∷ codes "end_operator" ∷ []) read-items read-cost in
    let read-count : Again (counted-items called ps) own tail-lines = again_then number_line (λ count. items ps count >>= costed called ps) (length o.effects) own (numeral (length o.effects) ∷ []) (es-lines ++ numeral o.cost ∷ codes "end_operator" ∷ []) (again_number (length o.effects) short.effects-short) read-effects in
    let read-prevail : Again (conditions task >>= counted-items called) own (counted pair_lines ps ++ tail-lines) = again_then (conditions task) (counted-items called) ps own (counted pair_lines ps) tail-lines (again_conditions task ps fits (prevail_valid task o are) short.prevail-short) read-count in
    let all : Again (operator metric task) own (codes "begin_operator" ∷ o.name ∷ (counted pair_lines ps ++ tail-lines)) =
    again_then (fixed (codes "begin_operator") >> name) (λ name. conditions task >>= counted-items name) called own (codes "begin_operator" ∷ o.name ∷ []) (counted pair_lines ps ++ tail-lines)
    (again_next (fixed (codes "begin_operator")) name tt called (codes "begin_operator" ∷ []) (o.name ∷ []) (again_fixed (codes "begin_operator")) (again_name o.name named)) read-prevail in
    subst (Again (operator metric task) own) (ap (λ l. codes "begin_operator" ∷ o.name ∷ l) (regroup (counted pair_lines ps) (numeral (length o.effects) ∷ es-lines) (numeral o.cost) (codes "end_operator"))) all
  where
    regroup : (a b : List Line) (c d : Line) → a ++ (b ++ c ∷ d ∷ []) ≡ (a ++ b ++ c ∷ []) ++ d ∷ []
    regroup a b c d = sym (append_assoc (a ++ b) (c ∷ []) (d ∷ []) ∙ append_assoc a b (c ∷ d ∷ []))
