-- What is written is read again: rules.
use Rattle.std.proofs.Common.{◌≡◌, ℕ, ◌^◌, ◌<◌, true, false, not, cond, eqb, ltb, ◌&&◌, List, [], ◌∷◌, length, Option, Some, None, inl, inr, refl, sym, ap, ◌∙◌, subst, append_assoc}
use Rattle.std.specs.Prelude.{codes, IfSome, IsSomeAnd}
use Rattle.std.specs.List.{All, find, list_all}
use Rattle.std.specs.Option.{option_map_or}
use Rattle.std.proofs.lemmas.Bool.{cases_eq, eq-eqb, ne_eqb, lt-ltb}
use Rattle.std.proofs.lemmas.List.Elements.{All-nil, All-cons, All-head, All-tail, All-contains}
use Rattle.sas_task.specs.declared.parts.Pair.{Pair}
use Rattle.sas_task.specs.declared.parts.Variable.{Variable}
use Rattle.sas_task.specs.declared.parts.Rule.{Rule}
use Rattle.sas_task.specs.Output.{Line, numeral, counted, pair_lines, rule_line, rule_lines}
use Rattle.sas_task.specs.Task.{Task}
use Rattle.sas_task.specs.Valid.{IsValidRule, IsBelow, SetAlike, layer_of, default_of}
use Rattle.sas_reader.specs.Contexts.{so_far, is_below}
use Rattle.sas_reader.specs.Forms.{◌>>=◌, ◌>>◌, Form, passing, given, fixed, line}
use Rattle.sas_reader.specs.Numbers.{number}
use Rattle.sas_reader.specs.Pairs.{value, conditions}
use Rattle.sas_reader.specs.Rules.{may_set, change, rule}
use Rattle.lists.proofs.Members.{each_passes}
use Rattle.sas_reader.proofs.Again.{Again, again_then, again_next, again_given, again_fixed}
use Rattle.sas_reader.proofs.AgainWords.{AgainWords, words_then, words_passing, words_number, NoSpace, numeral_no_space, again_words}
use Rattle.sas_reader.proofs.AgainPairs.{Fits, value_fits, again_value, again_conditions}

below_test : (task : Task) (var : ℕ) (p : Pair) → IsBelow task var p → is_below task var p ≡ true
below_test task var p is = from (layer_of task p.var) (layer_of task var) is
  where
    from : (low high : Option ℕ) → IfSome low (λ low. IsSomeAnd high (λ high. low < high)) → option_map_or (λ low. option_map_or (λ high. ltb low high) high false) low true ≡ true
    from None high is = refl
    from (Some low) (Some high) is = lt-ltb low high is
    from (Some low) None is = absurd is

all_below_test : (task : Task) (var : ℕ) (ps : List Pair) → All (IsBelow task var) ps → list_all (is_below task var) ps ≡ true
all_below_test task var ps are = each_passes (is_below task var) ps (λ p in'. below_test task var p (All-contains (IsBelow task var) ps p are in'))

-- what the earlier rules for the variable set it to
alike_test : (before : List Rule) (r : Rule) → All (λ s. SetAlike s r) before → option_map_or (λ (same : Rule). eqb same.after r.after) (find (λ same. eqb same.var r.var) before) true ≡ true
alike_test [] r alike = refl
alike_test (s ∷ before) r alike =
    elim (cases_eq s.var r.var) [
      | inl on ↦
          ap (λ b. option_map_or (λ (same : Rule). eqb same.after r.after) (cond b (Some s) (find (λ same. eqb same.var r.var) before)) true) (eq-eqb s.var r.var on)
          ∙ eq-eqb s.after r.after (All-head (λ s. SetAlike s r) s before alike on)
      | inr off ↦
          ap (λ b. option_map_or (λ (same : Rule). eqb same.after r.after) (cond b (Some s) (find (λ same. eqb same.var r.var) before)) true) (ne_eqb s.var r.var off)
          ∙ alike_test before r (All-tail (λ s. SetAlike s r) s before alike)
    ]

pub may_set_test : (task : Task) (before : List Rule) (r : Rule) → IsValidRule task r → All (λ s. SetAlike s r) before → may_set task before r ≡ true
may_set_test task before r valid alike =
    λ i. (((valid.derived i && all_below_test task r.var r.conditions valid.below i) && eq-eqb r.before (default_of task r.var) valid.default i) && not (ne_eqb r.before r.after valid.changes i)) && alike_test before r alike i

again_change : (variables : List Variable) (state : List ℕ) (before : List Rule) (r : Rule) → Fits (so_far variables []) → IsValidRule (so_far variables state) r → r.before < 2 ^ 64 → All (λ s. SetAlike s r) before
    → AgainWords (change variables state before r.conditions) r (numeral r.var ∷ numeral r.before ∷ numeral r.after ∷ [])
unfolding change
again_change variables state before r fits valid small alike =
    let task = so_far variables state in
    let made : ℕ → ℕ → ℕ → Rule = λ var old after. record { conditions = r.conditions; var = var; before = old; after = after } in
    let last : ℕ → ℕ → ℕ → Form Rule = λ var old after. passing (may_set task before (made var old after)) (made var old after) in
    let k = value_fits (so_far variables []) r.var r.after fits valid.value in
    words_then number (λ var. number >>= λ old. value (so_far variables []) var >>= last var old) r.var r (numeral r.var ∷ []) (numeral r.before ∷ numeral r.after ∷ []) (words_number r.var k.0)
    (words_then number (λ old. value (so_far variables []) r.var >>= last r.var old) r.before r (numeral r.before ∷ []) (numeral r.after ∷ []) (words_number r.before small)
    (words_then (value (so_far variables []) r.var) (last r.var r.before) r.after r (numeral r.after ∷ []) [] (again_value (so_far variables []) r.var r.after fits valid.value)
    (words_passing (may_set task before r) r (may_set_test task before r valid alike))))

pub again_rule : (variables : List Variable) (state : List ℕ) (before : List Rule) (r : Rule) → Fits (so_far variables []) → IsValidRule (so_far variables state) r → r.before < 2 ^ 64 → length r.conditions < 2 ^ 64 → All (λ s. SetAlike s r) before
    → Again (rule variables state before) r (rule_lines r)
unfolding rule
again_rule variables state before r fits valid small short alike =
    let last : Rule → Form Rule = λ r. fixed (codes "end_rule") >> given r in
    let words : List Line = numeral r.before ∷ numeral r.after ∷ [] in
    let nospace : All NoSpace words = All-cons NoSpace (numeral r.before) (numeral r.after ∷ []) (numeral_no_space r.before) (All-cons NoSpace (numeral r.after) [] (numeral_no_space r.after) (All-nil NoSpace)) in
    let body : Again (line (change variables state before r.conditions) >>= last) r (rule_line r ∷ codes "end_rule" ∷ []) =
    again_then (line (change variables state before r.conditions)) last r r (rule_line r ∷ []) (codes "end_rule" ∷ [])
    (again_words (change variables state before r.conditions) r (numeral r.var) words (numeral_no_space r.var) nospace (again_change variables state before r fits valid small alike))
    (again_next (fixed (codes "end_rule")) (given r) tt r (codes "end_rule" ∷ []) [] (again_fixed (codes "end_rule")) (again_given r)) in
    let conds : Again (conditions (so_far variables [])) r.conditions (counted pair_lines r.conditions) = again_conditions (so_far variables []) r.conditions fits (record { facts = valid.conditions.facts; sorted = valid.conditions.sorted }) short in
    subst (Again (rule variables state before) r) (ap (λ l. codes "begin_rule" ∷ l) (sym (append_assoc (counted pair_lines r.conditions) (rule_line r ∷ []) (codes "end_rule" ∷ []))))
    (again_then (fixed (codes "begin_rule") >> conditions (so_far variables [])) (λ pairs. line (change variables state before pairs) >>= last) r.conditions r (codes "begin_rule" ∷ counted pair_lines r.conditions) (rule_line r ∷ codes "end_rule" ∷ [])
    (again_next (fixed (codes "begin_rule")) (conditions (so_far variables [])) tt r.conditions (codes "begin_rule" ∷ []) (counted pair_lines r.conditions) (again_fixed (codes "begin_rule")) conds) body)
