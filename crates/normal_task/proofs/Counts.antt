-- A condition has as many parts as its size says, and so has each quantifier that is replaced.
use Rattle.std.proofs.Common.{◌≡◌, ℕ, suc, ◌+◌, ◌*◌, Bool, true, false, not, List, [], ◌∷◌, ◌++◌, map, length, sum, refl, sym, ap, ◌∙◌, arith}
use Rattle.std.specs.List.{flat_map, fold, AllZip}
use Rattle.pddl_lexer.specs.declared.position.At.{At}
use Rattle.pddl_syntax.specs.declared.types.Condition.{Condition, Condition-F}
use Rattle.pddl_syntax.specs.declared.types.Domain.{Domain}
use Rattle.pddl_syntax.specs.declared.types.Problem.{Problem}
use Rattle.pddl_syntax.specs.declared.types.Typed.{Typed}
use Rattle.pddl_syntax.proofs.ConditionCases.{Each}
use Rattle.fault_positions.specs.Sizes as sizes
use Rattle.fault_positions.specs.Sizes.{Size, size_step, size_of}
use Rattle.normal_task.specs.Numbers.{ranges_of}
use Rattle.normal_task.specs.Parts.{Scope, Part, Fresh, Made, in_turn, all_of, joined, paired, with_variables, Known, scope_inside, renumbered, free_slots, exists_inside, none_inside, known_step, known}
use Rattle.normal_task.proofs.Scopes.{length-append, length-map, map-append}
use Rattle.normal_task.proofs.ThreeFolds.{by_folds}

sum-from : (a : ℕ) (xs : List ℕ) → fold (λ (s x : ℕ). s + x) a xs ≡ a + sum xs
sum-from a [] = omega arith
sum-from a (x ∷ xs) = sum-from (a + x) xs ∙ (let start = sum-from (0 + x) xs in omega (arith, start))

sum-cons : (x : ℕ) (xs : List ℕ) → sum (x ∷ xs) ≡ x + sum xs
sum-cons x xs = sum-from (0 + x) xs ∙ omega arith

-- the numbers of parts of the new predicates
abbrev pub counts : List Fresh → List ℕ
counts fresh = map (λ (f : Fresh). length f.parts) fresh

abbrev pub replaced_counts : Size → List ℕ
replaced_counts size = map (λ (cut : sizes.Cut). cut.parts) size.replaced

-- so many parts are made, and the new predicates have so many
pub record Counts (made : Made Part) (size : Size) : Type 0 where
  pub parts : length made.items ≡ size.parts
  pub fresh : counts made.fresh ≡ replaced_counts size

paired-count : (around : ℕ) (firsts seconds : List Part) → length (paired around firsts seconds) ≡ length firsts * length seconds
paired-count around [] seconds = omega arith
paired-count around (first ∷ firsts) seconds =
    length-append (map (joined around first) seconds) (paired around firsts seconds)
    ∙ ap (λ (n : ℕ). n + length (paired around firsts seconds)) (length-map (joined around first) seconds)
    ∙ ap (λ (n : ℕ). length seconds + n) (paired-count around firsts seconds)
    ∙ grind arith

module _ (around : ℕ) where
  -- what is made has these sizes, wherever its numbers begin
  abbrev EachCounts : List (ℕ → Made Part) → List Size → Type 0
  EachCounts = AllZip (λ make size. (next : ℕ) → Counts (make next) size)

  fresh-count : (first rest : List Fresh) (one : Size) (replaced : List sizes.Cut) → counts first ≡ replaced_counts one → counts rest ≡ map (λ (cut : sizes.Cut). cut.parts) replaced → counts (first ++ rest) ≡ map (λ (cut : sizes.Cut). cut.parts) (one.replaced ++ replaced)
  fresh-count first rest one replaced here there =
      map-append (λ (f : Fresh). length f.parts) first rest
      ∙ ap (λ (l : List ℕ). l ++ counts rest) here
      ∙ ap (λ (l : List ℕ). replaced_counts one ++ l) there
      ∙ sym (map-append (λ (cut : sizes.Cut). cut.parts) one.replaced replaced)

  turn-counts : (makes : List (ℕ → Made Part)) (list : List Size) → EachCounts makes list → (next : ℕ) → Counts (in_turn makes next) (sizes.listed list)
  turn-counts [] [] each next = record { parts = refl; fresh = refl }
  turn-counts [] (size ∷ more) each next = absurd each
  turn-counts (make ∷ makes) [] each next = absurd each
  turn-counts (make ∷ makes) (size ∷ more) each next =
      let here = each.0 next in
      let rest = turn-counts makes more each.1 (next + length (make next).fresh) in
      record {
        parts = length-append (make next).items (in_turn makes (next + length (make next).fresh)).items ∙ ap (λ (n : ℕ). n + length (in_turn makes (next + length (make next).fresh)).items) here.parts ∙ ap (λ (n : ℕ). size.parts + n) rest.parts ∙ sym (sum-cons size.parts (map (λ size. size.parts) more));
        fresh = fresh-count (make next).fresh (in_turn makes (next + length (make next).fresh)).fresh size (flat_map (λ size. size.replaced) more) here.fresh rest.fresh;
      }

  pairing-counts : (makes : List (ℕ → Made Part)) (list : List Size) → EachCounts makes list → (next : ℕ) → Counts (all_of around makes next) (sizes.paired list)
  pairing-counts [] [] each next = record { parts = refl; fresh = refl }
  pairing-counts [] (size ∷ more) each next = absurd each
  pairing-counts (make ∷ makes) [] each next = absurd each
  pairing-counts (make ∷ makes) (size ∷ more) each next =
      let here = each.0 next in
      let rest = pairing-counts makes more each.1 (next + length (make next).fresh) in
      record {
        parts =
            paired-count around (make next).items (all_of around makes (next + length (make next).fresh)).items ∙ ap (λ (n : ℕ). n * length (all_of around makes (next + length (make next).fresh)).items) here.parts
            ∙ ap (λ (n : ℕ). size.parts * n) rest.parts;
        fresh = fresh-count (make next).fresh (all_of around makes (next + length (make next).fresh)).fresh size (flat_map (λ size. size.replaced) more) here.fresh rest.fresh;
      }

module _ (domain : Domain) (problem : Problem) where
  abbrev Counted : Known → (Bool → Size) → Unit {0} → Type 0
  Counted k size unused = (positive : Bool) (scope : Scope) (around next : ℕ) → Counts (k.cut positive scope around next) (size positive)

  abbrev AsCounted : Condition → Type 0
  AsCounted condition = Counted (known domain problem condition) (size_of condition) tt

  members-counts : (positive : Bool) (scope : Scope) (around : ℕ) (members : List Condition) → Each AsCounted members →
      EachCounts around (map (λ member. member.cut positive scope around) (map (known domain problem) members)) (map (λ (member : Bool → Size). member positive) (map size_of members))
  members-counts positive scope around [] each = tt
  members-counts positive scope around (member ∷ members) each = (each.0 positive scope around, members-counts positive scope around members each.1)

  exists-counts : (variables : List Typed) (k : Known) (size : Bool → Size) → Counted k size tt → Counted (record { is_free = k.is_free; cut = exists_inside domain problem variables k }) size tt
  exists-counts variables k size held positive scope around next =
      let inside = scope_inside domain problem variables around scope in
      let inner = held positive inside (around + length variables) next in
      record { parts = length-map (with_variables (ranges_of domain problem variables)) (k.cut positive inside (around + length variables) next).items ∙ inner.parts; fresh = inner.fresh }

  none-counts : (variables : List Typed) (k : Known) (size : Bool → Size) (at : At) → Counted k size tt → (positive : Bool) (scope : Scope) (around next : ℕ) → Counts (none_inside domain problem variables k positive scope around next) (sizes.replaced_by (size positive) at)
  none-counts variables k size at held positive scope around next =
      let arguments = free_slots domain problem variables k scope in
      let inner = exists-counts variables k size held positive (renumbered arguments 0 []) (length arguments) (suc next) in
      let made = exists_inside domain problem variables k positive (renumbered arguments 0 []) (length arguments) (suc next) in
      record {
        parts = refl;
        fresh = ap (λ (n : ℕ). n ∷ counts made.fresh) inner.parts ∙ ap (λ (l : List ℕ). (size positive).parts ∷ l) inner.fresh;
      }

  -- the number of a condition's parts is the one that is bounded
  pub condition-counts : (condition : Condition) → AsCounted condition
  condition-counts = by_folds Known (Bool → Size) (Unit {0}) (known_step domain problem) size_step (λ layer. tt) Counted record {
    at_true = at_truth;
    at_atom = λ atom positive scope around next. record { parts = refl; fresh = refl };
    at_equal = λ left right at positive scope around next. record { parts = refl; fresh = refl };
    at_not = λ inside at held positive scope around next. held (not positive) scope around next;
    at_and = at_conjunction;
    at_or = at_disjunction;
    at_imply = at_implication;
    at_forall = at_universal;
    at_exists = at_existential;
  }
    where
      at_truth : (at : At) → Counted (known_step domain problem (Condition-F.True at)) (size_step (Condition-F.True at)) tt
      at_truth at true scope around next = record { parts = refl; fresh = refl }
      at_truth at false scope around next = record { parts = refl; fresh = refl }

      at_conjunction : (members : List Condition) (at : At) → Each AsCounted members → Counted (known_step domain problem (Condition-F.And (map (known domain problem) members) at)) (size_step (Condition-F.And (map size_of members) at)) tt
      at_conjunction members at each true scope around next = pairing-counts around (map (λ member. member.cut true scope around) (map (known domain problem) members)) (map (λ (member : Bool → Size). member true) (map size_of members)) (members-counts true scope around members each) next
      at_conjunction members at each false scope around next = turn-counts around (map (λ member. member.cut false scope around) (map (known domain problem) members)) (map (λ (member : Bool → Size). member false) (map size_of members)) (members-counts false scope around members each) next

      at_disjunction : (members : List Condition) (at : At) → Each AsCounted members → Counted (known_step domain problem (Condition-F.Or (map (known domain problem) members) at)) (size_step (Condition-F.Or (map size_of members) at)) tt
      at_disjunction members at each true scope around next = turn-counts around (map (λ member. member.cut true scope around) (map (known domain problem) members)) (map (λ (member : Bool → Size). member true) (map size_of members)) (members-counts true scope around members each) next
      at_disjunction members at each false scope around next = pairing-counts around (map (λ member. member.cut false scope around) (map (known domain problem) members)) (map (λ (member : Bool → Size). member false) (map size_of members)) (members-counts false scope around members each) next

      at_implication : (premise conclusion : Condition) (at : At) → AsCounted premise → AsCounted conclusion →
          Counted (known_step domain problem (Condition-F.Imply (known domain problem premise) (known domain problem conclusion) at)) (size_step (Condition-F.Imply (size_of premise) (size_of conclusion) at)) tt
      at_implication premise conclusion at held later true scope around next = turn-counts around ((known domain problem premise).cut false scope around ∷ (known domain problem conclusion).cut true scope around ∷ []) (size_of premise false ∷ size_of conclusion true ∷ []) (held false scope around, (later true scope around, tt)) next
      at_implication premise conclusion at held later false scope around next = pairing-counts around ((known domain problem premise).cut true scope around ∷ (known domain problem conclusion).cut false scope around ∷ []) (size_of premise true ∷ size_of conclusion false ∷ []) (held true scope around, (later false scope around, tt)) next

      at_universal : (variables : List Typed) (inside : Condition) (at : At) → AsCounted inside → Counted (known_step domain problem (Condition-F.Forall variables (known domain problem inside) at)) (size_step (Condition-F.Forall variables (size_of inside) at)) tt
      at_universal variables inside at held true scope around next = none-counts variables (known domain problem inside) (size_of inside) at held false scope around next
      at_universal variables inside at held false scope around next = exists-counts variables (known domain problem inside) (size_of inside) held false scope around next

      at_existential : (variables : List Typed) (inside : Condition) (at : At) → AsCounted inside → Counted (known_step domain problem (Condition-F.Exists variables (known domain problem inside) at)) (size_step (Condition-F.Exists variables (size_of inside) at)) tt
      at_existential variables inside at held true scope around next = exists-counts variables (known domain problem inside) (size_of inside) held true scope around next
      at_existential variables inside at held false scope around next = none-counts variables (known domain problem inside) (size_of inside) at held true scope around next
