-- A loop over the members of a list beside the reading of them all: what was read so far, and then the rest, stays the same.
use Rattle.std.proofs.Common.{◌≡◌, ◌<◌, ◌≤◌, true, false, List, [], ◌∷◌, ◌++◌, Ok, Err, refl, sym, ap, ◌∙◌, arith}
use Rattle.std.proofs.lemmas.List.{append_assoc, append-nil}
use Rattle.pddl_lexer.specs.Members.{Members, NoMore, WordThen, ListThen, is_empty, is_list, position, word, inside, rest, count}
use Rattle.pddl_lexer.specs.declared.fault.Fault.{Fault}
use Rattle.lists.specs.declared.stop.Stop.{Stop}
use Rattle.lists.specs.declared.stop.Stop.TheVariants as stops
use Rattle.pddl_syntax.specs.Outcome.{Reading, Reads, Faults, both, every, at_each, Outcome, first}

-- what stands there, by the tests that the code makes

pub none_left : (m : Members) → is_empty m ≡ true → m ≡ NoMore
none_left NoMore none = refl
none_left (WordThen at bytes more) none = absurd cc
none_left (ListThen at inner more) none = absurd cc

pub word_then : (m : Members) → is_empty m ≡ false → is_list m ≡ false → m ≡ WordThen (position m) (word m) (rest m)
word_then NoMore some plain = absurd cc
word_then (WordThen at bytes more) some plain = refl
word_then (ListThen at inner more) some plain = absurd cc

pub list_then : (m : Members) → is_list m ≡ true → m ≡ ListThen (position m) (inside m) (rest m)
list_then NoMore listed = absurd cc
list_then (WordThen at bytes more) listed = absurd cc
list_then (ListThen at inner more) listed = refl

pub fewer : (m : Members) → is_empty m ≡ false → count (rest m) < count m
fewer NoMore some = absurd cc
fewer (WordThen at bytes more) some = omega arith
fewer (ListThen at inner more) some = omega arith

pub rest_at_most : (m : Members) → count (rest m) ≤ count m
rest_at_most NoMore = omega arith
rest_at_most (WordThen at bytes more) = omega arith
rest_at_most (ListThen at inner more) = omega arith

pub fewer_after_two : (m : Members) → is_empty m ≡ false → count (rest (rest m)) < count m
fewer_after_two m some = omega (arith, fewer m some, rest_at_most (rest m))

module _ {A : Type 0} (rule : Members → A) where
  pub each_turn : (xs : List A) (m : Members) → is_empty m ≡ false → (xs ++ rule m ∷ []) ++ at_each rule (rest m) ≡ xs ++ at_each rule m
  each_turn xs NoMore some = absurd cc
  each_turn xs (WordThen at bytes more) some = append_assoc xs (rule (WordThen at bytes more) ∷ []) (at_each rule more)
  each_turn xs (ListThen at inner more) some = append_assoc xs (rule (ListThen at inner more) ∷ []) (at_each rule more)

  pub each_ended : (xs : List A) (m : Members) → is_empty m ≡ true → xs ++ at_each rule m ≡ xs
  each_ended xs m none = rw (none_left m none) (append-nil xs)

-- ---- readings, a member at a time

-- what was read before, and then the rest
abbrev pub after : {A : Type 0} → List A → Reading (List A) → Outcome (List A)
after xs (Reads ys) = Ok (xs ++ ys)
after xs (Faults fault more) = Err (stops.Fault fault)

module _ {A : Type 0} where
  pub after_both : (xs : List A) (x : A) (one : Reading A) (more : Reading (List A)) → first one ≡ Ok x →
      after (xs ++ x ∷ []) more ≡ after xs (both (λ y ys. y ∷ ys) one more)
  after_both xs x (Reads y) (Reads ys) read =
      let same : x ≡ y = cc in
      ap (λ (zs : List A). Ok zs) (append_assoc xs (x ∷ []) ys) ∙ ap (λ (z : A). Ok (xs ++ z ∷ ys)) same
  after_both xs x (Reads y) (Faults fault more) read = refl
  after_both xs x (Faults fault others) (Reads ys) read = absurd cc
  after_both xs x (Faults fault others) (Faults other more) read = absurd cc

  same_end : (fault : Fault) (e : Stop Fault) → ◌≡◌ {A = Outcome A} (Err (stops.Fault fault)) (Err e) → ◌≡◌ {A = Outcome (List A)} (Err (stops.Fault fault)) (Err e)
  same_end fault e read = let same : stops.Fault fault ≡ e = cc in ap (λ (x : Stop Fault). Err x) same

  pub after_fails : (xs : List A) (e : Stop Fault) (one : Reading A) (more : Reading (List A)) → first one ≡ Err e →
      after xs (both (λ y ys. y ∷ ys) one more) ≡ Err e
  after_fails xs e (Reads y) more read = absurd cc
  after_fails xs e (Faults fault others) (Reads ys) read = same_end fault e read
  after_fails xs e (Faults fault others) (Faults other more) read = same_end fault e read

module _ {A : Type 0} (rule : Members → Reading A) where
  every_first : (m : Members) → is_empty m ≡ false → every rule m ≡ both (λ x xs. x ∷ xs) (rule m) (every rule (rest m))
  every_first NoMore some = absurd cc
  every_first (WordThen at bytes more) some = refl
  every_first (ListThen at inner more) some = refl

  every_none : (m : Members) → is_empty m ≡ true → every rule m ≡ Reads []
  every_none m none = rw (none_left m none) refl

  pub turn : (xs : List A) (x : A) (m : Members) → is_empty m ≡ false → first (rule m) ≡ Ok x → after (xs ++ x ∷ []) (every rule (rest m)) ≡ after xs (every rule m)
  turn xs x m some read = after_both xs x (rule m) (every rule (rest m)) read ∙ ap (after xs) (sym (every_first m some))

  pub fails : (xs : List A) (e : Stop Fault) (m : Members) → is_empty m ≡ false → first (rule m) ≡ Err e → after xs (every rule m) ≡ Err e
  fails xs e m some read = ap (after xs) (every_first m some) ∙ after_fails xs e (rule m) (every rule (rest m)) read

  pub ended : (xs : List A) (m : Members) → is_empty m ≡ true → after xs (every rule m) ≡ Ok xs
  ended xs m none = ap (after xs) (every_none m none) ∙ ap (λ (zs : List A). Ok zs) (append-nil xs)

pub begun : {A : Type 0} (reading : Reading (List A)) → after [] reading ≡ first reading
begun (Reads xs) = refl
begun (Faults fault more) = refl
