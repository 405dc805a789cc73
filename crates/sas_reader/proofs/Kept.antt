-- What a form that reads something tells: one form after another, and the lines and words that were read.
use Rattle.std.proofs.Common.{◌≡◌, ℕ, zero, suc, ◌+◌, Bool, true, false, List, [], ◌∷◌, ◌++◌, length, Option, Some, None, Ok, Err, refl, sym, ap, ◌∙◌, subst, append_assoc, arith, length-append}
use Rattle.sas_task.specs.Output.{Line}
use Rattle.sas_reader.specs.Forms.{◌>>=◌, Unread, Reading, Form, followed, passing, met, next_line, line_of, word, word_of, end_words, no_word, listed}

abbrev read : {A : Type 0} → A → Unread → Reading A
read x now = Ok (x, now)

pub read_same : {A : Type 0} (x y : A) (now after : Unread) → read x now ≡ read y after → (x ≡ y) × (now ≡ after)
read_same {A} x y now after e =
    let p : A × Unread = (x, now) in
    let q : A × Unread = (y, after) in
    let same : p ≡ q = cc in
    (ap (λ r. r.0) same, ap (λ r. r.1) same)

-- the first of two forms has read something too
pub parts : {A B : Type 0} (r : Reading A) (more : A → Form B) (y : B) (after : Unread) → followed r more ≡ Ok (y, after) → (x : A) × (now : Unread) × (r ≡ Ok (x, now)) × (more x now ≡ Ok (y, after))
parts (Ok x) more y after e = (x.0, x.1, refl, e)
parts (Err fault) more y after e = absurd cc

pub passed : {A : Type 0} (test : Bool) (x y : A) (now after : Unread) → passing test x now ≡ Ok (y, after) → (test ≡ true) × (x ≡ y) × (now ≡ after)
passed true x y now after e = let same = read_same x y now after e in (refl, same.0, same.1)
passed false x y now after e = absurd cc

-- what a form reads with a test behind it, it reads alone, and the test passes
pub checked : {A : Type 0} (form : Form A) (test : A → Bool) (now : Unread) (x : A) (after : Unread) → (form >>= λ x. passing (test x) x) now ≡ Ok (x, after) → (form now ≡ Ok (x, after)) × (test x ≡ true)
checked form test now x after e =
    let p = parts (form now) (λ x. passing (test x) x) x after e in
    let q = passed (test p.0) p.0 x p.1 after p.3 in
    (p.2 ∙ (λ i. Ok (q.1 i, q.2 i)), subst (λ y. test y ≡ true) q.1 q.0)

pub was_met : {A : Type 0} (o : Option A) (y : A) (now after : Unread) → met o now ≡ Ok (y, after) → (o ≡ Some y) × (now ≡ after)
was_met (Some x) y now after e = let same = read_same x y now after e in (ap Some same.0, same.1)
was_met None y now after e = absurd cc

-- these lines were read
abbrev pub TakesLines : Unread → List Line → Unread → Type 0
TakesLines now lines after = now.pieces ≡ lines ++ after.pieces

-- these words were read, and no line
abbrev pub TakesWords : Unread → List Line → Unread → Type 0
TakesWords now words after = (now.words ≡ words ++ after.words) × (now.pieces ≡ after.pieces)

pub then_lines : (a b c : Unread) (l m : List Line) → TakesLines a l b → TakesLines b m c → TakesLines a (l ++ m) c
then_lines a b c l m first second = first ∙ ap (λ ls. l ++ ls) second ∙ sym (append_assoc l m c.pieces)

pub then_words : (a b c : Unread) (l m : List Line) → TakesWords a l b → TakesWords b m c → TakesWords a (l ++ m) c
then_words a b c l m first second = (first.0 ∙ ap (λ ls. l ++ ls) second.0 ∙ sym (append_assoc l m c.words), first.1 ∙ second.1)

-- a line that was read
pub line_taken : (now : Unread) (l : Line) (after : Unread) → next_line now ≡ Ok (l, after) → TakesLines now (l ∷ []) after
line_taken now l after e = from now.pieces e
  where
    from : (pieces : List Line) → line_of pieces now ≡ Ok (l, after) → pieces ≡ (l ∷ []) ++ after.pieces
    from [] e = absurd cc
    from (rest ∷ []) e = absurd cc
    from (line ∷ piece ∷ pieces) e =
        let same = read_same line l (record now { begun = now.begun + 1; pieces = piece ∷ pieces }) after e in
        λ i. same.0 i ∷ (same.1 i).pieces

-- a word that was read
pub word_taken : (now : Unread) (w : Line) (after : Unread) → word now ≡ Ok (w, after) → TakesWords now (w ∷ []) after
word_taken now w after e = from now.words e
  where
    from : (words : List Line) → word_of words now ≡ Ok (w, after) → (words ≡ (w ∷ []) ++ after.words) × (now.pieces ≡ after.pieces)
    from [] e = absurd cc
    from (first ∷ words) e =
        let same = read_same first w (record now { words = words }) after e in
        ((λ i. same.0 i ∷ (same.1 i).words), ap (λ (n : Unread). n.pieces) same.1)

-- at the end of a line
pub words_ended : (now : Unread) (x : Unit {0}) (after : Unread) → end_words now ≡ Ok (x, after) → (now.words ≡ []) × (now ≡ after)
words_ended now x after e = from now.words e
  where
    from : (words : List Line) → no_word words now ≡ Ok (x, after) → (words ≡ []) × (now ≡ after)
    from [] e = (refl, (read_same tt x now after e).1)
    from (first ∷ words) e = absurd cc

-- what holds of no items and is kept by each one holds of all
pub kept : {A : Type 0} (one : List A → Form A) (Holds : List A → Unread → Type 0) (step : (before : List A) (now : Unread) (x : A) (after : Unread) → Holds before now → one before now ≡ Ok (x, after) → Holds (before ++ x ∷ []) after)
    (count : ℕ) (before : List A) (now : Unread) (items : List A) (after : Unread) → Holds before now → listed one count before now ≡ Ok (items, after) → Holds items after × (length items ≡ length before + count)
unfolding listed
kept {A} one Holds step zero before now items after holds e =
    let same = read_same before items now after e in
    (subst (λ n. Holds items n) same.1 (subst (λ l. Holds l now) same.0 holds), let len : length before ≡ length items = ap length same.0 in omega (arith, len))
kept one Holds step (suc count) before now items after holds e =
    let first = parts (one before now) (λ x. listed one count (before ++ x ∷ [])) items after e in
    let more = kept one Holds step count (before ++ first.0 ∷ []) first.1 items after (step before now first.0 first.1 holds first.2) first.3 in
    (more.0, omega (arith, more.1, length-append before (first.0 ∷ [])))
