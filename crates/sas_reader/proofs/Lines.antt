-- Lines and words that meet their rules are those that are written.
use Rattle.std.proofs.Common.{◌≡◌, ◌≢◌, ℕ, ◌-◌, ◌^◌, ◌<◌, ◌≤◌, Bool, true, not, ◌&&◌, cond, eqb, ltb, List, [], ◌∷◌, ◌++◌, length, get_or, Option, Some, None, Ok, inl, inr, refl, sym, ap, ◌∙◌, subst, append-nil}
use Rattle.std.specs.Prelude.{codes, nat_le, IfSome}
use Rattle.std.specs.List.{All, onto_first}
use Rattle.std.specs.Option.{option_map}
use Rattle.std.specs.Cmp.Lexicographic.{same_text}
use Rattle.std.proofs.lemmas.Bool.{cases_Bool, eqb-true, eqb-false, leb-true, ltb-true, and_parts, not-true}
use Rattle.std.proofs.lemmas.Option.{same_Some}
use Rattle.std.proofs.lemmas.List.Elements.{All-nil, All-cons, All-head, All-tail}
use Rattle.std.proofs.lemmas.List.Splits.{slice_split-cons_yes, slice_split-cons_no}
use Rattle.sas_task.specs.Output.{Line, numeral}
use Rattle.sas_task.specs.Output as output
use Rattle.sas_reader.specs.Words.{is_same, is_name}
use Rattle.sas_reader.specs.Words as words
use Rattle.sas_reader.specs.Forms.{Unread, Form, ◌>>=◌, ◌>>◌, pieces_of, passing, met, next_line, word, fixed, begin_words, line, end_words, given, with_words}
use Rattle.sas_reader.specs.Numbers.{number_line, at_least, number_or_none_line, number, number_or_none}
use Rattle.sas_reader.proofs.Cuts.{some_piece}
use Rattle.sas_reader.proofs.Kept.{parts, passed, checked, was_met, TakesLines, TakesWords, line_taken, word_taken, words_ended, read_same}
use Rattle.sas_reader.proofs.Numerals.{number_numeral}
use Rattle.lists.specs.Names.{IsName}
use Rattle.lists.proofs.Members.{all_behind}
use Rattle.lists.proofs.Names.{IsOneLine, name_from}

pub same_bytes : (a b : List ℕ) → is_same a b ≡ true → a ≡ b
same_bytes a b same = same_text a b (sym same)

-- no piece has a line feed
abbrev pub IsClean : Unread → Type 0
IsClean now = All IsOneLine now.pieces

pub clean_after : (now : Unread) (lines : List Line) (after : Unread) → TakesLines now lines after → IsClean now → IsClean after
clean_after now lines after taken clean = all_behind IsOneLine lines after.pieces (subst (All IsOneLine) taken clean)

pub clean_line : (now : Unread) (l : Line) (after : Unread) → TakesLines now (l ∷ []) after → IsClean now → IsOneLine l
clean_line now l after taken clean = All-head IsOneLine l after.pieces (subst (All IsOneLine) taken clean)

pub clean_pieces : (bytes : List ℕ) → All IsOneLine (pieces_of 10 bytes)
clean_pieces [] = All-cons IsOneLine [] [] (All-nil (λ b. b ≢ 10)) (All-nil IsOneLine)
clean_pieces (b ∷ bytes) =
    elim (cases_Bool (eqb b 10)) [
      | inl feed ↦ subst (All IsOneLine) (sym (slice_split-cons_yes (λ b. eqb b 10) b bytes feed)) (All-cons IsOneLine [] (pieces_of 10 bytes) (All-nil (λ b. b ≢ 10)) (clean_pieces bytes))
      | inr other ↦
          let later = some_piece (λ b. eqb b 10) bytes in
          let clean : All IsOneLine (later.0 ∷ later.1) = subst (All IsOneLine) later.2 (clean_pieces bytes) in
          let first : IsOneLine (b ∷ later.0) = All-cons (λ b. b ≢ 10) b later.0 (eqb-false b 10 other) (All-head IsOneLine later.0 later.1 clean) in
          subst (All IsOneLine) (sym (slice_split-cons_no (λ b. eqb b 10) b bytes other ∙ ap (onto_first b) later.2)) (All-cons IsOneLine (b ∷ later.0) later.1 first (All-tail IsOneLine later.0 later.1 clean))
    ]

-- a line by a test
pub tested_line : {A : Type 0} (test : Line → Bool) (value : Line → A) (now : Unread) (x : A) (after : Unread) → (next_line >>= λ l. passing (test l) (value l)) now ≡ Ok (x, after)
    → (l : Line) × (test l ≡ true) × (value l ≡ x) × TakesLines now (l ∷ []) after
tested_line test value now x after e =
    let p = parts (next_line now) (λ l. passing (test l) (value l)) x after e in
    let q = passed (test p.0) (value p.0) x p.1 after p.3 in
    (p.0, q.0, q.1, subst (λ n. TakesLines now (p.0 ∷ []) n) q.2 (line_taken now p.0 p.1 p.2))

-- a line by a rule
pub ruled_line : {A : Type 0} (rule : Line → Option A) (now : Unread) (x : A) (after : Unread) → (next_line >>= λ l. met (rule l)) now ≡ Ok (x, after) → (l : Line) × (rule l ≡ Some x) × TakesLines now (l ∷ []) after
ruled_line rule now x after e =
    let p = parts (next_line now) (λ l. met (rule l)) x after e in
    let q = was_met (rule p.0) x p.1 after p.3 in
    (p.0, q.0, subst (λ n. TakesLines now (p.0 ∷ []) n) q.1 (line_taken now p.0 p.1 p.2))

-- a word by a rule
pub ruled_word : {A : Type 0} (rule : Line → Option A) (now : Unread) (x : A) (after : Unread) → (word >>= λ w. met (rule w)) now ≡ Ok (x, after) → (w : Line) × (rule w ≡ Some x) × TakesWords now (w ∷ []) after
ruled_word rule now x after e =
    let p = parts (word now) (λ w. met (rule w)) x after e in
    let q = was_met (rule p.0) x p.1 after p.3 in
    (p.0, q.0, subst (λ n. TakesWords now (p.0 ∷ []) n) q.1 (word_taken now p.0 p.1 p.2))

pub fixed_is : (bytes : Line) (now : Unread) (x : Unit {0}) (after : Unread) → fixed bytes now ≡ Ok (x, after) → TakesLines now (bytes ∷ []) after
unfolding fixed
fixed_is bytes now x after e =
    let p = tested_line (λ l. is_same l bytes) (λ l. tt) now x after e in
    subst (λ l. TakesLines now (l ∷ []) after) (same_bytes p.0 bytes p.1) p.3

pub number_line_is : (now : Unread) (n : ℕ) (after : Unread) → number_line now ≡ Ok (n, after) → TakesLines now (numeral n ∷ []) after × (n < 2 ^ 64)
unfolding number_line
number_line_is now n after e =
    let p = ruled_line words.number now n after e in
    let q = number_numeral p.0 n p.1 in
    (subst (λ l. TakesLines now (l ∷ []) after) q.0 p.2, q.1)

pub at_least_is : (least : ℕ) (now : Unread) (n : ℕ) (after : Unread) → at_least least now ≡ Ok (n, after) → TakesLines now (numeral n ∷ []) after × (least ≤ n)
unfolding at_least
at_least_is least now n after e =
    let p = checked number_line (nat_le least) now n after e in
    ((number_line_is now n after p.0).0, leb-true least n p.1)

none_or_numeral : (w : Line) (o : Option ℕ) → words.number_or_none w ≡ Some o → (w ≡ output.number_or_none o) × IfSome o (λ n. n < 2 ^ 64)
none_or_numeral w o e =
    elim (cases_Bool (is_same w (codes "-1"))) [
      | inl minus ↦
          let is : Some None ≡ Some o = sym (ap (λ b. cond b (Some None) (option_map Some (words.number w))) minus) ∙ e in
          let none : None ≡ o = same_Some None o is in
          subst (λ p. (w ≡ output.number_or_none p) × IfSome p (λ n. n < 2 ^ 64)) none (same_bytes w (codes "-1") minus, tt)
      | inr other ↦ some (words.number w) refl (sym (ap (λ b. cond b (Some None) (option_map Some (words.number w))) other) ∙ e)
    ]
  where
    some : (r : Option ℕ) → words.number w ≡ r → option_map Some r ≡ Some o → (w ≡ output.number_or_none o) × IfSome o (λ n. n < 2 ^ 64)
    some None is made = absurd cc
    some (Some n) is made = subst (λ p. (w ≡ output.number_or_none p) × IfSome p (λ n. n < 2 ^ 64)) (same_Some (Some n) o made) (number_numeral w n is)

pub number_or_none_line_is : (now : Unread) (o : Option ℕ) (after : Unread) → number_or_none_line now ≡ Ok (o, after) → TakesLines now (output.number_or_none o ∷ []) after × IfSome o (λ n. n < 2 ^ 64)
unfolding number_or_none_line
number_or_none_line_is now o after e =
    let p = ruled_line words.number_or_none now o after e in
    let q = none_or_numeral p.0 o p.1 in
    (subst (λ l. TakesLines now (l ∷ []) after) q.0 p.2, q.1)

pub number_is : (now : Unread) (n : ℕ) (after : Unread) → number now ≡ Ok (n, after) → TakesWords now (numeral n ∷ []) after
unfolding number
number_is now n after e =
    let p = ruled_word words.number now n after e in
    subst (λ l. TakesWords now (l ∷ []) after) (number_numeral p.0 n p.1).0 p.2

pub number_or_none_is : (now : Unread) (o : Option ℕ) (after : Unread) → number_or_none now ≡ Ok (o, after) → TakesWords now (output.number_or_none o ∷ []) after
unfolding number_or_none
number_or_none_is now o after e =
    let p = ruled_word words.number_or_none now o after e in
    subst (λ l. TakesWords now (l ∷ []) after) (none_or_numeral p.0 o p.1).0 p.2

-- the words of a line, with single spaces between them
pub spaced_pieces : (bytes : List ℕ) → bytes ≡ output.spaced (pieces_of 32 bytes)
spaced_pieces [] = refl
spaced_pieces (b ∷ bytes) =
    let later = some_piece (λ b. eqb b 32) bytes in
    let rest : bytes ≡ output.spaced (later.0 ∷ later.1) = spaced_pieces bytes ∙ ap output.spaced later.2 in
    elim (cases_Bool (eqb b 32)) [
      | inl space ↦
          (λ i. eqb-true b 32 space i ∷ rest i)
          ∙ sym (ap output.spaced (slice_split-cons_yes (λ b. eqb b 32) b bytes space ∙ ap (λ l. [] ∷ l) later.2))
      | inr other ↦
          (λ i. b ∷ rest i) ∙ onto b later.0 later.1
          ∙ sym (ap output.spaced (slice_split-cons_no (λ b. eqb b 32) b bytes other ∙ ap (onto_first b) later.2))
    ]
  where
    onto : (b : ℕ) (first : Line) (words : List Line) → b ∷ output.spaced (first ∷ words) ≡ output.spaced ((b ∷ first) ∷ words)
    onto b first [] = refl
    onto b first (next ∷ words) = refl

-- a line of words is the words that were read, with single spaces between them
pub line_is_words : {A : Type 0} (form : Form A) (words : A → List Line) (Good : A → Type 0) (taken : (now : Unread) (x : A) (after : Unread) → form now ≡ Ok (x, after) → TakesWords now (words x) after × Good x)
    (now : Unread) (x : A) (after : Unread) → line form now ≡ Ok (x, after) → TakesLines now (output.spaced (words x) ∷ []) after × Good x
unfolding line begin_words
line_is_words {A} form words Good taken now x after e =
    let last = parts ((begin_words >> form) now) (λ x. end_words >> given x) x after e in
    let ended = parts (end_words last.1) (λ _. given last.0) x after last.3 in
    let same = read_same last.0 x ended.1 after ended.3 in
    let stop = words_ended last.1 ended.0 ended.1 ended.2 in
    let middle = parts (begin_words now) (λ _. form) last.0 last.1 last.2 in
    let begun = parts (next_line now) (λ l. with_words (pieces_of 32 l)) middle.0 middle.1 middle.2 in
    let cut = read_same tt middle.0 (record begun.1 { words = pieces_of 32 begun.0 }) middle.1 begun.3 in
    let told = taken middle.1 last.0 last.1 middle.3 in
    let first = line_taken now begun.0 begun.1 begun.2 in
    let all : pieces_of 32 begun.0 ≡ words last.0 = ap (λ (n : Unread). n.words) cut.1 ∙ told.0.0 ∙ ap (λ l. words last.0 ++ l) stop.0 ∙ append-nil (words last.0) in
    let written : begun.0 ≡ output.spaced (words last.0) = spaced_pieces begun.0 ∙ ap output.spaced all in
    let rest : begun.1.pieces ≡ after.pieces = ap (λ (n : Unread). n.pieces) cut.1 ∙ told.0.1 ∙ ap (λ (n : Unread). n.pieces) (stop.1 ∙ same.1) in
    let result : TakesLines now (output.spaced (words last.0) ∷ []) after = first ∙ (λ i. written i ∷ rest i) in
    subst (λ (y : A). TakesLines now (output.spaced (words y) ∷ []) after × Good y) same.0 (result, told.1)

pub name_is : (bytes : Line) → is_name bytes ≡ true → IsOneLine bytes → IsName bytes
name_is bytes is clean =
    let parts = and_parts (ltb 0 (length bytes) && not (eqb (get_or bytes 0 0) 32)) (not (eqb (get_or bytes (length bytes - 1) 0) 32)) is in
    let front = and_parts (ltb 0 (length bytes)) (not (eqb (get_or bytes 0 0) 32)) parts.0 in
    name_from bytes record {
      written = ltb-true 0 (length bytes) front.0;
      one_line = clean;
      first = eqb-false (get_or bytes 0 0) 32 (not-true _ front.1);
      last = eqb-false (get_or bytes (length bytes - 1) 0) 32 (not-true _ parts.1);
    }
