-- What is written is read again: words, and lines of words.
use Rattle.std.proofs.Common.{◌≡◌, ℕ, zero, suc, ◌+◌, ◌^◌, ◌<◌, Bool, true, false, cond, eqb, List, [], ◌∷◌, ◌++◌, length, Option, Some, Ok, Err, refl, sym, ap, ◌∙◌, append_assoc, append-nil, arith}
use Rattle.std.specs.Prelude.{IfSome}
use Rattle.std.specs.List.{All, flat_map}
use Rattle.std.specs.Int.Digits.{digits_of}
use Rattle.std.proofs.lemmas.Bool.{ne_eqb}
use Rattle.std.proofs.lemmas.List.Elements.{All-nil, All-cons, All-head, All-tail, All-map}
use Rattle.std.proofs.lemmas.List.Splits.{slice_split_at, slice_split_none}
use Rattle.sas_task.specs.Output.{Line, numeral, spaced}
use Rattle.sas_task.specs.Output as output
use Rattle.sas_reader.specs.Words as words
use Rattle.sas_reader.specs.Forms.{◌>>=◌, ◌>>◌, Unread, Form, here, followed, passing, met, given, next_line, line_of, word, word_of, no_word, end_words, begin_words, with_words, pieces_of, line, listed}
use Rattle.sas_reader.specs.Numbers.{number, number_or_none}
use Rattle.sas_reader.proofs.Numerals.{numeral_number}
use Rattle.sas_reader.proofs.Again.{Again, none_again}

pub record ReadsWords {A : Type 0} (form : Form A) (x : A) (now : Unread) (more : List Line) : Type 0 where
  pub after : Unread
  pub is : form now ≡ Ok (x, after)
  pub left : after.words ≡ more
  pub same : after.pieces ≡ now.pieces

-- these words are read as the value, whatever follows them
abbrev pub AgainWords : {A : Type 0} → Form A → A → List Line → Type 0
AgainWords form x ws = (now : Unread) (more : List Line) → now.words ≡ ws ++ more → ReadsWords form x now more

pub words_then : {A B : Type 0} (f : Form A) (g : A → Form B) (x : A) (y : B) (v w : List Line) → AgainWords f x v → AgainWords (g x) y w → AgainWords (f >>= g) y (v ++ w)
words_then f g x y v w first second now more is =
    let a = first now (w ++ more) (is ∙ append_assoc v w more) in
    let b = second a.after more a.left in
    record { after = b.after; is = ap (λ r. followed r g) a.is ∙ b.is; left = b.left; same = b.same ∙ a.same }

pub words_given : {A : Type 0} (x : A) → AgainWords (given x) x []
words_given x now more is = record { after = now; is = refl; left = is; same = refl }

pub words_passing : {A : Type 0} (test : Bool) (x : A) → test ≡ true → AgainWords (passing test x) x []
words_passing test x passes now more is = record { after = now; is = ap (λ b. cond b (Ok (x, now)) (Err (here now))) passes; left = is; same = refl }

pub words_met : {A : Type 0} (o : Option A) (x : A) → o ≡ Some x → AgainWords (met o) x []
words_met o x meets now more is = record { after = now; is = ap (λ p. met p now) meets; left = is; same = refl }

pub one_word : (w : Line) → AgainWords word w (w ∷ [])
one_word w now more is = record { after = record now { words = more }; is = ap (λ ws. word_of ws now) is; left = refl; same = refl }

pub words_number : (n : ℕ) → n < 2 ^ 64 → AgainWords number n (numeral n ∷ [])
unfolding number
words_number n small = words_then word (λ w. met (words.number w)) (numeral n) n (numeral n ∷ []) [] (one_word (numeral n)) (words_met _ n (numeral_number n small))

pub words_number_or_none : (o : Option ℕ) → IfSome o (λ n. n < 2 ^ 64) → AgainWords number_or_none o (output.number_or_none o ∷ [])
unfolding number_or_none
words_number_or_none o small = words_then word (λ w. met (words.number_or_none w)) (output.number_or_none o) o (output.number_or_none o ∷ []) [] (one_word (output.number_or_none o)) (words_met _ o (none_again o small))

pub words_listed : {A : Type 0} (one : List A → Form A) (lines : A → List Line) (all : List A) → ((before : List A) (x : A) (more : List A) → before ++ x ∷ more ≡ all → AgainWords (one before) x (lines x))
    → (more before : List A) → before ++ more ≡ all → AgainWords (listed one (length more) before) all (flat_map lines more)
unfolding listed
words_listed one lines all each [] before is = λ now rest at. record { after = now; is = ap (λ xs. Ok (xs, now)) (sym (append-nil before) ∙ is); left = at; same = refl }
words_listed one lines all each (x ∷ more) before is =
    words_then (one before) (λ y. listed one (length more) (before ++ y ∷ [])) x all (lines x) (flat_map lines more)
    (each before x more is) (words_listed one lines all each more (before ++ x ∷ []) (append_assoc before (x ∷ []) more ∙ is))

-- no space
abbrev pub NoSpace : Line → Type 0
NoSpace w = All (λ b. eqb b 32 ≡ false) w

pub numeral_no_space : (n : ℕ) → NoSpace (numeral n)
numeral_no_space zero = All-cons (λ b. eqb b 32 ≡ false) 48 [] refl (All-nil (λ b. eqb b 32 ≡ false))
numeral_no_space (suc n) = All-map (λ b. eqb b 32 ≡ false) (λ digit. 48 + digit) (digits_of 10 (suc n)) (λ k d within. ne_eqb _ 32 (λ e. absurd (omega (arith, e))))

pub words_back : (w : Line) (ws : List Line) → NoSpace w → All NoSpace ws → pieces_of 32 (spaced (w ∷ ws)) ≡ w ∷ ws
words_back w [] first rest = slice_split_none (λ b. eqb b 32) w first
words_back w (v ∷ ws) first rest =
    slice_split_at (λ b. eqb b 32) w 32 (spaced (v ∷ ws)) first refl
    ∙ ap (λ l. w ∷ l) (words_back v ws (All-head NoSpace v ws rest) (All-tail NoSpace v ws rest))

pub again_words : {A : Type 0} (form : Form A) (x : A) (w : Line) (ws : List Line) → NoSpace w → All NoSpace ws → AgainWords form x (w ∷ ws) → Again (line form) x (spaced (w ∷ ws) ∷ [])
unfolding line begin_words
again_words form x w ws first rest reads now [] small some is = absurd (omega (arith, some))
again_words form x w ws first rest reads now (p ∷ pieces) small some is =
    let l = spaced (w ∷ ws) in
    let begun : Unread = record now { begun = now.begun + 1; pieces = p ∷ pieces } in
    let cut : Unread = record begun { words = pieces_of 32 l } in
    let e1 : next_line now ≡ Ok (l, begun) = ap (λ ps. line_of ps now) is in
    let a = reads cut [] (words_back w ws first rest ∙ sym (append-nil (w ∷ ws))) in
    let e3 : end_words a.after ≡ Ok (tt, a.after) = ap (λ v. no_word v a.after) a.left in
    record {
      after = a.after;
      is = ap (λ r. followed (followed (followed r (λ l. with_words (pieces_of 32 l))) (λ _. form)) (λ x. end_words >> given x)) e1
          ∙ ap (λ r. followed r (λ x. end_words >> given x)) a.is
          ∙ ap (λ r. followed r (λ _. given x)) e3;
      left = a.same;
    }
