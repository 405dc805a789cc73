-- What is written is read again: forms one after the other.
use Rattle.std.proofs.Common.{◌≡◌, ℕ, ◌+◌, ◌^◌, ◌<◌, ◌≤◌, Bool, true, cond, List, [], ◌∷◌, ◌++◌, length, Option, Some, None, Ok, Err, inl, inr, refl, sym, ap, ◌∙◌, subst, append_assoc, append-nil, arith, length-append}
use Rattle.std.specs.Prelude.{codes, nat_le, IfSome}
use Rattle.std.specs.List.{All}
use Rattle.std.specs.Option.{option_map}
use Rattle.std.proofs.lemmas.Bool.{cases_Bool, le-leb}
use Rattle.std.proofs.lemmas.Cmp.{nat_list_eq_equiv}
use Rattle.sas_task.specs.Output.{Line, numeral}
use Rattle.sas_task.specs.Output as output
use Rattle.sas_reader.specs.Words.{is_same}
use Rattle.sas_reader.specs.Words as words
use Rattle.sas_reader.specs.Forms.{◌>>=◌, ◌>>◌, Unread, Form, here, followed, passing, met, given, next_line, line_of, fixed, listed}
use Rattle.sas_reader.specs.Numbers.{number_line, at_least, number_or_none_line}
use Rattle.sas_reader.proofs.Lines.{same_bytes}
use Rattle.sas_reader.proofs.Numerals.{numeral_number}
use Rattle.lists.proofs.Members.{all_behind}

-- the text is shorter than any count that can't be read
pub record IsSmall (now : Unread) : Type 0 where
  pub pieces : length now.pieces < 2 ^ 63
  pub each : All (λ p. length p < 2 ^ 63) now.pieces

pub record Reads {A : Type 0} (form : Form A) (x : A) (now : Unread) (rest : List Line) : Type 0 where
  pub after : Unread
  pub is : form now ≡ Ok (x, after)
  pub left : after.pieces ≡ rest

-- these lines are read as the value, whatever follows them
abbrev pub Again : {A : Type 0} → Form A → A → List Line → Type 0
Again form x ls = (now : Unread) (rest : List Line) → IsSmall now → 0 < length rest → now.pieces ≡ ls ++ rest → Reads form x now rest

pub small_after : (now after : Unread) (ls rest : List Line) → IsSmall now → now.pieces ≡ ls ++ rest → after.pieces ≡ rest → IsSmall after
small_after now after ls rest small is left =
    let whole : length now.pieces ≡ length (ls ++ rest) = ap length is in
    let part : length after.pieces ≡ length rest = ap length left in
    record {
      pieces = omega (arith, small.pieces, whole, part, length-append ls rest);
      each = subst (All (λ (p : Line). length p < 2 ^ 63)) (sym left) (all_behind (λ (p : Line). length p < 2 ^ 63) ls rest (subst (All (λ (p : Line). length p < 2 ^ 63)) is small.each));
    }

pub again_then : {A B : Type 0} (f : Form A) (g : A → Form B) (x : A) (y : B) (l m : List Line) → Again f x l → Again (g x) y m → Again (f >>= g) y (l ++ m)
again_then f g x y l m first second now rest small some is =
    let cut : now.pieces ≡ l ++ (m ++ rest) = is ∙ append_assoc l m rest in
    let a = first now (m ++ rest) small (omega (arith, some, length-append m rest)) cut in
    let b = second a.after rest (small_after now a.after l (m ++ rest) small cut a.left) some a.left in
    record { after = b.after; is = ap (λ r. followed r g) a.is ∙ b.is; left = b.left }

pub again_next : {A B : Type 0} (f : Form A) (g : Form B) (x : A) (y : B) (l m : List Line) → Again f x l → Again g y m → Again (f >> g) y (l ++ m)
again_next f g x y l m first second = again_then f (λ _. g) x y l m first second

pub again_given : {A : Type 0} (x : A) → Again (given x) x []
again_given x now rest small some is = record { after = now; is = refl; left = is }

pub again_passing : {A : Type 0} (test : Bool) (x : A) → test ≡ true → Again (passing test x) x []
again_passing test x passes now rest small some is = record { after = now; is = ap (λ b. cond b (Ok (x, now)) (Err (here now))) passes; left = is }

pub again_met : {A : Type 0} (o : Option A) (x : A) → o ≡ Some x → Again (met o) x []
again_met o x meets now rest small some is = record { after = now; is = ap (λ p. met p now) meets; left = is }

pub again_line : (l : Line) → Again next_line l (l ∷ [])
again_line l now [] small some is = absurd (omega (arith, some))
again_line l now (p ∷ pieces) small some is = record { after = record now { begun = now.begun + 1; pieces = p ∷ pieces }; is = ap (λ ps. line_of ps now) is; left = refl }

pub again_fixed : (bytes : Line) → Again (fixed bytes) tt (bytes ∷ [])
unfolding fixed
again_fixed bytes = again_then next_line (λ l. passing (is_same l bytes) tt) bytes tt (bytes ∷ []) [] (again_line bytes) (again_passing (is_same bytes bytes) tt (nat_list_eq_equiv.refl bytes))

pub again_number : (n : ℕ) → n < 2 ^ 64 → Again number_line n (numeral n ∷ [])
unfolding number_line
again_number n small = again_then next_line (λ l. met (words.number l)) (numeral n) n (numeral n ∷ []) [] (again_line (numeral n)) (again_met (words.number (numeral n)) n (numeral_number n small))

pub again_at_least : (least n : ℕ) → n < 2 ^ 64 → least ≤ n → Again (at_least least) n (numeral n ∷ [])
unfolding at_least
again_at_least least n small enough = again_then number_line (λ m. passing (nat_le least m) m) n n (numeral n ∷ []) [] (again_number n small) (again_passing (nat_le least n) n (le-leb least n enough))

pub none_again : (o : Option ℕ) → IfSome o (λ n. n < 2 ^ 64) → words.number_or_none (output.number_or_none o) ≡ Some o
none_again None small = refl
none_again (Some n) small =
    elim (cases_Bool (is_same (numeral n) (codes "-1"))) [
      | inl minus ↦
          let one : words.number (codes "-1") ≡ Some n = ap words.number (sym (same_bytes (numeral n) (codes "-1") minus)) ∙ numeral_number n small in
          let none : None ≡ Some n = one in
          absurd cc
      | inr other ↦ ap (λ b. cond b (Some None) (option_map Some (words.number (numeral n)))) other ∙ ap (option_map Some) (numeral_number n small)
    ]

pub again_number_or_none : (o : Option ℕ) → IfSome o (λ n. n < 2 ^ 64) → Again number_or_none_line o (output.number_or_none o ∷ [])
unfolding number_or_none_line
again_number_or_none o small = again_then next_line (λ l. met (words.number_or_none l)) (output.number_or_none o) o (output.number_or_none o ∷ []) [] (again_line (output.number_or_none o)) (again_met _ o (none_again o small))

-- the lines of the items from a place on
abbrev pub lines_from : {A : Type 0} → (List A → A → List Line) → List A → List A → List Line
lines_from lines before [] = []
lines_from lines before (x ∷ more) = lines before x ++ lines_from lines (before ++ x ∷ []) more

pub again_listed : {A : Type 0} (one : List A → Form A) (lines : List A → A → List Line) (all : List A) → ((before : List A) (x : A) (more : List A) → before ++ x ∷ more ≡ all → Again (one before) x (lines before x))
    → (more before : List A) → before ++ more ≡ all → Again (listed one (length more) before) all (lines_from lines before more)
unfolding listed
again_listed one lines all each [] before is = λ now rest small some at. record { after = now; is = ap (λ xs. Ok (xs, now)) (sym (append-nil before) ∙ is); left = at }
again_listed one lines all each (x ∷ more) before is =
    again_then (one before) (λ y. listed one (length more) (before ++ y ∷ [])) x all (lines before x) (lines_from lines (before ++ x ∷ []) more)
    (each before x more is) (again_listed one lines all each more (before ++ x ∷ []) (append_assoc before (x ∷ []) more ∙ is))
