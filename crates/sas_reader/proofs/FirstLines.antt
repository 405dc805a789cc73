-- What is read of a text's first lines doesn't rest on the lines after them, and at which lines a fault can stand.
use Rattle.std.proofs.Common.{◌≡◌, ℕ, zero, suc, ◌+◌, ◌<◌, ◌≤◌, Bool, true, false, ◌⊎◌, inl, inr, List, [], ◌∷◌, ◌++◌, length, Option, Some, None, Ok, Err, refl, sym, ap, ◌∙◌, subst, arith, length-append}
use Rattle.std.specs.Prelude.{nat_le}
use Rattle.sas_task.specs.Output.{Line}
use Rattle.sas_reader.specs.declared.fault.SasFault.{SasFault}
use Rattle.sas_reader.specs.declared.fault.SasPlace.{SasPlace}
use Rattle.sas_reader.specs.Forms.{◌>>=◌, ◌>>◌, Unread, Reading, Form, next, followed, given, passing, met, next_line, line_of, with_words, begin_words, word, word_of, end_words, no_word, line, end, nothing, section, in_section, fixed, listed, pieces_of}
use Rattle.sas_reader.specs.Numbers.{number_line, at_least, number_or_none_line, number, number_or_none}
use Rattle.sas_reader.specs.Words.{is_same}
use Rattle.sas_reader.specs.Words as words

-- What is read reaches this line, and leaves the rest of the pieces, at least one. A fault stands from this line on, and at most one behind the lines that are left.
abbrev pub GoesOn : {A : Type 0} → ℕ → Unread → Reading A → Type 0
GoesOn least now (Ok read) = (least ≤ read.1.begun) × (read.1.begun + length read.1.pieces ≡ now.begun + length now.pieces) × (0 < length read.1.pieces)
GoesOn least now (Err fault) = (least ≤ fault.line) × (fault.line ≤ now.begun + length now.pieces)

-- it goes on from the line that was begun last
abbrev pub Advances : {A : Type 0} → Form A → Type 0
Advances form = (now : Unread) → 0 < length now.pieces → GoesOn now.begun now (form now)

-- it goes on from the line after it
abbrev pub Begins : {A : Type 0} → Form A → Type 0
Begins form = (now : Unread) → 0 < length now.pieces → GoesOn (now.begun + 1) now (form now)

-- these pieces behind the others
abbrev pub with_more : Unread → List Line → Unread
with_more now more = record now { pieces = now.pieces ++ more }

-- the number of the last line, where each piece is a line
abbrev pub last_line : Unread → ℕ
last_line now = now.begun + length now.pieces

-- What is read of the common lines and one end is that of these lines and another end: a fault up to the last of the lines, and a value that leaves no less than the end.
abbrev pub AreAlike : {A : Type 0} → Unread → List Line → List Line → Reading A → Reading A → Type 0
AreAlike now one other (Ok read) reading =
    (last_line now < read.1.begun) ⊎ ((after : Unread) × (read.1 ≡ with_more after one) × (last_line after ≡ last_line now) × (reading ≡ Ok (read.0, with_more after other)))
AreAlike now one other (Err fault) reading = fault.line ≤ last_line now → reading ≡ Err fault

pub record IsLocal {A : Type 0} (form : Form A) : Type 0 where
  pub advances : Advances form
  pub alike : (now : Unread) (one other : List Line) → 0 < length one → 0 < length other → AreAlike now one other (form (with_more now one)) (form (with_more now other))

-- the same of faults alone
pub record HasLocalFaults {A : Type 0} (form : Form A) : Type 0 where
  pub advances : Advances form
  pub faults : (now : Unread) (one other : List Line) → 0 < length one → 0 < length other → (fault : SasFault) → form (with_more now one) ≡ Err fault → fault.line ≤ last_line now → form (with_more now other) ≡ Err fault

-- ---- one form after another

goes_further : {A : Type 0} (least : ℕ) (now after : Unread) (r : Reading A) → least ≤ after.begun → after.begun + length after.pieces ≡ now.begun + length now.pieces → GoesOn after.begun after r → GoesOn least now r
goes_further least now after (Ok read) low same on = (omega (arith, low, on.0), on.1 ∙ same, on.2)
goes_further least now after (Err fault) low same on = (omega (arith, low, on.0), omega (arith, on.1, same))

goes_on_then : {A B : Type 0} (least : ℕ) (now : Unread) (r : Reading A) (g : A → Form B) → GoesOn least now r → ((x : A) → Advances (g x)) → GoesOn least now (followed r g)
goes_on_then least now (Ok read) g on more = goes_further least now read.1 (g read.0 read.1) on.0 on.1 (more read.0 read.1 on.2)
goes_on_then least now (Err fault) g on more = on

pub begins_then : {A B : Type 0} (f : Form A) (g : A → Form B) → Begins f → ((x : A) → Advances (g x)) → Begins (f >>= g)
begins_then f g first second now some = goes_on_then (now.begun + 1) now (f now) g (first now some) second

past_alike : {A : Type 0} (now : Unread) (one other : List Line) (after : Unread) (r s : Reading A) → last_line now < after.begun → GoesOn after.begun after r → AreAlike now one other r s
past_alike now one other after (Ok read) s past on = inl (omega (arith, past, on.0))
past_alike now one other after (Err fault) s past on = λ low. absurd (omega (arith, past, on.0, low))

alike_from : {A : Type 0} (now after : Unread) (one other : List Line) (r s : Reading A) → last_line after ≡ last_line now → AreAlike after one other r s → AreAlike now one other r s
alike_from now after one other (Ok read) s same (inl past) = inl (omega (arith, past, same))
alike_from now after one other (Ok read) s same (inr later) = inr (later.0, later.1, later.2 ∙ same, later.3)
alike_from now after one other (Err fault) s same alike = λ low. alike (omega (arith, low, same))

alike_then : {A B : Type 0} (now : Unread) (one other : List Line) (r s : Reading A) (g : A → Form B) → 0 < length one → 0 < length other → GoesOn now.begun (with_more now one) r → AreAlike now one other r s → ((x : A) → IsLocal (g x))
    → AreAlike now one other (followed r g) (followed s g)
alike_then now one other (Ok read) s g some some' on (inl past) more = past_alike now one other read.1 (g read.0 read.1) (followed s g) past ((more read.0).advances read.1 on.2)
alike_then now one other (Ok read) s g some some' on (inr later) more =
    let next = alike_from now later.0 one other (g read.0 (with_more later.0 one)) (g read.0 (with_more later.0 other)) later.2 ((more read.0).alike later.0 one other some some') in
    subst (λ n. AreAlike now one other (g read.0 n) (followed s g)) (sym later.1) (subst (λ t. AreAlike now one other (g read.0 (with_more later.0 one)) (followed t g)) (sym later.3) next)
alike_then now one other (Err fault) s g some some' on alike more = λ low. ap (λ t. followed t g) (alike low)

more_pieces : (now : Unread) (more : List Line) → 0 < length more → 0 < length (now.pieces ++ more)
more_pieces now more some = omega (arith, some, length-append now.pieces more)

pub then_local : {A B : Type 0} (f : Form A) (g : A → Form B) → IsLocal f → ((x : A) → IsLocal (g x)) → IsLocal (f >>= g)
then_local f g first second = record {
  advances = λ now some. goes_on_then now.begun now (f now) g (first.advances now some) (λ x. (second x).advances);
  alike = λ now one other some some'.
      alike_then now one other (f (with_more now one)) (f (with_more now other)) g some some' (first.advances (with_more now one) (more_pieces now one some)) (first.alike now one other some some') second;
}

pub next_local : {A B : Type 0} (f : Form A) (g : Form B) → IsLocal f → IsLocal g → IsLocal (f >> g)
next_local f g first second = then_local f (λ _. g) first (λ _. second)

faults_then : {A B : Type 0} (now : Unread) (one other : List Line) (r s : Reading A) (g : A → Form B) → 0 < length one → 0 < length other → GoesOn now.begun (with_more now one) r → AreAlike now one other r s → ((x : A) → HasLocalFaults (g x))
    → (fault : SasFault) → followed r g ≡ Err fault → fault.line ≤ last_line now → followed s g ≡ Err fault
faults_then {A} {B} now one other (Ok read) s g some some' on (inl past) more fault is low =
    let far : GoesOn {A = B} read.1.begun read.1 (Err fault) = subst (GoesOn read.1.begun read.1) is ((more read.0).advances read.1 on.2) in
    absurd (omega (arith, past, low, far.0))
faults_then {A} {B} now one other (Ok read) s g some some' on (inr later) more fault is low =
    ap (λ t. followed t g) later.3
    ∙ (more read.0).faults later.0 one other some some' fault (subst (λ n. g read.0 n ≡ Err fault) later.1 is) (omega (arith, low, later.2))
faults_then {A} {B} now one other (Err first) s g some some' on alike more fault is low =
    let same : first ≡ fault = cc in
    ap (λ t. followed t g) (alike (subst (λ (f : SasFault). f.line ≤ last_line now) (sym same) low)) ∙ is

pub then_faults : {A B : Type 0} (f : Form A) (g : A → Form B) → IsLocal f → ((x : A) → HasLocalFaults (g x)) → HasLocalFaults (f >>= g)
then_faults f g first second = record {
  advances = λ now some. goes_on_then now.begun now (f now) g (first.advances now some) (λ x. (second x).advances);
  faults = λ now one other some some'.
      faults_then now one other (f (with_more now one)) (f (with_more now other)) g some some' (first.advances (with_more now one) (more_pieces now one some)) (first.alike now one other some some') second;
}

-- ---- a form

here_on : (now : Unread) → 0 < length now.pieces → (now.begun ≤ now.begun) × (now.begun + length now.pieces ≡ now.begun + length now.pieces) × (0 < length now.pieces)
here_on now some = (omega arith, refl, some)

fault_on : (now : Unread) → (now.begun ≤ now.begun) × (now.begun ≤ now.begun + length now.pieces)
fault_on now = (omega arith, omega arith)

pub given_local : {A : Type 0} (x : A) → IsLocal (given x)
given_local x = record { advances = here_on; alike = λ now one other some some'. inr (now, refl, refl, refl) }

pub passing_local : {A : Type 0} (test : Bool) (x : A) → IsLocal (passing test x)
passing_local true x = record { advances = here_on; alike = λ now one other some some'. inr (now, refl, refl, refl) }
passing_local false x = record { advances = λ now some. fault_on now; alike = λ now one other some some' low. refl }

pub met_local : {A : Type 0} (o : Option A) → IsLocal (met o)
met_local (Some x) = record { advances = here_on; alike = λ now one other some some'. inr (now, refl, refl, refl) }
met_local None = record { advances = λ now some. fault_on now; alike = λ now one other some some' low. refl }

pub section_local : (place : SasPlace) → IsLocal (section place)
section_local place = record { advances = here_on; alike = λ now one other some some'. inr (in_section place now, refl, refl, refl) }

with_words_local : (ws : List Line) → IsLocal (with_words ws)
with_words_local ws = record { advances = here_on; alike = λ now one other some some'. inr (record now { words = ws }, refl, refl, refl) }

word_local : IsLocal word
word_local = record { advances = λ now some. on now now.words some; alike = λ now one other some some'. alike now now.words one other }
  where
    on : (now : Unread) (ws : List Line) → 0 < length now.pieces → GoesOn now.begun now (word_of ws now)
    on now [] some = fault_on now
    on now (w ∷ ws) some = here_on now some

    alike : (now : Unread) (ws one other : List Line) → AreAlike now one other (word_of ws (with_more now one)) (word_of ws (with_more now other))
    alike now [] one other = λ low. refl
    alike now (w ∷ ws) one other = inr (record now { words = ws }, refl, refl, refl)

end_words_local : IsLocal end_words
end_words_local = record { advances = λ now some. on now now.words some; alike = λ now one other some some'. alike now now.words one other }
  where
    on : (now : Unread) (ws : List Line) → 0 < length now.pieces → GoesOn now.begun now (no_word ws now)
    on now [] some = here_on now some
    on now (w ∷ ws) some = fault_on now

    alike : (now : Unread) (ws one other : List Line) → AreAlike now one other (no_word ws (with_more now one)) (no_word ws (with_more now other))
    alike now [] one other = inr (now, refl, refl, refl)
    alike now (w ∷ ws) one other = λ low. refl

pub next_line_begins : Begins next_line
next_line_begins now some = on now.pieces refl some
  where
    on : (pieces : List Line) → now.pieces ≡ pieces → 0 < length pieces → GoesOn (now.begun + 1) now (line_of pieces now)
    on [] is some = absurd (omega (arith, some))
    on (p ∷ []) is some = let len : length now.pieces ≡ 1 = ap length is in (omega arith, omega (arith, len))
    on (p ∷ q ∷ ps) is some = let len : length now.pieces ≡ length (p ∷ q ∷ ps) = ap length is in (omega arith, omega (arith, len), omega arith)

pub next_line_local : IsLocal next_line
next_line_local = record { advances = λ now some. lower now (next_line now) (next_line_begins now some); alike = λ now one other some some'. common now one other some some' now.pieces refl }
  where
    lower : (now : Unread) (r : Reading Line) → GoesOn (now.begun + 1) now r → GoesOn now.begun now r
    lower now (Ok read) on = (omega (arith, on.0), on.1, on.2)
    lower now (Err fault) on = (omega (arith, on.0), on.1)

    none : (now : Unread) (one other : List Line) → 0 < length one → now.pieces ≡ [] → (s : Reading Line) → AreAlike now one other (line_of one (with_more now one)) s
    none now [] other some is s = absurd (omega (arith, some))
    none now (p ∷ []) other some is s = let len : length now.pieces ≡ 0 = ap length is in λ low. absurd (omega (arith, len, low))
    none now (p ∷ q ∷ ps) other some is s = let len : length now.pieces ≡ 0 = ap length is in inl (omega (arith, len))

    one_left : (now : Unread) (l : Line) (one other : List Line) → 0 < length one → 0 < length other → now.pieces ≡ l ∷ [] → AreAlike now one other (line_of (l ∷ one) (with_more now one)) (line_of (l ∷ other) (with_more now other))
    one_left now l [] other some some' is = absurd (omega (arith, some))
    one_left now l (p ∷ ps) [] some some' is = absurd (omega (arith, some'))
    one_left now l (p ∷ ps) (q ∷ qs) some some' is = let len : length now.pieces ≡ 1 = ap length is in inr (record now { begun = now.begun + 1; pieces = [] }, refl, omega (arith, len), refl)

    common : (now : Unread) (one other : List Line) → 0 < length one → 0 < length other → (pieces : List Line) → now.pieces ≡ pieces
        → AreAlike now one other (line_of (pieces ++ one) (with_more now one)) (line_of (pieces ++ other) (with_more now other))
    common now one other some some' [] is = none now one other some is (line_of other (with_more now other))
    common now one other some some' (l ∷ []) is = one_left now l one other some some' is
    common now one other some some' (l ∷ m ∷ ms) is =
        let len : length now.pieces ≡ length (l ∷ m ∷ ms) = ap length is in
        inr (record now { begun = now.begun + 1; pieces = m ∷ ms }, refl, omega (arith, len), refl)

-- ---- the end of the text

pub end_faults : HasLocalFaults end
end_faults = record { advances = λ now some. on now now.pieces refl some; faults = λ now one other some some'. common now one other some some' now.pieces refl }
  where
    on : (now : Unread) (pieces : List Line) → now.pieces ≡ pieces → 0 < length pieces → GoesOn now.begun now (nothing pieces now)
    on now [] is some = absurd (omega (arith, some))
    on now ([] ∷ []) is some = let len : length now.pieces ≡ 1 = ap length is in (omega arith, refl, omega (arith, len))
    on now ((b ∷ bytes) ∷ []) is some = let len : length now.pieces ≡ 1 = ap length is in (omega arith, omega (arith, len))
    on now (p ∷ q ∷ ps) is some = let len : length now.pieces ≡ length (p ∷ q ∷ ps) = ap length is in (omega arith, omega (arith, len))

    at_next : (pieces : List Line) (at : Unread) (fault : SasFault) → nothing pieces at ≡ Err fault → next at ≡ fault
    at_next [] at fault is = cc
    at_next ([] ∷ []) at fault is = absurd cc
    at_next ((b ∷ bytes) ∷ []) at fault is = cc
    at_next (p ∷ q ∷ ps) at fault is = cc

    common : (now : Unread) (one other : List Line) → 0 < length one → 0 < length other → (pieces : List Line) → now.pieces ≡ pieces → (fault : SasFault)
        → nothing (pieces ++ one) (with_more now one) ≡ Err fault → fault.line ≤ last_line now → nothing (pieces ++ other) (with_more now other) ≡ Err fault
    common now [] other some some' pieces left fault is low = absurd (omega (arith, some))
    common now (p ∷ ps) [] some some' pieces left fault is low = absurd (omega (arith, some'))
    common now (p ∷ ps) (q ∷ qs) some some' [] left fault is low =
        let line : now.begun + 1 ≡ fault.line = ap (λ (f : SasFault). f.line) (at_next (p ∷ ps) (with_more now (p ∷ ps)) fault is) in
        let len : length now.pieces ≡ 0 = ap length left in
        absurd (omega (arith, low, line, len))
    common now (p ∷ ps) (q ∷ qs) some some' (l ∷ []) left fault is low = is
    common now (p ∷ ps) (q ∷ qs) some some' (l ∷ m ∷ ms) left fault is low = is

pub faults_given : {A B : Type 0} (f : Form A) (x : B) → HasLocalFaults f → HasLocalFaults (f >> given x)
faults_given f x local = record {
  advances = λ now some. goes_on_then now.begun now (f now) (λ _. given x) (local.advances now some) (λ _. here_on);
  faults = λ now one other some some' fault is low. ap (λ t. followed t (λ _. given x)) (local.faults now one other some some' fault (first_is (f (with_more now one)) x fault is) low);
}
  where
    first_is : {A B : Type 0} (r : Reading A) (x : B) (fault : SasFault) → followed r (λ _. given x) ≡ Err fault → r ≡ Err fault
    first_is (Ok read) x fault is = absurd cc
    first_is (Err first) x fault is = let same : first ≡ fault = cc in ap Err same

-- ---- forms of several

pub fixed_local : (bytes : Line) → IsLocal (fixed bytes)
unfolding fixed
fixed_local bytes = then_local next_line (λ l. passing (is_same l bytes) tt) next_line_local (λ l. passing_local (is_same l bytes) tt)

pub fixed_begins : (bytes : Line) → Begins (fixed bytes)
unfolding fixed
fixed_begins bytes = begins_then next_line (λ l. passing (is_same l bytes) tt) next_line_begins (λ l. (passing_local (is_same l bytes) tt).advances)

pub number_line_local : IsLocal number_line
unfolding number_line
number_line_local = then_local next_line (λ l. met (words.number l)) next_line_local (λ l. met_local (words.number l))

pub at_least_local : (least : ℕ) → IsLocal (at_least least)
unfolding at_least
at_least_local least = then_local number_line (λ n. passing (nat_le least n) n) number_line_local (λ n. passing_local (nat_le least n) n)

pub number_or_none_line_local : IsLocal number_or_none_line
unfolding number_or_none_line
number_or_none_line_local = then_local next_line (λ l. met (words.number_or_none l)) next_line_local (λ l. met_local (words.number_or_none l))

pub number_local : IsLocal number
unfolding number
number_local = then_local word (λ w. met (words.number w)) word_local (λ w. met_local (words.number w))

pub number_or_none_local : IsLocal number_or_none
unfolding number_or_none
number_or_none_local = then_local word (λ w. met (words.number_or_none w)) word_local (λ w. met_local (words.number_or_none w))

pub line_local : {A : Type 0} (form : Form A) → IsLocal form → IsLocal (line form)
unfolding line begin_words
line_local form local =
    then_local (begin_words >> form) (λ x. end_words >> given x)
    (next_local begin_words form (then_local next_line (λ l. with_words (pieces_of 32 l)) next_line_local (λ l. with_words_local (pieces_of 32 l))) local)
    (λ x. next_local end_words (given x) end_words_local (given_local x))

pub listed_local : {A : Type 0} (one : List A → Form A) → ((before : List A) → IsLocal (one before)) → (count : ℕ) (before : List A) → IsLocal (listed one count before)
unfolding listed
listed_local one each zero before = given_local before
listed_local one each (suc count) before = then_local (one before) (λ x. listed one count (before ++ x ∷ [])) (each before) (λ x. listed_local one each count (before ++ x ∷ []))
