-- Names that are made of words and single spaces.
use Rattle.std.proofs.Common.{◌≡◌, ◌≢◌, ℕ, suc, ◌+◌, ◌-◌, ◌<◌, ◌≤◌, Bool, true, ◌&&◌, List, [], ◌∷◌, ◌++◌, append_assoc, append-nil, length, get_or, sym, ap, ◌∙◌, subst, arith, length-append}
use Rattle.std.specs.Prelude.{nat_le}
use Rattle.std.specs.List.{list_all, flat_map}
use Rattle.std.proofs.lemmas.Bool.{and_parts, leb-true}
use Rattle.std.proofs.lemmas.List.{get_or-append-add}
use Rattle.std.proofs.lemmas.List.Elements.{All-append, All-cons}
use Rattle.std.proofs.Math.ListN.{get_or-append}
use Rattle.lists.specs.Names.{IsName}
use Rattle.lists.proofs.Items.{Among, among_at, among_contains, all_passes}
use Rattle.lists.proofs.Members.{all_from_members}
use Rattle.lists.proofs.Names.{IsOneLine, NameParts, name_from}
use Rattle.pddl_syntax.specs.Step.{shown}
use Rattle.pddl_syntax.specs.Words.{Name}
use Rattle.normal_task.specs.Lawful.{is_word}

abbrev is_printable : ℕ → Bool
is_printable byte = nat_le 33 byte && nat_le byte 126

printable : (word : Name) → is_word word ≡ true → list_all is_printable word ≡ true
printable [] is = absurd cc
printable (byte ∷ more) is = is

pub is_long : (word : Name) → is_word word ≡ true → 0 < length word
is_long [] is = absurd cc
is_long (byte ∷ more) is = omega arith

-- a word's bytes are above the space
pub byte_printed : (word : Name) → is_word word ≡ true → (b : ℕ) → Among b word → 33 ≤ b
byte_printed word is b among = leb-true 33 b (and_parts (nat_le 33 b) (nat_le b 126) (all_passes is_printable b word among (printable word is))).0

pub word_one_line : (word : Name) → is_word word ≡ true → IsOneLine word
word_one_line word is = all_from_members (λ b. b ≢ 10) word (λ b in' feed. let low = byte_printed word is b (among_contains word b in') in omega (arith, low, feed))

word_named : (word : Name) → is_word word ≡ true → NameParts word
word_named word is =
    let long = is_long word is in
    let within : length word - 1 < length word = omega (arith, long) in
    let first = byte_printed word is (get_or word 0 0) (among_at word 0 0 long) in
    let last = byte_printed word is (get_or word (length word - 1) 0) (among_at word (length word - 1) 0 within) in
    record { written = long; one_line = word_one_line word is; first = λ space. omega (arith, first, space); last = λ space. omega (arith, last, space) }

-- a name with a word more
with_word : (name word : Name) → NameParts name → is_word word ≡ true → NameParts (name ++ 32 ∷ word)
with_word name word named is =
    let more = word_named word is in
    let written = named.written in
    let long = more.written in
    let size = length-append name (32 ∷ word) in
    let place : length (name ++ 32 ∷ word) - 1 ≡ length name + suc (length word - 1) = omega arith in
    let start = get_or-append name (32 ∷ word) 0 0 written in
    let end = ap (λ k. get_or (name ++ 32 ∷ word) k 0) place ∙ get_or-append-add name (32 ∷ word) (suc (length word - 1)) 0 in
    record {
      written = omega arith;
      one_line = All-append (λ b. b ≢ 10) name (32 ∷ word) named.one_line (All-cons (λ b. b ≢ 10) 32 word (λ e. absurd (omega (arith, e))) more.one_line);
      first = λ space. named.first (sym start ∙ space);
      last = λ space. more.last (sym end ∙ space);
    }

shown_named : (name : Name) (words : List Name) → NameParts name → list_all is_word words ≡ true → NameParts (shown name words)
shown_named name [] named all = subst NameParts (sym (append-nil name)) named
shown_named name (word ∷ words) named all =
    let parts = and_parts (is_word word) (list_all is_word words) all in
    subst NameParts (append_assoc name (32 ∷ word) (flat_map (λ object. 32 ∷ object) words)) (shown_named (name ++ 32 ∷ word) words (with_word name word named parts.0) parts.1)

-- a word with further words behind it is a name
pub is_shown : (name : Name) (words : List Name) → is_word name ≡ true → list_all is_word words ≡ true → IsName (shown name words)
is_shown name words is all = name_from (shown name words) (shown_named name words (word_named name is) all)
