-- A step's name tells the action's name and those of the objects: names have no space.
use Rattle.std.proofs.Common.{◌≡◌, ℕ, Bool, true, ◌&&◌, List, [], ◌∷◌, ◌++◌, refl, sym, ap₂, subst}
use Rattle.std.specs.Prelude.{nat_le}
use Rattle.std.specs.List.{list_all, flat_map}
use Rattle.std.proofs.lemmas.Bool.{and_parts, false≢true}
use Rattle.pddl_syntax.specs.Words.{Name}
use Rattle.pddl_syntax.specs.Step.{shown}
use Rattle.normal_task.specs.Lawful.{is_word}

abbrev printable : ℕ → Bool
printable byte = nat_le 33 byte && nat_le byte 126

abbrev after_spaces : List Name → List ℕ
after_spaces objects = flat_map (λ object. 32 ∷ object) objects

heads : (a b : ℕ) (xs ys : List ℕ) → a ∷ xs ≡ b ∷ ys → a ≡ b
heads a b xs ys same = cc (same)

tails : (a b : ℕ) (xs ys : List ℕ) → a ∷ xs ≡ b ∷ ys → xs ≡ ys
tails a b xs ys same = cc (same)

-- no space begins a name
no_space : (byte : ℕ) → printable byte ≡ true → 32 ≡ byte → ⊥
no_space byte is same = false≢true (subst (λ (b : ℕ). printable b ≡ true) (sym same) is)

-- a word ends where a space or nothing follows
cut_word : (a b : List ℕ) (xs ys : List Name) → list_all printable a ≡ true → list_all printable b ≡ true → (after_spaces xs ≡ after_spaces ys → xs ≡ ys) → a ++ after_spaces xs ≡ b ++ after_spaces ys → (a ≡ b) × (xs ≡ ys)
cut_word [] [] xs ys plain plain' rest same = (refl, rest same)
cut_word [] (y ∷ b) [] ys plain plain' rest same = absurd cc
cut_word [] (y ∷ b) (x ∷ xs) ys plain plain' rest same =
    absurd (no_space y (and_parts (printable y) (list_all printable b) plain').0 (heads 32 y (x ++ after_spaces xs) (b ++ after_spaces ys) same))
cut_word (x ∷ a) [] xs [] plain plain' rest same = absurd cc
cut_word (x ∷ a) [] xs (y ∷ ys) plain plain' rest same =
    absurd (no_space x (and_parts (printable x) (list_all printable a) plain).0 (sym (heads x 32 (a ++ after_spaces xs) (y ++ after_spaces ys) same)))
cut_word (x ∷ a) (y ∷ b) xs ys plain plain' rest same =
    let more = cut_word a b xs ys (and_parts (printable x) (list_all printable a) plain).1 (and_parts (printable y) (list_all printable b) plain').1 rest (tails x y (a ++ after_spaces xs) (b ++ after_spaces ys) same) in
    (ap₂ (λ (byte : ℕ) (l : List ℕ). byte ∷ l) (heads x y (a ++ after_spaces xs) (b ++ after_spaces ys) same) more.0, more.1)

word_plain : (name : Name) → is_word name ≡ true → list_all printable name ≡ true
word_plain [] is = refl
word_plain (byte ∷ name) is = is

cut_words : (xs ys : List Name) → list_all is_word xs ≡ true → list_all is_word ys ≡ true → after_spaces xs ≡ after_spaces ys → xs ≡ ys
cut_words [] [] words words' same = refl
cut_words [] (y ∷ ys) words words' same = absurd cc
cut_words (x ∷ xs) [] words words' same = absurd cc
cut_words (x ∷ xs) (y ∷ ys) words words' same =
    let one = and_parts (is_word x) (list_all is_word xs) words in
    let other = and_parts (is_word y) (list_all is_word ys) words' in
    let cut = cut_word x y xs ys (word_plain x one.0) (word_plain y other.0) (cut_words xs ys one.1 other.1) (tails 32 32 (x ++ after_spaces xs) (y ++ after_spaces ys) same) in
    ap₂ (λ (name : Name) (l : List Name). name ∷ l) cut.0 cut.1

-- names of steps are the same only where the actions' names and the objects' are
pub cut_name : (a b : Name) (xs ys : List Name) → is_word a ≡ true → is_word b ≡ true → list_all is_word xs ≡ true → list_all is_word ys ≡ true → shown a xs ≡ shown b ys → (a ≡ b) × (xs ≡ ys)
cut_name a b xs ys word word' words words' same = cut_word a b xs ys (word_plain a word) (word_plain b word') (cut_words xs ys words words') same
