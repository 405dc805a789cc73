-- The line of a variable's name.
use Rattle.std.proofs.Common.{◌≡◌, ℕ, ◌<◌, ◌^◌, true, false, ◌&&◌, eqb, [], ◌∷◌, ◌++◌, length, take, drop, Option, Some, None, inl, inr, refl, sym, ap, ◌∙◌}
use Rattle.std.specs.Prelude.{codes, nat_eq}
use Rattle.std.specs.Option.{option_eq}
use Rattle.std.proofs.Math.Bool.{and_assoc}
use Rattle.std.proofs.lemmas.Bool.{cases_Bool, eq-eqb, ne_eqb, false≢true}
use Rattle.std.proofs.lemmas.Cmp.{nat_list_eq_equiv}
use Rattle.sas_task.specs.Output.{Line, numeral}
use Rattle.sas_reader.specs.Words.{is_same, number}
use Rattle.sas_reader.proofs.Lines.{same_bytes}
use Rattle.sas_reader.proofs.Numerals.{number_numeral, numeral_number}

-- a line is one text after another where its front is the first and its rest the second
prefix_split : (p q line : Line) → is_same line (p ++ q) ≡ (is_same (take (length p) line) p && is_same (drop (length p) line) q)
prefix_split [] q line = refl
prefix_split (x ∷ p) q [] = refl
prefix_split (x ∷ p) q (y ∷ line) = ap (λ b. eqb y x && b) (prefix_split p q line) ∙ sym (and_assoc (eqb y x) (is_same (take (length p) line) p) (is_same (drop (length p) line) q))

number_same : (digits : Line) (n : ℕ) → n < 2 ^ 64 → option_eq nat_eq (number digits) (Some n) ≡ is_same digits (numeral n)
number_same digits n small =
    elim (cases_Bool (is_same digits (numeral n))) [
      | inl same ↦
          let is : number digits ≡ Some n = ap number (same_bytes digits (numeral n) same) ∙ numeral_number n small in
          ap (λ o. option_eq nat_eq o (Some n)) is ∙ eq-eqb n n refl ∙ sym same
      | inr other ↦ differs (number digits) refl other ∙ sym other
    ]
  where
    differs : (o : Option ℕ) → number digits ≡ o → is_same digits (numeral n) ≡ false → option_eq nat_eq o (Some n) ≡ false
    differs None is other = refl
    differs (Some m) is other =
        ne_eqb m n (λ e.
        let line : digits ≡ numeral n = (number_numeral digits m is).0 ∙ ap numeral e in
        let yes : is_same digits (numeral n) ≡ true = ap (λ l. is_same l (numeral n)) line ∙ nat_list_eq_equiv.refl (numeral n) in
        false≢true (sym other ∙ yes))

pub name_after : (line digits : Line) (n : ℕ) → n < 2 ^ 64 → is_same (take 3 line) (codes "var") ≡ true → digits ≡ drop 3 line → option_eq nat_eq (number digits) (Some n) ≡ is_same line (codes "var" ++ numeral n)
name_after line digits n small front rest =
    number_same digits n small ∙ ap (λ l. is_same l (numeral n)) rest
    ∙ sym (prefix_split (codes "var") (numeral n) line ∙ ap (λ b. b && is_same (drop 3 line) (numeral n)) front)

pub no_name : (line : Line) (n : ℕ) → is_same (take 3 line) (codes "var") ≡ false → false ≡ is_same line (codes "var" ++ numeral n)
no_name line n other = sym (prefix_split (codes "var") (numeral n) line ∙ ap (λ b. b && is_same (drop 3 line) (numeral n)) other)
