-- What makes a name, in parts.
use Rattle.std.proofs.Common.{◌≡◌, ◌≢◌, ℕ, ◌-◌, ◌<◌, true, not, ◌&&◌, eqb, nat_lt, List, length, get_or, ap}
use Rattle.std.specs.List.{All, list_all}
use Rattle.std.proofs.lemmas.Bool.{both_ways, not-true, and_parts, and_from, eq-eqb, eqb-false, ne_eqb, ltb-true, lt-ltb}
use Rattle.std.proofs.lemmas.List.Elements.{All-contains}
use Rattle.lists.specs.Names.{IsName}
use Rattle.lists.proofs.Items.{each_passes, contains_among}
use Rattle.lists.proofs.Members.{all_from_members, all_pass}

-- no byte is a line feed
abbrev pub IsOneLine : List ℕ → Type 0
IsOneLine bytes = All (λ b. b ≢ 10) bytes

pub one_line_from : (bytes : List ℕ) → list_all (λ b. not (eqb b 10)) bytes ≡ true → IsOneLine bytes
one_line_from bytes pass =
    all_from_members (λ b. b ≢ 10) bytes (λ b in' same.
    both_ways (eqb b 10) (not-true (eqb b 10) (all_pass (λ c. not (eqb c 10)) bytes b pass in')) (eq-eqb b 10 same))

pub record NameParts (bytes : List ℕ) : Type 0 where
  pub written : 0 < length bytes
  pub one_line : IsOneLine bytes
  pub first : get_or bytes 0 0 ≢ 32
  pub last : get_or bytes (length bytes - 1) 0 ≢ 32

pub name_parts : (bytes : List ℕ) → IsName bytes → NameParts bytes
name_parts bytes is =
    let ends = and_parts (nat_lt 0 (length bytes) && list_all (λ b. not (eqb b 10)) bytes && not (eqb (get_or bytes 0 0) 32)) (not (eqb (get_or bytes (length bytes - 1) 0) 32)) is in
    let begins = and_parts (nat_lt 0 (length bytes) && list_all (λ b. not (eqb b 10)) bytes) (not (eqb (get_or bytes 0 0) 32)) ends.0 in
    let inside = and_parts (nat_lt 0 (length bytes)) (list_all (λ b. not (eqb b 10)) bytes) begins.0 in
    record {
      written = ltb-true 0 (length bytes) inside.0;
      one_line = one_line_from bytes inside.1;
      first = eqb-false (get_or bytes 0 0) 32 (not-true (eqb (get_or bytes 0 0) 32) begins.1);
      last = eqb-false (get_or bytes (length bytes - 1) 0) 32 (not-true (eqb (get_or bytes (length bytes - 1) 0) 32) ends.1);
    }

pub name_from : (bytes : List ℕ) → NameParts bytes → IsName bytes
name_from bytes parts =
    and_from (nat_lt 0 (length bytes) && list_all (λ b. not (eqb b 10)) bytes && not (eqb (get_or bytes 0 0) 32)) (not (eqb (get_or bytes (length bytes - 1) 0) 32))
    (and_from (nat_lt 0 (length bytes) && list_all (λ b. not (eqb b 10)) bytes) (not (eqb (get_or bytes 0 0) 32))
    (and_from (nat_lt 0 (length bytes)) (list_all (λ b. not (eqb b 10)) bytes) (lt-ltb 0 (length bytes) parts.written)
    (each_passes (λ b. not (eqb b 10)) bytes (λ b among. ap not (ne_eqb b 10 (All-contains (λ (b : ℕ). b ≢ 10) bytes b parts.one_line (contains_among bytes b among))))))
    (ap not (ne_eqb (get_or bytes 0 0) 32 parts.first)))
    (ap not (ne_eqb (get_or bytes (length bytes - 1) 0) 32 parts.last))
