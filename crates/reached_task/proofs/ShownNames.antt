-- What is written of facts is one line, with no space at either end.
use Rattle.std.proofs.Common.{◌≡◌, ◌≢◌, ℕ, ◌-◌, true, inl, inr, List, [], ◌∷◌, ◌++◌, length, get_or, sym, ap, ◌∙◌, subst, arith, length-append}
use Rattle.std.specs.Prelude.{codes}
use Rattle.std.specs.List.{list_all, flat_map}
use Rattle.std.proofs.lemmas.Bool.{cases_lt}
use Rattle.std.proofs.lemmas.List.{get_or_past}
use Rattle.std.proofs.lemmas.List.Elements.{All-append}
use Rattle.std.proofs.Math.ListN.{get_or-append}
use Rattle.std.proofs.Math.Seq.{get_or-append_seam}
use Rattle.lists.proofs.Items.{Among, among_at, all_passes}
use Rattle.normal_task.specs.Lawful.{is_word}
use Rattle.ground_task.proofs.Names.{is_long, byte_printed, word_one_line}
use Rattle.ground_task.proofs.Statics.{all_if}
use Rattle.ground_task.specs.declared.types.Ground.{Ground}
use Rattle.lists.specs.Names.{is_name}
use Rattle.lists.proofs.Names.{IsOneLine, name_from}
use Rattle.normal_task.specs.declared.task.GroundAtom.{GroundAtom}
use Rattle.reached_task.specs.Reachable.{object_of, joined, predicate_name, shown_atom}

empty_one_line : IsOneLine []
empty_one_line k d below = absurd (omega arith)

-- ---- the names of objects

module _ (task : Ground) (words : list_all is_word task.objects ≡ true) where
  object_one_line : (object : ℕ) → IsOneLine (object_of task object)
  object_one_line object = elim (cases_lt object (length task.objects)) [
    | inl within ↦ word_one_line (object_of task object) (all_passes is_word (object_of task object) task.objects (among_at task.objects object [] within) words)
    | inr past ↦ subst IsOneLine (sym (get_or_past task.objects object [] past)) empty_one_line
  ]

  more_one_line : (objects : List ℕ) → IsOneLine (flat_map (λ object. codes ", " ++ object_of task object) objects)
  more_one_line [] = empty_one_line
  more_one_line (object ∷ objects) =
      All-append (λ (b : ℕ). b ≢ 10) (codes ", " ++ object_of task object) (flat_map (λ object. codes ", " ++ object_of task object) objects)
      (All-append (λ (b : ℕ). b ≢ 10) (codes ", ") (object_of task object) comma (object_one_line object))
      (more_one_line objects)
    where
      comma : IsOneLine (codes ", ")
      comma = all_if (λ (b : ℕ). b ≢ 10) (codes ", ") (λ b among feed. by b among feed)
        where
          by : (b : ℕ) → Among b (codes ", ") → b ≡ 10 → ⊥
          by b (inl here) feed = absurd (omega arith)
          by b (inr (inl here)) feed = absurd (omega arith)
          by b (inr (inr none)) feed = none

  joined_one_line : (objects : List ℕ) → IsOneLine (joined task objects)
  joined_one_line [] = empty_one_line
  joined_one_line (first ∷ more) =
      All-append (λ (b : ℕ). b ≢ 10) (object_of task first) (flat_map (λ object. codes ", " ++ object_of task object) more) (object_one_line first) (more_one_line more)

-- ---- a text that ends in a bracket

single_one_line : (byte : ℕ) → byte ≢ 10 → IsOneLine (byte ∷ [])
single_one_line byte other = all_if (λ (b : ℕ). b ≢ 10) (byte ∷ []) by
  where
    by : (b : ℕ) → Among b (byte ∷ []) → b ≢ 10
    by b (inl here) feed = other (here ∙ feed)
    by b (inr none) feed = none

pub bracketed : (name middle : List ℕ) → is_word name ≡ true → IsOneLine middle → is_name (((name ++ 40 ∷ []) ++ middle) ++ 41 ∷ []) ≡ true
bracketed name middle word one_line =
    let open' : List ℕ = name ++ 40 ∷ [] in
    let front : List ℕ = open' ++ middle in
    let some = is_long name word in
    let size = length-append name (40 ∷ []) in
    let size' = length-append open' middle in
    let size'' = length-append front (41 ∷ []) in
    let first = get_or-append front (41 ∷ []) 0 0 (omega arith) in
    let first' = get_or-append open' middle 0 0 (omega arith) in
    let first'' = get_or-append name (40 ∷ []) 0 0 (omega arith) in
    let printed = byte_printed name word (get_or name 0 0) (among_at name 0 0 some) in
    let last : get_or (front ++ 41 ∷ []) (length front) 0 ≡ 41 = get_or-append_seam front 41 [] 0 in
    let place : length (front ++ 41 ∷ []) - 1 ≡ length front = omega arith in
    let same : get_or (front ++ 41 ∷ []) (length (front ++ 41 ∷ []) - 1) 0 ≡ get_or (front ++ 41 ∷ []) (length front) 0 = ap (λ (n : ℕ). get_or (front ++ 41 ∷ []) n 0) place in
    name_from (front ++ 41 ∷ []) record {
      written = omega arith;
      one_line =
          All-append (λ (b : ℕ). b ≢ 10) front (41 ∷ [])
          (All-append (λ (b : ℕ). b ≢ 10) open' middle (All-append (λ (b : ℕ). b ≢ 10) name (40 ∷ []) (word_one_line name word) (single_one_line 40 (λ e. absurd (omega (arith, e))))) one_line)
          (single_one_line 41 (λ e. absurd (omega (arith, e))));
      first = λ space. omega (arith, space);
      last = λ space. omega (arith, space);
    }

-- a fact is shown by its predicate's name, a word, and the names of objects
pub shown_is_name : (task : Ground) (atom : GroundAtom) → list_all is_word task.objects ≡ true → is_word (predicate_name task atom.predicate) ≡ true → is_name (shown_atom task atom) ≡ true
shown_is_name task atom objects predicate = bracketed (predicate_name task atom.predicate) (joined task atom.objects) predicate (joined_one_line task objects atom.objects)
