-- The text of a valid task is read as that task.
use Rattle.std.proofs.Common.{ℕ, ◌^◌, ◌<◌, ◌≤◌, List, [], ◌∷◌, ◌++◌, length, map, arith, length-append}
use Rattle.std.specs.List.{All, flat_map}
use Rattle.std.proofs.lemmas.List.Elements.{All-nil, All-cons, All-contains}
use Rattle.lists.proofs.Members.{member_map, member_flat_map, all_from_members}
use Rattle.sas_task.specs.declared.parts.Effect.{Effect}
use Rattle.sas_task.specs.declared.parts.Operator.{Operator}
use Rattle.sas_task.specs.Output.{Line, numeral, number_or_none, spaced, pair_words, required_value, effect_line}

-- each item has a line, so there are no more items than lines
pub many : {X : Type 0} (f : X → List Line) (xs : List X) → ((x : X) → 0 < length (f x)) → length xs ≤ length (flat_map f xs)
many f [] some = omega arith
many f (x ∷ xs) some = omega (arith, some x, many f xs some, length-append (f x) (flat_map f xs))

-- the lines of one item are among all
pub each_short : {X : Type 0} (f : X → List Line) (xs : List X) (n : ℕ) → length (flat_map f xs) < n → All (λ x. length (f x) < n) xs
each_short f [] n short = All-nil (λ x. length (f x) < n)
each_short f (x ∷ xs) n short =
    let len = length-append (f x) (flat_map f xs) in
    All-cons (λ x. length (f x) < n) x xs (omega (arith, short, len)) (each_short f xs n (omega (arith, short, len)))

-- a fact on each line of the items is one on the lines of each item
pub flat_each : {X : Type 0} (Q : Line → Type 0) (f : X → List Line) (xs : List X) → All Q (flat_map f xs) → All (λ x. All Q (f x)) xs
flat_each Q f xs are = all_from_members (λ x. All Q (f x)) xs (λ x in'. all_from_members Q (f x) (λ l there. All-contains Q (flat_map f xs) l are (member_flat_map f xs x l in' there)))

pub mapped_each : {X Y : Type 0} (P : Y → Type 0) (f : X → Y) (xs : List X) → All P (map f xs) → All (λ x. P (f x)) xs
mapped_each P f xs are = all_from_members (λ x. P (f x)) xs (λ x in'. All-contains P (map f xs) (f x) are (member_map f xs x in'))

-- the words of a line after the first are no more than its bytes
pub words_many : (w : Line) (ws : List Line) → length ws ≤ length (spaced (w ∷ ws))
words_many w [] = omega arith
words_many w (v ∷ ws) = omega (arith, words_many v ws, length-append w (32 ∷ spaced (v ∷ ws)))

pub conditions_short : (o : Operator) (e : Effect) → length (effect_line o e) < 2 ^ 63 → length e.conditions < 2 ^ 64
conditions_short o e short =
    let rest : List Line = flat_map pair_words e.conditions ++ numeral e.var ∷ number_or_none (required_value o e.var) ∷ numeral e.after ∷ [] in
    let pairs = many pair_words e.conditions (λ p. omega arith) in
    let words = words_many (numeral (length e.conditions)) rest in
    omega (arith, short, pairs, words, length-append (flat_map pair_words e.conditions) (numeral e.var ∷ number_or_none (required_value o e.var) ∷ numeral e.after ∷ []))
