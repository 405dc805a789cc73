-- The first position of what the mentions of a file give.
use Rattle.std.proofs.Common.{◌≡◌, Bool, true, false, cond, refl, List, [], ◌∷◌, ◌++◌, map, sym, ap, ◌∙◌}
use Rattle.std.specs.Bool.{then_some}
use Rattle.std.specs.List.{flat_map, filter}
use Rattle.std.proofs.lemmas.List.Folds.{flat_map-map}
use Rattle.std.proofs.lemmas.List.{map-append}
use Rattle.std.proofs.lemmas.List.Elements.{filter-append}
use Rattle.pddl_lexer.specs.declared.position.At.{At}
use Rattle.pddl_syntax.specs.declared.types.Named.{Named}
use Rattle.fault_positions.specs.declared.mentions.Mention as code
use Rattle.fault_positions.specs.Positions.{earliest, positions_where}
use Rattle.fault_positions.specs.Mentions.{Mention, Use}
use Rattle.fault_positions.specs.Seen.{seen, all_seen}

-- positions that are given piece by piece
abbrev pub Joins : {A : Type 0} → (List A → List At) → Type 0
Joins {A} positions_of = (items others : List A) → positions_of (items ++ others) ≡ positions_of items ++ positions_of others

-- the positions of those that pass a test
module _ {A : Type 0} (test : A → Bool) (position : A → At) where
  abbrev pub where_passes : List A → List At
  where_passes items = map position (filter test items)

  pub first_where : (item : A) → then_some (test item) (position item) ≡ earliest (where_passes (item ∷ []))
  first_where item = by (test item)
    where
      by : (b : Bool) → then_some b (position item) ≡ earliest (map position (cond b (item ∷ []) []))
      by true = refl
      by false = refl

  pub filtered_join : Joins where_passes
  filtered_join items others = ap (map position) (filter-append test items others) ∙ map-append position (filter test items) (filter test others)

  pub where_each : (items : List A) → flat_map (λ item. where_passes (item ∷ [])) items ≡ where_passes items
  where_each [] = refl
  where_each (item ∷ items) = ap (λ positions. where_passes (item ∷ []) ++ positions) (where_each items) ∙ sym (filtered_join (item ∷ []) items)

pub positions_where_join : (test : Named → Bool) → Joins (positions_where test)
positions_where_join test = filtered_join test (λ name. name.at)

-- the positions of the names of uses
pub names_join : (test : Named → Bool) → Joins (λ (uses : List Use). positions_where test (map (λ usage. usage.name) uses))
names_join test items others =
    ap (positions_where test) (map-append (λ (usage : Use). usage.name) items others) ∙ positions_where_join test (map (λ (usage : Use). usage.name) items) (map (λ (usage : Use). usage.name) others)

-- the positions of pieces, one after another, are the positions of all pieces joined
module _ {A : Type 0} (positions_of : List A → List At) (empty : positions_of [] ≡ []) (join : Joins positions_of) where
  pub of_pieces : {X : Type 0} (given : X → List A) (xs : List X) → flat_map (λ x. positions_of (given x)) xs ≡ positions_of (flat_map given xs)
  of_pieces given [] = sym empty
  of_pieces given (x ∷ xs) = ap (λ positions. positions_of (given x) ++ positions) (of_pieces given xs) ∙ sym (join (given x) (flat_map given xs))

  pub of_items : {X : Type 0} (given : X → A) (xs : List X) → flat_map (λ x. positions_of (given x ∷ [])) xs ≡ positions_of (map given xs)
  of_items given [] = sym empty
  of_items given (x ∷ xs) = ap (λ positions. positions_of (given x ∷ []) ++ positions) (of_items given xs) ∙ sym (join (given x ∷ []) (map given xs))

  pub of_mentions : (given : Mention → List A) (mentions : List code.Mention) → flat_map (λ mention. positions_of (given (seen mention))) mentions ≡ positions_of (flat_map given (all_seen mentions))
  of_mentions given mentions = of_pieces (λ mention. given (seen mention)) mentions ∙ ap positions_of (sym (flat_map-map given seen mentions))
