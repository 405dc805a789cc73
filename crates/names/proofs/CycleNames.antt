-- The names on cycles are those from which a link leads that closes one.
use Rattle.std.proofs.Common.{◌≡◌, ℕ, ◌+◌, ◌<◌, ◌≤◌, Bool, true, false, ◌&&◌, ◌||◌, List, map, take, length, get_or, refl, sym, ap, ◌∙◌, arith}
use Rattle.std.specs.List.{list_any}
use Rattle.std.proofs.lemmas.Cmp.{nat_list_eq_equiv}
use Rattle.std.proofs.lemmas.List.{get_or-map, length-map, take_all}
use Rattle.names.specs.Names.{Name, is_same}
use Rattle.names.proofs.SameNames.{same_name}
use Rattle.names.specs.declared.links.Ends.{Ends}
use Rattle.names.specs.Links.{Link, link, leads, is_on_cycle}
use Rattle.names.specs.Cycles.{closes, links_of}
use Rattle.lists.proofs.Items.{same_any}
use Rattle.lists.proofs.LoopSteps.{any_next}

-- the link leads on from the name, and closes a cycle
abbrev pub turns : List Link → Name → Link → Bool
turns links name one = is_same name one.from && closes links one

-- a name is on a cycle where a link from it closes one
on_cycle : (links : List Link) (name : Name) → list_any (turns links name) links ≡ is_on_cycle links name
on_cycle links name = same_any (turns links name) (λ one. is_same one.from name && leads links (length links) one.to name) links (λ one among. same one)
  where
    same : (one : Link) → turns links name one ≡ (is_same one.from name && leads links (length links) one.to name)
    same one = ap (λ b. b && closes links one) (nat_list_eq_equiv.symm name one.from) ∙ by (is_same one.from name) refl
      where
        by : (from : Bool) → is_same one.from name ≡ from → (from && leads links (length links) one.to one.from) ≡ (from && leads links (length links) one.to name)
        by true e = ap (λ to. leads links (length links) one.to to) (same_name one.from name e)
        by false e = refl

-- ---- the loops

with_turn : (here there closing : Bool) → closing ≡ true → (here || there) ≡ (there || (here && closing))
with_turn true true closing is = refl
with_turn true false closing is = sym is
with_turn false true closing is = refl
with_turn false false closing is = refl

without_turn : (here there closing : Bool) → closing ≡ false → there ≡ (there || (here && closing))
without_turn here true closing is = refl
without_turn true false closing is = sym is
without_turn false false closing is = refl

module _ (pairs : List Ends) (i : ℕ) (other : Ends) (within : i < length pairs) where
  abbrev links : List Link
  links = links_of pairs

  abbrev link_of : Ends → Link
  link_of pair = link pair.from.now pair.to.now

  abbrev this : Link
  this = link_of (get_or pairs i other)

  link_is : (another : Link) → get_or links i another ≡ this
  link_is another = get_or-map link_of pairs i other another within

  inside : i < length links
  inside = omega (arith, within, length-map pairs link_of)

  -- the answer for the link
  pub answer_at : (answers : List Bool) (answer : Bool) → answers ≡ map (closes links) links → answer ≡ get_or answers i answer → answer ≡ closes links this
  answer_at answers answer are is =
      is ∙ ap (λ (bs : List Bool). get_or bs i answer) are ∙ get_or-map (closes links) links i this answer inside ∙ ap (closes links) (link_is this)

  -- the names from which one of the first links leads that closes a cycle
  abbrev pub Are : ℕ → List Name → Type 0
  Are count names = (name : Name) → list_any (is_same name) names ≡ list_any (turns links name) (take count links)

  turns_more : (name : Name) → list_any (turns links name) (take (i + 1) links) ≡ (list_any (turns links name) (take i links) || turns links name this)
  turns_more name = any_next links i this inside (sym (link_is this)) (turns links name)

  pub named : (before after : List Name) → closes links this ≡ true → Are i before → ((name : Name) → list_any (is_same name) after ≡ (is_same name this.from || list_any (is_same name) before)) → Are (i + 1) after
  named before after closing was added = λ name.
      added name
      ∙ ap (λ b. is_same name this.from || b) (was name)
      ∙ with_turn (is_same name this.from) (list_any (turns links name) (take i links)) (closes links this) closing
      ∙ sym (turns_more name)

  pub passed : (before : List Name) → closes links this ≡ false → Are i before → Are (i + 1) before
  passed before open_ended was = λ name.
      was name ∙ without_turn (is_same name this.from) (list_any (turns links name) (take i links)) (closes links this) open_ended ∙ sym (turns_more name)

-- all links passed
pub all_passed : (pairs : List Ends) (i : ℕ) (names : List Name) → length pairs ≤ i →
    ((name : Name) → list_any (is_same name) names ≡ list_any (turns (links_of pairs) name) (take i (links_of pairs))) → (name : Name) → list_any (is_same name) names ≡ is_on_cycle (links_of pairs) name
all_passed pairs i names past was name =
    was name
    ∙ ap (list_any (turns (links_of pairs) name)) (take_all i (links_of pairs) (omega (arith, past, length-map pairs (λ (pair : Ends). link pair.from.now pair.to.now))))
    ∙ on_cycle (links_of pairs) name
