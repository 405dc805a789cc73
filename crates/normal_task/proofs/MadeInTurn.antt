-- Where things made one after another stand.
use Rattle.std.proofs.Common.{ℕ, ◌+◌, ◌≤◌, List, [], ◌∷◌, map, length, refl, subst, arith, inl, inr}
use Rattle.lists.proofs.Items.{Among, among_left, among_right, among_which}
use Rattle.normal_task.specs.Parts.{Fresh, Made, in_turn}
use Rattle.normal_task.proofs.NumberedFresh.{Numbered, numbered-left, numbered-right, Any, numbered-any}
use Rattle.normal_task.proofs.Scopes.{length-append}

module _ {X A : Type 0} (make : X → ℕ → Made A) (P : ℕ → Fresh → Type 0) where
  -- a thing that was made where this holds of its new predicates, with items that are among all
  pub record Turn (xs : List X) (items : List A) (x : X) : Type 0 where
    pub next : ℕ
    pub given : Numbered P next (make x next).fresh
    pub inside : (a : A) → Among a (make x next).items → Among a items

  pub turn : (xs : List X) (start : ℕ) → Numbered P start (in_turn (map make xs) start).fresh → (x : X) → Among x xs → Turn xs (in_turn (map make xs) start).items x
  turn [] start given x there = absurd there
  turn (y ∷ xs) start given x (inl here) =
      subst (λ (z : X). Turn (y ∷ xs) (in_turn (map make (y ∷ xs)) start).items z) here
      record {
        next = start;
        given = numbered-left P start (make y start).fresh (in_turn (map make xs) (start + length (make y start).fresh)).fresh given;
        inside = λ a among. among_left a (make y start).items (in_turn (map make xs) (start + length (make y start).fresh)).items among;
      }
  turn (y ∷ xs) start given x (inr there) =
      let later = start + length (make y start).fresh in
      let rest = turn xs later (numbered-right P start (make y start).fresh (in_turn (map make xs) later).fresh given) x there in
      record { next = rest.next; given = rest.given; inside = λ a among. among_right a (make y start).items (in_turn (map make xs) later).items (rest.inside a among) }

  -- what an item was made of, where this holds of the new predicates that were made with it; they are no more than so many
  pub record Origin (xs : List X) (most : ℕ) (a : A) : Type 0 where
    pub source : X
    pub among : Among source xs
    pub next : ℕ
    pub given : Numbered P next (make source next).fresh
    pub few : length (make source next).fresh ≤ most
    pub inside : Among a (make source next).items

  pub origin : (xs : List X) (start most : ℕ) → length (in_turn (map make xs) start).fresh ≤ most → Numbered P start (in_turn (map make xs) start).fresh → (a : A) → Among a (in_turn (map make xs) start).items → Origin xs most a
  origin [] start most few given a there = absurd there
  origin (x ∷ xs) start most few given a there =
      let first = (make x start).fresh in
      let rest = in_turn (map make xs) (start + length first) in
      let size = length-append first rest.fresh in
      elim (among_which a (make x start).items rest.items there) [
        | inl here ↦ record { source = x; among = inl refl; next = start; given = numbered-left P start first rest.fresh given; few = omega (arith, few, size); inside = here }
        | inr later ↦
            let found = origin xs (start + length first) most (omega (arith, few, size)) (numbered-right P start first rest.fresh given) a later in
            record { source = found.source; among = inr found.among; next = found.next; given = found.given; few = found.few; inside = found.inside }
      ]

pub maker : {X A : Type 0} (make : X → ℕ → Made A) (xs : List X) (start : ℕ) (a : A) → Among a (in_turn (map make xs) start).items → Origin make Any xs (length (in_turn (map make xs) start).fresh) a
maker make xs start a there = origin make Any xs start (length (in_turn (map make xs) start).fresh) (omega arith) (numbered-any start (in_turn (map make xs) start).fresh) a there
