-- One step more of a loop that keeps what some items are mapped to: the item is kept where an answer has a value.
use Rattle.std.proofs.Common.{◌≡◌, ℕ, ◌+◌, ◌<◌, Bool, true, false, ◌&&◌, cond, List, [], ◌∷◌, ◌++◌, map, take, drop, length, get_or, Some, None, refl, sym, ap, ◌∙◌, append-nil}
use Rattle.std.specs.Prelude.{filter}
use Rattle.std.specs.List.{list_all}
use Rattle.std.proofs.lemmas.Option.{none-some, cond_some}
use Rattle.std.proofs.lemmas.List.{map-append, drop_more}
use Rattle.std.proofs.lemmas.List.Elements.{filter-append}
use Rattle.lists.proofs.LoopSteps.{take_next, filter_next_kept, filter_next_left}
use Rattle.normal_task.specs.declared.task.GroundAtom.{GroundAtom}
use Rattle.ground_task.specs.declared.types.Cond.{Cond}
use Rattle.ground_task.specs.declared.types.GroundAction.{GroundAction}
use Rattle.ground_task.specs.declared.types.GroundEffect.{GroundEffect}
use Rattle.ground_task.specs.GroundTask.{effect_row as ground_effect, action_row as ground_action}
use Rattle.ground_task.specs.Settled.{kept_condition, kept_effects, kept_action}
use Rattle.reached_task.specs.Reachable.{is_among, number_of, numbering}

-- no value was there
pub is_none : {X : Type 0} (b : Bool) (given : X) → cond b (Some given) None ≡ None → b ≡ false
is_none true given e = absurd (none-some given (sym e))
is_none false given e = refl

-- ---- turns

module _ {A B C D : Type 0} (row : D → C) (keep : B → C) (test : B → Bool) (ground : A → B) where
  abbrev kept : List A → List C
  kept xs = map keep (filter test (map ground xs))

  -- what is kept of some items and of one more
  module _ (xs : List A) (x : A) where
    next : kept (xs ++ x ∷ []) ≡ kept xs ++ map keep (cond (test (ground x)) (ground x ∷ []) [])
    next =
        ap (λ rows. map keep (filter test rows)) (map-append ground xs (x ∷ []))
        ∙ ap (map keep) (filter-append test (map ground xs) (ground x ∷ []))
        ∙ map-append keep (filter test (map ground xs)) (filter test (ground x ∷ []))

    pub kept_more : (before : List D) (more : D) → map row before ≡ kept xs → test (ground x) ≡ true → row more ≡ keep (ground x) → map row (before ++ more ∷ []) ≡ kept (xs ++ x ∷ [])
    kept_more before more held passes made =
        map-append row before (more ∷ [])
        ∙ ap (λ all. all ++ row more ∷ []) held
        ∙ ap (λ last. kept xs ++ last ∷ []) made
        ∙ sym (next ∙ ap (λ b. kept xs ++ map keep (cond b (ground x ∷ []) [])) passes)

    pub left_more : (before : List D) → map row before ≡ kept xs → test (ground x) ≡ false → map row before ≡ kept (xs ++ x ∷ [])
    left_more before held fails = held ∙ sym (append-nil (kept xs)) ∙ sym (next ∙ ap (λ b. kept xs ++ map keep (cond b (ground x ∷ []) [])) fails)

  -- the item is the next one of a list
  module _ (xs : List A) (i : ℕ) (x : A) (within : i < length xs) (is : x ≡ get_or xs i x) where
    pub kept_turn : (before : List D) (more : D) → map row before ≡ kept (take i xs) → test (ground x) ≡ true → row more ≡ keep (ground x) → map row (before ++ more ∷ []) ≡ kept (take (i + 1) xs)
    kept_turn before more held passes made = kept_more (take i xs) x before more held passes made ∙ sym (ap kept (take_next xs i x within is))

    pub left_turn : (before : List D) → map row before ≡ kept (take i xs) → test (ground x) ≡ false → map row before ≡ kept (take (i + 1) xs)
    left_turn before held fails = left_more (take i xs) x before held fails ∙ sym (ap kept (take_next xs i x within is))

-- what an action is made of is what is kept of it
pub action_is : (facts : List GroundAtom) (row : GroundAction) (name : List ℕ) (condition : Cond ℕ) (effects : List GroundEffect) → name ≡ row.name → kept_condition (numbering facts) row.condition ≡ condition → effects ≡ row.effects →
    record { name = name; condition = condition; effects = kept_effects (numbering facts) (map ground_effect effects); cost = row.cost } ≡ kept_action (numbering facts) (ground_action row)
action_is facts row name condition effects names conditions same =
    λ i. record { name = names i; condition = sym conditions i; effects = kept_effects (numbering facts) (map ground_effect (same i)); cost = row.cost }

-- ---- numbers of atoms

pub all_next : (facts atoms : List GroundAtom) (i : ℕ) (atom : GroundAtom) → i < length atoms → atom ≡ get_or atoms i atom → (all : Bool) → all ≡ list_all (is_among facts) (drop i atoms) → (b : Bool) → is_among facts atom ≡ b →
    all ≡ (b && list_all (is_among facts) (drop (i + 1) atoms))
all_next facts atoms i atom within is all held b told =
    held
    ∙ ap (list_all (is_among facts)) (drop_more atoms i atom within)
    ∙ ap (λ (a : GroundAtom). is_among facts a && list_all (is_among facts) (drop (i + 1) atoms)) (sym is)
    ∙ ap (λ answer. answer && list_all (is_among facts) (drop (i + 1) atoms)) told

module _ (facts atoms : List GroundAtom) (i : ℕ) (atom : GroundAtom) (within : i < length atoms) (is : atom ≡ get_or atoms i atom) (before : List ℕ)
    (held : before ≡ map (number_of facts) (filter (is_among facts) (take i atoms))) where
  pub number_turn : (number : ℕ) → cond (is_among facts atom) (Some (number_of facts atom)) None ≡ Some number → before ++ number ∷ [] ≡ map (number_of facts) (filter (is_among facts) (take (i + 1) atoms))
  number_turn number told =
      let found = cond_some (is_among facts atom) (number_of facts atom) number told in
      ap (λ all. all ++ number ∷ []) held
      ∙ ap (λ n. map (number_of facts) (filter (is_among facts) (take i atoms)) ++ n ∷ []) (sym found.1)
      ∙ sym (ap (map (number_of facts)) (filter_next_kept atoms i atom within is (is_among facts) found.0) ∙ map-append (number_of facts) (filter (is_among facts) (take i atoms)) (atom ∷ []))

  pub other_turn : cond (is_among facts atom) (Some (number_of facts atom)) None ≡ None → before ≡ map (number_of facts) (filter (is_among facts) (take (i + 1) atoms))
  other_turn told = held ∙ sym (ap (map (number_of facts)) (filter_next_left atoms i atom within is (is_among facts) (is_none (is_among facts atom) (number_of facts atom) told)))
