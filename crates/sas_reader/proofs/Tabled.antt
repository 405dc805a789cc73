-- What tables tell of the lines that were read.
use Rattle.std.proofs.Common.{◌≡◌, ℕ, Bool, true, false, not, ◌&&◌, ◌||◌, cond, eqb, List, [], ◌∷◌, ◌++◌, Option, Some, None, inl, inr, refl, sym, ap, ◌∙◌}
use Rattle.std.specs.BTreeMap.{BTreeMap}
use Rattle.std.specs.List.{find, list_any}
use Rattle.std.specs.Prelude.{is_some, nat_eq}
use Rattle.std.specs.Option.{option_map, option_map_or, option_eq}
use Rattle.std.proofs.lemmas.Bool.{cases_Bool}
use Rattle.sas_task.specs.declared.parts.Pair.{Pair}
use Rattle.sas_task.specs.declared.parts.Rule.{Rule}
use Rattle.sas_reader.specs.declared.requirements.Requirement.{Requirement}
use Rattle.sas_reader.specs.declared.requirements.Requirement.TheVariants.{Prevails, Changes}
use Rattle.sas_reader.specs.Operators.{Told, told_before, may_change}
use Rattle.sas_reader.specs.Tables.{first_of, IsNoted, requirement, AreRequired, AreAfters}

-- the first that passes, with one more at the end
pub find_push : {X : Type 0} (p : X → Bool) (xs : List X) (x : X) → find p (xs ++ x ∷ []) ≡ first_of (find p xs) (cond (p x) (Some x) None)
find_push p [] x = refl
find_push p (y ∷ xs) x =
    elim (cases_Bool (p y)) [
      | inl is ↦ ap (λ b. cond b (Some y) (find p (xs ++ x ∷ []))) is ∙ ap (λ b. first_of (cond b (Some y) (find p xs)) (cond (p x) (Some x) None)) (sym is)
      | inr isnt ↦
          ap (λ b. cond b (Some y) (find p (xs ++ x ∷ []))) isnt ∙ find_push p xs x
          ∙ ap (λ b. first_of (cond b (Some y) (find p xs)) (cond (p x) (Some x) None)) (sym isnt)
    ]

map_first : {X Y : Type 0} (f : X → Y) (a : Option X) (b : Bool) (x : X) → option_map f (first_of a (cond b (Some x) None)) ≡ first_of (option_map f a) (cond b (Some (f x)) None)
map_first f (Some y) b x = refl
map_first f None true x = refl
map_first f None false x = refl

pub found_push : {X Y : Type 0} (f : X → Y) (p : X → Bool) (xs : List X) (x : X) → option_map f (find p (xs ++ x ∷ [])) ≡ first_of (option_map f (find p xs)) (cond (p x) (Some (f x)) None)
found_push f p xs x = ap (option_map f) (find_push p xs x) ∙ map_first f (find p xs) (p x) x

-- one more rule
pub after_noted : (old new : BTreeMap ℕ ℕ) (earlier : List Rule) (r : Rule) → AreAfters old earlier → IsNoted old new r.var r.after → AreAfters new (earlier ++ r ∷ [])
after_noted old new earlier r are noted var =
    noted var ∙ ap (λ o. first_of o (cond (eqb r.var var) (Some r.after) None)) (are var) ∙ sym (found_push (λ (r : Rule). r.after) (λ r. eqb r.var var) earlier r)

-- one more effect line
pub change_noted : (old new : BTreeMap ℕ Requirement) (prevail : List Pair) (earlier : List Told) (t : Told) → AreRequired old prevail earlier → IsNoted old new t.0.var (Changes t.1) → AreRequired new prevail (earlier ++ t ∷ [])
change_noted old new prevail earlier t are noted var =
    noted var ∙ ap (λ o. first_of o (cond (eqb t.0.var var) (Some (Changes t.1)) None)) (are var)
    ∙ both (find (λ p. eqb p.var var) prevail) (told_before earlier var) (eqb t.0.var var) t.1
    ∙ ap (λ o. option_map_or (λ (p : Pair). Some (Prevails p.val)) (find (λ p. eqb p.var var) prevail) (option_map Changes o)) (sym (found_push (λ (t : Told). t.1) (λ t. eqb t.0.var var) earlier t))
  where
    both : (p : Option Pair) (told : Option (Option ℕ)) (b : Bool) (value : Option ℕ) →
        first_of (option_map_or (λ (p : Pair). Some (Prevails p.val)) p (option_map Changes told)) (cond b (Some (Changes value)) None)
        ≡ option_map_or (λ (p : Pair). Some (Prevails p.val)) p (option_map Changes (first_of told (cond b (Some value) None)))
    both (Some p) told b value = refl
    both None (Some before) b value = refl
    both None None true value = refl
    both None None false value = refl

-- one more prevail condition
pub prevail_noted : (old new : BTreeMap ℕ Requirement) (earlier : List Pair) (p : Pair) → AreRequired old earlier [] → IsNoted old new p.var (Prevails p.val) → AreRequired new (earlier ++ p ∷ []) []
prevail_noted old new earlier p are noted var =
    noted var ∙ ap (λ o. first_of o (cond (eqb p.var var) (Some (Prevails p.val)) None)) (are var)
    ∙ both (find (λ q. eqb q.var var) earlier) (eqb p.var var)
    ∙ ap (λ o. option_map_or (λ (q : Pair). Some (Prevails q.val)) o None) (sym (find_push (λ q. eqb q.var var) earlier p))
  where
    both : (q : Option Pair) (b : Bool) →
        first_of (option_map_or (λ (q : Pair). Some (Prevails q.val)) q None) (cond b (Some (Prevails p.val)) None)
        ≡ option_map_or (λ (q : Pair). Some (Prevails q.val)) (first_of q (cond b (Some p) None)) None
    both (Some q) b = refl
    both None true = refl
    both None false = refl

-- some item passes exactly where one is found
pub any_found : {X : Type 0} (p : X → Bool) (xs : List X) → list_any p xs ≡ is_some (find p xs)
any_found p [] = refl
any_found p (x ∷ xs) =
    elim (cases_Bool (p x)) [
      | inl is ↦ ap (λ b. b || list_any p xs) is ∙ sym (ap (λ b. is_some (cond b (Some x) (find p xs))) is)
      | inr isnt ↦ ap (λ b. b || list_any p xs) isnt ∙ any_found p xs ∙ sym (ap (λ b. is_some (cond b (Some x) (find p xs))) isnt)
    ]

-- whether what is required of a variable allows an effect line with this required value
abbrev allows : Option Requirement → Option ℕ → Bool
allows None value = true
allows (Some (Prevails val)) value = false
allows (Some (Changes before)) value = option_eq nat_eq before value

may_change_is : (prevail : List Pair) (earlier : List Told) (var : ℕ) (value : Option ℕ) → may_change prevail earlier var value ≡ allows (requirement prevail earlier var) value
may_change_is prevail earlier var value =
    ap (λ b. not b && option_map_or (λ before. option_eq nat_eq before value) (told_before earlier var) true) (any_found (λ (p : Pair). eqb p.var var) prevail)
    ∙ both (find (λ p. eqb p.var var) prevail) (told_before earlier var)
  where
    both : (p : Option Pair) (told : Option (Option ℕ)) →
        (not (is_some p) && option_map_or (λ before. option_eq nat_eq before value) told true) ≡ allows (option_map_or (λ (p : Pair). Some (Prevails p.val)) p (option_map Changes told)) value
    both (Some p) told = refl
    both None (Some before) = refl
    both None None = refl

pub allows_nothing : (prevail : List Pair) (earlier : List Told) (var : ℕ) (value : Option ℕ) → requirement prevail earlier var ≡ None → true ≡ may_change prevail earlier var value
allows_nothing prevail earlier var value is = sym (may_change_is prevail earlier var value ∙ ap (λ r. allows r value) is)

pub allows_prevail : (prevail : List Pair) (earlier : List Told) (var : ℕ) (value : Option ℕ) (val : ℕ) → requirement prevail earlier var ≡ Some (Prevails val) → false ≡ may_change prevail earlier var value
allows_prevail prevail earlier var value val is = sym (may_change_is prevail earlier var value ∙ ap (λ r. allows r value) is)

pub allows_same : (prevail : List Pair) (earlier : List Told) (var : ℕ) (value before : Option ℕ) → requirement prevail earlier var ≡ Some (Changes before) → option_eq nat_eq before value ≡ may_change prevail earlier var value
allows_same prevail earlier var value before is = sym (may_change_is prevail earlier var value ∙ ap (λ r. allows r value) is)
