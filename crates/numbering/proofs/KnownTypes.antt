-- What is known of types once one more list of types was asked for.
use Rattle.std.proofs.Common.{◌≡◌, Bool, true, false, not, cond, ◌||◌, ℕ, ◌<◌, List, [], ◌∷◌, ◌++◌, map, length, get_or, refl, sym, ap, ◌∙◌, append-nil, subst, arith}
use Rattle.std.specs.List.{flat_map, position_or_len}
use Rattle.std.proofs.Math.Bool.{or-false}
use Rattle.std.proofs.lemmas.Bool.{false≢true}
use Rattle.std.proofs.lemmas.List.Concat.{flat_map-append}
use Rattle.std.proofs.lemmas.List.Folds.{list_any-append}
use Rattle.std.proofs.lemmas.List.{get_or-map, length-map, map-append}
use Rattle.std.proofs.lemmas.List.Sums.{passes_at_first}
use Rattle.pddl_syntax.specs.declared.types.Domain.{Domain}
use Rattle.pddl_syntax.specs.declared.types.Named.{Named}
use Rattle.pddl_syntax.specs.declared.types.Problem.{Problem}
use Rattle.pddl_syntax.specs.Words.{Name, is_same}
use Rattle.names.proofs.SameNames.{same_name}
use Rattle.numbering.specs.Below.{has, one_type, objects_of_type}
use Rattle.numbering.specs.Known.{AreKnown}

one_more : (asked : List (List Named)) (listed : List Named) (name : Name) →
    has (flat_map one_type (asked ++ listed ∷ [])) name ≡ (has (flat_map one_type asked) name || has (one_type listed) name)
one_more asked listed name =
    ap (λ (types : List Name). has types name) (flat_map-append one_type asked (listed ∷ []) ∙ ap (λ (types : List Name). flat_map one_type asked ++ types) (append-nil (one_type listed)))
    ∙ list_any-append (is_same name) (flat_map one_type asked) (one_type listed)

turned : (a b : Bool) → (a || b) ≡ (b || (a || false))
turned true true = refl
turned true false = refl
turned false true = refl
turned false false = refl

module _ (domain : Domain) (problem : Problem) (asked : List (List Named)) (listed : List Named) (types : List Name) (ranges : List (List ℕ)) (before : AreKnown domain problem asked types ranges) where
  -- no type is listed alone
  pub none_asked : one_type listed ≡ [] → AreKnown domain problem (asked ++ listed ∷ []) types ranges
  none_asked none = record {
    known = λ name. before.known name ∙ sym (or-false (has (flat_map one_type asked) name)) ∙ sym (one_more asked listed name ∙ ap (λ (more : List Name). has (flat_map one_type asked) name || has more name) none);
    ranged = before.ranged;
  }

  -- the type that is listed alone is known
  pub one_asked : (type : Name) (types' : List Name) (ranges' : List (List ℕ)) → one_type listed ≡ type ∷ [] →
      ((name : Name) → has types' name ≡ (is_same name type || has types name)) → ranges' ≡ map (objects_of_type domain problem) types' →
      AreKnown domain problem (asked ++ listed ∷ []) types' ranges'
  one_asked type types' ranges' one added ranged = record {
    known = λ name. added name ∙ ap (λ b. is_same name type || b) (before.known name) ∙ turned (is_same name type) (has (flat_map one_type asked) name)
        ∙ sym (one_more asked listed name ∙ ap (λ (more : List Name). has (flat_map one_type asked) name || has more name) one);
    ranged = ranged;
  }

  -- its objects are put behind those of the types that were known
  pub one_more_range : (type : Name) (types' : List Name) (range : List ℕ) → types' ≡ types ++ type ∷ [] → range ≡ objects_of_type domain problem type →
      ranges ++ range ∷ [] ≡ map (objects_of_type domain problem) types'
  one_more_range type types' range more is =
      ap (λ (r : List ℕ). ranges ++ r ∷ []) is ∙ ap (λ (l : List (List ℕ)). l ++ objects_of_type domain problem type ∷ []) before.ranged
      ∙ sym (ap (map (objects_of_type domain problem)) more ∙ map-append (objects_of_type domain problem) types (type ∷ []))

-- what adding a name to a set says
pub is_added : (is_new there : Bool) (types more after : List Name) → is_new ≡ not there → is_new ≡ true → after ≡ cond there types more → after ≡ more
is_added is_new true types more after tells new made = absurd (false≢true (sym tells ∙ new))
is_added is_new false types more after tells new made = made

pub is_kept : (is_new there : Bool) (types more after : List Name) → is_new ≡ not there → is_new ≡ false → after ≡ cond there types more → after ≡ types
is_kept is_new true types more after tells old made = made
is_kept is_new false types more after tells old made = absurd (false≢true (sym old ∙ tells))

-- the objects at the place of a known type are its own
pub known_at : (domain : Domain) (problem : Problem) (types : List Name) (ranges : List (List ℕ)) → ranges ≡ map (objects_of_type domain problem) types →
    (type : Name) (place : ℕ) → place ≡ position_or_len (is_same type) types → place < length ranges → (range : List ℕ) → range ≡ get_or ranges place range → range ≡ objects_of_type domain problem type
known_at domain problem types ranges ranged type place is within range at =
    let objects = objects_of_type domain problem in
    let among : place < length types = omega (arith, within, ap (λ (l : List (List ℕ)). length l) ranged, length-map types objects) in
    at ∙ ap (λ (l : List (List ℕ)). get_or l place range) ranged ∙ get_or-map objects types place type range among
    ∙ ap (λ (k : ℕ). objects (get_or types k type)) is
    ∙ ap objects (sym (same_name type (get_or types (position_or_len (is_same type) types) type) (passes_at_first (is_same type) types type (subst (λ (k : ℕ). k < length types) is among))))
