-- Variables in scope, and the objects that they stand for, by name and by number.
use Rattle.std.proofs.Common.{◌≡◌, ℕ, suc, ◌+◌, ◌<◌, ◌≤◌, Bool, true, false, not, ◌&&◌, ◌||◌, List, [], ◌∷◌, ◌++◌, map, length, get_or, Option, Some, None, refl, sym, ap, ◌∙◌, subst, arith, inl, inr, append-nil}
use Rattle.std.specs.Prelude.{nat_eq, if◌then◌else◌}
use Rattle.std.specs.List.{list_any, filter}
use Rattle.std.proofs.lemmas.Bool.{and_parts, and_from, not-true}
use Rattle.std.proofs.lemmas.List.{get_or_append_left}
use Rattle.std.proofs.Math.Seq.{get_or-append_seam}
pub use Rattle.std.proofs.lemmas.List.{length-append, map-append, append_assoc as append-assoc}
use Rattle.lists.specs.Members.{is_among}
use Rattle.pddl_syntax.specs.declared.types.Domain.{Domain}
use Rattle.pddl_syntax.specs.declared.types.Problem.{Problem}
use Rattle.pddl_syntax.specs.declared.types.Typed.{Typed}
use Rattle.pddl_syntax.specs.Words.{Name, is_same}
use Rattle.pddl_syntax.specs.Objects as pddl
use Rattle.pddl_syntax.proofs.SameAtoms.{same_name}
use Rattle.lists.proofs.Items.{Among, filter_among, among_map, map_source, flat_map_piece, any_passes}
use Rattle.normal_task.specs.Numbers.{object_names, object_number, range_of}
use Rattle.normal_task.specs.Meaning.{Binding}
use Rattle.normal_task.proofs.Chosen.{is_choice}
use Rattle.normal_task.specs.Parts.{Slot, Scope, slot_of, with_slot, scope_inside, slots_for, renumbered, is_listed}
use Rattle.normal_task.proofs.Chosen.{eq-itself}
use Rattle.pddl_syntax.proofs.Steps.{name_same}

pub length-map : {X Y : Type 0} (f : X → Y) (xs : List X) → length (map f xs) ≡ length xs
length-map f [] = refl
length-map f (x ∷ xs) = ap (λ (n : ℕ). suc n) (length-map f xs)

-- ---- the variable that a name stands for

pub slot-here : (slot : Slot) (outer : Scope) (name : Name) → is_same slot.variable name ≡ true → slot_of (slot ∷ outer) name ≡ Some slot
slot-here slot outer name same = ap (λ b. if b then Some slot else slot_of outer name) same

pub slot-behind : (slot : Slot) (outer : Scope) (name : Name) → is_same slot.variable name ≡ false → slot_of (slot ∷ outer) name ≡ slot_of outer name
slot-behind slot outer name other = ap (λ b. if b then Some slot else slot_of outer name) other

abbrev slot_or : Slot → Option Slot → Slot
slot_or slot None = slot
slot_or slot (Some found) = found

pub same-slot : (slot other : Slot) → Some slot ≡ Some other → slot ≡ other
same-slot slot other e = ap (slot_or slot) e

-- the name stands for a variable in scope, whose number is below this one
pub record InScope (scope : Scope) (around : ℕ) (name : Name) : Type 0 where
  pub slot : Slot
  pub found : slot_of scope name ≡ Some slot
  pub within : slot.place < around

pub wider : (scope : Scope) (around more : ℕ) (name : Name) → around ≤ more → InScope scope around name → InScope scope more name
wider scope around more name fewer is = record { slot = is.slot; found = is.found; within = omega (arith, fewer, is.within) }

in_scope-behind : (slot : Slot) (outer : Scope) (around : ℕ) (name : Name) → is_same slot.variable name ≡ false → InScope outer around name → InScope (slot ∷ outer) around name
in_scope-behind slot outer around name other is = record { slot = is.slot; found = slot-behind slot outer name other ∙ is.found; within = is.within }

pub renumbered-more : (slots : List Slot) (slot : Slot) (place : ℕ) (outer : Scope) →
    renumbered (slots ++ slot ∷ []) place outer ≡ with_slot (place + length slots) slot.variable slot.range (renumbered slots place outer)
renumbered-more [] slot place outer = let same : place ≡ place + length {A = Slot} [] = omega arith in ap (λ (p : ℕ). with_slot p slot.variable slot.range outer) same
renumbered-more (first ∷ slots) slot place outer =
    renumbered-more slots slot (suc place) (with_slot place first.variable first.range outer)
    ∙ (let same : suc place + length slots ≡ place + length (first ∷ slots) = omega arith in
    ap (λ (p : ℕ). with_slot p slot.variable slot.range (renumbered slots (suc place) (with_slot place first.variable first.range outer))) same)

abbrev pub hides : Slot → (Name → Bool) → Name → Bool
hides slot asks name = asks name && not (is_same slot.variable name)

-- the slots for the names that are asked for, as far as the outer ones
abbrev pub slots_behind : (Name → Bool) → Slot → Scope → List Slot
slots_behind asks slot outer = slots_for (hides slot asks) outer

still_asked : (asks : Name → Bool) (slot : Slot) (name : Name) → asks name ≡ true → is_same slot.variable name ≡ false → hides slot asks name ≡ true
still_asked asks slot name asked other = cc (asked, other)

abbrev slots_with : Bool → List Slot → Slot → List Slot
slots_with asked slots slot = slots ++ (if asked then slot ∷ [] else [])

-- a name that is asked for is in scope among the slots for all of them
pub slots-in_scope : (asks : Name → Bool) (scope : Scope) (around : ℕ) (name : Name) → asks name ≡ true → InScope scope around name →
    InScope (renumbered (slots_for asks scope) 0 []) (length (slots_for asks scope)) name
slots-in_scope asks [] around name asked is = let none = is.found in absurd cc
slots-in_scope asks (slot ∷ outer) around name asked is =
    by (is_same slot.variable name) refl (asks slot.variable) refl (slots-in_scope (hides slot asks) outer around name)
  where
    by : (same : Bool) → is_same slot.variable name ≡ same → (a : Bool) → asks slot.variable ≡ a →
        (hides slot asks name ≡ true → InScope outer around name → InScope (renumbered (slots_behind asks slot outer) 0 []) (length (slots_behind asks slot outer)) name) →
        InScope (renumbered (slots_with a (slots_behind asks slot outer) slot) 0 []) (length (slots_with a (slots_behind asks slot outer) slot)) name
    by true e true asks_it rest =
        subst (λ (s : Scope). InScope s (length (slots_behind asks slot outer ++ slot ∷ [])) name) (sym (renumbered-more (slots_behind asks slot outer) slot 0 []))
        record {
          slot = record { variable = slot.variable; range = slot.range; place = 0 + length (slots_behind asks slot outer) };
          found = slot-here _ (renumbered (slots_behind asks slot outer) 0 []) name e;
          within = omega (arith, length-append (slots_behind asks slot outer) (slot ∷ []));
        }
    by true e false asks_it rest = let asked_too = ap asks (same_name slot.variable name e) ∙ asked in absurd cc
    by false e true asks_it rest =
        subst (λ (s : Scope). InScope s (length (slots_behind asks slot outer ++ slot ∷ [])) name) (sym (renumbered-more (slots_behind asks slot outer) slot 0 []))
        (wider _ (length (slots_behind asks slot outer)) (length (slots_behind asks slot outer ++ slot ∷ [])) name (omega (arith, length-append (slots_behind asks slot outer) (slot ∷ [])))
        (in_scope-behind _ _ (length (slots_behind asks slot outer)) name e
        (rest (still_asked asks slot name asked e) record { slot = is.slot; found = sym (slot-behind slot outer name e) ∙ is.found; within = is.within })))
    by false e false asks_it rest =
        subst (λ (s : List Slot). InScope (renumbered s 0 []) (length s) name) (sym (append-nil (slots_behind asks slot outer)))
        (rest (still_asked asks slot name asked e) record { slot = is.slot; found = sym (slot-behind slot outer name e) ∙ is.found; within = is.within })

-- ---- is a choice

pub choice-append : (xs ys : List (List ℕ)) (os ps : List ℕ) → is_choice xs os ≡ true → is_choice ys ps ≡ true → is_choice (xs ++ ys) (os ++ ps) ≡ true
choice-append [] ys [] ps left right = right
choice-append [] ys (o ∷ os) ps left right = absurd cc
choice-append (x ∷ xs) ys [] ps left right = absurd cc
choice-append (x ∷ xs) ys (o ∷ os) ps left right =
    let parts = and_parts (list_any (nat_eq o) x) (is_choice xs os) left in
    and_from (list_any (nat_eq o) x) (is_choice (xs ++ ys) (os ++ ps)) parts.0 (choice-append xs ys os ps parts.1 right)

module _ (domain : Domain) (problem : Problem) where
  abbrev pub number : Name → ℕ
  number = object_number domain problem

  abbrev pub is_known : Name → Bool
  is_known = is_among is_same (object_names domain problem)

  -- The name stands for a variable in scope. By its number that stands for the object, of those it ranges over, for which the name stands in the files.
  pub record Stands (scope : Scope) (named : pddl.Binding) (binding : Binding) (name : Name) : Type 0 where
    pub slot : Slot
    pub found : slot_of scope name ≡ Some slot
    pub within : slot.place < length binding
    pub value : get_or binding slot.place 0 ≡ number (pddl.object_at named name)
    pub known : is_known (pddl.object_at named name) ≡ true
    pub typed : list_any (nat_eq (get_or binding slot.place 0)) slot.range ≡ true

  stands-behind : (slot : Slot) (outer : Scope) (named : pddl.Binding) (binding : Binding) (name : Name) → is_same slot.variable name ≡ false → Stands (slot ∷ outer) named binding name → Stands outer named binding name
  stands-behind slot outer named binding name other is =
      record { slot = is.slot; found = sym (slot-behind slot outer name other) ∙ is.found; within = is.within; value = is.value; known = is.known; typed = is.typed }

  in_front : (slot : Slot) (outer : Scope) (named : pddl.Binding) (binding : Binding) (name : Name) → is_same slot.variable name ≡ false → Stands outer named binding name → Stands (slot ∷ outer) named binding name
  in_front slot outer named binding name other is =
      record { slot = is.slot; found = slot-behind slot outer name other ∙ is.found; within = is.within; value = is.value; known = is.known; typed = is.typed }

  -- more objects behind change nothing
  pub longer : (scope : Scope) (named : pddl.Binding) (binding more : Binding) (name : Name) → Stands scope named binding name → Stands scope named (binding ++ more) name
  longer scope named binding more name is =
      let same : get_or (binding ++ more) is.slot.place 0 ≡ get_or binding is.slot.place 0 = get_or_append_left binding more 0 is.slot.place is.within in
      record {
        slot = is.slot;
        found = is.found;
        within = omega (arith, length-append binding more, is.within);
        value = same ∙ is.value;
        known = is.known;
        typed = ap (λ (n : ℕ). list_any (nat_eq n) is.slot.range) same ∙ is.typed;
      }

  -- one more variable
  push : (place : ℕ) (variable : Name) (range : List ℕ) (outer : Scope) (named : pddl.Binding) (binding : Binding) (object : Name) (name : Name) →
      length binding ≡ place → is_known object ≡ true → list_any (nat_eq (number object)) range ≡ true →
      (is_same variable name ≡ false → Stands outer named binding name) →
      Stands (with_slot place variable range outer) (record { variable = variable; object = object } ∷ named) (binding ++ number object ∷ []) name
  push place variable range outer named binding object name long known typed old = by (is_same variable name) refl
    where
      abbrev_first : get_or (binding ++ number object ∷ []) place 0 ≡ number object
      abbrev_first = ap (λ (p : ℕ). get_or (binding ++ number object ∷ []) p 0) (sym long) ∙ get_or-append_seam binding (number object) [] 0

      by : (same : Bool) → is_same variable name ≡ same → Stands (with_slot place variable range outer) (record { variable = variable; object = object } ∷ named) (binding ++ number object ∷ []) name
      by true e =
          let object_here : pddl.object_at (record { variable = variable; object = object } ∷ named) name ≡ object = ap (λ b. if b then object else pddl.object_at named name) e in
          record {
            slot = record { variable = variable; range = range; place = place };
            found = slot-here _ outer name e;
            within = omega (arith, length-append binding (number object ∷ []), long);
            value = abbrev_first ∙ ap number (sym object_here);
            known = ap is_known object_here ∙ known;
            typed = ap (λ (n : ℕ). list_any (nat_eq n) range) abbrev_first ∙ typed;
          }
      by false e =
          let before = longer outer named binding (number object ∷ []) name (old e) in
          let object_there : pddl.object_at (record { variable = variable; object = object } ∷ named) name ≡ pddl.object_at named name = ap (λ b. if b then object else pddl.object_at named name) e in
          record {
            slot = before.slot;
            found = slot-behind _ outer name e ∙ before.found;
            within = before.within;
            value = before.value ∙ ap number (sym object_there);
            known = ap is_known object_there ∙ before.known;
            typed = before.typed;
          }

  -- ---- the objects that a variable ranges over are known

  pub range-known : (variable : Typed) (object : Name) → Among object (pddl.range domain problem variable) → is_known object ≡ true
  range-known variable object there =
      let origin = map_source (λ (o : Typed). o.name.name) (filter (pddl.has_listed_type domain.types variable.types) (pddl.objects domain problem)) object there in
      let declared = (filter_among (pddl.has_listed_type domain.types variable.types) origin.source (pddl.objects domain problem) origin.among).0 in
      any_passes (is_same object) object (object_names domain problem)
      (subst (λ (n : Name). Among n (object_names domain problem)) origin.gives (among_map (λ (o : Typed). o.name.name) origin.source (pddl.objects domain problem) declared))
      (name_same object)

  pub range-typed : (variable : Typed) (object : Name) → Among object (pddl.range domain problem variable) → list_any (nat_eq (number object)) (range_of domain problem variable) ≡ true
  range-typed variable object there =
      any_passes (nat_eq (number object)) (number object) (range_of domain problem variable) (among_map number object (pddl.range domain problem variable) there) (eq-itself (number object))

  -- ---- inside a list of variables

  pub inside-in_scope : (variables : List Typed) (place : ℕ) (outer : Scope) (name : Name) → (is_listed variables name ≡ false → InScope outer place name) →
      InScope (scope_inside domain problem variables place outer) (place + length variables) name
  inside-in_scope [] place outer name old = wider outer place (place + length {A = Typed} []) name (omega arith) (old refl)
  inside-in_scope (variable ∷ more) place outer name old =
      wider _ (suc place + length more) (place + length (variable ∷ more)) name (omega arith)
      (inside-in_scope more (suc place) (with_slot place variable.name.name (range_of domain problem variable) outer) name (by (is_same variable.name.name name) refl))
    where
      by : (same : Bool) → is_same variable.name.name name ≡ same → is_listed more name ≡ false → InScope (with_slot place variable.name.name (range_of domain problem variable) outer) (suc place) name
      by true e unlisted =
          record { slot = record { variable = variable.name.name; range = range_of domain problem variable; place = place }; found = slot-here _ outer name e; within = omega arith }
      by false e unlisted = wider _ place (suc place) name (omega arith) (in_scope-behind _ outer place name e (old (ap (λ b. b || is_listed more name) e ∙ unlisted)))

  pub inside-stands : (variables : List Typed) (names : List Name) (place : ℕ) (outer : Scope) (named : pddl.Binding) (binding : Binding) (name : Name) → length binding ≡ place → Among names (pddl.choices domain problem variables) →
      (is_listed variables name ≡ false → Stands outer named binding name) →
      Stands (scope_inside domain problem variables place outer) (pddl.bound variables names named) (binding ++ map number names) name
  inside-stands [] names place outer named binding name long (inl none) old =
      subst (λ (ns : List Name). Stands outer named (binding ++ map number ns) name) none (subst (λ (b : Binding). Stands outer named b name) (sym (append-nil binding)) (old refl))
  inside-stands [] names place outer named binding name long (inr never) old = absurd never
  inside-stands (variable ∷ more) names place outer named binding name long there old =
      let piece = flat_map_piece (λ object. map (λ others. object ∷ others) (pddl.choices domain problem more)) (pddl.range domain problem variable) names there in
      let rest = map_source (λ (others : List Name). piece.source ∷ others) (pddl.choices domain problem more) names piece.inside in
      let object = piece.source in
      let rest_stands =
      inside-stands more rest.source (suc place) (with_slot place variable.name.name (range_of domain problem variable) outer) (record { variable = variable.name.name; object = object } ∷ named) (binding ++ number object ∷ []) name
      (omega (arith, length-append binding (number object ∷ []), long)) rest.among
      (λ unlisted.
      push place variable.name.name (range_of domain problem variable) outer named binding object name long (range-known variable object piece.among) (range-typed variable object piece.among)
      (λ other. old (ap (λ b. b || is_listed more name) other ∙ unlisted))) in
      subst (λ (ns : List Name). Stands (scope_inside domain problem (variable ∷ more) place outer) (pddl.bound (variable ∷ more) ns named) (binding ++ map number ns) name) rest.gives
      (subst (λ (b : Binding). Stands (scope_inside domain problem (variable ∷ more) place outer) (pddl.bound (variable ∷ more) (object ∷ rest.source) named) b name)
      (append-assoc binding (number object ∷ []) (map number rest.source)) rest_stands)

  -- ---- the slots for some names

  -- what the variables of the slots stand for
  abbrev pub values : Binding → List Slot → List ℕ
  values binding slots = map (λ (slot : Slot). get_or binding slot.place 0) slots

  pub slots-stand : (asks : Name → Bool) (scope : Scope) (named : pddl.Binding) (binding : Binding) (name : Name) → asks name ≡ true → Stands scope named binding name →
      Stands (renumbered (slots_for asks scope) 0 []) named (values binding (slots_for asks scope)) name
  slots-stand asks [] named binding name asked is = let none = is.found in absurd cc
  slots-stand asks (slot ∷ outer) named binding name asked is =
      by (is_same slot.variable name) refl (asks slot.variable) refl (slots-stand (hides slot asks) outer named binding name)
    where
      by : (same : Bool) → is_same slot.variable name ≡ same → (a : Bool) → asks slot.variable ≡ a →
          (hides slot asks name ≡ true → Stands outer named binding name → Stands (renumbered (slots_behind asks slot outer) 0 []) named (values binding (slots_behind asks slot outer)) name) →
          Stands (renumbered (slots_with a (slots_behind asks slot outer) slot) 0 []) named (values binding (slots_with a (slots_behind asks slot outer) slot)) name
      by true e true asks_it rest =
          let there = same-slot is.slot slot (sym is.found ∙ slot-here slot outer name e) in
          let here : get_or (values binding (slots_behind asks slot outer ++ slot ∷ [])) (0 + length (slots_behind asks slot outer)) 0 ≡ get_or binding slot.place 0 =
          ap (λ (l : List ℕ). get_or l (0 + length (slots_behind asks slot outer)) 0) (map-append (λ (slot : Slot). get_or binding slot.place 0) (slots_behind asks slot outer) (slot ∷ []))
          ∙ ap (λ (n : ℕ). get_or (values binding (slots_behind asks slot outer) ++ get_or binding slot.place 0 ∷ []) n 0)
          (let l = length-map (λ (slot : Slot). get_or binding slot.place 0) (slots_behind asks slot outer) in
          let same : 0 + length (slots_behind asks slot outer) ≡ length (values binding (slots_behind asks slot outer)) = omega (arith, l) in same)
          ∙ get_or-append_seam (values binding (slots_behind asks slot outer)) (get_or binding slot.place 0) [] 0 in
          subst (λ (s : Scope). Stands s named (values binding (slots_behind asks slot outer ++ slot ∷ [])) name) (sym (renumbered-more (slots_behind asks slot outer) slot 0 []))
          record {
            slot = record { variable = slot.variable; range = slot.range; place = 0 + length (slots_behind asks slot outer) };
            found = slot-here _ (renumbered (slots_behind asks slot outer) 0 []) name e;
            within = omega (arith, length-map (λ (slot : Slot). get_or binding slot.place 0) (slots_behind asks slot outer ++ slot ∷ []), length-append (slots_behind asks slot outer) (slot ∷ []));
            value = here ∙ ap (λ (s : Slot). get_or binding s.place 0) (sym there) ∙ is.value;
            known = is.known;
            typed =
                ap (λ (n : ℕ). list_any (nat_eq n) slot.range) here
                ∙ subst (λ (s : Slot). list_any (nat_eq (get_or binding s.place 0)) s.range ≡ true) there is.typed;
          }
      by true e false asks_it rest = let asked_too = ap asks (same_name slot.variable name e) ∙ asked in absurd cc
      by false e true asks_it rest =
          subst (λ (s : Scope). Stands s named (values binding (slots_behind asks slot outer ++ slot ∷ [])) name) (sym (renumbered-more (slots_behind asks slot outer) slot 0 []))
          (in_front _ _ named (values binding (slots_behind asks slot outer ++ slot ∷ [])) name e
          (subst (λ (b : Binding). Stands (renumbered (slots_behind asks slot outer) 0 []) named b name) (sym (map-append (λ (slot : Slot). get_or binding slot.place 0) (slots_behind asks slot outer) (slot ∷ [])))
          (longer (renumbered (slots_behind asks slot outer) 0 []) named (values binding (slots_behind asks slot outer)) (values binding (slot ∷ [])) name
          (rest (still_asked asks slot name asked e) (stands-behind slot outer named binding name e is)))))
      by false e false asks_it rest =
          subst (λ (s : List Slot). Stands (renumbered s 0 []) named (values binding s) name) (sym (append-nil (slots_behind asks slot outer)))
          (rest (still_asked asks slot name asked e) (stands-behind slot outer named binding name e is))

  pub slots-typed : (asks : Name → Bool) (scope : Scope) (named : pddl.Binding) (binding : Binding) → ((name : Name) → asks name ≡ true → Stands scope named binding name) →
      is_choice (map (λ (slot : Slot). slot.range) (slots_for asks scope)) (values binding (slots_for asks scope)) ≡ true
  slots-typed asks [] named binding stand = refl
  slots-typed asks (slot ∷ outer) named binding stand =
      by (asks slot.variable) refl
      (slots-typed (hides slot asks) outer named binding
      (λ name asked.
      let parts = and_parts (asks name) (not (is_same slot.variable name)) asked in
      stands-behind slot outer named binding name (not-true (is_same slot.variable name) parts.1) (stand name parts.0)))
    where
      by : (a : Bool) → asks slot.variable ≡ a → is_choice (map (λ (slot : Slot). slot.range) (slots_behind asks slot outer)) (values binding (slots_behind asks slot outer)) ≡ true →
          is_choice (map (λ (slot : Slot). slot.range) (slots_with a (slots_behind asks slot outer) slot)) (values binding (slots_with a (slots_behind asks slot outer) slot)) ≡ true
      by true asked rest =
          let is = stand slot.variable asked in
          let there = same-slot is.slot slot (sym is.found ∙ slot-here slot outer slot.variable (name_same slot.variable)) in
          let one = subst (λ (s : Slot). list_any (nat_eq (get_or binding s.place 0)) s.range ≡ true) there is.typed in
          let ranges = map-append (λ (slot : Slot). slot.range) (slots_behind asks slot outer) (slot ∷ []) in
          let objects = map-append (λ (slot : Slot). get_or binding slot.place 0) (slots_behind asks slot outer) (slot ∷ []) in
          ap (λ (r : List (List ℕ)). is_choice r (values binding (slots_behind asks slot outer ++ slot ∷ []))) ranges
          ∙ ap (is_choice (map (λ (slot : Slot). slot.range) (slots_behind asks slot outer) ++ slot.range ∷ [])) objects
          ∙ choice-append (map (λ (slot : Slot). slot.range) (slots_behind asks slot outer)) (slot.range ∷ []) (values binding (slots_behind asks slot outer)) (get_or binding slot.place 0 ∷ []) rest
          (and_from (list_any (nat_eq (get_or binding slot.place 0)) slot.range) true one refl)
      by false asked rest =
          subst (λ (s : List Slot). is_choice (map (λ (slot : Slot). slot.range) s) (values binding s) ≡ true) (sym (append-nil (slots_behind asks slot outer))) rest
