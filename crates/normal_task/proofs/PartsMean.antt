-- A condition holds exactly where some part of it is met, for some objects of its variables.
use Rattle.std.proofs.Common.{◌≡◌, ℕ, suc, ◌+◌, ◌-◌, Bool, true, false, ◌&&◌, ◌||◌, List, [], ◌∷◌, ◌++◌, map, length, get_or, refl, sym, ap, ◌∙◌, subst, arith, inl, inr}
use Rattle.std.specs.Prelude.{nat_eq, nat_lt, if◌then◌else◌}
use Rattle.std.specs.List.{list_all, list_any, AllZip}
use Rattle.std.proofs.lemmas.Bool.{and_parts, ltb-true, ltb-false}
use Rattle.std.proofs.lemmas.List.{get_or_append_left}
use Rattle.std.proofs.Math.Seq.{get_or-append_right}
use Rattle.std.proofs.lemmas.List.Folds.{list_any-append, list_all-append}
use Rattle.pddl_syntax.proofs.ConditionCases.{Each}
use Rattle.lists.proofs.Items.{Among, map_source, flat_map_piece, all_passes, same_any}
use Rattle.normal_task.specs.declared.task.Literal.{Literal}
use Rattle.normal_task.specs.declared.task.Literal.TheVariants.{Holds, Equal}
use Rattle.normal_task.specs.declared.task.Place.{Place}
use Rattle.normal_task.specs.declared.task.Place.TheVariants.{Variable, Object}
use Rattle.normal_task.specs.Meaning.{atom_of, State, Binding, object_at, objects_at, choices, answers, is_met, are_met}
use Rattle.normal_task.proofs.Chosen.{is_choice}
use Rattle.normal_task.specs.Parts.{Part, Fresh, Made, in_turn, all_of, moved_place, moved, joined, paired, with_variables}
pub use Rattle.normal_task.proofs.NumberedFresh.{Numbered, numbered-left, numbered-right, numbered-both, numbered-second, numbered-third}
use Rattle.normal_task.proofs.Anys.{any-map, any-flat_map, any-same, any-swap, any-both}
use Rattle.normal_task.proofs.Alls.{all-weaker}
use Rattle.normal_task.proofs.Chosen.{any-choices_append}
use Rattle.normal_task.proofs.Scopes.{append-assoc, length-append, number}
use Rattle.normal_task.proofs.Fits.{place_within, literal_within, literal_from, fits, part_fits, parts_fit, FitsFrom}

-- ---- literals under longer bindings

choice-length : (lists : List (List ℕ)) (objects : List ℕ) → Among objects (choices lists) → length objects ≡ length lists
choice-length [] objects (inl none) = ap (λ (l : List ℕ). length l) (sym none)
choice-length [] objects (inr never) = absurd never
choice-length (range ∷ lists) objects there =
    let piece = flat_map_piece (λ object. map (λ others. object ∷ others) (choices lists)) range objects there in
    let rest = map_source (λ (others : List ℕ). piece.source ∷ others) (choices lists) objects piece.inside in
    ap (λ (l : List ℕ). length l) (sym rest.gives) ∙ ap (λ (n : ℕ). suc n) (choice-length lists rest.source rest.among)

pub place-kept : (binding more : Binding) (place : Place) → place_within (length binding) place ≡ true → object_at (binding ++ more) place ≡ object_at binding place
place-kept binding more (Variable number) within = get_or_append_left binding more 0 number (ltb-true number (length binding) within)
place-kept binding more (Object object) within = refl

pub places-kept : (binding more : Binding) (places : List Place) → list_all (place_within (length binding)) places ≡ true → objects_at (binding ++ more) places ≡ objects_at binding places
places-kept binding more [] within = refl
places-kept binding more (place ∷ places) within =
    let parts = and_parts (place_within (length binding) place) (list_all (place_within (length binding)) places) within in
    let here = place-kept binding more place parts.0 in
    let rest = places-kept binding more places parts.1 in
    cc (here, rest)

met-kept : (state : State) (binding more : Binding) (literal : Literal) → literal_within (length binding) literal ≡ true → is_met state (binding ++ more) literal ≡ is_met state binding literal
met-kept state binding more (Holds positive predicate places) within = ap (λ (os : List ℕ). answers positive (state (atom_of predicate os))) (places-kept binding more places within)
met-kept state binding more (Equal positive left right) within =
    let parts = and_parts (place_within (length binding) left) (place_within (length binding) right) within in
    let one = place-kept binding more left parts.0 in
    let other = place-kept binding more right parts.1 in
    ap (λ (n : ℕ). answers positive (nat_eq n (object_at (binding ++ more) right))) one ∙ ap (λ (n : ℕ). answers positive (nat_eq (object_at binding left) n)) other

-- what is behind the variables that literals name doesn't matter
pub all-met-kept : (state : State) (binding more : Binding) (literals : List Literal) → list_all (literal_within (length binding)) literals ≡ true → are_met state (binding ++ more) literals ≡ are_met state binding literals
all-met-kept state binding more [] within = refl
all-met-kept state binding more (literal ∷ literals) within =
    let parts = and_parts (literal_within (length binding) literal) (list_all (literal_within (length binding)) literals) within in
    ap (λ b. b && are_met state (binding ++ more) literals) (met-kept state binding more literal parts.0)
    ∙ ap (λ b. is_met state binding literal && b) (all-met-kept state binding more literals parts.1)

place-moved : (binding first second : Binding) (place : Place) → object_at (binding ++ (first ++ second)) (moved_place (length binding) (length first) place) ≡ object_at (binding ++ second) place
place-moved binding first second (Object object) = refl
place-moved binding first second (Variable number) = by (nat_lt number (length binding)) refl
  where
    by : (b : Bool) → nat_lt number (length binding) ≡ b → get_or (binding ++ (first ++ second)) (if b then number else number + length first) 0 ≡ get_or (binding ++ second) number 0
    by true e = let l = ltb-true number (length binding) e in get_or_append_left binding (first ++ second) 0 number l ∙ sym (get_or_append_left binding second 0 number l)
    by false e =
        let l = ltb-false number (length binding) e in
        get_or-append_right binding (first ++ second) (number + length first) 0 (omega (arith, l))
        ∙ get_or-append_right first second (number + length first - length binding) 0 (omega (arith, l))
        ∙ ap (λ (n : ℕ). get_or second n 0) (let same : number + length first - length binding - length first ≡ number - length binding = omega (arith, l) in same)
        ∙ sym (get_or-append_right binding second number 0 (omega (arith, l)))

pub moved-places : (binding first second : Binding) (places : List Place) → objects_at (binding ++ (first ++ second)) (map (moved_place (length binding) (length first)) places) ≡ objects_at (binding ++ second) places
moved-places binding first second [] = refl
moved-places binding first second (place ∷ places) =
    let here = place-moved binding first second place in
    let rest = moved-places binding first second places in
    cc (here, rest)

met-moved : (state : State) (binding first second : Binding) (literal : Literal) → is_met state (binding ++ (first ++ second)) (moved (length binding) (length first) literal) ≡ is_met state (binding ++ second) literal
met-moved state binding first second (Holds positive predicate places) = ap (λ (os : List ℕ). answers positive (state (atom_of predicate os))) (moved-places binding first second places)
met-moved state binding first second (Equal positive left right) =
    ap (λ (n : ℕ). answers positive (nat_eq n (object_at (binding ++ (first ++ second)) (moved_place (length binding) (length first) right)))) (place-moved binding first second left)
    ∙ ap (λ (n : ℕ). answers positive (nat_eq (object_at (binding ++ second) left) n)) (place-moved binding first second right)

-- moved literals mean what they meant before others stood in between
pub all-met-moved : (state : State) (binding first second : Binding) (literals : List Literal) → are_met state (binding ++ (first ++ second)) (map (moved (length binding) (length first)) literals) ≡ are_met state (binding ++ second) literals
all-met-moved state binding first second [] = refl
all-met-moved state binding first second (literal ∷ literals) =
    ap (λ b. b && are_met state (binding ++ (first ++ second)) (map (moved (length binding) (length first)) literals)) (met-moved state binding first second literal)
    ∙ ap (λ b. is_met state (binding ++ second) literal && b) (all-met-moved state binding first second literals)

-- ---- parts

-- for some objects of its variables, all literals of the part are met
abbrev pub part_met : State → Binding → Part → Bool
part_met state binding part = list_any (λ objects. are_met state (binding ++ objects) part.literals) (choices part.variables)

abbrev pub some_part : State → Binding → List Part → Bool
some_part state binding parts = list_any (part_met state binding) parts

literals-within : (declared bound next : ℕ) (literals : List Literal) → list_all (fits declared bound next) literals ≡ true → list_all (literal_within bound) literals ≡ true
literals-within declared bound next =
    all-weaker (fits declared bound next) (literal_within bound) (λ literal is. (and_parts (literal_within bound literal) (literal_from declared next literal) is).0)

joined-met : (state : State) (binding : Binding) (declared next : ℕ) (first second : Part) → part_fits declared (length binding) next first ≡ true →
    part_met state binding (joined (length binding) first second) ≡ (part_met state binding first && part_met state binding second)
joined-met state binding declared next first second fit =
    any-choices_append (λ objects. are_met state (binding ++ objects) (joined (length binding) first second).literals) first.variables second.variables
    ∙ same_any (λ os. list_any (λ ps. are_met state (binding ++ (os ++ ps)) (joined (length binding) first second).literals) (choices second.variables))
    (λ os. list_any (λ ps. are_met state (binding ++ os) first.literals && are_met state (binding ++ ps) second.literals) (choices second.variables)) (choices first.variables)
    (λ os among. any-same (λ ps. are_met state (binding ++ (os ++ ps)) (joined (length binding) first second).literals) (λ ps. are_met state (binding ++ os) first.literals && are_met state (binding ++ ps) second.literals)
    (λ ps. one os ps (choice-length first.variables os among)) (choices second.variables))
    ∙ any-both (λ os. are_met state (binding ++ os) first.literals) (λ ps. are_met state (binding ++ ps) second.literals) (choices first.variables) (choices second.variables)
  where
    one : (os ps : List ℕ) → length os ≡ length first.variables → are_met state (binding ++ (os ++ ps)) (joined (length binding) first second).literals ≡ (are_met state (binding ++ os) first.literals && are_met state (binding ++ ps) second.literals)
    one os ps long =
        list_all-append (is_met state (binding ++ (os ++ ps))) first.literals (map (moved (length binding) (length first.variables)) second.literals)
        ∙ ap (λ b. b && are_met state (binding ++ (os ++ ps)) (map (moved (length binding) (length first.variables)) second.literals))
        (ap (λ (b : Binding). are_met state b first.literals) (sym (append-assoc binding os ps))
        ∙ all-met-kept state (binding ++ os) ps first.literals
        (literals-within declared (length (binding ++ os)) next first.literals
        (subst (λ (n : ℕ). list_all (fits declared n next) first.literals ≡ true) (let same : length binding + length first.variables ≡ length (binding ++ os) = omega (arith, long, length-append binding os) in same) fit)))
        ∙ ap (λ b. are_met state (binding ++ os) first.literals && b)
        (ap (λ (n : ℕ). are_met state (binding ++ (os ++ ps)) (map (moved (length binding) n) second.literals)) (sym long) ∙ all-met-moved state binding os ps second.literals)

-- some pairing is met where some part of each is
pub paired-met : (state : State) (binding : Binding) (declared next : ℕ) (firsts seconds : List Part) → parts_fit declared (length binding) next firsts ≡ true →
    some_part state binding (paired (length binding) firsts seconds) ≡ (some_part state binding firsts && some_part state binding seconds)
paired-met state binding declared next firsts seconds fit =
    any-flat_map (part_met state binding) (λ first. map (joined (length binding) first) seconds) firsts
    ∙ same_any (λ first. some_part state binding (map (joined (length binding) first) seconds)) (λ first. list_any (λ second. part_met state binding first && part_met state binding second) seconds) firsts
    (λ first among.
    any-map (part_met state binding) (joined (length binding) first) seconds
    ∙ any-same (λ second. part_met state binding (joined (length binding) first second)) (λ second. part_met state binding first && part_met state binding second)
    (λ second. joined-met state binding declared next first second (all_passes (part_fits declared (length binding) next) first firsts among fit)) seconds)
    ∙ any-both (part_met state binding) (part_met state binding) firsts seconds

-- variables in front of those of the parts
pub with_variables-met : (state : State) (binding : Binding) (ranges : List (List ℕ)) (parts : List Part) →
    some_part state binding (map (with_variables ranges) parts) ≡ list_any (λ objects. some_part state (binding ++ objects) parts) (choices ranges)
with_variables-met state binding ranges parts =
    any-map (part_met state binding) (with_variables ranges) parts
    ∙ any-same (λ part. part_met state binding (with_variables ranges part)) (λ part. list_any (λ os. part_met state (binding ++ os) part) (choices ranges))
    (λ part.
    any-choices_append (λ objects. are_met state (binding ++ objects) part.literals) ranges part.variables
    ∙ any-same (λ os. list_any (λ ps. are_met state (binding ++ (os ++ ps)) part.literals) (choices part.variables)) (λ os. part_met state (binding ++ os) part)
    (λ os. any-same (λ ps. are_met state (binding ++ (os ++ ps)) part.literals) (λ ps. are_met state ((binding ++ os) ++ ps) part.literals)
    (λ ps. ap (λ (b : Binding). are_met state b part.literals) (sym (append-assoc binding os ps))) (choices part.variables)) (choices ranges)) parts
    ∙ any-swap (λ part os. part_met state (binding ++ os) part) parts (choices ranges)

-- ---- new predicates

module _ (declared : ℕ) (full : State) where
  -- the atoms of the new predicate are those that the parts of its axioms give
  abbrev pub GivenAt : ℕ → Fresh → Type 0
  GivenAt next fresh = (objects : List ℕ) → is_choice fresh.arguments objects ≡ true → full (atom_of (declared + next) objects) ≡ some_part full objects fresh.parts

  -- the same of these, which are numbered on from here
  abbrev pub GivenIn : ℕ → List Fresh → Type 0
  GivenIn = Numbered GivenAt

  -- what is made says so much of the binding
  abbrev pub MeansFrom : Binding → (ℕ → Made Part) → Bool → Type 0
  MeansFrom binding make truth = (next : ℕ) → GivenIn next (make next).fresh → some_part full binding (make next).items ≡ truth

  abbrev pub EachMeans : Binding → List (ℕ → Made Part) → List Bool → Type 0
  EachMeans binding = AllZip (MeansFrom binding)

  pub in_turn-means : (binding : Binding) (makes : List (ℕ → Made Part)) (truths : List Bool) → EachMeans binding makes truths → MeansFrom binding (in_turn makes) (list_any (λ truth. truth) truths)
  in_turn-means binding [] [] each next given = refl
  in_turn-means binding [] (truth ∷ truths) each next given = absurd each
  in_turn-means binding (make ∷ makes) [] each next given = absurd each
  in_turn-means binding (make ∷ makes) (truth ∷ truths) each next given =
      let later = next + length (make next).fresh in
      list_any-append (part_met full binding) (make next).items (in_turn makes later).items
      ∙ ap (λ b. b || some_part full binding (in_turn makes later).items) (each.0 next (numbered-left GivenAt next (make next).fresh (in_turn makes later).fresh given))
      ∙ ap (λ b. truth || b) (in_turn-means binding makes truths each.1 later (numbered-right GivenAt next (make next).fresh (in_turn makes later).fresh given))

  pub all_of-means : (binding : Binding) (makes : List (ℕ → Made Part)) (truths : List Bool) → Each (FitsFrom declared (length binding)) makes → EachMeans binding makes truths →
      MeansFrom binding (all_of (length binding) makes) (list_all (λ truth. truth) truths)
  all_of-means binding [] [] fit each next given = refl
  all_of-means binding [] (truth ∷ truths) fit each next given = absurd each
  all_of-means binding (make ∷ makes) [] fit each next given = absurd each
  all_of-means binding (make ∷ makes) (truth ∷ truths) fit each next given =
      let later = next + length (make next).fresh in
      let now = fit.0 next in
      paired-met full binding declared next (make next).items (all_of (length binding) makes later).items now.items
      ∙ ap (λ b. b && some_part full binding (all_of (length binding) makes later).items) (each.0 next (numbered-left GivenAt next (make next).fresh (all_of (length binding) makes later).fresh given))
      ∙ ap (λ b. truth && b) (all_of-means binding makes truths fit.1 each.1 later (numbered-right GivenAt next (make next).fresh (all_of (length binding) makes later).fresh given))
