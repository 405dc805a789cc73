-- The ways to take one item from each pool, by their places, are the combinations.
use Rattle.std.proofs.Common.{◌≡◌, ℕ, zero, suc, ◌+◌, ◌-◌, ◌<◌, List, [], ◌∷◌, ◌++◌, map, length, get_or, append_assoc, append-nil, Bool, true, ◌&&◌, ltb, refl, sym, ap, ◌∙◌, subst, arith, length-append, Vec, Global, Result, Ok, Err}
use Rattle.std.specs.Vec.{vec_len}
use Rattle.std.specs.Prelude.{◌==◌}
use Rattle.std.specs.List.{Contains, flat_map, list_all, range_with_len}
use Rattle.std.specs.Result.{IfOk}
use Rattle.std.specs.Iterator.Runs.{Run, WholeRun, EveryRun, ItemsAre}
use Rattle.std.specs.declared.vec.IntoIter.{IntoIter}
use Rattle.std.specs.Vec.Iter.{into_iter_steps, into_iter_items}
use Rattle.std.proofs.lemmas.List.{length-map}
use Rattle.std.proofs.lemmas.Simd.{map-map}
use Rattle.itertools.specs.declared.combinations.MultiProduct.{MultiProduct}
use Rattle.std.proofs.lemmas.Bool.{and_from, and_parts, eqb-true, ltb-true, lt-ltb}
use Rattle.itertools.specs.Odometer.{ways, numbers}
use Rattle.itertools.specs.Pool.{sizes_high, pool_sizes, multi_left, ClonesEach, PoolsAre}
use Rattle.lists.proofs.Items.{map_flat_map, same_flat_map}
use Rattle.lists.proofs.Members.{flat_map_member, range_member, map_member}
use Rattle.sas_task.specs.declared.parts.Pair.{Pair}
use Rattle.sas_task.specs.Pairs.{pair}
use Rattle.fdr_effects.specs.Split.{combinations}
use Rattle.std.proofs.Math.Seq.{get_or-append_seam}

abbrev pub items : List (Vec Pair Global) → List (List Pair)
items pools = map (λ pool. pool.items) pools

abbrev none : Pair
none = pair 0 0

-- the items at the places, one in each pool
abbrev pub read : List (List Pair) → List ℕ → List Pair
read [] ds = []
read (pool ∷ pools) [] = []
read (pool ∷ pools) (d ∷ ds) = get_or pool d none ∷ read pools ds

-- one item of each pool in all ways
abbrev pub taken : List (List Pair) → List (List Pair)
taken [] = [] ∷ []
taken (pool ∷ pools) = flat_map (λ x. map (λ rest. x ∷ rest) (taken pools)) pool

-- the pools of a combination
pub taken_are : (values : ℕ → List ℕ) (vars : List ℕ) → taken (map (λ var. map (pair var) (values var)) vars) ≡ combinations values vars
taken_are values [] = refl
taken_are values (var ∷ vars) = over (taken_are values vars) (values var)
  where
    over : taken (map (λ v. map (pair v) (values v)) vars) ≡ combinations values vars → (vals : List ℕ) → flat_map (λ x. map (λ rest. x ∷ rest) (taken (map (λ v. map (pair v) (values v)) vars))) (map (pair var) vals) ≡ flat_map (λ val. map (λ rest. pair var val ∷ rest) (combinations values vars)) vals
    over rest [] = refl
    over rest (val ∷ vals) =
        ap (λ ms. map (λ r. pair var val ∷ r) ms ++ flat_map (λ x. map (λ rest. x ∷ rest) (taken (map (λ v. map (pair v) (values v)) vars))) (map (pair var) vals)) rest
        ∙ ap (λ l. map (λ rest. pair var val ∷ rest) (combinations values vars) ++ l) (over rest vals)

-- the places from one of a pool on, after as many pairs as lie before them
by_place : (before rest : List Pair) (f : Pair → List (List Pair)) → flat_map (λ d. f (get_or (before ++ rest) d none)) (numbers (length before) (length rest)) ≡ flat_map f rest
by_place before [] f = refl
by_place before (x ∷ rest) f =
    let longer = append_assoc before (x ∷ []) rest in
    let more : length before + 1 ≡ length (before ++ x ∷ []) = sym (length-append before (x ∷ [])) in
    ap (λ y. f y ++ flat_map (λ d. f (get_or (before ++ x ∷ rest) d none)) (numbers (length before + 1) (length rest))) (at_end before)
    ∙ ap (λ n. f x ++ flat_map (λ d. f (get_or (before ++ x ∷ rest) d none)) (numbers n (length rest))) more
    ∙ ap (λ l. f x ++ flat_map (λ d. f (get_or l d none)) (numbers (length (before ++ x ∷ [])) (length rest))) (sym longer)
    ∙ ap (λ l. f x ++ l) (by_place (before ++ x ∷ []) rest f)
  where
    at_end : (ps : List Pair) → get_or (ps ++ x ∷ rest) (length ps) none ≡ x
    at_end [] = refl
    at_end (p ∷ ps) = at_end ps

abbrev pub low : List ℕ → ℕ
low p = 0

abbrev sizes : List (List Pair) → List ℕ
sizes pools = map (λ pool. length pool) pools

ways_after : (front : List ℕ) (pools : List (List Pair)) (p : List ℕ) → length p ≡ length front → map (read pools) (ways low (sizes_high (front ++ sizes pools)) (length pools) p) ≡ taken pools
ways_after front [] p same = refl
ways_after front (pool ∷ pools) p same =
    let high = sizes_high (front ++ sizes (pool ∷ pools)) in
    let next = λ (d : ℕ). ways low high (length pools) (p ++ d ∷ []) in
    let size : high p - 0 ≡ length pool = (let e : high p ≡ length pool = ap (λ k. get_or (front ++ sizes (pool ∷ pools)) k 0) same ∙ get_or-append_seam front (length pool) (sizes pools) 0 in omega arith) in
    ap (λ n. map (read (pool ∷ pools)) (flat_map (λ d. map (λ ds. d ∷ ds) (next d)) (numbers 0 n))) size
    ∙ map_flat_map (read (pool ∷ pools)) (λ d. map (λ ds. d ∷ ds) (next d)) (numbers 0 (length pool))
    ∙ same_flat_map (λ d. map (read (pool ∷ pools)) (map (λ ds. d ∷ ds) (next d))) (λ d. map (λ rest. get_or pool d none ∷ rest) (taken pools)) (numbers 0 (length pool)) (λ d among.
    map-map (read (pool ∷ pools)) (λ ds. d ∷ ds) (next d)
    ∙ sym (map-map (λ rest. get_or pool d none ∷ rest) (read pools) (next d))
    ∙ ap (map (λ rest. get_or pool d none ∷ rest)) (
    let a = length-append p (d ∷ []) in
    let b = length-append front (length pool ∷ []) in
    ap (λ s. map (read pools) (ways low (sizes_high s) (length pools) (p ++ d ∷ []))) (sym (append_assoc front (length pool ∷ []) (sizes pools)))
    ∙ ways_after (front ++ length pool ∷ []) pools (p ++ d ∷ []) (omega arith)))
    ∙ by_place [] pool (λ x. map (λ rest. x ∷ rest) (taken pools))

pub all_ways : (pools : List (List Pair)) → map (read pools) (ways low (sizes_high (sizes pools)) (length pools) []) ≡ taken pools
all_ways pools = ways_after [] pools [] refl

-- the places are within the pools
abbrev pub fits : List (List Pair) → List ℕ → Bool
fits [] ds = true
fits (pool ∷ pools) [] = true
fits (pool ∷ pools) (d ∷ ds) = ltb d (length pool) && fits pools ds

numbers_range : (a n : ℕ) → numbers a n ≡ range_with_len a n
numbers_range a zero = refl
numbers_range a (suc n) = ap (λ l. a ∷ l) (numbers_range (a + 1) n)

ways_fit : (front : List ℕ) (pools : List (List Pair)) (p : List ℕ) → length p ≡ length front → (w : List ℕ) → Contains (ways low (sizes_high (front ++ sizes pools)) (length pools) p) w → fits pools w ≡ true
ways_fit front [] p same w in' = refl
ways_fit front (pool ∷ pools) p same w in' =
    let high = sizes_high (front ++ sizes (pool ∷ pools)) in
    let next = λ (d : ℕ). ways low high (length pools) (p ++ d ∷ []) in
    let size : high p - 0 ≡ length pool = (let e : high p ≡ length pool = ap (λ k. get_or (front ++ sizes (pool ∷ pools)) k 0) same ∙ get_or-append_seam front (length pool) (sizes pools) 0 in omega arith) in
    let d = flat_map_member (λ d. map (λ ds. d ∷ ds) (next d)) (numbers 0 (high p - 0)) w in' in
    let ds = map_member (λ ds. d.0 ∷ ds) (next d.0) w d.2 in
    let below : d.0 < length pool = range_member (length pool) d.0 (subst (λ l. Contains l d.0) (numbers_range 0 (length pool)) (subst (λ n. Contains (numbers 0 n) d.0) size d.1)) in
    let a = length-append p (d.0 ∷ []) in
    let b = length-append front (length pool ∷ []) in
    let rest = ways_fit (front ++ length pool ∷ []) pools (p ++ d.0 ∷ []) (omega arith) ds.0 (subst (λ s. Contains (ways low (sizes_high s) (length pools) (p ++ d.0 ∷ [])) ds.0) (sym (append_assoc front (length pool ∷ []) (sizes pools))) ds.1) in
    subst (λ v. fits (pool ∷ pools) v ≡ true) ds.2 (and_from (ltb d.0 (length pool)) (fits pools ds.0) (lt-ltb d.0 (length pool) below) rest)

pub all_fit : (pools : List (List Pair)) (w : List ℕ) → Contains (ways low (sizes_high (sizes pools)) (length pools) []) w → fits pools w ≡ true
all_fit pools = ways_fit [] pools [] refl

same_at : (xs : List Pair) (i : ℕ) (d e : Pair) → i < length xs → get_or xs i d ≡ get_or xs i e
same_at [] i d e below = absurd (omega arith)
same_at (x ∷ xs) zero d e below = refl
same_at (x ∷ xs) (suc i) d e below = same_at xs i d e (omega arith)

-- what was read at places within the pools
pub read_is : (clones : Pair → Pair → Type 0) → ((x y : Pair) → clones x y → y ≡ x) → (pools : List (Vec Pair Global)) (ds : List ℕ) (vs : List Pair) → fits (items pools) ds ≡ true → ClonesEach clones pools ds vs → vs ≡ read (items pools) ds
read_is clones same [] [] [] fit each = refl
read_is clones same [] [] (v ∷ vs) fit each = absurd each
read_is clones same [] (d ∷ ds) vs fit each = absurd each
read_is clones same (p ∷ ps) [] vs fit each = absurd each
read_is clones same (p ∷ ps) (d ∷ ds) [] fit each = absurd each
read_is clones same (p ∷ ps) (d ∷ ds) (v ∷ vs) fit each =
    let parts = and_parts (ltb d (length p.items)) (fits (items ps) ds) fit in
    ap (λ x. x ∷ vs) (same (get_or p.items d v) v each.0 ∙ same_at p.items d v none (ltb-true d (length p.items) parts.0))
    ∙ ap (λ l. get_or p.items d none ∷ l) (read_is clones same ps ds vs parts.1 each.1)

-- the sizes of pools are the lengths of what they hold
pub sizes_are : (pools : List (Vec Pair Global)) → pool_sizes pools ≡ sizes (items pools)
sizes_are [] = refl
sizes_are (p ∷ ps) = ap (λ n. n ∷ pool_sizes ps) p.ok.0 ∙ ap (λ l. length p.items ∷ l) (sizes_are ps)

-- the ways of an iterator that has not begun, by what its pools hold
pub ways_of : (it : MultiProduct Pair Global) → multi_left it ≡ ways low (sizes_high (pool_sizes it.pools.items)) (vec_len it.pools) [] → multi_left it ≡ ways low (sizes_high (sizes (items it.pools.items))) (length (items it.pools.items)) []
ways_of it e =
    e
    ∙ ap (λ s. ways low (sizes_high s) (vec_len it.pools) []) (sizes_are it.pools.items)
    ∙ ap (λ n. ways low (sizes_high (sizes (items it.pools.items))) n []) (it.pools.ok.0 ∙ sym (length-map it.pools.items (λ pool. pool.items)))

-- one more way is taken
pub one_taken : (f : List ℕ → List Pair) (before after : List (List Pair)) (way : List ℕ) (left later : List (List ℕ)) (member : List Pair) → after ≡ before ++ member ∷ [] → left ≡ way ∷ later → member ≡ f way → after ++ map f later ≡ before ++ map f left
one_taken f before after way left later member pushed next taken' =
    ap (λ l. l ++ map f later) pushed
    ∙ append_assoc before (member ∷ []) (map f later)
    ∙ ap (λ m. before ++ m ∷ map f later) taken'
    ∙ ap (λ l. before ++ map f l) (sym next)

-- a vector's iterator gives what it has left, in order
abbrev pub InOrder : Type 0 → Type 0
InOrder X = EveryRun (into_iter_steps {X = X} {Z = Global}) (λ p. ItemsAre p (into_iter_items p.from))

-- a whole run over a vector's iterator gave what the vector held
run_over : {X : Type 0} → InOrder X → (v : Vec X Global) (it : IntoIter X Global) (p : Run (into_iter_steps {X = X} {Z = Global})) → p.from ≡ it → p.whole ≡ true → into_iter_items it ≡ v.items → p.items ≡ v.items
run_over ordered v it p from whole held = (ordered p p.seen).4 whole ∙ ap into_iter_items from ∙ held

-- what the iterator over a pool is known to be
abbrev pub Held : Vec Pair Global → IntoIter Pair Global → Type 0
Held v it = InOrder Pair × (into_iter_items it ≡ v.items)

-- pools that hold what vectors gave hold what those held
pools_hold : (gives : Vec Pair Global → IntoIter Pair Global → Type 0) → ((v : Vec Pair Global) (it : IntoIter Pair Global) → gives v it → Held v it) → (sources pools : List (Vec Pair Global)) → PoolsAre gives (into_iter_steps {X = Pair} {Z = Global}) sources pools → items pools ≡ items sources
pools_hold gives held [] [] are = refl
pools_hold gives held [] (v ∷ vs) are = absurd are
pools_hold gives held (s ∷ ss) [] are = absurd are
pools_hold gives held (s ∷ ss) (v ∷ vs) are =
    let known = held s are.0 are.1 in
    ap (λ l. l ∷ items vs) (are.2.3 ∙ run_over known.0 s are.0 are.2.0 are.2.1 are.2.2 known.1)
    ∙ ap (λ l. s.items ∷ l) (pools_hold gives held ss vs are.3)

-- the same where a vector gave the vectors
pub pools_kept : {E : Type 0} (gives : Vec Pair Global → IntoIter Pair Global → Type 0) → ((v : Vec Pair Global) (it : IntoIter Pair Global) → gives v it → Held v it) → (given : Vec (Vec Pair Global) Global) (start : IntoIter (Vec Pair Global) Global) → InOrder (Vec Pair Global) → into_iter_items start ≡ given.items → (made : Result (MultiProduct Pair Global) E) → IfOk made (λ c. WholeRun (into_iter_steps {X = Vec Pair Global} {Z = Global}) start (λ p. PoolsAre gives (into_iter_steps {X = Pair} {Z = Global}) p.items c.pools.items)) → IfOk made (λ c. items c.pools.items ≡ items given.items)
pools_kept gives held given start ordered left (Ok c) run = pools_hold gives held run.0.items c.pools.items run.3 ∙ ap items (run_over ordered given start run.0 run.1 run.2 left)
pools_kept gives held given start ordered left (Err e) run = tt

-- where each variable has one value, there is one combination
pub single_ways : (values : ℕ → List ℕ) (vars : List ℕ) → list_all (λ (pool : List Pair). length pool == 1) (map (λ var. map (pair var) (values var)) vars) ≡ true →
    combinations values vars ≡ flat_map (λ (pool : List Pair). pool) (map (λ var. map (pair var) (values var)) vars) ∷ []
single_ways values [] is = refl
single_ways values (var ∷ vars) is = by (single_ways values vars (and_parts (length (map (pair var) (values var)) == 1) (list_all (λ (pool : List Pair). length pool == 1) (map (λ v. map (pair v) (values v)) vars)) is).1) (values var) refl
  where
    later : List (List Pair)
    later = map (λ v. map (pair v) (values v)) vars

    parts : (length (map (pair var) (values var)) == 1 ≡ true) × (list_all (λ (pool : List Pair). length pool == 1) later ≡ true)
    parts = and_parts (length (map (pair var) (values var)) == 1) (list_all (λ (pool : List Pair). length pool == 1) later) is

    one : length (map (pair var) (values var)) ≡ 1
    one = eqb-true (length (map (pair var) (values var))) 1 parts.0

    by : combinations values vars ≡ flat_map (λ (pool : List Pair). pool) later ∷ [] → (vals : List ℕ) → values var ≡ vals → combinations values (var ∷ vars) ≡ (map (pair var) (values var) ++ flat_map (λ (pool : List Pair). pool) later) ∷ []
    by rest [] e = let moved = ap (λ l. length (map (pair var) l)) e in absurd (omega (arith, one, moved))
    by rest (val ∷ []) e =
        ap (λ l. flat_map (λ v. map (λ rest. pair var v ∷ rest) (combinations values vars)) l) e
        ∙ append-nil (map (λ rest. pair var val ∷ rest) (combinations values vars))
        ∙ ap (map (λ rest. pair var val ∷ rest)) rest
        ∙ ap (λ l. (map (pair var) l ++ flat_map (λ (pool : List Pair). pool) later) ∷ []) (sym e)
    by rest (val ∷ other ∷ more) e = let moved = ap (λ l. length (map (pair var) l)) e in absurd (omega (arith, one, moved))
