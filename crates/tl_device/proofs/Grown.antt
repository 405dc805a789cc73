-- What files hold while one of them is written.
use Rattle.std.proofs.Common.{◌≡◌, ◌≢◌, ℕ, ◌+◌, ◌-◌, Bool, true, false, cond, List, [], ◌++◌, length, take, drop, refl, sym, ◌∙◌, ap, append_assoc, subst, IsSome}
use Rattle.std.proofs.lemmas.List.{append-nil, take_rest, take-append-drop}
use Rattle.std.proofs.Math.Seq.{take-add}
use Rattle.std.specs.declared.option.Option.{Option}
use Rattle.std.specs.declared.option.Option.TheVariants.{Some, None}
use Rattle.std.specs.Option.{option_map, option_map_or}
use Rattle.std.specs.Cmp.Lexicographic.{nat_list_cmp_total}
use Rattle.std.specs.FinMap.{get, insert, get-insert}
use Rattle.tl_device.specs.Contents.{Contents, grow, grown, emptied, IsTold, Holds, HoldsCreated, OthersStay, GrownInPart}
use Rattle.tl_device.proofs.Names.{same_name, same_name-self, by_name, alike}

get-grow_held : (m : Contents) (name bytes q : List ℕ) (held : Option (List ℕ)) → get m name ≡ held
    → get (option_map_or (λ h. insert m name (h ++ bytes)) held m) q ≡ cond (same_name q name) (option_map (λ h. h ++ bytes) held) (get m q)
get-grow_held m name bytes q None is = by_name q name (λ here tied. rw tied (ap (get m) here ∙ is)) (λ other. rw other refl)
get-grow_held m name bytes q (Some held) is = get-insert nat_list_cmp_total m name (held ++ bytes) q

-- a name holds more bytes if it is the one that grew, and else what it held
pub get-grow : (m : Contents) (name bytes q : List ℕ) → get (grow m name bytes) q ≡ cond (same_name q name) (option_map (λ h. h ++ bytes) (get m q)) (get m q)
unfolding grow
get-grow m name bytes q =
    get-grow_held m name bytes q (get m name) refl
    ∙ by_name q name (λ here tied. ap (λ held. cond (same_name q name) (option_map (λ h. h ++ bytes) held) (get m q)) (ap (get m) (sym here))) (λ other. rw other refl)

-- what the grown name holds
get-grow_here : (m : Contents) (name bytes : List ℕ) → get (grow m name bytes) name ≡ option_map (λ h. h ++ bytes) (get m name)
get-grow_here m name bytes = get-grow m name bytes name ∙ ap (λ b. cond b (option_map (λ h. h ++ bytes) (get m name)) (get m name)) (same_name-self name)

-- the name holds what it held and the bytes
pub holds_grown : (old new : Option Contents) (name bytes held : List ℕ) → new ≡ grown old name bytes → Holds old name held → Holds new name (held ++ bytes)
holds_grown None None name bytes held grows holds = tt
holds_grown None (Some n) name bytes held grows holds = cc
holds_grown (Some m) None name bytes held grows holds = cc
holds_grown (Some m) (Some n) name bytes held grows holds =
    let same : n ≡ grow m name bytes = cc in
    ap (λ c. get c name) same ∙ get-grow_here m name bytes ∙ ap (option_map (λ (h : List ℕ). h ++ bytes)) holds

-- there is a file of a name that grows where there was one
some_before : (bytes : List ℕ) (o : Option (List ℕ)) → IsSome (option_map (λ h. h ++ bytes) o) → IsSome o
some_before bytes None some = some
some_before bytes (Some held) some = refl

some_after : (bytes : List ℕ) (o : Option (List ℕ)) → IsSome o → IsSome (option_map (λ h. h ++ bytes) o)
some_after bytes None some = some
some_after bytes (Some held) some = refl

pub held_after : (m : Contents) (name bytes : List ℕ) → IsSome (get m name) → IsSome (get (grow m name bytes) name)
held_after m name bytes held = subst IsSome (sym (get-grow_here m name bytes)) (some_after bytes (get m name) held)

pub held_before : (old new : Option Contents) (is_created : Bool) (here name bytes : List ℕ) → is_created ≡ true → here ≡ name → new ≡ grown old name bytes
    → HoldsCreated new is_created here → HoldsCreated old true name
held_before None new is_created here name bytes created same grows held = tt
held_before (Some m) None is_created here name bytes created same grows held = cc
held_before (Some m) (Some n) is_created here name bytes created same grows held =
    let now : n ≡ grow m name bytes = cc in
    let there : HoldsCreated (Some n) true name = subst (λ (c : Bool). HoldsCreated (Some n) c name) created (subst (λ (at : List ℕ). HoldsCreated (Some n) is_created at) same held) in
    some_before bytes (get m name) (subst IsSome (ap (λ c. get c name) now ∙ get-grow_here m name bytes) there)

same_held : (b : Bool) (o : Option (List ℕ)) → cond b (option_map (λ h. h ++ []) o) o ≡ o
same_held false o = refl
same_held true None = refl
same_held true (Some h) = ap Some (append-nil h)

twice_held : (b : Bool) (o : Option (List ℕ)) (xs ys : List ℕ)
    → cond b (option_map (λ h. h ++ ys) (cond b (option_map (λ h. h ++ xs) o) o)) (cond b (option_map (λ h. h ++ xs) o) o) ≡ cond b (option_map (λ h. h ++ (xs ++ ys)) o) o
twice_held false o xs ys = refl
twice_held true None xs ys = refl
twice_held true (Some h) xs ys = ap Some (append_assoc h xs ys)

grow_nothing : (m : Contents) (name : List ℕ) → grow m name [] ≡ m
grow_nothing m name = alike _ _ (λ q. get-grow m name [] q ∙ same_held (same_name q name) (get m q))

grow_more : (m : Contents) (name xs ys : List ℕ) → grow (grow m name xs) name ys ≡ grow m name (xs ++ ys)
grow_more m name xs ys =
    alike _ _ (λ q.
    get-grow (grow m name xs) name ys q
    ∙ ap (λ o. cond (same_name q name) (option_map (λ h. h ++ ys) o) o) (get-grow m name xs q)
    ∙ twice_held (same_name q name) (get m q) xs ys
    ∙ sym (get-grow m name (xs ++ ys) q))

-- to grow by no bytes changes nothing
pub grown_nothing : (files : Option Contents) (name : List ℕ) → grown files name [] ≡ files
grown_nothing None name = refl
grown_nothing (Some m) name = ap Some (grow_nothing m name)

-- to grow twice is to grow by both
pub grown_more : (files : Option Contents) (name xs ys : List ℕ) → grown (grown files name xs) name ys ≡ grown files name (xs ++ ys)
grown_more None name xs ys = refl
grown_more (Some m) name xs ys = ap Some (grow_more m name xs ys)

-- after the first bytes the next n, from what stood before and after a piece, as a range of the bytes gives it
pub grown_next : (start now next : Option Contents) (name here bytes : List ℕ) (done n : ℕ) → here ≡ name → now ≡ grown start name (take done bytes)
    → next ≡ grown now here (take n (take (length bytes - done) (drop done bytes))) → next ≡ grown start name (take (done + n) bytes)
grown_next start now next name here bytes done n same before grows =
    grows ∙ ap (λ (at : List ℕ). grown now at (take n (take (length bytes - done) (drop done bytes)))) same
    ∙ ap (λ piece. grown now name (take n piece)) (take_rest bytes done)
    ∙ ap (λ k. grown k name (take n (drop done bytes))) before ∙ grown_more start name (take done bytes) (take n (drop done bytes))
    ∙ ap (grown start name) (sym (take-add done n bytes))

-- the first n bytes are a front
pub grown_part : (old new : Option Contents) (name bytes : List ℕ) (n : ℕ) → new ≡ grown old name (take n bytes) → GrownInPart old new name bytes
grown_part old new name bytes n grows = record { written = take n bytes; left = drop n bytes; parts = sym (take-append-drop n bytes); grows = grows }

-- the file that grew is the named one, where that is known if the files are told
pub grown_at : (files : Option Contents) (here name bytes : List ℕ) → (IsTold files → here ≡ name) → grown files here bytes ≡ grown files name bytes
grown_at None here name bytes same = refl
grown_at (Some m) here name bytes same = ap (λ (at : List ℕ). Some (grow m at bytes)) (same refl)

-- the same of a file that grew in part
pub part_at : (old new : Option Contents) (here name bytes : List ℕ) → (IsTold old → here ≡ name) → GrownInPart old new here bytes → GrownInPart old new name bytes
part_at old new here name bytes same part = record { written = part.written; left = part.left; parts = part.parts; grows = part.grows ∙ grown_at old here name part.written same }

-- each name but the one that is emptied holds what it held
pub get-emptied_other : (m : Contents) (name q : List ℕ) → q ≢ name → get (insert m name []) q ≡ get m q
get-emptied_other m name q differs = get-insert nat_list_cmp_total m name [] q ∙ by_name q name (λ here _. absurd (differs here)) (λ other. rw other refl)

pub others_emptied : (old new : Option Contents) (name : List ℕ) → new ≡ emptied old name → OthersStay old new name
others_emptied None new name empties = tt
others_emptied (Some m) None name empties = cc
others_emptied (Some m) (Some n) name empties = λ other differs. let same : n ≡ insert m name [] = cc in ap (λ c. get c other) same ∙ get-emptied_other m name other differs

-- each name but the one that grew holds what it held
pub get-grown_other : (m : Contents) (name bytes q : List ℕ) → q ≢ name → get (grow m name bytes) q ≡ get m q
get-grown_other m name bytes q differs = get-grow m name bytes q ∙ by_name q name (λ here _. absurd (differs here)) (λ other. rw other refl)

pub others_grown : (old new : Option Contents) (name bytes : List ℕ) → new ≡ grown old name bytes → OthersStay old new name
others_grown None new name bytes grows = tt
others_grown (Some m) None name bytes grows = cc
others_grown (Some m) (Some n) name bytes grows = λ other differs. let same : n ≡ grow m name bytes = cc in ap (λ c. get c other) same ∙ get-grown_other m name bytes other differs
