-- Readings that give a value, and places without a fault.
use Rattle.std.proofs.Common.{◌≡◌, List, [], ◌∷◌, refl, ap, subst}
use Rattle.std.specs.Prelude.{All, Ok, Err, Option, Some, None, IfOk, if◌then◌else◌}
use Rattle.std.specs.List.{fold}
use Rattle.std.proofs.lemmas.List.Elements.{All-nil, All-cons, All-head, All-tail}
use Rattle.pddl_lexer.specs.declared.position.At.{At}
use Rattle.pddl_lexer.specs.Members.{Members, NoMore, WordThen, ListThen, is_empty}
use Rattle.pddl_lexer.specs.declared.fault.Fault.{Fault}
use Rattle.pddl_lexer.specs.declared.fault.Kind.{Kind}
use Rattle.pddl_syntax.specs.Outcome.{Outcome, Reading, Reads, Faults, made, both, own, refused, with_last, every, first, Gives}
use Rattle.pddl_syntax.specs.Shapes.{Check, passes, at_position, next}

-- ---- readings that give a value

pub own_reads : {A : Type 0} (check : Check) (reading : Reading A) (x : A) → own check reading ≡ Reads x → (check ≡ passes) × (reading ≡ Reads x)
own_reads (Ok none) reading x e = (refl, e)
own_reads (Err fault) reading x e = absurd cc

pub made_reads : {A B : Type 0} (f : A → B) (reading : Reading A) (y : B) → made f reading ≡ Reads y → (x : A) × ((reading ≡ Reads x) × (f x ≡ y))
made_reads f (Reads x) y e = (x, (refl, cc))
made_reads f (Faults fault more) y e = absurd cc

pub both_reads : {A B C : Type 0} (f : A → B → C) (first : Reading A) (second : Reading B) (z : C) → both f first second ≡ Reads z → (x : A) × ((y : B) × ((first ≡ Reads x) × ((second ≡ Reads y) × (f x y ≡ z))))
both_reads f (Reads x) (Reads y) z e = (x, (y, (refl, (refl, cc))))
both_reads f (Reads x) (Faults fault more) z e = absurd cc
both_reads f (Faults fault more) (Reads y) z e = absurd cc
both_reads f (Faults fault more) (Faults other others) z e = absurd cc

pub with_last_reads : {A : Type 0} (last : List Fault) (reading : Reading A) (x : A) → with_last last reading ≡ Reads x → reading ≡ Reads x
with_last_reads [] reading x e = e
with_last_reads (fault ∷ more) (Reads y) x e = absurd cc
with_last_reads (fault ∷ more) (Faults other others) x e = absurd cc

pub refused_never : {A : Type 0} (fault : Fault) (x : A) → refused fault ≡ Reads x → ⊥
refused_never fault x e = cc

-- each value has what the rule's values have
pub pairs_have : {A : Type 0} (P : A → Type 0) (first : Reading A) (others : Reading (List A)) → ((x : A) → first ≡ Reads x → P x) → ((ys : List A) → others ≡ Reads ys → All P ys) → (xs : List A) → both (λ x xs. x ∷ xs) first others ≡ Reads xs → All P xs
pairs_have P first others one more xs e =
    let read = both_reads (λ x xs. x ∷ xs) first others xs e in
    subst (All P) read.1.1.1.1 (All-cons P read.0 read.1.0 (one read.0 read.1.1.0) (more read.1.0 read.1.1.1.0))

pub nothing_has : {A : Type 0} (P : A → Type 0) (xs : List A) → Reads [] ≡ Reads xs → All P xs
nothing_has {A} P xs e = let same : [] ≡ xs = cc in subst (All P) same (All-nil P)

pub every_has : {A : Type 0} (P : A → Type 0) (rule : Members → Reading A) → ((m : Members) (x : A) → rule m ≡ Reads x → P x) → (m : Members) (xs : List A) → every rule m ≡ Reads xs → All P xs
every_has P rule one NoMore xs e = nothing_has P xs e
every_has P rule one (WordThen at word more) xs e =
    pairs_have P (rule (WordThen at word more)) (every rule more) (one (WordThen at word more)) (every_has P rule one more) xs e
every_has P rule one (ListThen at inside more) xs e =
    pairs_have P (rule (ListThen at inside more)) (every rule more) (one (ListThen at inside more)) (every_has P rule one more) xs e

-- what is made of them, one after another
pub fold_has : {A B : Type 0} (P : B → Type 0) (Q : A → Type 0) (step : B → A → B) → ((so_far : B) (x : A) → P so_far → Q x → P (step so_far x)) → (start : B) (xs : List A) → P start → All Q xs → P (fold step start xs)
fold_has P Q step keeps start [] has all = has
fold_has P Q step keeps start (x ∷ xs) has all = fold_has P Q step keeps (step start x) xs (keeps start x has (All-head Q x xs all)) (All-tail Q x xs all)

-- ---- places without a fault

pub first_passes : (check more : Check) → next check more ≡ passes → check ≡ passes
first_passes (Ok tt) more e = refl
first_passes (Err fault) more e = absurd cc

pub rest_passes : (check more : Check) → next check more ≡ passes → more ≡ passes
rest_passes (Ok tt) more e = e
rest_passes (Err fault) more e = absurd cc

pub no_kind : (at : At) (kind : Option Kind) → at_position at kind ≡ passes → kind ≡ None
no_kind at None e = refl
no_kind at (Some kind) e = absurd cc

pub unless_empty : (m : Members) (fault : Fault) (check : Check) → (if is_empty m then Err fault else check) ≡ passes → check ≡ passes
unless_empty NoMore fault check e = absurd cc
unless_empty (WordThen at word more) fault check e = e
unless_empty (ListThen at inside more) fault check e = e

-- ---- what a function that reads gives

pub given_has : {A : Type 0} (P : A → Type 0) (reading : Reading A) → ((x : A) → reading ≡ Reads x → P x) → (given : Outcome A) → Gives given (first reading) → IfOk given P
given_has P (Reads found) has (Ok x) gives = let same : found ≡ x = cc (gives) in has x (ap Reads same)
given_has P (Faults fault more) has (Ok x) gives = absurd cc
given_has P reading has (Err end) gives = tt
