-- Names in groups, a member at a time.
use Rattle.std.proofs.Common.{◌≡◌, Bool, true, false, List, [], ◌∷◌, ◌++◌, refl, sym, ap, ◌∙◌, if◌then◌else◌}
use Rattle.std.proofs.lemmas.List.{append_assoc, append-nil}
use Rattle.pddl_lexer.specs.declared.position.At.{At}
use Rattle.pddl_lexer.specs.Members.{Members, NoMore, WordThen, ListThen, is_empty, word, rest}
use Rattle.pddl_syntax.specs.declared.types.Typed.{Typed}
use Rattle.pddl_syntax.specs.Values.{named, with_types, listed_types, group_types, group_end, closing_types, typed, typed_after_type}
use Rattle.pddl_syntax.specs.Words.{Name, is_dash}
use Rattle.pddl_syntax.proofs.Rows.{none_left}

pub at_end : (m : Members) → is_empty m ≡ true → group_end m ≡ m
at_end m none = rw (none_left m none) refl

pub at_dash : (m : Members) → is_dash (word m) ≡ true → group_end m ≡ m
at_dash NoMore dash = refl
at_dash (WordThen at bytes more) dash = rw dash refl
at_dash (ListThen at inner more) dash = absurd cc

pub same_end : (m : Members) → is_empty m ≡ false → is_dash (word m) ≡ false → group_end (rest m) ≡ group_end m
same_end NoMore some dash = absurd cc
same_end (WordThen at bytes more) some dash = rw dash refl
same_end (ListThen at inner more) some dash = refl

types_at_word : (at : At) (bytes : Name) (more : Members) (dash : Bool) → is_dash bytes ≡ dash → closing_types (group_end more) ≡ group_types more →
    closing_types (group_end (WordThen at bytes more)) ≡ group_types (WordThen at bytes more)
types_at_word at bytes more true same later =
    ap (λ (b : Bool). closing_types (if b then WordThen at bytes more else group_end more)) same
    ∙ ap (λ (b : Bool). if b then listed_types more else []) same
    ∙ sym (ap (λ (b : Bool). if b then listed_types more else group_types more) same)
types_at_word at bytes more false same later =
    ap (λ (b : Bool). closing_types (if b then WordThen at bytes more else group_end more)) same
    ∙ later
    ∙ sym (ap (λ (b : Bool). if b then listed_types more else group_types more) same)

types_at_end : (m : Members) → closing_types (group_end m) ≡ group_types m
types_at_end NoMore = refl
types_at_end (WordThen at bytes more) = types_at_word at bytes more (is_dash bytes) refl (types_at_end more)
types_at_end (ListThen at inner more) = types_at_end more

pub closed : (m : Members) → is_dash (word m) ≡ true → typed (rest (rest m)) ≡ typed m
unfolding typed typed_after_type
closed NoMore dash = absurd cc
closed (WordThen at bytes NoMore) dash = rw dash refl
closed (WordThen at bytes (WordThen there type more)) dash = rw dash refl
closed (WordThen at bytes (ListThen there inner more)) dash = rw dash refl
closed (ListThen at inner more) dash = absurd cc

pub longer : (xs : List Typed) (m : Members) → is_empty m ≡ false → is_dash (word m) ≡ false →
    (xs ++ with_types (closing_types (group_end m)) (named m) ∷ []) ++ typed (rest m) ≡ xs ++ typed m
unfolding typed
longer xs NoMore some dash = absurd cc
longer xs (WordThen at bytes more) some dash =
    rw dash (append_assoc xs (with_types (closing_types (group_end more)) (named (WordThen at bytes more)) ∷ []) (typed more)
    ∙ ap (λ types. xs ++ with_types types (named (WordThen at bytes more)) ∷ typed more) (types_at_end more))
longer xs (ListThen at inner more) some dash =
    append_assoc xs (with_types (closing_types (group_end more)) (named (ListThen at inner more)) ∷ []) (typed more)
    ∙ ap (λ types. xs ++ with_types types (named (ListThen at inner more)) ∷ typed more) (types_at_end more)

pub ended : (xs : List Typed) (m : Members) → is_empty m ≡ true → xs ++ typed m ≡ xs
unfolding typed
ended xs m none = rw (none_left m none) (append-nil xs)
