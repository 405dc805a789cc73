-- What domain files and problem files have in common: `define`, a title, and sections; or their faults.
use Rattle.std.specs.Prelude.{ℕ, Bool, not, ◌&&◌, List, [], ◌∷◌, ◌++◌, Option, Some, None, Err, codes, if◌then◌else◌}
use Rattle.lists.specs.Members.{is_among}
use Rattle.pddl_lexer.specs.declared.position.At.{At}
use Rattle.pddl_lexer.specs.Members.{Members, NoMore, WordThen, ListThen, is_empty, position, word, inside, rest}
use Rattle.pddl_lexer.specs.declared.fault.ShapePlace.TheVariants as places
use Rattle.pddl_syntax.specs.declared.expected.Expected.TheVariants as expected
use Rattle.pddl_syntax.specs.declared.types.Named.{Named}
use Rattle.pddl_syntax.specs.Outcome.{Reading, Reads, both, own, refused}
use Rattle.pddl_syntax.specs.Shapes.{Check, next, unsupported, repeated, are_alike, malformed, check_member, check_all, check_exact}
use Rattle.pddl_syntax.specs.Values.{named}
use Rattle.pddl_syntax.specs.Words.{Name, is_word, is_one_of, begins_with_colon}

-- Own faults of a file: `define`, a list with the title, and sections. The file begins at this position.
abbrev pub check_file : At → Members → Check
check_file at m =
    if is_empty m then Err (malformed places.File at)
    else if not (is_word (codes "define") m) then Err (malformed places.File (position m))
    else if is_empty (rest m) then Err (malformed places.File at)
    else next (check_member (expected.List places.File) (rest m)) (check_all (expected.List places.Section) (rest (rest m)))

-- own faults of (KEYWORD NAME), the file's title
abbrev pub check_title : List ℕ → At → Members → Check
check_title keyword at m =
    if is_empty m then Err (malformed places.File at)
    else if not (is_word keyword m) then Err (malformed places.File (position m))
    else check_exact places.File at (expected.Name places.File ∷ []) (rest m)

abbrev pub title : List ℕ → Members → Reading Named
title keyword m = own (check_title keyword (position m) (inside m)) (Reads (named (rest (inside m))))

-- Sections with this keyword are repeated: one stands among those with these keywords, and it is no action and no axiom, of which there may be several.
abbrev pub is_repeated : List Name → List ℕ → Bool
is_repeated earlier bytes = not (is_one_of (codes ":action" ∷ codes ":derived" ∷ []) bytes) && is_among are_alike earlier bytes

-- a section with this key at this position, by the members after its keyword
abbrev pub keyed_section : {K S : Type 0} → (K → At → Members → Reading S) → (repeats : Bool) → Option K → At → Members → Reading S
keyed_section section_of repeats None at m = refused (unsupported at)
keyed_section section_of repeats (Some key) at m = if repeats then refused (repeated at) else section_of key at m

-- a section, after sections with these keywords
abbrev pub section : {K S : Type 0} → (List ℕ → Option K) → (K → At → Members → Reading S) → List Name → Members → Reading S
section key_of section_of earlier m =
    if begins_with_colon (word (inside m)) then
    keyed_section section_of (is_repeated earlier (word (inside m))) (key_of (word (inside m))) (position m) (rest (inside m))
    else refused (malformed places.Section (position m))

-- the sections among the members, each by the rule of one, after sections with these keywords
unfoldable pub sections : {S : Type 0} → (List Name → Members → Reading S) → List Name → Members → Reading (List S)
sections one earlier NoMore = Reads []
sections one earlier (WordThen at word more) = sections one earlier more
sections one earlier (ListThen at inside more) =
    both (λ x xs. x ∷ xs) (one earlier (ListThen at inside more)) (sections one (earlier ++ word inside ∷ []) more)
