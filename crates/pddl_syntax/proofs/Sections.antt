-- The sections of a file, one at a time.
use Rattle.std.proofs.Common.{◌≡◌, ℕ, Bool, true, false, List, [], ◌∷◌, ◌++◌, Ok, Err, refl, sym, ap, ◌∙◌}
use Rattle.std.specs.Prelude.{All, Option, Some, None, if◌then◌else◌}
use Rattle.std.proofs.lemmas.List.{append-nil}
use Rattle.pddl_lexer.specs.declared.position.At.{At}
use Rattle.pddl_lexer.specs.declared.fault.ShapePlace.TheVariants as places
use Rattle.pddl_lexer.specs.Members.{Members, NoMore, WordThen, ListThen, is_empty, is_list, position, word, inside, rest}
use Rattle.lists.specs.declared.stop.Stop.{Stop}
use Rattle.pddl_lexer.specs.declared.fault.Fault.{Fault}
use Rattle.pddl_syntax.specs.Outcome.{Reading, Reads, both, refused, first}
use Rattle.pddl_syntax.specs.Reading.{is_repeated, keyed_section, section, sections}
use Rattle.pddl_syntax.specs.Shapes.{unsupported, repeated, malformed}
use Rattle.pddl_syntax.specs.Words.{Name, begins_with_colon}
use Rattle.pddl_syntax.proofs.Given.{pairs_have, nothing_has, refused_never}
use Rattle.pddl_syntax.proofs.Rows.{none_left, word_then, list_then, after, after_both, after_fails}

module _ {S : Type 0} (one : List Name → Members → Reading S) where
  section_first : (earlier : List Name) (m : Members) → is_list m ≡ true →
      sections one earlier m ≡ both (λ x xs. x ∷ xs) (one earlier m) (sections one (earlier ++ word (inside m) ∷ []) (rest m))
  unfolding sections
  section_first earlier m listed = rw (list_then m listed) refl

  pub turn : (earlier : List Name) (xs : List S) (x : S) (m : Members) → is_list m ≡ true → first (one earlier m) ≡ Ok x →
      after (xs ++ x ∷ []) (sections one (earlier ++ word (inside m) ∷ []) (rest m)) ≡ after xs (sections one earlier m)
  turn earlier xs x m listed read =
      after_both xs x (one earlier m) (sections one (earlier ++ word (inside m) ∷ []) (rest m)) read ∙ ap (after xs) (sym (section_first earlier m listed))

  pub fails : (earlier : List Name) (xs : List S) (e : Stop Fault) (m : Members) → is_list m ≡ true → first (one earlier m) ≡ Err e → after xs (sections one earlier m) ≡ Err e
  fails earlier xs e m listed read =
      ap (after xs) (section_first earlier m listed) ∙ after_fails xs e (one earlier m) (sections one (earlier ++ word (inside m) ∷ []) (rest m)) read

  pub past_word : (earlier : List Name) (xs : List S) (m : Members) → is_empty m ≡ false → is_list m ≡ false → after xs (sections one earlier (rest m)) ≡ after xs (sections one earlier m)
  unfolding sections
  past_word earlier xs m some plain = rw (word_then m some plain) refl

  pub ended : (earlier : List Name) (xs : List S) (m : Members) → is_empty m ≡ true → after xs (sections one earlier m) ≡ Ok xs
  unfolding sections
  ended earlier xs m none = rw (none_left m none) (ap (λ (ys : List S). Ok ys) (append-nil xs))

-- ---- what each section that is read has

module _ {K S : Type 0} (key_of : List ℕ → Option K) (section_of : K → At → Members → Reading S) (P : S → Type 0) where
  keyed_has : ((key : K) (at : At) (m : Members) (s : S) → section_of key at m ≡ Reads s → P s) →
      (repeats : Bool) (key : Option K) (at : At) (m : Members) (s : S) → keyed_section section_of repeats key at m ≡ Reads s → P s
  keyed_has of repeats None at m s e = absurd (refused_never (unsupported at) s e)
  keyed_has of true (Some key) at m s e = absurd (refused_never (repeated at) s e)
  keyed_has of false (Some key) at m s e = of key at m s e

  pub section_has : ((key : K) (at : At) (m : Members) (s : S) → section_of key at m ≡ Reads s → P s) →
      (earlier : List Name) (m : Members) (s : S) → section key_of section_of earlier m ≡ Reads s → P s
  section_has of earlier m s e = by (begins_with_colon (word (inside m))) e
    where
      by : (keyed : Bool) → (if keyed then keyed_section section_of (is_repeated earlier (word (inside m))) (key_of (word (inside m))) (position m) (rest (inside m)) else refused (malformed places.Section (position m))) ≡ Reads s → P s
      by true found = keyed_has of (is_repeated earlier (word (inside m))) (key_of (word (inside m))) (position m) (rest (inside m)) s found
      by false found = absurd (refused_never (malformed places.Section (position m)) s found)

pub sections_have : {S : Type 0} (P : S → Type 0) (one : List Name → Members → Reading S) → ((earlier : List Name) (m : Members) (s : S) → one earlier m ≡ Reads s → P s) →
    (earlier : List Name) (m : Members) (ss : List S) → sections one earlier m ≡ Reads ss → All P ss
unfolding sections
sections_have P one each earlier NoMore ss e = nothing_has P ss e
sections_have P one each earlier (WordThen at word more) ss e = sections_have P one each earlier more ss e
sections_have P one each earlier (ListThen at inside more) ss e =
    pairs_have P (one earlier (ListThen at inside more)) (sections one (earlier ++ word inside ∷ []) more)
    (each earlier (ListThen at inside more)) (sections_have P one each (earlier ++ word inside ∷ []) more) ss e
