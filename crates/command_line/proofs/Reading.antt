-- From clap's clauses to what the words ask for.
use Rattle.std.proofs.Common.{◌≡◌, ◌≢◌, List, [], ◌∷◌, None, Option, true, refl, sym, ap, ap₂, ◌∙◌, subst, inl, inr}
use Rattle.std.specs.Prelude.{option_map}
use Rattle.clap.specs.Words.{App, Text, HasKind, HasMatchesOf, IsAmong, fault_of, first_of, first_value, found_of, is_simple, is_simple_and_free, kind_of, matches_of, rows_of}
use Rattle.clap.specs.Kinds.{Kinds}
use Rattle.clap.specs.declared.error.Error.{Error}
use Rattle.clap.specs.declared.error.kind.ErrorKind.{ErrorKind}
use Rattle.clap.specs.declared.error.kind.ErrorKind.TheVariants.{OutOfMemory}
use Rattle.clap.specs.declared.parser.matches.ArgMatches.{ArgMatches}
use Rattle.clap.specs.declared.parser.matches.Found.{Found}
use Rattle.clap.proofs.OnLiterals.{clap_on_literals}
use Rattle.clap.proofs.WalkLemmas.{first_value-rows}
use Rattle.command_line.specs.Command.{command}
use Rattle.command_line.specs.Accepted.{Asked, accepted, asked_by, asked_of, if_faultless}
use Rattle.command_line.specs.declared.accepted.Accepted.{Accepted}

-- a getter answers what the rows of the matches hold
pub given : (found : Found) (id : Text) → first_value found id ≡ first_of id (rows_of found)
given = first_value-rows

-- clap's definitions say all of the command
is_exact : is_simple_and_free command ≡ true
unfolding clap_on_literals
is_exact = refl

is_plain : is_simple command ≡ true
unfolding clap_on_literals
is_plain = refl

pub taken : (app : App) (words : List Text) (m : ArgMatches) (read : Option Accepted) → app ≡ command
    → (is_simple_and_free app ≡ true → fault_of app words ≡ []) → HasMatchesOf app words m
    → option_map asked_by read ≡ asked_of (rows_of (found_of m)) → option_map asked_by read ≡ accepted words
unfolding accepted
taken app words m read is faultless matches answers =
    let none : fault_of command words ≡ [] = ap (λ (a : App). fault_of a words) (sym is) ∙ faultless (ap is_simple_and_free is ∙ is_exact) in
    let rows : rows_of (found_of m) ≡ matches_of command words = (matches (ap is_simple is ∙ is_plain)).0 ∙ ap (λ (a : App). matches_of a words) is in
    answers ∙ sym (ap₂ if_faultless none (ap asked_of (sym rows)))

at_fault : (kinds : Kinds) (kind : ErrorKind) (asked : Option Asked) → IsAmong kind kinds → if_faultless kinds asked ≡ None
at_fault [] kind asked among = absurd among
at_fault (k ∷ kinds) kind asked among = refl

pub refused : (app : App) (words : List Text) (e : Error) → app ≡ command
    → (is_simple_and_free app ≡ true → HasKind (fault_of app words) e) → kind_of e ≢ OutOfMemory → accepted words ≡ None
unfolding accepted
refused app words e is has other =
    subst (λ (a : App). if_faultless (fault_of a words) (asked_of (matches_of command words)) ≡ None) is (by_kind (has (ap is_simple_and_free is ∙ is_exact)))
  where
    by_kind : HasKind (fault_of app words) e → if_faultless (fault_of app words) (asked_of (matches_of command words)) ≡ None
    by_kind (inl memory) = absurd (other memory)
    by_kind (inr among) = at_fault _ _ _ among
