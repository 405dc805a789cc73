-- The command, as clap's definitions see it.
use Rattle.std.specs.Prelude.{[], ◌∷◌, Some, fold, codes}
use Rattle.clap.specs.Words.{App, Rule, Text, new_app, new_rule, with_rule}
use Rattle.clap.specs.declared.builder.action.ArgAction.TheVariants.{SetTrue}

-- an argument with no name before it: it takes the next word that is no option and no flag
abbrev pub position : Text → Rule
position = new_rule

-- `--name VALUE`
abbrev pub option : Text → Rule
option name = record (new_rule name) { long = Some name }

-- `--name`
abbrev pub flag : Text → Rule
flag name = record (option name) { action = Some SetTrue }

-- The one command. Nothing in it is required, has a default, checks its value or speaks of another argument.
abbrev pub command : App
command = fold with_rule (new_app (codes "translate")) (
    position (codes "domain")
    ∷ position (codes "problem")
    ∷ option (codes "sas-file")
    ∷ option (codes "invariant-generation-max-candidates")
    ∷ option (codes "map-plan")
    ∷ option (codes "make")
    ∷ option (codes "from-sas")
    ∷ option (codes "pass")
    ∷ flag (codes "keep-unimportant-variables")
    ∷ flag (codes "skip-variable-reordering")
    ∷ flag (codes "full-encoding")
    ∷ [])
