use Rattle.std.proofs.Common.{◌≡◌, [], ◌∷◌, ◌++◌, sym, ap, ◌∙◌}
use Rattle.std.proofs.lemmas.Result.{on_ok_weaker}
use Rattle.pddl_syntax.specs.declared.types.Init.{Init}
use Rattle.normal_task.specs.Meaning.{is_same_atom}
use Rattle.normal_task.specs.Normalised.{once_after, stated}
use Rattle.normaliser.proofs.OnceSteps.{once-added}
use Rattle.normaliser.proofs.initial.add_stated.Goals as goal

pub returns-in_ok-stated-in-Holds : goal.returns-in_ok-stated-in-Holds
returns-in_ok-stated-in-Holds c = λ so_far atoms_are.
    let domain = c.args.numbering.now.domain in
    let problem = c.args.numbering.now.problem in
    let added : so_far ++ c.in_ok-stated-in-Holds.stated ∷ [] ≡ so_far ++ stated domain problem c.args.entry.now =
    ap (λ a. so_far ++ a ∷ []) c.in_ok-stated-in-Holds.ensures ∙ sym (ap (λ (entry : Init). so_far ++ stated domain problem entry) c.in-Holds.is) in
    on_ok_weaker c.insert.result
    (λ made. once-added domain problem is_same_atom c.args.atoms.now so_far atoms_are c.in_ok-stated-in-Holds.stated c.insert.new.self made ∙ ap (once_after domain problem is_same_atom []) added)
    c.insert.ensures
