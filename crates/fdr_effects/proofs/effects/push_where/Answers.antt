-- Where there are no literals, there is one member.
use Rattle.std.proofs.Common.{◌++◌, ◌∷◌, [], List, eqb, map, length, sym, ap, ◌∙◌}
use Rattle.std.proofs.lemmas.Bool.{and_parts, eqb-true}
use Rattle.std.proofs.lemmas.List.{nil_from_length}
use Rattle.sas_task.specs.declared.parts.Effect.{Effect}
use Rattle.sas_task.specs.declared.parts.Pair.{Pair}
use Rattle.fdr_effects.proofs.Looked.{nothing_split}
use Rattle.fdr_effects.proofs.effects.push_where.Goals as goal

pub returns-then-is_empty : goal.returns-then-is_empty
returns-then-is_empty c =
    let literals = c.args.literals.now in
    let var = c.args.var in
    let val = c.args.val in
    let set : List Pair → Effect = λ conditions. record { conditions = conditions; var = var; after = val } in
    let none = and_parts (eqb (length literals.positive) 0) (eqb (length literals.negative) 0) (sym c.is_empty.ensures ∙ c.if-is_empty.true) in
    let wanted = nil_from_length literals.positive (eqb-true (length literals.positive) 0 none.0) in
    let barred = nil_from_length literals.negative (eqb-true (length literals.negative) 0 none.1) in
    c.in_ok-push.ensures.items
    ∙ ap (λ (conditions : List Pair). c.args.out.now.items ++ set conditions ∷ []) (c.from_vec.ensures ∙ c.new.ensures.items)
    ∙ ap (λ members. c.args.out.now.items ++ map set members) (sym (nothing_split c.args.index.now literals wanted barred))
