use Rattle.std.proofs.Common.{◌≡◌, ◌∙◌, ◌++◌, ◌∷◌, [], ℕ, List, sym, ap, if◌then◌else◌}
use Rattle.std.specs.Option.{option_map}
use Rattle.std.proofs.lemmas.Result.{on_ok_weaker}
use Rattle.names.specs.Names.{is_same}
use Rattle.ground_task.specs.Buckets.{numbers_in}
use Rattle.mutex_groups.proofs.Covered.{covers-some, covers-none}
use Rattle.mutex_groups.proofs.instances.add_fact.Goals as goal

pub returns-in-Some : goal.returns-in-Some
returns-in-Some c =
    let found = sym c.in_ok-instance.ensures ∙ ap (option_map (λ objects. objects.items)) c.in-Some.is in
    on_ok_weaker c.add.result
    (λ (held : (other : List ℕ) → numbers_in c.add.new.self other ≡ (if is_same other c.in-Some.instance.items then numbers_in c.args.members.now other ++ c.args.number ∷ [] else numbers_in c.args.members.now other)) instance.
    held instance
    ∙ ap (λ b. if b then numbers_in c.args.members.now instance ++ c.args.number ∷ [] else numbers_in c.args.members.now instance) (sym (covers-some c.args.candidate.now c.args.fact.now.atom c.in-Some.instance.items c.requires found instance)))
    c.add.ensures

pub returns-in-None : goal.returns-in-None
returns-in-None c = λ instance.
    let missing = sym c.in_ok-instance.ensures ∙ ap (option_map (λ objects. objects.items)) c.in-None.is in
    ap (λ b. if b then numbers_in c.args.members.now instance ++ c.args.number ∷ [] else numbers_in c.args.members.now instance) (sym (covers-none c.args.candidate.now c.args.fact.now.atom c.requires missing instance))
