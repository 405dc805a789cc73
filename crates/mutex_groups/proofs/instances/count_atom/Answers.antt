use Rattle.std.proofs.Common.{◌≡◌, ◌∙◌, ℕ, List, sym, ap, if◌then◌else◌}
use Rattle.std.specs.Option.{option_map}
use Rattle.std.proofs.lemmas.Result.{on_ok_weaker}
use Rattle.names.specs.Names.{is_same}
use Rattle.mutex_groups.specs.Found.{told_more, weight_in}
use Rattle.mutex_groups.proofs.Covered.{covers-some, covers-none}
use Rattle.mutex_groups.proofs.instances.count_atom.Goals as goal

pub returns-in-Some : goal.returns-in-Some
returns-in-Some c =
    let found = sym c.in_ok-instance.ensures ∙ ap (option_map (λ objects. objects.items)) c.in-Some.is in
    on_ok_weaker c.count.result
    (λ (held : (other : List ℕ) → weight_in c.count.new.self other ≡ (if is_same other c.in-Some.instance.items then told_more (weight_in c.args.weights.now other) else weight_in c.args.weights.now other)) instance.
    held instance
    ∙ ap (λ b. if b then told_more (weight_in c.args.weights.now instance) else weight_in c.args.weights.now instance) (sym (covers-some c.args.candidate.now c.args.atom.now c.in-Some.instance.items c.requires found instance)))
    c.count.ensures

pub returns-in-None : goal.returns-in-None
returns-in-None c = λ instance.
    let missing = sym c.in_ok-instance.ensures ∙ ap (option_map (λ objects. objects.items)) c.in-None.is in
    ap (λ b. if b then told_more (weight_in c.args.weights.now instance) else weight_in c.args.weights.now instance) (sym (covers-none c.args.candidate.now c.args.atom.now c.requires missing instance))
