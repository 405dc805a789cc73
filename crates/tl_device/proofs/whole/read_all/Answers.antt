use Rattle.std.proofs.Common.{◌≡◌, ◌++◌, ◌∙◌, take, sym, subst, ap, arith, length-take}
use Rattle.std.proofs.lemmas.List.{take-append-le}
use Rattle.std.proofs.lemmas.Grind.{common_steps}
use Rattle.tl_device.specs.Contents.{Holds, IsTold}
use Rattle.tl_device.proofs.Rest.{holds_more, holds_on, is_rest}
use Rattle.tl_device.proofs.whole.read_all.Goals as goal

pub returns-then-len-taken-clause-longer : goal.returns-then-len-taken-clause-longer
returns-then-len-taken-clause-longer g c _ =
    holds_more _ _ c.loop-all.all.items (g.F.Files.rest c.loop-all.files) (take c.in_ok-taken.taken c.read.new.into) (g.F.Files.rest c.read.new.self) _ c.loop-all.invariant.whole
    (λ told. c.in_ok-taken.ensures.front (subst IsTold (sym c.loop-all.invariant.files) told))
    (omega (arith, length-take c.in_ok-taken.taken c.read.new.into, c.in_ok-taken.ensures.bound))

pub returns-then-len-taken-clause-rest : goal.returns-then-len-taken-clause-rest
returns-then-len-taken-clause-rest g c _ =
    is_rest _ _ c.loop-all.all.items (g.F.Files.rest c.loop-all.files) (take c.in_ok-taken.taken c.read.new.into) (g.F.Files.rest c.read.new.self) _ c.loop-all.invariant.whole
    (λ told. c.in_ok-taken.ensures.front (subst IsTold (sym c.loop-all.invariant.files) told))
    (omega (arith, length-take c.in_ok-taken.taken c.read.new.into, length-take c.min-wanted.result c.loop-all.buffer, c.in_ok-taken.ensures.bound, c.in_ok-taken.ensures.taken))

pub loop-all-preserved : goal.loop-all-preserved
loop-all-preserved g c =
    let items : c.extend_from_slice.new.self.items ≡ c.loop-all.all.items ++ take c.in_ok-taken.taken c.read.new.into = c.in_ok-extend_from_slice.ensures.items ∙ ap (λ piece. c.loop-all.all.items ++ piece) (take-append-le _ _ _ c.in_ok-taken.ensures.bound) in
    let whole : Holds (g.F.Files.files c.args.files.now) c.args.name.now (c.extend_from_slice.new.self.items ++ g.F.Files.rest c.read.new.self) = rw items (holds_on _ _ _ _ _ _ c.loop-all.invariant.whole (λ told. c.in_ok-taken.ensures.front (subst IsTold (sym c.loop-all.invariant.files) told))) in
    grind (arith, common_steps, whole)
