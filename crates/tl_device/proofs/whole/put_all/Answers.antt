use Rattle.std.proofs.Common.{rules, ◌<◌, refl, ◌∙◌, sym, ap, arith, length-drop}
use Rattle.std.proofs.lemmas.List.{take_all}
use Rattle.tl_device.specs.Contents.{GrownInPart, grown}
use Rattle.tl_device.proofs.Grown.{grown_nothing, grown_next, grown_part, held_before, holds_grown, others_grown}
use Rattle.tl_device.proofs.whole.put_all.Goals as goal

pub loop-done-init : goal.loop-done-init
loop-done-init g c = record {
  within = omega arith;
  files = sym (grown_nothing _ _);
  held = λ (some : 0 < 0). let none : ⊥ = omega (arith, some) in absurd none;
  asked = refl;
  write_faults = refl;
  created = c.requires;
  writing = refl;
  begun = refl;
  reading = refl;
  rest = λ _. refl;
  taken = refl;
  read_faults = refl;
}

pub loop-done-preserved : goal.loop-done-preserved
loop-done-preserved g c = record {
  within = omega (arith, c.in_ok-done.ensures.bound, length-drop c.loop-done.done c.args.bytes.now);
  files = grown_next _ _ _ _ _ _ _ _ c.loop-done.invariant.writing c.loop-done.invariant.files c.in_ok-done.ensures.ok;
  held = λ _. held_before _ _ _ _ _ _ c.in_ok-done.ensures.created (c.in_ok-done.ensures.writing ∙ c.loop-done.invariant.writing)
      (grown_next _ _ _ _ _ _ _ _ c.loop-done.invariant.writing c.loop-done.invariant.files c.in_ok-done.ensures.ok) c.in_ok-done.ensures.held;
  asked = c.in_ok-done.ensures.asked ∙ c.loop-done.invariant.asked;
  write_faults = c.in_ok-done.ensures.cause.same ∙ c.loop-done.invariant.write_faults;
  created = c.in_ok-done.ensures.created;
  writing = c.in_ok-done.ensures.writing ∙ c.loop-done.invariant.writing;
  begun = c.in_ok-done.ensures.begun ∙ c.loop-done.invariant.begun;
  reading = c.in_ok-done.ensures.reading ∙ c.loop-done.invariant.reading;
  rest = λ differs. c.in_ok-done.ensures.rest (λ same. differs (sym c.loop-done.invariant.reading ∙ same ∙ c.loop-done.invariant.writing)) ∙ c.loop-done.invariant.rest differs;
  taken = c.in_ok-done.ensures.taken ∙ c.loop-done.invariant.taken;
  read_faults = c.in_ok-done.ensures.read_faults ∙ c.loop-done.invariant.read_faults;
}

pub returns-in_err-done-clause-err : goal.returns-in_err-done-clause-err
returns-in_err-done-clause-err g c =
    let part : GrownInPart (g.F.Files.files c.args.files.now) (g.F.Files.files c.write.new.self) (g.F.Files.writing c.args.files.now) c.args.bytes.now =
    grown_part _ _ _ _ c.loop-done.done (c.in_err-done.ensures.err ∙ c.loop-done.invariant.files) in
    search rules

pub returns-in_err-done-clause-held : goal.returns-in_err-done-clause-held
returns-in_err-done-clause-held g c _ = held_before _ _ _ _ _ _ c.in_err-done.ensures.created (c.in_err-done.ensures.writing ∙ c.loop-done.invariant.writing)
    (c.in_err-done.ensures.err ∙ c.loop-done.invariant.files) c.in_err-done.ensures.held

pub returns-in_err-done-clause-others : goal.returns-in_err-done-clause-others
returns-in_err-done-clause-others g c =
    others_grown (g.F.Files.files c.args.files.now) (g.F.Files.files c.write.new.self) (g.F.Files.writing c.args.files.now) _ (c.in_err-done.ensures.err ∙ c.loop-done.invariant.files)

pub returns-clause-others : goal.returns-clause-others
returns-clause-others g c =
    others_grown (g.F.Files.files c.args.files.now) (g.F.Files.files c.loop-done.files) (g.F.Files.writing c.args.files.now) _ c.loop-done.invariant.files

pub returns-clause-holds : goal.returns-clause-holds
returns-clause-holds g c held holds =
    holds_grown (g.F.Files.files c.args.files.now) (g.F.Files.files c.loop-done.files) (g.F.Files.writing c.args.files.now) c.args.bytes.now held
    (c.loop-done.invariant.files ∙ ap (grown (g.F.Files.files c.args.files.now) (g.F.Files.writing c.args.files.now)) (take_all c.loop-done.done c.args.bytes.now c.loop-done-test.false)) holds
