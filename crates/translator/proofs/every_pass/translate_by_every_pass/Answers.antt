use Rattle.std.proofs.Common.{refl, sym, ap, subst}
use Rattle.messages.specs.declared.outcome.Status.TheVariants.{NoMemory}
use Rattle.messages.specs.Messages.{memory_line}
use Rattle.translator.specs.Asked.{asked_by_words, every_pass}
use Rattle.translator.specs.Store.{store, screen}
use Rattle.translator.specs.Call.{Ends, starved, Printed, called}
use Rattle.translator.proofs.Sources.{same_store}
use Rattle.translator.proofs.every_pass.translate_by_every_pass.Goals as goal

pub returns-in-Err-clause-called : goal.returns-in-Err-clause-called
returns-in-Err-clause-called g c =
    called NoMemory memory_line
    (subst (λ now. Ends (store g.F.Files c.args.files.now) now (asked_by_words every_pass c.args.words.items) NoMemory memory_line)
    (sym (ap (store g.F.Files) c.in-Err.ensures.files)) (starved (same_store _) refl))
    (subst (λ before. Printed memory_line NoMemory before (screen g.C.Console c.without_words.new.console) c.without_words.result)
    (ap (screen g.C.Console) c.in-Err.ensures.console) (c.without_words.ensures.memory refl))
