use Rattle.translator.proofs.Output.{output_whole, output_part}
use Rattle.translator.proofs.work.write_output.Goals as goal

pub returns-clause-ok : goal.returns-clause-ok
returns-clause-ok g c = output_whole _ _ _ _ _ _ c.in_ok-create_file.ensures.ok c.in_ok-create_file.ensures.name c.put_all.result c.put_all.ensures.ok

pub returns-clause-err : goal.returns-clause-err
returns-clause-err g c = output_part _ _ _ _ _ _ c.in_ok-create_file.ensures.ok c.in_ok-create_file.ensures.name c.put_all.result c.put_all.ensures.err
