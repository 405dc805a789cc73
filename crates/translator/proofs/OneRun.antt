-- A run comes to one thing.
use Rattle.std.proofs.Common.{◌≡◌, List, refl, sym, ap, ap₂, ◌∙◌, subst}
use Rattle.invariant_guess.specs.declared.types.Found.{Found}
use Rattle.sas_task.specs.Task.{Task}
use Rattle.command_line.specs.declared.accepted.Settings.{Settings}
use Rattle.pass_book.specs.declared.kind.PassKind.{PassKind}
use Rattle.pass_book.specs.Passes.{IsChain}
use Rattle.run_task.specs.RunTask.{Start, FromPair, FromTask, IsMadeFrom, output_of}
use Rattle.run_task.specs.OneTask.{OneTaskOfPair}
use Rattle.translator.specs.Asked.{Asked}
use Rattle.translator.specs.Ending.{Gives, Absent, Refused, ◌>>=◌}
use Rattle.translator.specs.Plan.{lines_on}
use Rattle.translator.specs.Run.{Inputs, no_file, faulty, made}
use Rattle.translator.specs.OneRun.{OneEnding}

module _ (one_task_of_pair : OneTaskOfPair) (one_chain : (kinds : List PassKind) (old new other : Task) → IsChain kinds old new → IsChain kinds old other → new ≡ other) where
  -- one task is made from a start, and one thing found
  one_of_start : (start : Start) (settings : Settings) (passes : List PassKind) (found found' : Found) (one other : Task) → IsMadeFrom start settings passes found one → IsMadeFrom start settings passes found' other → (found ≡ found') × (one ≡ other)
  one_of_start (FromPair pair) settings passes found found' one other p q = one_task_of_pair pair settings settings passes found found' one other refl refl p q
  one_of_start (FromTask written) settings passes found found' one other p q = (p.0 ∙ sym q.0, one_chain passes written one other p.1 q.1)

  -- the plan file is mapped back to one task
  one_written : (asked : Asked) (inputs inputs' : Inputs) (found found' : Found) (one other : Task) → inputs ≡ inputs' → IsMadeFrom inputs.start asked.settings asked.passes found one → IsMadeFrom inputs'.start asked.settings asked.passes found' other →
      (lines_on one inputs.plan >>= λ lines. Gives (output_of found one lines)) ≡ (lines_on other inputs'.plan >>= λ lines. Gives (output_of found' other lines))
  one_written asked inputs inputs' found found' one other same p q =
      let both = one_of_start inputs'.start asked.settings asked.passes found found' one other (subst (λ (i : Inputs). IsMadeFrom i.start asked.settings asked.passes found one) same p) q in
      ap (λ (i : Inputs). lines_on one i.plan >>= λ lines. Gives (output_of found one lines)) same
      ∙ ap₂ (λ (f : Found) (t : Task). lines_on t inputs'.plan >>= λ lines. Gives (output_of f t lines)) both.0 both.1

  pub one_ending : OneEnding
  one_ending files asked one other (no_file name is) (no_file name' is') = let same : name ≡ name' = cc (is, is') in ap Absent same
  one_ending files asked one other (no_file name is) (faulty name' message' is') = absurd (cc (is, is'))
  one_ending files asked one other (no_file name is) (made inputs' found' task' is' of') = absurd (cc (is, is'))
  one_ending files asked one other (faulty name message is) (no_file name' is') = absurd (cc (is, is'))
  one_ending files asked one other (faulty name message is) (faulty name' message' is') =
      let names : name ≡ name' = cc (is, is') in
      let messages : message ≡ message' = cc (is, is') in
      ap (λ n. Refused n message) names ∙ ap (Refused name') messages
  one_ending files asked one other (faulty name message is) (made inputs' found' task' is' of') = absurd (cc (is, is'))
  one_ending files asked one other (made inputs found task is of) (no_file name' is') = absurd (cc (is, is'))
  one_ending files asked one other (made inputs found task is of) (faulty name' message' is') = absurd (cc (is, is'))
  one_ending files asked one other (made inputs found task is of) (made inputs' found' task' is' of') =
      let same : inputs ≡ inputs' = cc (is, is') in
      one_written asked inputs inputs' found found' task task' same of of'
