-- What a run comes to is a translation of what it starts from.
use Rattle.std.proofs.Common.{◌≡◌, ℕ, cond, List, [], Result, Ok, Err, refl, sym, ap, ◌∙◌, subst}
use Rattle.std.specs.Prelude.{IfSome, IsSomeAnd}
use Rattle.std.specs.declared.option.Option.{Option}
use Rattle.std.specs.declared.option.Option.TheVariants.{Some, None}
use Rattle.std.specs.Cmp.{eq_by_cmp_equiv}
use Rattle.std.specs.Cmp.Lexicographic.{nat_list_cmp_total}
use Rattle.std.specs.FinMap.{get, insert, get-insert}
use Rattle.tl_device.specs.Contents.{Contents, emptied}
use Rattle.tl_device.proofs.Grown.{holds_grown}
use Rattle.command_line.specs.Accepted.{Source, Files, Made, WrittenTask}
use Rattle.command_line.specs.declared.accepted.Settings.{Settings}
use Rattle.pddl_lexer.specs.Members.{Members}
use Rattle.pddl_syntax.specs.Outcome.{Reads}
use Rattle.pddl_syntax.specs.Spelled.{IsWellSpelled, IsWellSpelledProblem}
use Rattle.pddl_syntax.specs.declared.types.Domain.{Domain}
use Rattle.pddl_syntax.specs.declared.types.Problem.{Problem}
use Rattle.pddl_parser.specs.DomainReading.{domain_reading}
use Rattle.pddl_parser.specs.ProblemReading.{problem_reading}
use Rattle.type_checker.specs.Checked.{FilePair, IsChecked}
use Rattle.invariant_guess.specs.declared.types.Found.{Found}
use Rattle.pass_book.specs.declared.kind.PassKind.{PassKind}
use Rattle.sas_reader.specs.Forms.{Unread, unread}
use Rattle.sas_reader.specs.declared.fault.SasFault.{SasFault}
use Rattle.sas_reader.specs.Text.{task, reading_of}
use Rattle.sas_task.specs.Task.{Task}
use Rattle.sas_task.specs.Valid.{IsValid}
use Rattle.run_task.specs.RunTask.{Start, FromPair, FromTask, IsMadeFrom, Output, output_of}
use Rattle.run_task.specs.Theorem.{Owes, TasksTranslate, PassedTasksStand}
use Rattle.translator.specs.Asked.{Asked}
use Rattle.translator.specs.Call.{IsWritten}
use Rattle.translator.specs.Ending.{Ending, Gives, ◌>>=◌}
use Rattle.translator.specs.Plan.{text_of_plan, lines_on}
use Rattle.translator.specs.Run.{Text, read, made_domain, made_problem, unless_broken, of_texts, of_task_text, of_source, Inputs, of_files, ComesTo, no_file, faulty, made}
use Rattle.translator.specs.Theorem.{IsTranslation, HoldsTranslation, OutputsTranslate}
use Rattle.translator.proofs.Stages.{stage_gives, gives_checked}
use Rattle.translator.proofs.Sources.{Begun, AfterSource, files_in_turn}
use Rattle.translator.proofs.WrittenTasks.{read_valid}

-- where all files give something to go on with, the source gives its start
starts_from : (files : Contents) (asked : Asked) (inputs : Inputs) → of_files files asked ≡ Gives inputs → of_source files asked.source ≡ Gives inputs.start
starts_from files asked inputs is =
    let source = stage_gives (of_source files asked.source) (AfterSource files asked) inputs (sym (files_in_turn files asked) ∙ is) in
    let plan = stage_gives (text_of_plan files asked.plan) (λ plan. Gives (Begun source.0 plan)) inputs source.2 in
    let same : Begun source.0 plan.0 ≡ inputs = cc (plan.2) in
    source.1 ∙ ap (λ (i : Inputs). Gives i.start) same

-- the task that is read in a text
broken_gives : (name : List ℕ) (reading : Result Task SasFault) (start : Start) → unless_broken name reading ≡ Gives start → (written : Task) × (reading ≡ Ok written) × (start ≡ FromTask written)
broken_gives name (Ok written) start is = (written, refl, cc (is))
broken_gives name (Err fault) start is = absurd (cc (is))

module _ (spelled : (tree : Members) (domain : Domain) → domain_reading tree ≡ Reads domain → IsWellSpelled domain)
    (spelled_problem : (tree : Members) (problem : Problem) → problem_reading tree ≡ Reads problem → IsWellSpelledProblem problem)
    (valid : (bytes : List ℕ) (read : Task) (after : Unread) → task (unread bytes) ≡ Ok (read, after) → IsValid read)
    (translates : TasksTranslate) (stands : PassedTasksStand) where
  module _ (settings : Settings) (passes : List PassKind) (found : Found) (new : Task) where
    owes_to_pair : (start : Start) (pair : FilePair) → IsChecked pair → start ≡ FromPair pair → IsMadeFrom start settings passes found new → Owes passes start new
    owes_to_pair start pair checked same is_made =
        subst (λ (s : Start). Owes passes s new) (sym same) (translates pair settings passes found new checked (subst (λ (s : Start). IsMadeFrom s settings passes found new) same is_made))

    owes_to_written : (start : Start) (written : Task) → IsValid written → start ≡ FromTask written → IsMadeFrom start settings passes found new → Owes passes start new
    owes_to_written start written is_valid same is_made =
        let so = subst (λ (s : Start). IsMadeFrom s settings passes found new) same is_made in
        subst (λ (s : Start). Owes passes s new) (sym same) (stands passes written new is_valid so.1)

    of_two_texts : (domain problem : Text) (start : Start) → of_texts domain problem ≡ Gives start → IsMadeFrom start settings passes found new → Owes passes start new
    of_two_texts domain problem start is is_made =
        let given = gives_checked domain problem spelled spelled_problem start is in
        owes_to_pair start given.0 given.1 given.2 is_made

    of_one_text : (text : Text) (start : Start) → of_task_text text ≡ Gives start → IsMadeFrom start settings passes found new → Owes passes start new
    of_one_text text start is is_made =
        let given = broken_gives text.name (reading_of text.bytes) start is in
        owes_to_written start given.0 (read_valid text.bytes (valid text.bytes) given.0 given.1) given.2 is_made

    -- what is made of a source is owed to it
    owed : (files : Contents) (source : Source) (start : Start) → of_source files source ≡ Gives start → IsMadeFrom start settings passes found new → Owes passes start new
    unfolding of_source
    owed files (Files domain problem) start is is_made =
        let first = stage_gives (read files domain) (λ d. read files problem >>= of_texts d) start is in
        let second = stage_gives (read files problem) (of_texts first.0) start first.2 in
        of_two_texts first.0 second.0 start second.2 is_made
    owed files (Made balls) start is is_made = of_two_texts made_domain (made_problem balls) start is is_made
    owed files (WrittenTask file) start is is_made =
        let text = stage_gives (read files file) of_task_text start is in
        of_one_text text.0 start text.2 is_made

  translated : (files : Contents) (asked : Asked) (output : Output) (e : Ending Output) → ComesTo files asked e → e ≡ Gives output → IsTranslation files asked output.text
  translated files asked output e (no_file name is) gives = absurd (cc (gives))
  translated files asked output e (faulty name message is) gives = absurd (cc (gives))
  translated files asked output e (made inputs found new is is_made) gives =
      let lines = stage_gives (lines_on new inputs.plan) (λ lines. Gives (output_of found new lines)) output gives in
      let same : output ≡ output_of found new lines.0 = cc (lines.2) in
      let begun = starts_from files asked inputs is in
      record {
        start = inputs.start;
        gives = begun;
        task = new;
        text = ap (λ (o : Output). o.text) same;
        owes = owed asked.settings asked.passes found new files asked.source inputs.start begun is_made;
      }

  pub outputs : OutputsTranslate
  outputs files asked output comes = translated files asked output (Gives output) comes refl

-- ---- in the output file

empty_holds : (files : Contents) (name : List ℕ) → get (insert files name []) name ≡ Some []
empty_holds files name =
    get-insert nat_list_cmp_total files name [] name ∙ ap (λ b. cond b (Some []) (get files name)) ((eq_by_cmp_equiv nat_list_cmp_total).refl name)

-- what is written is a translation, where the files are told
module _ (law : OutputsTranslate) where
  pub holds : (files files_now : Option Contents) (words : Option Asked) → IsSomeAnd words (λ asked. (output : Output) × IsWritten files files_now asked output)
      → IfSome files (λ before. IsSomeAnd files_now (λ now. IsSomeAnd words (HoldsTranslation before now)))
  holds None files_now words written = tt
  holds (Some before) files_now None written = absurd written
  holds (Some before) None (Some asked) written = absurd (let e = written.1.whole in cc (e))
  holds (Some before) (Some now) (Some asked) written =
      let output = written.0 in
      let there : get now asked.output ≡ Some output.text = holds_grown (emptied (Some before) asked.output) (Some now) asked.output output.text [] written.1.whole (empty_holds before asked.output) in
      subst (λ (held : Option (List ℕ)). IsSomeAnd held (IsTranslation before asked)) (sym there) (law before asked output written.1.comes)
