-- Each clause of the top call follows from how its work ended and what was printed.
use Rattle.std.proofs.Common.{◌≡◌, ◌≢◌, ◌⊎◌, ℕ, List, [], ◌∷◌, ◌++◌, refl, sym, ap, ◌∙◌, subst, inl, inr, append-nil}
use Rattle.std.specs.Prelude.{IsSome, IfSome, IsSomeAnd}
use Rattle.std.specs.declared.option.Option.{Option}
use Rattle.std.specs.declared.option.Option.TheVariants.{Some, None}
use Rattle.std.specs.Io.KnownBytes.{append_known}
use Rattle.std.specs.FinMap.{get, insert}
use Rattle.tl_device.specs.Contents.{Contents, OthersStay, IsTold, IsAskedFor, GrownInPart, emptied, grow}
use Rattle.tl_device.proofs.Grown.{get-emptied_other, get-grown_other}
use Rattle.tl_device.specs.Causes.{Rose}
use Rattle.messages.specs.declared.outcome.Message.{Message}
use Rattle.messages.specs.declared.outcome.Status.{Status}
use Rattle.messages.specs.declared.outcome.Status.TheVariants as statuses
use Rattle.messages.specs.declared.outcome.Summary.{Summary}
use Rattle.messages.specs.Messages.{refusal_line, unreadable_line, task_lines}
use Rattle.translator.specs.Asked.{Asked}
use Rattle.translator.specs.Ending.{Ending, Gives, Absent, Refused}
use Rattle.run_task.specs.RunTask.{Output}
use Rattle.translator.specs.Run.{ComesTo, RunsTo, LacksFile, HasFault}
use Rattle.translator.specs.OneRun.{OneEnding}
use Rattle.translator.specs.Store.{Store, IsUntouched, Screen}
use Rattle.translator.specs.Theorem.{HoldsTranslation, OutputsTranslate}
use Rattle.translator.proofs.Owed.{holds}
use Rattle.translator.specs.Call.{IsWritten, IsWrittenInPart, Ends, misused, starved, unread, refused, unwritten, written, whole, part, Called, called}
use Rattle.translator.proofs.FirstBytes.{capital, usage_small, memory_small, unreadable_small, unwritable_small, refusal_small, begins_capital, printed_is}

-- ---- what a run comes to is one ending

-- where the words ask for this, and the files are told
one_ending : OneEnding → (files : Option Contents) (words : Option Asked) (asked : Asked) (e e' : Ending Output) → words ≡ Some asked → RunsTo files words e → IfSome files (λ held. ComesTo held asked e') → e ≡ e'
one_ending one None None asked e e' named runs comes = absurd runs
one_ending one None (Some other) asked e e' named runs comes = absurd runs
one_ending one (Some held) None asked e e' named runs comes = absurd runs
one_ending one (Some held) (Some other) asked e e' named runs comes =
    let same : other ≡ asked = cc (named) in
    one held asked e e' (subst (λ (a : Asked). ComesTo held a e) same runs) comes

-- what comes where the files are told, the run comes to, if they are told
run_to : (files : Option Contents) (words : Option Asked) (asked : Asked) (e : Ending Output) → words ≡ Some asked → IsTold files → IfSome files (λ held. ComesTo held asked e) → RunsTo files words e
run_to None words asked e named told comes = absurd cc
run_to (Some held) words asked e named told comes = subst (λ (w : Option Asked). RunsTo (Some held) w e) (sym named) comes

runs_to : (files : Option Contents) (words : Option Asked) (asked : Asked) (e : Ending Output) → words ≡ Some asked → IsSomeAnd files (λ held. ComesTo held asked e) → RunsTo files words e
runs_to None words asked e named comes = absurd comes
runs_to (Some held) words asked e named comes = subst (λ (w : Option Asked). RunsTo (Some held) w e) (sym named) comes

told_so : (files : Option Contents) (P : Contents → Type 0) → IsSomeAnd files P → IfSome files P
told_so None P is = tt
told_so (Some held) P is = is

unasked : (files : Option Contents) (words : Option Asked) (e : Ending Output) → words ≡ None → RunsTo files words e → ⊥
unasked None None e none runs = runs
unasked (Some held) None e none runs = runs
unasked files (Some asked) e none runs = absurd cc

-- ---- what stands in the files

module _ (output : List ℕ) where
  -- each name but the output file's holds what it held
  same_stay : (old new : Option Contents) → new ≡ old → OthersStay old new output
  same_stay None new same = tt
  same_stay (Some m) None same = absurd cc
  same_stay (Some m) (Some n) same = λ other differs. let equal : n ≡ m = cc in ap (λ c. get c other) equal

  part_stays : (old new : Option Contents) (text : List ℕ) → GrownInPart (emptied old output) new output text → OthersStay old new output
  part_stays None new text front = tt
  part_stays (Some m) None text front = absurd (let grows = front.grows in cc (grows))
  part_stays (Some m) (Some n) text front = λ other differs.
      let grows = front.grows in
      let equal : n ≡ grow (insert m output []) output front.written = cc (grows) in
      ap (λ c. get c other) equal ∙ get-grown_other (insert m output []) output front.written other differs ∙ get-emptied_other m output other differs

-- ---- the clauses

-- a front of the text was to be written
record Wrote (before now : Store) (words : Option Asked) (meant : Status) : Type 0 where
  pub asked : Asked
  pub output : Output
  pub named : words ≡ Some asked
  pub comes : IfSome before.files (λ held. ComesTo held asked (Gives output))
  pub part : (now.files ≡ before.files) ⊎ GrownInPart (emptied before.files asked.output) now.files asked.output output.text
  pub reads : now.reads ≡ before.reads
  pub meant_so : (meant ≡ statuses.Done) ⊎ (meant ≡ statuses.Device)

module _ (one : OneEnding) (before now : Store) (words : Option Asked) where
  wrote : (meant : Status) (text : List ℕ) → Ends before now words meant text → IsUntouched before now ⊎ Wrote before now words meant
  wrote meant text (misused none untouched reads) = inl untouched
  wrote meant text (starved untouched reads) = inl untouched
  wrote meant text (unread asked name named untouched why) = inl untouched
  wrote meant text (refused asked name message named untouched why) = inl untouched
  wrote meant text (unwritten asked output named why) =
      inr (record { asked = asked; output = output; named = named; comes = why.comes; part = why.part; reads = why.reads; meant_so = inr refl })
  wrote meant text (written asked output named is reads writes) =
      let front : GrownInPart (emptied before.files asked.output) now.files asked.output output.text = record { written = output.text; left = []; parts = sym (append-nil output.text); grows = is.whole } in
      inr (record { asked = asked; output = output; named = named; comes = is.comes; part = inr front; reads = reads; meant_so = inl refl })

  counts : (meant : Status) (text : List ℕ) → Ends before now words meant text → meant ≢ statuses.Device → (now.reads ≡ before.reads) × (now.writes ≡ before.writes)
  counts meant text (misused none untouched reads) other = (reads, untouched.writes)
  counts meant text (starved untouched reads) other = (reads, untouched.writes)
  counts meant text (unread asked name named untouched why) other = absurd (other refl)
  counts meant text (refused asked name message named untouched why) other = (why.reads, untouched.writes)
  counts meant text (unwritten asked output named why) other = absurd (other refl)
  counts meant text (written asked output named is reads writes) other = (reads, writes)

  -- some file is absent, or some is refused
  abbrev Stopped : Type 0
  Stopped = LacksFile before.files words ⊎ HasFault before.files words

  -- a run that is stopped writes nothing
  unstopped : (asked : Asked) (output : Output) → words ≡ Some asked → IfSome before.files (λ held. ComesTo held asked (Gives output)) → Stopped → ⊥
  unstopped asked output named comes (inl lacks) = let e = one_ending one before.files words asked (Absent lacks.0) (Gives output) named lacks.1 comes in cc (e)
  unstopped asked output named comes (inr has) = let e = one_ending one before.files words asked (Refused has.0 has.1.0) (Gives output) named has.1.1 comes in cc (e)

  module _ (screen screen_now : Screen) where
    pub usage : (status : Status) → Called before now words screen screen_now status → status ≡ statuses.Usage → words ≡ None
    usage status (called meant text ends (part broke rose)) meant_so = absurd cc
    usage status (called meant text (misused none untouched reads) (whole grows same)) meant_so = none
    usage status (called meant text (starved untouched reads) (whole grows same)) meant_so = absurd cc
    usage status (called meant text (unread asked name named untouched why) (whole grows same)) meant_so = absurd cc
    usage status (called meant text (refused asked name message named untouched why) (whole grows same)) meant_so = absurd cc
    usage status (called meant text (unwritten asked output named why) (whole grows same)) meant_so = absurd cc
    usage status (called meant text (written asked output named is reads writes) (whole grows same)) meant_so = absurd cc

    pub refuses : (status : Status) → Called before now words screen screen_now status → words ≡ None → (status ≡ statuses.Usage) ⊎ ((status ≡ statuses.NoMemory) ⊎ ((status ≡ statuses.Device) × Rose screen.faults screen_now.faults))
    refuses status (called meant text ends (part broke rose)) no_words = inr (inr (refl, rose))
    refuses status (called meant text (misused none untouched reads) (whole grows same)) no_words = inl refl
    refuses status (called meant text (starved untouched reads) (whole grows same)) no_words = inr (inl refl)
    refuses status (called meant text (unread asked name named untouched why) (whole grows same)) no_words = absurd (let e = sym no_words ∙ named in cc (e))
    refuses status (called meant text (refused asked name message named untouched why) (whole grows same)) no_words = absurd (let e = sym no_words ∙ named in cc (e))
    refuses status (called meant text (unwritten asked output named why) (whole grows same)) no_words = absurd (let e = sym no_words ∙ named in cc (e))
    refuses status (called meant text (written asked output named is reads writes) (whole grows same)) no_words = absurd (let e = sym no_words ∙ named in cc (e))

    -- the device that failed, where the console took all
    absent_told : (name : List ℕ) (asked : Asked) → words ≡ Some asked → IsSomeAnd before.files (λ held. ComesTo held asked (Absent name)) → LacksFile before.files words
    absent_told name asked named absent = (name, runs_to before.files words asked (Absent name) named absent)

    pub device : (status : Status) → Called before now words screen screen_now status → status ≡ statuses.Device → Rose before.reads now.reads ⊎ (Rose before.writes now.writes ⊎ (Rose screen.faults screen_now.faults ⊎ LacksFile before.files words))
    device status (called meant text ends (part broke rose)) meant_so = inr (inr (inl rose))
    device status (called meant text (misused none untouched reads) (whole grows same)) meant_so = absurd cc
    device status (called meant text (starved untouched reads) (whole grows same)) meant_so = absurd cc
    device status (called meant text (unread asked name named untouched why) (whole grows same)) meant_so = elim why.cause [ inl rose ↦ inl rose | inr absent ↦ inr (inr (inr (absent_told name asked named absent))) ]
    device status (called meant text (refused asked name message named untouched why) (whole grows same)) meant_so = absurd cc
    device status (called meant text (unwritten asked output named why) (whole grows same)) meant_so = inr (inl why.rose)
    device status (called meant text (written asked output named is reads writes) (whole grows same)) meant_so = absurd cc

    pub by_counts : (status : Status) → Called before now words screen screen_now status → status ≢ statuses.Device → (now.reads ≡ before.reads) × (now.writes ≡ before.writes) × (screen_now.faults ≡ screen.faults)
    by_counts status (called meant text ends (part broke rose)) other = absurd (other refl)
    by_counts status (called meant text ends (whole grows same)) other = let both = counts meant text ends other in (both.0, both.1, same)

    pub absent_input : (status : Status) → Called before now words screen screen_now status → LacksFile before.files words → (status ≡ statuses.Device) ⊎ (status ≡ statuses.NoMemory)
    absent_input status (called meant text ends (part broke rose)) lacks = inl refl
    absent_input status (called meant text (misused none untouched reads) (whole grows same)) lacks = absurd (unasked before.files words (Absent lacks.0) none lacks.1)
    absent_input status (called meant text (starved untouched reads) (whole grows same)) lacks = inr refl
    absent_input status (called meant text (unread asked name named untouched why) (whole grows same)) lacks = inl refl
    absent_input status (called meant text (refused asked name message named untouched why) (whole grows same)) lacks = absurd (let e = one_ending one before.files words asked (Absent lacks.0) (Refused name message) named lacks.1 why.told in cc (e))
    absent_input status (called meant text (unwritten asked output named why) (whole grows same)) lacks = inl refl
    absent_input status (called meant text (written asked output named is reads writes) (whole grows same)) lacks = absurd (unstopped asked output named is.comes (inl lacks))

    pub input_fault : (status : Status) → Called before now words screen screen_now status → status ≡ statuses.InputFault → IsTold before.files → HasFault before.files words
    input_fault status (called meant text ends (part broke rose)) meant_so told = absurd cc
    input_fault status (called meant text (misused none untouched reads) (whole grows same)) meant_so told = absurd cc
    input_fault status (called meant text (starved untouched reads) (whole grows same)) meant_so told = absurd cc
    input_fault status (called meant text (unread asked name named untouched why) (whole grows same)) meant_so told = absurd cc
    input_fault status (called meant text (refused asked name message named untouched why) (whole grows same)) meant_so told = (name, (message, run_to before.files words asked (Refused name message) named told why.told))
    input_fault status (called meant text (unwritten asked output named why) (whole grows same)) meant_so told = absurd cc
    input_fault status (called meant text (written asked output named is reads writes) (whole grows same)) meant_so told = absurd cc

    pub refused_input : (status : Status) → Called before now words screen screen_now status → HasFault before.files words → (status ≡ statuses.InputFault) ⊎ ((status ≡ statuses.NoMemory) ⊎ ((status ≡ statuses.Device) × (Rose before.reads now.reads ⊎ Rose screen.faults screen_now.faults)))
    refused_input status (called meant text ends (part broke rose)) has = inr (inr (refl, inr rose))
    refused_input status (called meant text (misused none untouched reads) (whole grows same)) has = absurd (unasked before.files words (Refused has.0 has.1.0) none has.1.1)
    refused_input status (called meant text (starved untouched reads) (whole grows same)) has = inr (inl refl)
    refused_input status (called meant text (unread asked name named untouched why) (whole grows same)) has =
        elim why.cause [
          | inl rose ↦ inr (inr (refl, inl rose))
          | inr absent ↦ absurd (let e = one_ending one before.files words asked (Refused has.0 has.1.0) (Absent name) named has.1.1 (told_so before.files _ absent) in cc (e))
        ]
    refused_input status (called meant text (refused asked name message named untouched why) (whole grows same)) has = inl refl
    refused_input status (called meant text (unwritten asked output named why) (whole grows same)) has = absurd (unstopped asked output named why.comes (inr has))
    refused_input status (called meant text (written asked output named is reads writes) (whole grows same)) has = absurd (unstopped asked output named is.comes (inr has))

    pub complete : (status : Status) → Called before now words screen screen_now status → IsTold before.files → IsSome words → (LacksFile before.files words → ⊥) → (HasFault before.files words → ⊥)
        → (status ≡ statuses.Done) ⊎ ((status ≡ statuses.NoMemory) ⊎ ((status ≡ statuses.Device) × (Rose before.reads now.reads ⊎ (Rose before.writes now.writes ⊎ Rose screen.faults screen_now.faults))))
    complete status (called meant text ends (part broke rose)) told accepted present faultless = inr (inr (refl, inr (inr rose)))
    complete status (called meant text (misused none untouched reads) (whole grows same)) told accepted present faultless = absurd (let e = subst IsSome none accepted in cc (e))
    complete status (called meant text (starved untouched reads) (whole grows same)) told accepted present faultless = inr (inl refl)
    complete status (called meant text (unread asked name named untouched why) (whole grows same)) told accepted present faultless = elim why.cause [ inl rose ↦ inr (inr (refl, inl rose)) | inr absent ↦ absurd (present (absent_told name asked named absent)) ]
    complete status (called meant text (refused asked name message named untouched why) (whole grows same)) told accepted present faultless = absurd (faultless (name, (message, run_to before.files words asked (Refused name message) named told why.told)))
    complete status (called meant text (unwritten asked output named why) (whole grows same)) told accepted present faultless = inr (inr (refl, inr (inl why.rose)))
    complete status (called meant text (written asked output named is reads writes) (whole grows same)) told accepted present faultless = inl refl

    -- what is written, where it is written
    abbrev Wholly : Asked → Type 0
    Wholly asked = (output : Output) × IsWritten before.files now.files asked output

    pub done : (status : Status) → Called before now words screen screen_now status → status ≡ statuses.Done → IsSomeAnd words (λ asked. (output : Output) × (IsWritten before.files now.files asked output × (screen_now.printed ≡ append_known screen.printed (task_lines output.summary output.plan))))
    done status (called meant text ends (part broke rose)) meant_so = absurd cc
    done status (called meant text (misused none untouched reads) (whole grows same)) meant_so = absurd cc
    done status (called meant text (starved untouched reads) (whole grows same)) meant_so = absurd cc
    done status (called meant text (unread asked name named untouched why) (whole grows same)) meant_so = absurd cc
    done status (called meant text (refused asked name message named untouched why) (whole grows same)) meant_so = absurd cc
    done status (called meant text (unwritten asked output named why) (whole grows same)) meant_so = absurd cc
    done status (called meant text (written asked output named is reads writes) (whole grows same)) meant_so = subst (λ (w : Option Asked). IsSomeAnd w (λ asked. (output : Output) × (IsWritten before.files now.files asked output × (screen_now.printed ≡ append_known screen.printed (task_lines output.summary output.plan))))) (sym named) (output, (is, grows))

    wholly : (asked : Option Asked) → IsSomeAnd asked (λ asked. (output : Output) × (IsWritten before.files now.files asked output × (screen_now.printed ≡ append_known screen.printed (task_lines output.summary output.plan)))) → IsSomeAnd asked Wholly
    wholly None is = absurd is
    wholly (Some asked) is = (is.0, is.1.0)

    pub theorem : OutputsTranslate → (status : Status) → Called before now words screen screen_now status → status ≡ statuses.Done
        → IfSome before.files (λ held. IsSomeAnd now.files (λ holding. IsSomeAnd words (HoldsTranslation held holding)))
    theorem law status ends meant_so = holds law before.files now.files words (wholly words (done status ends meant_so))

    pub untouched_unless_written : (status : Status) → Called before now words screen screen_now status → status ≢ statuses.Done → status ≢ statuses.Device → IsUntouched before now
    untouched_unless_written status (called meant text ends (part broke rose)) not_done no_device = absurd (no_device refl)
    untouched_unless_written status (called meant text ends (whole grows same)) not_done no_device =
        elim (wrote meant text ends) [ inl untouched ↦ untouched | inr front ↦ absurd (elim front.meant_so [ inl is ↦ not_done is | inr is ↦ no_device is ]) ]

    pub left : (status : Status) → Called before now words screen screen_now status → (words ≡ None) ⊎ ((now.reads ≢ before.reads) ⊎ Stopped) → IsUntouched before now
    left status (called meant text ends said) cause =
        elim (wrote meant text ends) [
          | inl untouched ↦ untouched
          | inr front ↦ absurd (elim cause [
            | inl none ↦ (let e = sym none ∙ front.named in cc (e))
            | inr more ↦ elim more [ inl failed ↦ failed front.reads | inr stops ↦ unstopped front.asked front.output front.named front.comes stops ]
          ])
        ]

    pub in_part : (status : Status) → Called before now words screen screen_now status → (now.files ≡ before.files) ⊎ IsSomeAnd words (λ asked. (output : Output) × IsWrittenInPart before.files now.files asked output)
    in_part status (called meant text ends said) =
        elim (wrote meant text ends) [
          | inl untouched ↦ inl untouched.files
          | inr front ↦ elim front.part [
            | inl same ↦ inl same
            | inr grew ↦ inr (subst (λ (w : Option Asked). IsSomeAnd w (λ asked. (output : Output) × IsWrittenInPart before.files now.files asked output)) (sym front.named) (front.output, record { comes = front.comes; part = grew }))
          ]
        ]

    others_stay : (asks : Option Asked) → (now.files ≡ before.files) ⊎ IsSomeAnd asks (λ asked. (output : Output) × IsWrittenInPart before.files now.files asked output) → IfSome asks (λ asked. OthersStay before.files now.files asked.output)
    others_stay None stands = tt
    others_stay (Some asked) (inl same) = same_stay asked.output before.files now.files same
    others_stay (Some asked) (inr front) = part_stays asked.output before.files now.files front.0.text front.1.part

    pub others : (status : Status) → Called before now words screen screen_now status → IfSome words (λ asked. OthersStay before.files now.files asked.output)
    others status call = others_stay words (in_part status call)

    -- ---- what is printed

    pub fault_printed : (status : Status) → Called before now words screen screen_now status → (name : List ℕ) (message : Message) → RunsTo before.files words (Refused name message) → status ≡ statuses.InputFault → screen_now.printed ≡ append_known screen.printed (refusal_line name message)
    fault_printed status (called meant text ends (part broke rose)) name' message' runs meant_so = absurd cc
    fault_printed status (called meant text (misused none untouched reads) (whole grows same)) name' message' runs meant_so = absurd cc
    fault_printed status (called meant text (starved untouched reads) (whole grows same)) name' message' runs meant_so = absurd cc
    fault_printed status (called meant text (unread asked name named untouched why) (whole grows same)) name' message' runs meant_so = absurd cc
    fault_printed status (called meant text (refused asked name message named untouched why) (whole grows same)) name' message' runs meant_so =
        let e = one_ending one before.files words asked (Refused name' message') (Refused name message) named runs why.told in
        let same_name : name ≡ name' = cc (e) in
        let same_message : message ≡ message' = cc (e) in
        grows ∙ ap (λ (n : List ℕ). append_known screen.printed (refusal_line n message)) same_name ∙ ap (λ (m : Message). append_known screen.printed (refusal_line name' m)) same_message
    fault_printed status (called meant text (unwritten asked output named why) (whole grows same)) name' message' runs meant_so = absurd cc
    fault_printed status (called meant text (written asked output named is reads writes) (whole grows same)) name' message' runs meant_so = absurd cc

    pub unread_printed : (status : Status) → Called before now words screen screen_now status → (name : List ℕ) → now.asked ≡ Some name → status ≡ statuses.Device → (Rose before.writes now.writes → ⊥) → (Rose screen.faults screen_now.faults → ⊥) → screen_now.printed ≡ append_known screen.printed (unreadable_line name)
    unread_printed status (called meant text ends (part broke rose)) name' last meant_so sound quiet = absurd (quiet rose)
    unread_printed status (called meant text (misused none untouched reads) (whole grows same)) name' last meant_so sound quiet = absurd cc
    unread_printed status (called meant text (starved untouched reads) (whole grows same)) name' last meant_so sound quiet = absurd cc
    unread_printed status (called meant text (unread asked name named untouched why) (whole grows same)) name' last meant_so sound quiet = grows ∙ ap (λ (n : List ℕ). append_known screen.printed (unreadable_line n)) (sym (subst (λ (n : Option (List ℕ)). IsAskedFor n name) last why.last))
    unread_printed status (called meant text (refused asked name message named untouched why) (whole grows same)) name' last meant_so sound quiet = absurd cc
    unread_printed status (called meant text (unwritten asked output named why) (whole grows same)) name' last meant_so sound quiet = absurd (sound why.rose)
    unread_printed status (called meant text (written asked output named is reads writes) (whole grows same)) name' last meant_so sound quiet = absurd cc

    pub absent_printed : (status : Status) → Called before now words screen screen_now status → (name : List ℕ) → RunsTo before.files words (Absent name) → status ≡ statuses.Device → (Rose before.reads now.reads → ⊥) → (Rose screen.faults screen_now.faults → ⊥) → screen_now.printed ≡ append_known screen.printed (unreadable_line name)
    absent_printed status (called meant text ends (part broke rose)) name' runs meant_so sound quiet = absurd (quiet rose)
    absent_printed status (called meant text (misused none untouched reads) (whole grows same)) name' runs meant_so sound quiet = absurd cc
    absent_printed status (called meant text (starved untouched reads) (whole grows same)) name' runs meant_so sound quiet = absurd cc
    absent_printed status (called meant text (unread asked name named untouched why) (whole grows same)) name' runs meant_so sound quiet =
        elim why.cause [
          | inl rose ↦ absurd (sound rose)
          | inr absent ↦
              let e = one_ending one before.files words asked (Absent name') (Absent name) named runs (told_so before.files _ absent) in
              let same_name : name ≡ name' = cc (e) in
              grows ∙ ap (λ (n : List ℕ). append_known screen.printed (unreadable_line n)) same_name
        ]
    absent_printed status (called meant text (refused asked name message named untouched why) (whole grows same)) name' runs meant_so sound quiet = absurd cc
    absent_printed status (called meant text (unwritten asked output named why) (whole grows same)) name' runs meant_so sound quiet = absurd (unstopped asked output named why.comes (inl (name', runs)))
    absent_printed status (called meant text (written asked output named is reads writes) (whole grows same)) name' runs meant_so sound quiet = absurd cc

    -- only the lines on a task begin with a capital letter
    begun_with : (meant : Status) (text : List ℕ) → Ends before now words meant text → (rest : List ℕ) → text ≡ capital ∷ rest → IsSomeAnd words Wholly
    begun_with meant text (misused none untouched reads) rest is = absurd (usage_small rest is)
    begun_with meant text (starved untouched reads) rest is = absurd (memory_small rest is)
    begun_with meant text (unread asked name named untouched why) rest is = absurd (unreadable_small name rest is)
    begun_with meant text (refused asked name message named untouched why) rest is = absurd (refusal_small name message rest is)
    begun_with meant text (unwritten asked output named why) rest is = absurd (unwritable_small asked.output rest is)
    begun_with meant text (written asked output named whole_so reads writes) rest is = subst (λ (w : Option Asked). IsSomeAnd w Wholly) (sym named) (output, whole_so)

    pub summary_begun : (status : Status) → Called before now words screen screen_now status → (summary : Summary) (plan before front rest : List ℕ) (byte : ℕ) → screen.printed ≡ Some before
        → screen_now.printed ≡ Some (before ++ byte ∷ front) → task_lines summary plan ≡ (byte ∷ front) ++ rest → IsSomeAnd words Wholly
    summary_begun status (called meant text ends (whole grows same)) summary plan before front rest byte told now begins =
        let is = printed_is screen.printed screen_now.printed before text (byte ∷ front) told now grows in
        let letter = begins_capital summary plan byte (front ++ rest) begins in
        begun_with meant text ends front (is ∙ ap (λ (b : ℕ). b ∷ front) letter)
    summary_begun status (called meant text ends (part broke rose)) summary plan before front rest byte told now begins =
        let is = printed_is screen.printed screen_now.printed before broke.written (byte ∷ front) told now broke.grows in
        let letter = begins_capital summary plan byte (front ++ rest) begins in
        begun_with meant text ends (front ++ broke.left) (broke.parts ∙ ap (λ (w : List ℕ). w ++ broke.left) is ∙ ap (λ (b : ℕ). b ∷ (front ++ broke.left)) letter)
