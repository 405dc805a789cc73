-- How stages that read from a store follow one another, and what the source comes to by them.
use Rattle.std.proofs.Common.{◌≡◌, ℕ, ◌≤◌, List, [], ◌∷◌, ◌++◌, Result, Ok, Err, refl, sym, ap, ◌∙◌, subst, inl, inr}
use Rattle.std.specs.Prelude.{Contains, IfSome, IsSomeAnd, IfOk, IfErr, codes}
use Rattle.std.specs.Result.{IsErrAnd}
use Rattle.std.specs.declared.option.Option.{Option}
use Rattle.std.specs.declared.option.Option.TheVariants.{Some, None}
use Rattle.std.proofs.lemmas.List.Elements.{Contains-append_left, Contains-append_right}
use Rattle.lists.proofs.Members.{no_member, member_first, member_later, member_single}
use Rattle.tl_device.specs.Contents.{Contents, IsAskedFor}
use Rattle.tl_device.specs.Causes.{Rose}
use Rattle.command_line.specs.Accepted.{Files, Made as OfBalls}
use Rattle.messages.specs.declared.outcome.End.{End}
use Rattle.messages.specs.declared.outcome.End.TheVariants as ends
use Rattle.messages.specs.declared.outcome.Summary.{Summary}
use Rattle.messages.specs.Outcome.{Outcome, status_of, line_of}
use Rattle.translator.specs.Asked.{Asked}
use Rattle.command_line.specs.declared.accepted.Settings.{Settings}
use Rattle.invariant_guess.specs.declared.types.Found.{Found}
use Rattle.type_checker.specs.Checked.{FilePair}
use Rattle.sas_task.specs.Task.{Task}
use Rattle.sas_task.specs.Output.{text_of}
use Rattle.run_task.specs.declared.pair.Made.{Made}
use Rattle.translator.specs.Ending.{Ending, Gives, Absent, Refused, ◌>>=◌}
use Rattle.translator.specs.Plan.{mapped_lines, lines_on, text_of_plan, plan_names}
use Rattle.pass_book.specs.Passes.{IsChain}
use Rattle.run_task.specs.RunTask.{Output, Start, FromPair, FromTask, IsTaskOf, summary_of, output_of}
use Rattle.translator.specs.Run.{Text, text, read, of_texts, of_source, inputs, titles, all_inputs, all_titles, names_read, made_domain, made_problem, Inputs, of_files, ComesTo, no_file, faulty, made}
use Rattle.translator.specs.Store.{Store, IsUntouched, AsksForNoOther}
use Rattle.translator.specs.Call.{Ends, misused, starved, unread, refused}
use Rattle.translator.specs.Stages.{IsRefusal, StopsWhere, StopsReading, IsRead, IsMadeOf, of_plan}
use Rattle.translator.proofs.Stages.{Leads, first_leads, goes_on, texts_told, refused_of}

-- ---- what holds where something is told

pub always : {X : Type 0} (P : X → Type 0) (o : Option X) → ((x : X) → P x) → IfSome o P
always P None all = tt
always P (Some x) all = all x

pub if_told : {X : Type 0} (P R : X → Type 0) (o : Option X) → ((x : X) → P x → R x) → IfSome o P → IfSome o R
if_told P R None f p = tt
if_told P R (Some x) f p = f x p

pub both_told : {X : Type 0} (P Q R : X → Type 0) (o : Option X) → ((x : X) → P x → Q x → R x) → IfSome o P → IfSome o Q → IfSome o R
both_told P Q R None f p q = tt
both_told P Q R (Some x) f p q = f x p q

told_too : {X : Type 0} (P Q R : X → Type 0) (o : Option X) → ((x : X) → P x → Q x → R x) → IfSome o P → IsSomeAnd o Q → IsSomeAnd o R
told_too P Q R None f p q = absurd q
told_too P Q R (Some x) f p q = f x p q

-- ---- one stage after another

pub same_store : (before : Store) → IsUntouched before before
same_store before = record { files = refl; writing = refl; created = refl; writes = refl }

-- these names are among those
abbrev pub IsWithin : List (List ℕ) → List (List ℕ) → Type 0
IsWithin names others = (name : List ℕ) → Contains names name → Contains others name

-- what the first stage asks for and what the second does
pub asks_too : (before mid now : Store) (names names' all : List (List ℕ)) → IsWithin names all → IsWithin names' all → AsksForNoOther before mid names → AsksForNoOther mid now names' → AsksForNoOther before now all
asks_too before mid now names names' all wider wider' first (inr later) = inr (later.0, wider' later.0 later.1, later.2)
asks_too before mid now names names' all wider wider' (inl same) (inl same') = inl (same' ∙ same)
asks_too before mid now names names' all wider wider' (inr earlier) (inl same') = inr (earlier.0, wider earlier.0 earlier.1, subst (λ (a : Option (List ℕ)). IsAskedFor a earlier.0) (sym same') earlier.2)

-- where the second stage gives nothing, the whole does as it, if it has to where the files are told
pub stops_later : {A B : Type 0} (before mid now : Store) (names titles names' titles' : List (List ℕ)) (Comes : Contents → Ending A → Type 0) (Comes' : Contents → Ending B → Type 0)
    → IsUntouched before mid → mid.reads ≡ before.reads → IsWithin names names' → IsWithin titles titles' → IfSome before.files (λ held. Leads (Comes held) (Comes' held))
    → (end : End) → StopsReading mid now names titles Comes end → StopsReading before now names' titles' Comes' end
stops_later before mid now names titles names' titles' Comes Comes' untouched reads wider wider' leads ends.NoMemory stops = stops ∙ reads
stops_later before mid now names titles names' titles' Comes Comes' untouched reads wider wider' leads ends.Usage stops = absurd stops
stops_later before mid now names titles names' titles' Comes Comes' untouched reads wider wider' leads (ends.CannotWrite name) stops = absurd stops
stops_later before mid now names titles names' titles' Comes Comes' untouched reads wider wider' leads (ends.CannotRead name) stops =
    record {
      input = wider name.now stops.input;
      last = stops.last;
      later = subst (λ (n : ℕ). n ≤ now.reads) reads stops.later;
      cause = elim stops.cause [
        | inl rose ↦ inl (subst (λ (n : ℕ). Rose n now.reads) reads rose)
        | inr absent ↦ inr (told_too (λ held. Leads (Comes held) (Comes' held)) (λ held. Comes held (Absent name.now)) (λ held. Comes' held (Absent name.now)) before.files
            (λ held lead. lead.absent name.now) leads (subst (λ (f : Option Contents). IsSomeAnd f (λ held. Comes held (Absent name.now))) untouched.files absent))
      ];
    }
stops_later before mid now names titles names' titles' Comes Comes' untouched reads wider wider' leads (ends.Refused name message) stops =
    record {
      input = wider' name.now stops.input;
      reads = stops.reads ∙ reads;
      told = both_told (λ held. Leads (Comes held) (Comes' held)) (λ held. Comes held (Refused name.now message)) (λ held. Comes' held (Refused name.now message)) before.files
          (λ held lead. lead.refused name.now message) leads (subst (λ (f : Option Contents). IfSome f (λ held. Comes held (Refused name.now message))) untouched.files stops.told);
    }

-- what was read later, from what stood before
pub read_later : (before mid now : Store) (P : Contents → Type 0) → IsUntouched before mid → mid.reads ≡ before.reads → IsRead mid now P → IsRead before now P
read_later before mid now P untouched reads is = (is.0 ∙ reads, subst (λ (f : Option Contents). IfSome f P) untouched.files is.1)

-- ---- two files

module _ (domain problem : List ℕ) where
  abbrev Names : List (List ℕ)
  Names = domain ∷ problem ∷ []

  abbrev AfterDomain : Contents → Text → Ending Start
  AfterDomain held d = read held problem >>= of_texts d

  begins : (held : Contents) → of_source held (Files domain problem) ≡ (read held domain >>= AfterDomain held)
  unfolding of_source
  begins held = refl

  second : (held : Contents) (d : Text) → read held domain ≡ Gives d → of_source held (Files domain problem) ≡ (read held problem >>= of_texts d)
  second held d is = goes_on (of_source held (Files domain problem)) (read held domain) (AfterDomain held) (begins held) d is

  among_first : IsWithin (domain ∷ []) Names
  among_first name in' = subst (Contains Names) (member_single domain name in') (member_first domain (problem ∷ []))

  among_second : IsWithin (problem ∷ []) Names
  among_second name in' = member_later domain name (problem ∷ []) in'

  pub stops_at_domain : (before now : Store) (end : End) → StopsReading before now (domain ∷ []) (domain ∷ []) (λ held e. read held domain ≡ e) end → StopsReading before now Names Names (λ held e. of_source held (Files domain problem) ≡ e) end
  stops_at_domain before now =
      stops_later before before now (domain ∷ []) (domain ∷ []) Names Names (λ held e. read held domain ≡ e) (λ held e. of_source held (Files domain problem) ≡ e) (same_store before) refl among_first among_first
      (always _ before.files (λ held. first_leads (of_source held (Files domain problem)) (read held domain) (AfterDomain held) (begins held)))

  module _ (before mid : Store) (bytes : List ℕ) (untouched : IsUntouched before mid) (is : IsRead before mid (λ held. read held domain ≡ Gives (text domain bytes))) where
    pub stops_at_problem : (now : Store) (end : End) → StopsReading mid now (problem ∷ []) (problem ∷ []) (λ held e. read held problem ≡ e) end → StopsReading before now Names Names (λ held e. of_source held (Files domain problem) ≡ e) end
    stops_at_problem now =
        stops_later before mid now (problem ∷ []) (problem ∷ []) Names Names (λ held e. read held problem ≡ e) (λ held e. of_source held (Files domain problem) ≡ e) untouched is.0 among_second among_second
        (if_told (λ held. read held domain ≡ Gives (text domain bytes)) _ before.files
        (λ held gives. first_leads (of_source held (Files domain problem)) (read held problem) (of_texts (text domain bytes)) (second held (text domain bytes) gives)) is.1)

    module _ (now : Store) (other : List ℕ) (is' : IsRead mid now (λ held. read held problem ≡ Gives (text problem other))) where
      -- both files are read, and the source comes to what their texts do
      pub both_read : IsRead before now (λ held. of_source held (Files domain problem) ≡ of_texts (text domain bytes) (text problem other))
      both_read =
          let later = read_later before mid now (λ held. read held problem ≡ Gives (text problem other)) untouched is.0 is' in (
            later.0,
            both_told (λ held. read held domain ≡ Gives (text domain bytes)) (λ held. read held problem ≡ Gives (text problem other)) _ before.files
                (λ held gives gives'. goes_on (of_source held (Files domain problem)) (read held problem) (of_texts (text domain bytes)) (second held (text domain bytes) gives) (text problem other) gives') is.1 later.1,
          )

  -- the two files are asked for
  pub asks_for_domain : (before now : Store) → AsksForNoOther before now (domain ∷ []) → AsksForNoOther before now Names
  asks_for_domain before now asks = asks_too before before now [] (domain ∷ []) Names (λ name in'. absurd (no_member name in')) among_first (inl refl) asks

  pub asks_for_both : (before mid now : Store) → AsksForNoOther before mid (domain ∷ []) → AsksForNoOther mid now (problem ∷ []) → AsksForNoOther before now Names
  asks_for_both before mid now = asks_too before mid now (domain ∷ []) (problem ∷ []) Names among_first among_second

  -- texts that are handed on as they were read
  module _ (before now : Store) (bytes other bytes' other' : List ℕ) (same : bytes' ≡ bytes) (same' : other' ≡ other) (is : IsRead before now (λ held. of_source held (Files domain problem) ≡ of_texts (text domain bytes) (text problem other))) where
    handed_on : IsRead before now (λ held. of_source held (Files domain problem) ≡ of_texts (text domain bytes') (text problem other'))
    handed_on =
        let one = subst (λ (b : List ℕ). IsRead before now (λ held. of_source held (Files domain problem) ≡ of_texts (text domain b) (text problem other))) (sym same) is in
        subst (λ (b : List ℕ). IsRead before now (λ held. of_source held (Files domain problem) ≡ of_texts (text domain bytes') (text problem b))) (sym same') one

    texts_stop : (end : End) → StopsWhere (of_texts (text domain bytes') (text problem other')) end → StopsReading before now Names Names (λ held e. of_source held (Files domain problem) ≡ e) end
    texts_stop ends.NoMemory stops = is.0
    texts_stop (ends.Refused name message) stops =
        record {
          input = refused_of Names (of_texts (text domain bytes') (text problem other')) name.now message
              (texts_told Names (text domain bytes') (text problem other') (member_first domain (problem ∷ [])) (member_later domain problem (problem ∷ []) (member_first problem []))) stops;
          reads = is.0;
          told = if_told (λ held. of_source held (Files domain problem) ≡ of_texts (text domain bytes') (text problem other')) _ before.files (λ held comes. comes ∙ stops) handed_on.1;
        }
    texts_stop ends.Usage stops = absurd stops
    texts_stop (ends.CannotRead name) stops = absurd stops
    texts_stop (ends.CannotWrite name) stops = absurd stops

    pub texts_stop_so : (result : Result Made End) → IfErr result (StopsWhere (of_texts (text domain bytes') (text problem other'))) → IfErr result (StopsReading before now Names Names (λ held e. of_source held (Files domain problem) ≡ e))
    texts_stop_so (Ok value) stops = tt
    texts_stop_so (Err end) stops = texts_stop end stops

    pub texts_made_so : (settings : Settings) (result : Result Made End) → IfOk result (λ made. IsMadeOf (of_texts (text domain bytes') (text problem other')) settings [] made.found made.task)
        → IfOk result (λ made. IsRead before now (λ held. IsMadeOf (of_source held (Files domain problem)) settings [] made.found made.task))
    texts_made_so settings (Ok it) is_made = (
      is.0,
      if_told (λ held. of_source held (Files domain problem) ≡ of_texts (text domain bytes') (text problem other')) _ before.files
          (λ held comes. subst (λ (e : Ending Start). IsMadeOf e settings [] it.found it.task) (sym comes) is_made) handed_on.1,
    )
    texts_made_so settings (Err end) is_made = tt

-- ---- made texts

module _ (balls : ℕ) (before : Store) where
  abbrev Comes : Contents → Ending Start → Type 0
  Comes held e = of_source held (OfBalls balls) ≡ e

  comes_to_texts : (held : Contents) → of_source held (OfBalls balls) ≡ of_texts made_domain (made_problem balls)
  unfolding of_source
  comes_to_texts held = refl

  made_stops : (end : End) → StopsWhere (of_texts made_domain (made_problem balls)) end → StopsReading before before [] (titles (OfBalls balls)) Comes end
  made_stops ends.NoMemory stops = refl
  made_stops (ends.Refused name message) stops =
      record {
        input = refused_of (titles (OfBalls balls)) (of_texts made_domain (made_problem balls)) name.now message
            (texts_told (titles (OfBalls balls)) made_domain (made_problem balls) (member_first (codes "domain") (codes "problem" ∷ [])) (member_later (codes "domain") (codes "problem") (codes "problem" ∷ []) (member_first (codes "problem") []))) stops;
        reads = refl;
        told = always _ before.files (λ held. comes_to_texts held ∙ stops);
      }
  made_stops ends.Usage stops = absurd stops
  made_stops (ends.CannotRead name) stops = absurd stops
  made_stops (ends.CannotWrite name) stops = absurd stops

  pub made_stops_so : (result : Result Made End) → IfErr result (StopsWhere (of_texts made_domain (made_problem balls))) → IfErr result (StopsReading before before [] (titles (OfBalls balls)) Comes)
  made_stops_so (Ok value) stops = tt
  made_stops_so (Err end) stops = made_stops end stops

  pub made_so : (settings : Settings) (result : Result Made End) → IfOk result (λ made. IsMadeOf (of_texts made_domain (made_problem balls)) settings [] made.found made.task)
      → IfOk result (λ made. IsRead before before (λ held. IsMadeOf (of_source held (OfBalls balls)) settings [] made.found made.task))
  made_so settings (Ok it) is_made = (refl, always _ before.files (λ held. subst (λ (e : Ending Start). IsMadeOf e settings [] it.found it.task) (sym (comes_to_texts held)) is_made))
  made_so settings (Err end) is_made = tt

-- ---- the run

within_left : (xs ys : List (List ℕ)) → IsWithin xs (xs ++ ys)
within_left xs ys name = Contains-append_left xs ys name

within_right : (xs ys : List (List ℕ)) → IsWithin ys (xs ++ ys)
within_right xs ys name = Contains-append_right xs ys name

-- the plan file is read, and then its lines are mapped back
plan_in_turn : (held : Contents) (plan : Option (List ℕ)) (task : Task) → of_plan held plan task ≡ (text_of_plan held plan >>= lines_on task)
unfolding of_plan text_of_plan
plan_in_turn held None task = refl
plan_in_turn held (Some name) task = by_text (read held name)
  where
    by_text : (e : Ending Text) → (e >>= mapped_lines task) ≡ ((e >>= λ plan. Gives (Some plan)) >>= lines_on task)
    by_text (Gives plan) = refl
    by_text (Absent other) = refl
    by_text (Refused other message) = refl

-- the plan file is read once the source has given a start
abbrev pub Begun : Start → Option Text → Inputs
Begun start plan = record { start = start; plan = plan }

abbrev pub AfterSource : Contents → Asked → Start → Ending Inputs
AfterSource held asked start = text_of_plan held asked.plan >>= λ plan. Gives (Begun start plan)

pub files_in_turn : (held : Contents) (asked : Asked) → of_files held asked ≡ (of_source held asked.source >>= AfterSource held asked)
unfolding of_files
files_in_turn held asked = refl

module _ (asked : Asked) where
  source_leads : (held : Contents) → Leads (λ (e : Ending Start). of_source held asked.source ≡ e) (λ (e : Ending Output). ComesTo held asked e)
  source_leads held =
      let lead = first_leads (of_files held asked) (of_source held asked.source) (AfterSource held asked) (files_in_turn held asked) in
      record { absent = λ name comes. no_file name (lead.absent name comes); refused = λ name message comes. faulty name message (lead.refused name message comes) }

  -- what stops the source stops the run
  pub run_stops : (before now : Store) (end : End) → StopsReading before now (inputs asked.source) (titles asked.source) (λ held e. of_source held asked.source ≡ e) end → StopsReading before now (all_inputs asked) (all_titles asked) (λ held. ComesTo held asked) end
  run_stops before now =
      stops_later before before now (inputs asked.source) (titles asked.source) (all_inputs asked) (all_titles asked) (λ held e. of_source held asked.source ≡ e) (λ held. ComesTo held asked) (same_store before) refl
      (within_left (inputs asked.source) (plan_names asked.plan)) (within_left (titles asked.source) (plan_names asked.plan))
      (always _ before.files source_leads)

  -- what the passes make of the task that is made of the source
  pub passed_so : (before mid : Store) (found found' : Found) (first task : Task) → found' ≡ found → IsChain asked.passes first task
      → IsRead before mid (λ held. IsMadeOf (of_source held asked.source) asked.settings [] found first) → IsRead before mid (λ held. IsMadeOf (of_source held asked.source) asked.settings asked.passes found' task)
  passed_so before mid found found' first task same chain made_so =
      (made_so.0, if_told (λ held. IsMadeOf (of_source held asked.source) asked.settings [] found first) _ before.files (λ held. by_ending (of_source held asked.source)) made_so.1)
    where
      passed : (pair : FilePair) → IsTaskOf pair asked.settings [] found first → IsTaskOf pair asked.settings asked.passes found task
      passed pair is_made =
          record { is_found = is_made.is_found; first = is_made.first; is_run_task = is_made.is_run_task; chain = subst (λ (t : Task). IsChain asked.passes t task) is_made.chain chain }

      by_ending : (e : Ending Start) → IsMadeOf e asked.settings [] found first → IsMadeOf e asked.settings asked.passes found' task
      by_ending (Gives (FromPair pair)) is_made = subst (λ (f : Found). IsTaskOf pair asked.settings asked.passes f task) (sym same) (passed pair is_made)
      by_ending (Gives (FromTask written)) is_made = (same ∙ is_made.0, subst (λ (t : Task). IsChain asked.passes t task) is_made.1 chain)
      by_ending (Absent name) is_made = absurd is_made
      by_ending (Refused name message) is_made = absurd is_made

  comes_by_plan : (held : Contents) (found : Found) (task : Task) (e : Ending Start) → of_source held asked.source ≡ e → IsMadeOf e asked.settings asked.passes found task
      → (p : Ending (List ℕ)) → of_plan held asked.plan task ≡ p → ComesTo held asked (p >>= λ lines. Gives (output_of found task lines))
  comes_by_plan held found task (Gives start) is is_made p mapped =
      subst (λ (q : Ending (List ℕ)). ComesTo held asked (q >>= λ lines. Gives (output_of found task lines))) (sym (plan_in_turn held asked.plan task) ∙ mapped) (by_text (text_of_plan held asked.plan) refl)
    where
      begun : (e : Ending (Option Text)) → text_of_plan held asked.plan ≡ e → of_files held asked ≡ (e >>= λ plan. Gives (Begun start plan))
      begun e same =
          goes_on (of_files held asked) (of_source held asked.source) (AfterSource held asked) (files_in_turn held asked) start is
          ∙ ap (λ (t : Ending (Option Text)). t >>= λ plan. Gives (Begun start plan)) same

      by_text : (e : Ending (Option Text)) → text_of_plan held asked.plan ≡ e → ComesTo held asked ((e >>= lines_on task) >>= λ lines. Gives (output_of found task lines))
      by_text (Gives plan) same = made (Begun start plan) found task (begun (Gives plan) same) is_made
      by_text (Absent name) same = no_file name (begun (Absent name) same)
      by_text (Refused name message) same = faulty name message (begun (Refused name message) same)
  comes_by_plan held found task (Absent name) is is_made p mapped = absurd is_made
  comes_by_plan held found task (Refused name message) is is_made p mapped = absurd is_made

  module _ (before mid : Store) (found : Found) (task : Task) (untouched : IsUntouched before mid) (made_so : IsRead before mid (λ held. IsMadeOf (of_source held asked.source) asked.settings asked.passes found task)) (now : Store) where
    -- what stops the plan stops the run
    pub plan_stops : (end : End) → StopsReading mid now (plan_names asked.plan) (plan_names asked.plan) (λ held e. of_plan held asked.plan task ≡ e) end → StopsReading before now (all_inputs asked) (all_titles asked) (λ held. ComesTo held asked) end
    plan_stops =
        stops_later before mid now (plan_names asked.plan) (plan_names asked.plan) (all_inputs asked) (all_titles asked) (λ held e. of_plan held asked.plan task ≡ e) (λ held. ComesTo held asked) untouched made_so.0
        (within_right (inputs asked.source) (plan_names asked.plan)) (within_right (titles asked.source) (plan_names asked.plan))
        (if_told (λ held. IsMadeOf (of_source held asked.source) asked.settings asked.passes found task) _ before.files
        (λ held is_made. record {
          absent = λ name comes. comes_by_plan held found task (of_source held asked.source) refl is_made (Absent name) comes;
          refused = λ name message comes. comes_by_plan held found task (of_source held asked.source) refl is_made (Refused name message) comes;
        }) made_so.1)

    -- what is made of the source, and what the plan is mapped to, are written
    pub run_writes : (lines bytes : List ℕ) (summary : Summary) → bytes ≡ text_of task → summary ≡ summary_of found task
        → IsRead mid now (λ held. of_plan held asked.plan task ≡ Gives lines) → IsRead before now (λ held. ComesTo held asked (Gives (record { text = bytes; summary = summary; plan = lines })))
    run_writes lines bytes summary is is' mapped =
        let same : output_of found task lines ≡ record { text = bytes; summary = summary; plan = lines } =
        sym (ap (λ (b : List ℕ). let o : Output = record { text = b; summary = summary; plan = lines } in o) is ∙ ap (λ (s : Summary). let o : Output = record { text = text_of task; summary = s; plan = lines } in o) is') in
        let later = read_later before mid now (λ held. of_plan held asked.plan task ≡ Gives lines) untouched made_so.0 mapped in (
          later.0,
          both_told (λ held. IsMadeOf (of_source held asked.source) asked.settings asked.passes found task) (λ held. of_plan held asked.plan task ≡ Gives lines) _ before.files
              (λ held is_made gives. subst (λ (o : Output). ComesTo held asked (Gives o)) same (comes_by_plan held found task (of_source held asked.source) refl is_made (Gives lines) gives)) made_so.1 later.1,
        )

-- ---- what is asked for

pub asks_as_named : (before now : Store) (words : Option Asked) (asked : Asked) → words ≡ Some asked → AsksForNoOther before now (all_inputs asked) → AsksForNoOther before now (names_read words)
asks_as_named before now words asked named asks = subst (λ (w : Option Asked). AsksForNoOther before now (names_read w)) (sym named) asks

-- nothing was asked for after that
pub asks_before : (before mid now : Store) (names : List (List ℕ)) → AsksForNoOther before mid names → now.asked ≡ mid.asked → AsksForNoOther before now names
asks_before before mid now names asks same = asks_too before mid now names [] names (λ name in'. in') (λ name in'. absurd (no_member name in')) asks (inl same)

module _ (asked : Asked) (before mid : Store) where
  -- the source's files are among the run's
  pub asks_for_source : AsksForNoOther before mid (inputs asked.source) → AsksForNoOther before mid (all_inputs asked)
  asks_for_source asks = asks_too before mid mid (inputs asked.source) [] (all_inputs asked) (within_left (inputs asked.source) (plan_names asked.plan)) (λ name in'. absurd (no_member name in')) asks (inl refl)

  pub asks_for_plan : (now : Store) → AsksForNoOther before mid (inputs asked.source) → AsksForNoOther mid now (plan_names asked.plan) → AsksForNoOther before now (all_inputs asked)
  asks_for_plan now =
      asks_too before mid now (inputs asked.source) (plan_names asked.plan) (all_inputs asked) (within_left (inputs asked.source) (plan_names asked.plan)) (within_right (inputs asked.source) (plan_names asked.plan))

-- ---- how the work ends where nothing is written

-- an error that was made of another
pub stops_too : {A : Type 0} (P : End → Type 0) (end : End) (result : Result A End) → IsErrAnd result (λ e. e ≡ end) → P end → IfErr result P
stops_too P end (Ok value) is stops = tt
stops_too P end (Err e) is stops = subst P (sym is) stops

pub ends_too : (before now : Store) (words : Option Asked) (end : End) (result : Outcome) → IsErrAnd result (λ e. e ≡ end) → Ends before now words (status_of (Err end)) (line_of (Err end)) → Ends before now words (status_of result) (line_of result)
ends_too before now words end (Ok value) is ends = absurd is
ends_too before now words end (Err e) is ends = subst (λ (x : End). Ends before now words (status_of (Err x)) (line_of (Err x))) (sym is) ends

pub unaccepted : (before : Store) (words : Option Asked) (end : End) → IsRefusal words end → Ends before before words (status_of (Err end)) (line_of (Err end))
unaccepted before words ends.Usage refusal = misused refusal (same_store before) refl
unaccepted before words ends.NoMemory refusal = starved (same_store before) refl
unaccepted before words (ends.CannotRead name) refusal = absurd refusal
unaccepted before words (ends.CannotWrite name) refusal = absurd refusal
unaccepted before words (ends.Refused name message) refusal = absurd refusal

pub stopped : (before now : Store) (words : Option Asked) (asked : Asked) → words ≡ Some asked → IsUntouched before now
    → (end : End) → StopsReading before now (all_inputs asked) (all_titles asked) (λ held. ComesTo held asked) end → Ends before now words (status_of (Err end)) (line_of (Err end))
stopped before now words asked named untouched ends.NoMemory stops = starved untouched stops
stopped before now words asked named untouched (ends.CannotRead name) stops = unread asked name.now named untouched stops
stopped before now words asked named untouched (ends.Refused name message) stops = refused asked name.now message named untouched stops
stopped before now words asked named untouched ends.Usage stops = absurd stops
stopped before now words asked named untouched (ends.CannotWrite name) stops = absurd stops
