-- How a stage that reads one file ends, by the file's text.
use Rattle.std.proofs.Common.{◌≡◌, ℕ, List, [], ◌∷◌, Result, Ok, Err, refl, sym, ap, ◌∙◌}
use Rattle.std.specs.Prelude.{IfOk, IfErr}
use Rattle.tl_device.specs.Contents.{Contents}
use Rattle.messages.specs.declared.outcome.End.{End}
use Rattle.messages.specs.declared.outcome.End.TheVariants as ends
use Rattle.translator.specs.Ending.{Ending, Gives, ◌>>=◌}
use Rattle.translator.specs.Texts.{Text, text, read}
use Rattle.translator.specs.Store.{Store}
use Rattle.translator.specs.Stages.{IsRead, StopsReading, StopsWhere}
use Rattle.translator.proofs.Stages.{first_leads, goes_on, IsToldOf, refused_of}
use Rattle.translator.proofs.Sources.{always, if_told, same_store, stops_later}

module _ {A : Type 0} (name : List ℕ) (whole : Contents → Ending A) (next : Text → Ending A) (begins : (held : Contents) → whole held ≡ (read held name >>= next)) where
  abbrev Comes : Contents → Ending A → Type 0
  Comes held e = whole held ≡ e

  -- the file is absent, or too long
  pub stops_at_file : (before now : Store) (end : End) → StopsReading before now (name ∷ []) (name ∷ []) (λ held e. read held name ≡ e) end → StopsReading before now (name ∷ []) (name ∷ []) Comes end
  stops_at_file before now =
      stops_later before before now (name ∷ []) (name ∷ []) (name ∷ []) (name ∷ []) (λ held e. read held name ≡ e) Comes (same_store before) refl (λ other in'. in') (λ other in'. in')
      (always _ before.files (λ held. first_leads (whole held) (read held name) next (begins held)))

  module _ (before now : Store) (bytes bytes' : List ℕ) (same : bytes' ≡ bytes) (is : IsRead before now (λ held. read held name ≡ Gives (text name bytes))) where
    comes_to_text : IsRead before now (λ held. whole held ≡ next (text name bytes'))
    comes_to_text = (
      is.0,
      if_told (λ held. read held name ≡ Gives (text name bytes)) _ before.files
          (λ held gives. goes_on (whole held) (read held name) next (begins held) (text name bytes') (gives ∙ ap (λ (b : List ℕ). Gives (text name b)) (sym same))) is.1,
    )

    module _ (told : IsToldOf (name ∷ []) (next (text name bytes'))) where
      pub text_stops : (end : End) → StopsWhere (next (text name bytes')) end → StopsReading before now (name ∷ []) (name ∷ []) Comes end
      text_stops ends.NoMemory stops = is.0
      text_stops (ends.Refused title message) stops =
          record {
            input = refused_of (name ∷ []) (next (text name bytes')) title.now message told stops;
            reads = is.0;
            told = if_told (λ held. whole held ≡ next (text name bytes')) _ before.files (λ held comes. comes ∙ stops) comes_to_text.1;
          }
      text_stops ends.Usage stops = absurd stops
      text_stops (ends.CannotRead title) stops = absurd stops
      text_stops (ends.CannotWrite title) stops = absurd stops

      pub text_stops_so : {B : Type 0} (result : Result B End) → IfErr result (StopsWhere (next (text name bytes'))) → IfErr result (StopsReading before now (name ∷ []) (name ∷ []) Comes)
      text_stops_so (Ok value) stops = tt
      text_stops_so (Err end) stops = text_stops end stops

    pub text_given : (value : A) → next (text name bytes') ≡ Gives value → IsRead before now (λ held. whole held ≡ Gives value)
    text_given value gives = (is.0, if_told (λ held. whole held ≡ next (text name bytes')) _ before.files (λ held comes. comes ∙ gives) comes_to_text.1)

    pub text_given_so : {B : Type 0} (view : B → A) (result : Result B End) → IfOk result (λ value. next (text name bytes') ≡ Gives (view value)) → IfOk result (λ value. IsRead before now (λ held. whole held ≡ Gives (view value)))
    text_given_so view (Ok value) gives = text_given (view value) gives
    text_given_so view (Err end) gives = tt
