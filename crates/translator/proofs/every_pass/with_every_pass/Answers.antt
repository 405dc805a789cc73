use Rattle.std.proofs.Common.{◌≡◌, Bool, true, List, [], ◌∷◌, ◌++◌, map, ap, ◌∙◌, subst}
use Rattle.std.specs.Result.{IfOk, is_ok}
use Rattle.std.specs.declared.result.Result.{Result}
use Rattle.std.specs.declared.result.Result.TheVariants.{Ok, Err}
use Rattle.translator.specs.Asked.{asked_by_words}
use Rattle.translator.specs.Run.{names_read}
use Rattle.translator.specs.Store.{store, screen, AsksForNoOther}
use Rattle.translator.specs.Call.{Called}
use Rattle.translator.proofs.every_pass.with_every_pass.Goals as goal

-- what is said of a value holds where there is one
holds : {T E X : Type 0} (result : Result T E) (is : Bool) → IfOk result (λ _. X) → is ≡ is_ok result → is ≡ true → X
holds (Ok value) is stated same there = stated
holds (Err error) is stated same there = cc

-- the kinds of three passes that were added in turn
kinds : {P K : Type 0} (kind : P → K) (none one two three : List P) (first second third : P) →
    none ≡ [] → one ≡ none ++ first ∷ [] → two ≡ one ++ second ∷ [] → three ≡ two ++ third ∷ [] → map kind three ≡ kind first ∷ kind second ∷ kind third ∷ []
kinds kind none one two three first second third at-none at-one at-two at-three =
    ap (map kind) (at-three ∙ ap (λ l. l ++ third ∷ []) (at-two ∙ ap (λ l. l ++ second ∷ []) (at-one ∙ ap (λ l. l ++ first ∷ []) at-none)))

pub returns-clause-called : goal.returns-clause-called
returns-clause-called g c =
    let added = c.if-not-has_h2.false in
    subst
    (λ held.
    Called (store g.F.Files c.args.files.now) (store g.F.Files c.translate.new.files) (asked_by_words held c.args.words.items)
    (screen g.C.Console c.args.console.now) (screen g.C.Console c.translate.new.console) c.translate.result
    × AsksForNoOther (store g.F.Files c.args.files.now) (store g.F.Files c.translate.new.files) (names_read (asked_by_words held c.args.words.items)))
    (kinds (λ pass. pass.kind) _ _ _ _ _ _ _ c.new-book.ensures
    (holds _ _ c.add.ensures.added c.is_ok-has_order.ensures.value added.0)
    (holds _ _ c.add-2.ensures.added c.is_ok-has_relevance.ensures.value added.1)
    (holds _ _ c.add-3.ensures.added c.is_ok-has_h2.ensures.value added.2))
    (c.translate.ensures.printed, c.translate.ensures.asks)
