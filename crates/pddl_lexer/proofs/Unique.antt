-- A text spells one tree at most.
use Rattle.std.proofs.Common.{◌≡◌, ℕ, List, [], ◌∷◌, ◌++◌, refl, sym, subst, ◌∙◌, append_assoc}
use Rattle.std.proofs.lemmas.List.{append-nil}
use Rattle.pddl_lexer.specs.Members.{Members, NoMore, WordThen, ListThen}
use Rattle.pddl_lexer.specs.Tokens.{Token, Open, Close, Word, written, IsTreeOf}

-- nothing follows, or a list ends
abbrev Stops : List Token → Type 0
Stops [] = Unit {0}
Stops (Open at ∷ ts) = ⊥
Stops (Close ∷ ts) = Unit {0}
Stops (Word at word ∷ ts) = ⊥

same : (a b : Members) (s t : List Token) → Stops s → Stops t → written a ++ s ≡ written b ++ t → (a ≡ b) × (s ≡ t)
same NoMore NoMore s t p q e = (refl, e)
same NoMore (WordThen at word more) s t p q e = absurd (subst Stops e p)
same NoMore (ListThen at inner more) s t p q e = absurd (subst Stops e p)
same (WordThen at word more) NoMore s t p q e = absurd (subst Stops (sym e) q)
same (WordThen at word more) (WordThen at' word' more') s t p q e =
    let r = same more more' s t p q cc in
    (cc (r.0), r.1)
same (WordThen at word more) (ListThen at' inner' more') s t p q e = absurd cc
same (ListThen at inner more) NoMore s t p q e = absurd (subst Stops (sym e) q)
same (ListThen at inner more) (WordThen at' word' more') s t p q e = absurd cc
same (ListThen at inner more) (ListThen at' inner' more') s t p q e =
    let tail : (written inner ++ (Close ∷ written more)) ++ s ≡ (written inner' ++ (Close ∷ written more')) ++ t = cc in
    let inside = same inner inner' (Close ∷ (written more ++ s)) (Close ∷ (written more' ++ t)) tt tt (sym (append_assoc (written inner) (Close ∷ written more) s) ∙ tail ∙ append_assoc (written inner') (Close ∷ written more') t) in
    let after : written more ++ s ≡ written more' ++ t = cc (inside.1) in
    let others = same more more' s t p q after in
    (cc (inside.0, others.0), others.1)

pub one : (text : List ℕ) (a b : Members) → IsTreeOf text a → IsTreeOf text b → a ≡ b
one text a b p q = (same a b [] [] tt tt (append-nil (written a) ∙ p.spells ∙ sym q.spells ∙ sym (append-nil (written b)))).0
