-- The variables in scope that a quantified condition asks for.
use Rattle.std.proofs.Common.{◌≡◌, ℕ, ◌+◌, ◌<◌, Bool, true, false, not, ◌&&◌, ◌||◌, List, [], ◌∷◌, ◌++◌, take, length, get_or, refl, sym, ap, ◌∙◌}
use Rattle.std.specs.Prelude.{reverse, if◌then◌else◌}
use Rattle.std.specs.List.{list_any}
use Rattle.std.proofs.lemmas.List.{take_more, append-nil, append_assoc, reverse-append}
use Rattle.pddl_syntax.specs.Words.{Name, is_same}
use Rattle.normal_rows.specs.Asked.{asks}
use Rattle.normal_task.specs.Parts.{Slot, Scope, slots_for}
use Rattle.normal_rows.proofs.FreeNames.{same-swap}

pub slots-same : (asks other : Name → Bool) → ((name : Name) → asks name ≡ other name) → (scope : Scope) → slots_for asks scope ≡ slots_for other scope
slots-same asks other same [] = refl
slots-same asks other same (slot ∷ outer) =
    ap (λ (l : List Slot). l ++ (if asks slot.variable then slot ∷ [] else []))
    (slots-same (λ name. asks name && not (is_same slot.variable name)) (λ name. other name && not (is_same slot.variable name)) (λ name. ap (λ (b : Bool). b && not (is_same slot.variable name)) (same name)) outer)
    ∙ ap (λ (b : Bool). slots_for (λ name. other name && not (is_same slot.variable name)) outer ++ (if b then slot ∷ [] else [])) (same slot.variable)

-- ---- from the innermost variable to the outermost

hidden : (free inner same : Bool) → (free && not (same || inner)) ≡ ((free && not inner) && not same)
hidden true true true = refl
hidden true true false = refl
hidden true false true = refl
hidden true false false = refl
hidden false inner same = refl

put_last : (slots : List Slot) (slot : Slot) (b : Bool) → reverse (slots ++ (if b then slot ∷ [] else [])) ≡ (if b then slot ∷ [] else []) ++ reverse slots
put_last slots slot true = reverse-append slots (slot ∷ [])
put_last slots slot false = ap reverse (append-nil slots)

-- the scope's variables, the innermost of which is looked at
pub one_inwards : (free inner inner' : List Name) (variables : List Slot) (left : ℕ) (slot : Slot) → left < length variables → slot ≡ get_or variables left slot →
    (slots slots' : List Slot) → slots' ≡ slots ++ (if asks free inner slot.variable then slot ∷ [] else []) →
    ((name : Name) → list_any (is_same name) inner' ≡ (is_same name slot.variable || list_any (is_same name) inner)) →
    slots_for (asks free inner') (reverse (take left variables)) ++ reverse slots' ≡ slots_for (asks free inner) (reverse (take (left + 1) variables)) ++ reverse slots
one_inwards free inner inner' variables left slot within is slots slots' grown more =
    let outer = reverse (take left variables) in
    let own = if asks free inner slot.variable then slot ∷ [] else [] in
    let behind = λ (name : Name). asks free inner name && not (is_same slot.variable name) in
    ap (λ (l : List Slot). l ++ reverse slots')
    (slots-same (asks free inner') behind
    (λ name. ap (λ b. list_any (is_same name) free && not b) (more name) ∙ hidden (list_any (is_same name) free) (list_any (is_same name) inner) (is_same name slot.variable) ∙ ap (λ b. asks free inner name && not b) (same-swap name slot.variable)) outer)
    ∙ ap (λ (l : List Slot). slots_for behind outer ++ l) (ap reverse grown ∙ put_last slots slot (asks free inner slot.variable))
    ∙ sym (append_assoc (slots_for behind outer) own (reverse slots))
    ∙ ap (λ (l : Scope). slots_for (asks free inner) l ++ reverse slots)
    (sym (ap reverse (take_more variables left slot within ∙ ap (λ s. take left variables ++ s ∷ []) (sym is)) ∙ reverse-append (take left variables) (slot ∷ [])))
