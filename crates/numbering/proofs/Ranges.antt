-- The numbers of the objects of two lists, of which some are kept.
use Rattle.std.proofs.Common.{◌≡◌, ℕ, Bool, List, [], ◌++◌, map, sym, ap, ◌∙◌}
use Rattle.std.specs.List.{filter}
use Rattle.std.proofs.lemmas.List.{map-append}
use Rattle.std.proofs.lemmas.List.Elements.{filter-append}
use Rattle.pddl_syntax.specs.declared.types.Typed.{Typed}
use Rattle.pddl_syntax.specs.Words.{Name}

abbrev name_of : Typed → Name
name_of object = object.name.name

pub two_lists : (number : Name → ℕ) (keeps : Typed → Bool) (objects more : List Typed) →
    map number (map (λ object. object.name.name) (filter keeps (objects ++ more)))
    ≡ map number (map (λ object. object.name.name) (filter keeps objects)) ++ map number (map (λ object. object.name.name) (filter keeps more))
two_lists number keeps objects more =
    ap (λ (l : List Typed). map number (map name_of l)) (filter-append keeps objects more)
    ∙ ap (map number) (map-append name_of (filter keeps objects) (filter keeps more))
    ∙ map-append number (map name_of (filter keeps objects)) (map name_of (filter keeps more))

pub ranged : (number : Name → ℕ) (keeps : Typed → Bool) (objects more : List Typed) (start middle end : List ℕ) → start ≡ [] →
    middle ≡ start ++ map number (map (λ object. object.name.name) (filter keeps objects)) → end ≡ middle ++ map number (map (λ object. object.name.name) (filter keeps more)) →
    end ≡ map number (map (λ object. object.name.name) (filter keeps (objects ++ more)))
ranged number keeps objects more start middle end none first second =
    let split = two_lists number keeps objects more in
    second ∙ ap (λ (l : List ℕ). l ++ map number (map name_of (filter keeps more))) (first ∙ ap (λ (l : List ℕ). l ++ map number (map name_of (filter keeps objects))) none) ∙ sym split
