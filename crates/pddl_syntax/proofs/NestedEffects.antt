-- Effects, one list at a time.
use Rattle.std.proofs.Common.{◌≡◌, true, false, List, ◌∷◌, refl, ap, ◌∙◌}
use Rattle.pddl_lexer.specs.Members.{Members, NoMore, WordThen, ListThen, is_list, position, inside, rest}
use Rattle.pddl_lexer.specs.declared.fault.ShapePlace.TheVariants as places
use Rattle.pddl_syntax.specs.declared.types.Effect.{Effect}
use Rattle.pddl_syntax.specs.Effects.{effect, effects, effect_at, effect_list as list_reading}
use Rattle.pddl_syntax.specs.Outcome.{Reading, at_each, every, joined, refused}
use Rattle.pddl_syntax.specs.Shapes.{malformed}

each_effect : (m : Members) → effects m ≡ at_each effect m
unfolding effects effect
each_effect NoMore = refl
each_effect (WordThen at bytes more) = ap (λ (cs : List (Reading Effect)). refused (malformed places.Effect at) ∷ cs) (each_effect more)
each_effect (ListThen at inner more) = ap (λ (cs : List (Reading Effect)). effect (ListThen at inner more) ∷ cs) (each_effect more)

second : (m : Members) → effect_at (effects m) 1 ≡ effect (rest m)
unfolding effects effect
second NoMore = refl
second (WordThen at bytes more) = refl
second (ListThen at inner more) = refl

pub effect_list : (m : Members) → is_list m ≡ true →
    effect m ≡ list_reading (position m) (inside m) (every effect (rest (inside m))) (effect (rest (rest (inside m))))
unfolding effects effect
effect_list NoMore listed = absurd cc
effect_list (WordThen at bytes more) listed = absurd cc
effect_list (ListThen at NoMore more) listed = refl
effect_list (ListThen at (WordThen here bytes others) more) listed =
    let inner = WordThen here bytes others in
    ap (λ (rs : List (Reading Effect)). list_reading at inner (joined rs) (effect_at (effects others) 1)) (each_effect others)
    ∙ ap (λ (two : Reading Effect). list_reading at inner (every effect others) two) (second others)
effect_list (ListThen at (ListThen here inner others) more) listed = refl

pub effect_other : (m : Members) → is_list m ≡ false → effect m ≡ refused (malformed places.Effect (position m))
unfolding effects effect
effect_other NoMore word = refl
effect_other (WordThen at bytes more) word = refl
effect_other (ListThen at inner more) word = absurd cc
