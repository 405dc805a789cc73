-- Conditions, one list at a time.
use Rattle.std.proofs.Common.{◌≡◌, true, false, List, ◌∷◌, refl, ap, ◌∙◌}
use Rattle.pddl_lexer.specs.Members.{Members, NoMore, WordThen, ListThen, is_list, position, inside, rest}
use Rattle.pddl_lexer.specs.declared.fault.ShapePlace.TheVariants as places
use Rattle.pddl_syntax.specs.declared.types.Condition.{Condition}
use Rattle.pddl_syntax.specs.Conditions.{condition, conditions, condition_at, condition_list as list_reading}
use Rattle.pddl_syntax.specs.Outcome.{Reading, at_each, every, joined, refused}
use Rattle.pddl_syntax.specs.Shapes.{malformed}

each_condition : (m : Members) → conditions m ≡ at_each condition m
unfolding conditions condition
each_condition NoMore = refl
each_condition (WordThen at bytes more) = ap (λ (cs : List (Reading Condition)). refused (malformed places.Condition at) ∷ cs) (each_condition more)
each_condition (ListThen at inner more) = ap (λ (cs : List (Reading Condition)). condition (ListThen at inner more) ∷ cs) (each_condition more)

second : (m : Members) → condition_at (conditions m) 1 ≡ condition (rest m)
unfolding conditions condition
second NoMore = refl
second (WordThen at bytes more) = refl
second (ListThen at inner more) = refl

pub condition_list : (m : Members) → is_list m ≡ true →
    condition m ≡ list_reading (position m) (inside m) (every condition (rest (inside m))) (condition (rest (inside m))) (condition (rest (rest (inside m))))
unfolding conditions condition
condition_list NoMore listed = absurd cc
condition_list (WordThen at bytes more) listed = absurd cc
condition_list (ListThen at NoMore more) listed = refl
condition_list (ListThen at (WordThen here bytes others) more) listed =
    let inner = WordThen here bytes others in
    ap (λ (rs : List (Reading Condition)). list_reading at inner (joined rs) (condition others) (condition_at (conditions others) 1)) (each_condition others)
    ∙ ap (λ (two : Reading Condition). list_reading at inner (every condition others) (condition others) two) (second others)
condition_list (ListThen at (ListThen here inner others) more) listed = refl

pub condition_other : (m : Members) → is_list m ≡ false → condition m ≡ refused (malformed places.Condition (position m))
unfolding conditions condition
condition_other NoMore word = refl
condition_other (WordThen at bytes more) word = refl
condition_other (ListThen at inner more) word = absurd cc
