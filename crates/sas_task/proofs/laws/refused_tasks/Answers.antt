-- Each of these tasks breaks what its clause is named for.
use Rattle.std.proofs.Common.{◌≡◌, ℕ, ◌^◌, ◌<◌, ◌≤◌, Bool, false, ◌⊎◌, List, [], ◌∷◌, Option, Some, None, codes, inl, inr, refl, sym, ◌∙◌, arith}
use Rattle.std.proofs.lemmas.Bool.{false≢true}
use Rattle.lists.specs.Names.{is_name, IsName}
use Rattle.sas_task.specs.declared.parts.Pair.{Pair}
use Rattle.sas_task.specs.declared.parts.Operator.{Operator}
use Rattle.sas_task.specs.Valid.{IsValid, IsValidVariable, IsValidGroup, IsValidEffect, IsValidOperator, IsValidRule, ComesBefore}
use Rattle.sas_task.specs.Pairs.{pair}
use Rattle.sas_task.specs.Refused.{with_variable, with_group, with_operator, with_effect, with_rule}
use Rattle.sas_task.proofs.laws.refused_tasks.Goals as goal

variable_of : (layer : Option ℕ) (facts : List (List ℕ)) → IsValid (with_variable layer facts) → IsValidVariable (record { layer = layer; facts = facts })
variable_of layer facts valid = valid.variables 4 (record { layer = layer; facts = facts }) (omega arith)

name_of : (name : List ℕ) → IsValid (with_variable None (name ∷ [])) → IsName name
name_of name valid = (variable_of None (name ∷ []) valid).names 0 name (omega arith)

no_name : (bytes : List ℕ) → is_name bytes ≡ false → IsName bytes → ⊥
no_name bytes isnt is = false≢true (sym isnt ∙ is)

group_of : (facts : List Pair) → IsValid (with_group facts) → IsValidGroup (with_group facts) (record { facts = facts })
group_of facts valid = valid.groups 0 (record { facts = facts }) (omega arith)

operator_of : (metric : Bool) (operator : Operator) → IsValid (with_operator metric operator) → IsValidOperator (with_operator metric operator) operator
operator_of metric operator valid = valid.operators 0 operator (omega arith)

effect_of : (conditions : List Pair) (var after : ℕ) → IsValid (with_effect conditions var after) → IsValidEffect (with_effect conditions var after) (record { conditions = conditions; var = var; after = after })
effect_of conditions var after valid =
    (valid.operators 0 (record { name = []; conditions = []; effects = []; cost = 0 }) (omega arith)).effects 0 (record { conditions = conditions; var = var; after = after }) (omega arith)

rule_of : (conditions : List Pair) (var before after : ℕ) → IsValid (with_rule conditions var before after) → IsValidRule (with_rule conditions var before after) (record { conditions = conditions; var = var; before = before; after = after })
rule_of conditions var before after valid = valid.rules 0 (record { conditions = conditions; var = var; before = before; after = after }) (omega arith)

other : (a b : ℕ) → (a < b) ⊎ (b < a) → a ≡ b → ⊥
other a b (inl less) same = absurd (omega arith)
other a b (inr more) same = absurd (omega arith)

not_before : (p q : Pair) → q.var ≤ p.var → q.val ≤ p.val → ComesBefore p q → ⊥
not_before p q var val (inl less) = absurd (omega arith)
not_before p q var val (inr same) = let less = same.1 in absurd (omega arith)

first_pair : Pair
first_pair = pair 0 0

pub returns : goal.returns
returns c =
    record {
      layer = λ v. let law : 2 ^ 64 < 2 ^ 64 = (variable_of (Some (2 ^ 64)) (codes "a" ∷ []) v).layer in absurd (omega arith);
      has_value = λ v. let law : 0 < 0 = (variable_of None [] v).has_value in absurd (omega arith);
      written = λ v. no_name [] refl (name_of [] v);
      one_line = λ v. no_name (97 ∷ 10 ∷ 98 ∷ []) refl (name_of (97 ∷ 10 ∷ 98 ∷ []) v);
      first_byte = λ v. no_name (codes " a") refl (name_of (codes " a") v);
      last_byte = λ v. no_name (codes "a ") refl (name_of (codes "a ") v);
      group_facts = λ v. let law : 2 < 2 = (group_of (pair 0 0 ∷ pair 0 2 ∷ []) v).facts 1 first_pair (omega arith) in absurd (omega arith);
      group_order = λ v. not_before (pair 0 1) (pair 0 0) (omega arith) (omega arith) ((group_of (pair 0 1 ∷ pair 0 0 ∷ []) v).sorted 0 1 first_pair (omega arith) (omega arith));
      group_repeats = λ v. not_before (pair 0 0) (pair 0 0) (omega arith) (omega arith) ((group_of (pair 0 0 ∷ pair 0 0 ∷ []) v).sorted 0 1 first_pair (omega arith) (omega arith));
      two_facts = λ v. let law : 2 ≤ 1 = (group_of (pair 0 0 ∷ []) v).two_facts in absurd (omega arith);
      one_value = λ v. other 5 4 (inr (omega arith)) v.one_value;
      state_values = λ v. let law : 2 < 2 = v.state 1 (omega arith) in absurd (omega arith);
      goal_facts = λ v. let law : 2 < 2 = v.goal.facts 0 first_pair (omega arith) in absurd (omega arith);
      goal_order = λ v. let law : 3 < 0 = v.goal.sorted 0 (omega arith) in absurd (omega arith);
      goal_variables = λ v. let law : 3 < 3 = v.goal.sorted 0 (omega arith) in absurd (omega arith);
      operator_name = λ v. no_name [] refl (operator_of _ _ v).name;
      operator_conditions = λ v. let law : 2 < 2 = (operator_of _ _ v).conditions.facts 0 first_pair (omega arith) in absurd (omega arith);
      effect_conditions = λ v. let law : 2 < 2 = (effect_of (pair 0 2 ∷ []) 1 0 v).conditions.facts 0 first_pair (omega arith) in absurd (omega arith);
      effect_value = λ v. let law : 2 < 2 = (effect_of [] 0 2 v).value in absurd (omega arith);
      effect_basic = λ v. absurd (let law = (effect_of [] 2 0 v).basic in cc);
      cost = λ v. let law : 2147483648 ≤ 2147483647 = (operator_of _ _ v).cost in absurd (omega arith);
      unit_cost = λ v. other 3 1 (inr (omega arith)) ((operator_of _ _ v).unit_cost refl);
      rule_conditions = λ v. let law : 2 < 2 = (rule_of (pair 0 2 ∷ []) 2 1 0 v).conditions.facts 0 first_pair (omega arith) in absurd (omega arith);
      rule_derived = λ v. absurd (let law = (rule_of [] 1 1 0 v).derived in cc);
      rule_value = λ v. let law : 2 < 2 = (rule_of [] 2 1 2 v).value in absurd (omega arith);
      rule_default = λ v. other 0 1 (inl (omega arith)) (rule_of [] 2 0 1 v).default;
      rule_changes = λ v. (rule_of [] 2 1 1 v).changes refl;
      rule_below = λ v. let law : 1 < 0 = (rule_of (pair 3 0 ∷ []) 2 1 0 v).below 0 first_pair (omega arith) in absurd (omega arith);
      rule_own_layer = λ v. let law : 0 < 0 = (rule_of (pair 2 0 ∷ []) 2 1 0 v).below 0 first_pair (omega arith) in absurd (omega arith);
      one_after = λ v. other 1 2 (inl (omega arith)) (v.one_after 0 1 (record { conditions = []; var = 0; before = 0; after = 0 }) (omega arith) (omega arith) refl);
    }
