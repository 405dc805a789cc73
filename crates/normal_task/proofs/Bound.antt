-- Where no variable is unbound, each free variable of a condition is bound by a list around it.
use Rattle.std.proofs.Common.{◌≡◌, Bool, true, false, not, ◌&&◌, ◌||◌, List, [], ◌∷◌, ◌++◌, map, refl, sym, ap, ◌∙◌, subst, inl, inr, ◌⊎◌}
use Rattle.std.specs.List.{list_any, flat_map}
use Rattle.std.proofs.lemmas.Bool.{and_parts, or_cases, not-true}
use Rattle.std.proofs.lemmas.Cmp.{nat_list_eq_equiv}
use Rattle.std.proofs.lemmas.List.Folds.{list_any-append}
use Rattle.pddl_lexer.specs.declared.position.At.{At}
use Rattle.pddl_syntax.specs.declared.types.Condition.{Condition}
use Rattle.pddl_syntax.specs.declared.types.Domain.{Domain}
use Rattle.pddl_syntax.specs.declared.types.Problem.{Problem}
use Rattle.pddl_syntax.specs.declared.types.Term.{Term}
use Rattle.pddl_syntax.specs.declared.types.Term.TheVariants as terms
use Rattle.pddl_syntax.specs.declared.types.Typed.{Typed}
use Rattle.pddl_syntax.specs.Words.{Name, is_same}
use Rattle.pddl_syntax.proofs.ConditionCases.{Each}
use Rattle.pddl_syntax.proofs.SameAtoms.{same_name}
use Rattle.fault_positions.specs.Scopes as scopes
use Rattle.type_checker.proofs.NoFaults.{left_empty, right_empty}
use Rattle.normal_task.specs.Parts.{is_listed, is_term_of, Known, known_step, known}
use Rattle.normal_task.proofs.Anys.{any-map, any-same}
use Rattle.normal_task.proofs.ThreeFolds.{by_folds}

-- one of the names is this one
abbrev pub is_in : List Name → Name → Bool
is_in names name = list_any (is_same name) names

-- a name bound inside a list of variables is one of them, or bound outside
pub in-inside : (variables : List Typed) (names : List Name) (name : Name) → is_in (scopes.inside_of variables names) name ≡ true → is_listed variables name ≡ false → is_in names name ≡ true
in-inside variables names name inside not-true = sym whole ∙ inside
  where
    listed : list_any (is_same name) (map (λ (variable : Typed). variable.name.name) variables) ≡ false
    listed =
        any-map (is_same name) (λ (variable : Typed). variable.name.name) variables
        ∙ any-same (λ (variable : Typed). is_same name variable.name.name) (λ (variable : Typed). is_same variable.name.name name) (λ variable. nat_list_eq_equiv.symm name variable.name.name) variables
        ∙ not-true

    whole : is_in (scopes.inside_of variables names) name ≡ is_in names name
    whole =
        list_any-append (is_same name) (map (λ (variable : Typed). variable.name.name) variables) names
        ∙ ap (λ b. b || list_any (is_same name) names) listed

term-bound : (names : List Name) (term : Term) → scopes.unbound_term names term ≡ [] → (name : Name) → is_term_of name term ≡ true → is_in names name ≡ true
term-bound names (terms.Object object) none name is = absurd cc
term-bound names (terms.Variable variable) none name is = subst (λ (n : Name). is_in names n ≡ true) (same_name variable.name name is) (by (is_in names variable.name) refl)
  where
    by : (b : Bool) → is_in names variable.name ≡ b → is_in names variable.name ≡ true
    by true e = e
    by false e = absurd cc

pub terms-bound : (names : List Name) (list : List Term) → scopes.unbound_terms names list ≡ [] → (name : Name) → list_any (is_term_of name) list ≡ true → is_in names name ≡ true
terms-bound names [] none name is = absurd cc
terms-bound names (term ∷ list) none name is =
    by (or_cases (is_term_of name term) (list_any (is_term_of name) list) is) (terms-bound names list (right_empty (scopes.unbound_term names term) (scopes.unbound_terms names list) none) name)
  where
    by : (is_term_of name term ≡ true) ⊎ (list_any (is_term_of name) list ≡ true) → (list_any (is_term_of name) list ≡ true → is_in names name ≡ true) → is_in names name ≡ true
    by (inl here) rest = term-bound names term (left_empty (scopes.unbound_term names term) (scopes.unbound_terms names list) none) name here
    by (inr there) rest = rest there

module _ (domain : Domain) (problem : Problem) where
  abbrev FreeBound : Known → (scopes.Scope → List At) → Unit {0} → Type 0
  FreeBound k unbound unused = (names : List Name) → unbound names ≡ [] → (name : Name) → k.is_free name ≡ true → is_in names name ≡ true

  abbrev Bound : Condition → Type 0
  Bound condition = FreeBound (known domain problem condition) (scopes.in_condition condition) tt

  members-bound : (members : List Condition) → Each Bound members → (names : List Name) → flat_map (λ member. member names) (map scopes.in_condition members) ≡ [] →
      (name : Name) → list_any (λ (member : Known). member.is_free name) (map (known domain problem) members) ≡ true → is_in names name ≡ true
  members-bound [] each names none name free = absurd cc
  members-bound (member ∷ members) each names none name free =
      by (or_cases ((known domain problem member).is_free name) (list_any (λ (member : Known). member.is_free name) (map (known domain problem) members)) free)
      (members-bound members each.1 names (right_empty (scopes.in_condition member names) (flat_map (λ member. member names) (map scopes.in_condition members)) none) name)
    where
      by : ((known domain problem member).is_free name ≡ true) ⊎ (list_any (λ (member : Known). member.is_free name) (map (known domain problem) members) ≡ true) →
          (list_any (λ (member : Known). member.is_free name) (map (known domain problem) members) ≡ true → is_in names name ≡ true) → is_in names name ≡ true
      by (inl here) rest = each.0 names (left_empty (scopes.in_condition member names) (flat_map (λ member. member names) (map scopes.in_condition members)) none) name here
      by (inr there) rest = rest there

  inside-bound : (variables : List Typed) (k : Known) (unbound : scopes.Scope → List At) → FreeBound k unbound tt → (names : List Name) → unbound (scopes.inside_of variables names) ≡ [] →
      (name : Name) → (not (is_listed variables name) && k.is_free name) ≡ true → is_in names name ≡ true
  inside-bound variables k unbound held names none name free =
      let parts = and_parts (not (is_listed variables name)) (k.is_free name) free in
      in-inside variables names name (held (scopes.inside_of variables names) none name parts.1) (not-true (is_listed variables name) parts.0)

  either-bound : (names : List Name) (name : Name) (p q : Bool) → (p ≡ true → is_in names name ≡ true) → (q ≡ true → is_in names name ≡ true) → (p || q) ≡ true → is_in names name ≡ true
  either-bound names name p q left right is = by (or_cases p q is)
    where
      by : (p ≡ true) ⊎ (q ≡ true) → is_in names name ≡ true
      by (inl here) = left here
      by (inr there) = right there

  -- a free variable is one of the names
  pub free-bound : (condition : Condition) → Bound condition
  free-bound = by_folds Known (scopes.Scope → List At) (Unit {0}) (known_step domain problem) scopes.condition_step (λ layer. tt) FreeBound record {
    at_true = λ at names none name free. absurd cc;
    at_atom = λ atom names none name free. terms-bound names atom.terms none name free;
    at_equal = λ left right at names none name free.
        either-bound names name (is_term_of name left) (is_term_of name right)
        (term-bound names left (left_empty (scopes.unbound_term names left) (scopes.unbound_term names right ++ []) none) name)
        (term-bound names right (left_empty (scopes.unbound_term names right) [] (right_empty (scopes.unbound_term names left) (scopes.unbound_term names right ++ []) none)) name) free;
    at_not = λ inside at held. held;
    at_and = λ members at held. members-bound members held;
    at_or = λ members at held. members-bound members held;
    at_imply = λ premise conclusion at held later names none name free.
        either-bound names name ((known domain problem premise).is_free name) ((known domain problem conclusion).is_free name)
        (held names (left_empty (scopes.in_condition premise names) (scopes.in_condition conclusion names) none) name)
        (later names (right_empty (scopes.in_condition premise names) (scopes.in_condition conclusion names) none) name) free;
    at_forall = λ variables inside at held. inside-bound variables (known domain problem inside) (scopes.in_condition inside) held;
    at_exists = λ variables inside at held. inside-bound variables (known domain problem inside) (scopes.in_condition inside) held;
  }
