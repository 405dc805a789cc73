-- Conditions that mention only declared predicates and objects.
use Rattle.std.proofs.Common.{◌≡◌, Bool, true, ◌&&◌, List}
use Rattle.std.specs.List.{list_all}
use Rattle.lists.specs.Members.{is_among}
use Rattle.pddl_syntax.specs.declared.types.Domain.{Domain}
use Rattle.pddl_syntax.specs.declared.types.Problem.{Problem}
use Rattle.pddl_syntax.specs.declared.types.Term.{Term}
use Rattle.pddl_syntax.specs.declared.types.Term.TheVariants as terms
use Rattle.pddl_syntax.specs.Words.{Name, is_same}
use Rattle.fault_positions.specs.Mentions.{Mention, Use, predicate_uses, arguments}
use Rattle.normal_task.specs.Numbers.{object_names, head_names}

module _ (domain : Domain) (problem : Problem) where
  abbrev pub is_known_term : Term → Bool
  is_known_term (terms.Variable variable) = true
  is_known_term (terms.Object object) = is_among is_same (object_names domain problem) object.name

  abbrev pub is_declared : Name → Bool
  is_declared = is_among is_same (head_names domain.predicates)

  abbrev pub is_known_mention : Mention → Bool
  is_known_mention mention = list_all (λ (usage : Use). is_declared usage.name.name) (predicate_uses mention) && list_all is_known_term (arguments mention)

  abbrev pub AreKnown : List Mention → Type 0
  AreKnown mentions = list_all is_known_mention mentions ≡ true
