-- A normal task beside the domain and the problem that it is made of.
use Rattle.std.specs.Prelude.{◌≡◌, Bool, true, false, ◌&&◌}
use Rattle.std.specs.List.{list_all}
use Rattle.lists.specs.Members.{is_among}
use Rattle.pddl_syntax.specs.declared.types.Domain.{Domain}
use Rattle.pddl_syntax.specs.declared.types.Problem.{Problem}
use Rattle.pddl_syntax.specs.Words.{is_same}
use Rattle.pddl_syntax.specs.Holds as pddl
use Rattle.normal_task.specs.Numbers.{object_names, head_names}
use Rattle.normal_task.specs.Meaning as task
use Rattle.normal_task.specs.Normalised.{numbered_atom}

-- the predicate is declared, and the objects are
abbrev pub is_known_atom : Domain → Problem → pddl.GroundAtom → Bool
is_known_atom domain problem atom = is_among is_same (head_names domain.predicates) atom.predicate && list_all (is_among is_same (object_names domain problem)) atom.objects

-- the states have the same atoms of the files' basic predicates
abbrev pub Shows : Domain → Problem → pddl.State → task.State → Type 0
Shows domain problem state numbered =
    (atom : pddl.GroundAtom) → is_known_atom domain problem atom ≡ true → pddl.is_derived domain atom.predicate ≡ false →
    numbered (numbered_atom domain problem atom) ≡ state atom
