-- Invariants of the normal task are invariants of its files.
use Rattle.std.proofs.Common.{◌≡◌, ℕ, true, false, not, List, sym, ◌∙◌, subst}
use Rattle.std.specs.List.{list_all}
use Rattle.std.proofs.lemmas.Bool.{and_parts, not-true}
use Rattle.lists.specs.Members.{is_among}
use Rattle.pddl_syntax.specs.declared.types.Domain.{Domain}
use Rattle.pddl_syntax.specs.declared.types.Problem.{Problem}
use Rattle.pddl_syntax.specs.Words.{is_same}
use Rattle.pddl_syntax.specs.Holds as pddl
use Rattle.pddl_syntax.proofs.SameAtoms.{same_atom as same_pddl_atom}
use Rattle.lists.proofs.Items.{all_passes}
use Rattle.normal_task.specs.Meaning.{is_same_atom, is_derived}
use Rattle.normal_task.specs.Normalised.{numbered_atom, normal}
use Rattle.normal_task.specs.Numbers.{head_names, object_names}
use Rattle.normal_task.specs.Same.{is_known_atom}
use Rattle.normal_task.proofs.EffectsMean.{same-numbered}
use Rattle.normal_task.proofs.FullStatesMatch.{derived-declared}
use Rattle.normal_task.proofs.Checked.{same_task}
use Rattle.normal_task.proofs.LawfulTask.{lawful-task}
use Rattle.contradictions.specs.declared.types.Candidate.{Candidate}
use Rattle.contradictions.specs.declared.types.Part.{Part}
use Rattle.contradictions.specs.Candidates.{covers}
use Rattle.contradictions.proofs.Covering.{covering}
use Rattle.invariant_check.specs.Soundness.{is_basic, InvariantsAreSoundInFiles}
use Rattle.invariant_check.proofs.Sound.{invariants_are_sound}
use Rattle.normal_task.proofs.OnceEach.{atom_same}

module _ (domain : Domain) (problem : Problem) (candidate : Candidate) (basic : is_basic (normal domain problem) candidate ≡ true) (instance : List ℕ) where
  covered-basic : (x : pddl.GroundAtom) → is_known_atom domain problem x ≡ true → covers candidate instance (numbered_atom domain problem x) ≡ true → pddl.is_derived domain x.predicate ≡ false
  covered-basic x known is =
      let c = covering candidate instance (numbered_atom domain problem x) is in
      let one = all_passes (λ (part : Part). not (is_derived (normal domain problem) part.predicate)) c.part candidate.parts c.among basic in
      sym (derived-declared domain problem x.predicate (and_parts (is_among is_same (head_names domain.predicates) x.predicate) (list_all (is_among is_same (object_names domain problem)) x.objects) known).0)
      ∙ subst (λ (p : ℕ). is_derived (normal domain problem) p ≡ false) c.same_predicate (not-true (is_derived (normal domain problem) c.part.predicate) one)

pub sound_in_files : InvariantsAreSoundInFiles
sound_in_files domain problem spelled spelled_problem none candidate basic accepted instance most state reachable x y known-x known-y is-x is-y in-x in-y =
    let too = (same_task domain problem none).reached state reachable in
    let shown-x = too.2 x known-x (covered-basic domain problem candidate basic instance x known-x is-x) in
    let shown-y = too.2 y known-y (covered-basic domain problem candidate basic instance y known-y is-y) in
    let same : numbered_atom domain problem x ≡ numbered_atom domain problem y =
    invariants_are_sound (normal domain problem) candidate (lawful-task domain problem none spelled spelled_problem) basic accepted instance most too.0 too.1 (numbered_atom domain problem x) (numbered_atom domain problem y) is-x is-y (shown-x ∙ in-x) (shown-y ∙ in-y) in
    same_pddl_atom x y (sym (same-numbered domain problem x y known-x known-y) ∙ subst (λ z. is_same_atom (numbered_atom domain problem x) z ≡ true) same (atom_same (numbered_atom domain problem x)))
