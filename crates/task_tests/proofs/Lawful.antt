-- Tasks of moves are lawful.
use Rattle.std.proofs.Common.{◌≡◌, ℕ, zero, suc, ◌<◌, Bool, true, false, not, ◌&&◌, List, [], ◌∷◌, length, replicate, refl, ap, ◌∙◌, arith}
use Rattle.std.specs.Prelude.{All as Each, codes}
use Rattle.std.proofs.lemmas.Bool.{lt-ltb}
use Rattle.std.proofs.lemmas.List.{length-replicate, get_or-replicate}
use Rattle.std.proofs.lemmas.List.Sums.{list_all-from_AllPass}
use Rattle.normal_task.specs.declared.task.GroundAtom.{GroundAtom}
use Rattle.normal_task.specs.declared.task.PredicateRow.{PredicateRow}
use Rattle.normal_task.specs.Lawful.{is_word}
use Rattle.ground_task.specs.declared.types.Ground.{Ground}
use Rattle.ground_task.specs.declared.types.GroundAction.{GroundAction}
use Rattle.ground_task.specs.declared.types.GoalRow.TheVariants.{All}
use Rattle.ground_task.specs.Lawful.{is_object, is_atom, is_basic_atom, is_action, IsLawful}
use Rattle.task_tests.specs.Moves.{atom_at, row_of, IsMove, IsStart, AreStarts}

module _ (count : ℕ) (init : List GroundAtom) (moves : List GroundAction) where
  abbrev pub task_of : Ground
  task_of =
      record {
        normal_predicates = row_of (codes "up") ∷ row_of (codes "down") ∷ [];
        objects = replicate count (codes "o");
        init = init;
        actions = moves;
        axioms = [];
        goal = All (record { positive = []; negative = [] });
        metric = false;
      }

  object_ok : (o : ℕ) → o < count → is_object task_of o ≡ true
  object_ok o below = let size = length-replicate count (codes "o") in lt-ltb o (length (replicate count (codes "o"))) (omega (arith, below, size))

  atom_ok : (test : PredicateRow → Bool) → test (row_of (codes "up")) ≡ true → test (row_of (codes "down")) ≡ true → (p o : ℕ) → p < 2 → o < count → is_atom task_of test (atom_at p o) ≡ true
  atom_ok test up down zero o low below = ap (λ b. (b && true) && test (row_of (codes "up"))) (object_ok o below) ∙ up
  atom_ok test up down (suc zero) o low below = ap (λ b. (b && true) && test (row_of (codes "down"))) (object_ok o below) ∙ down
  atom_ok test up down (suc (suc p)) o low below = absurd (omega (arith, low))

  action_ok : (action : GroundAction) → IsMove count action → is_action task_of action ≡ true
  action_ok action move =
      let from = atom_ok (λ row. true) refl refl move.predicate move.from move.one_of_two move.from_object in
      let to = atom_ok (λ row. not row.derived) refl refl move.predicate move.to move.one_of_two move.to_object in
      ap (is_action task_of) move.is
      ∙ ap (λ b. ((b && true) && true) && ((is_basic_atom task_of (atom_at move.predicate move.to)) && true) && true) from
      ∙ ap (λ b. (b && true) && true) to

  init_ok : (atom : GroundAtom) → IsStart count atom → is_basic_atom task_of atom ≡ true
  init_ok atom start = ap (is_basic_atom task_of) start.is ∙ atom_ok (λ row. not row.derived) refl refl start.predicate start.object start.one_of_two start.below

  pub lawful : AreStarts count init → Each (IsMove count) moves → IsLawful task_of
  lawful starts are_moves = record {
    objects = list_all-from_AllPass is_word (replicate count (codes "o")) (λ k d within. ap is_word (get_or-replicate count k (codes "o") d (let size = length-replicate count (codes "o") in omega (arith, within, size))));
    predicates = refl;
    init = list_all-from_AllPass (is_basic_atom task_of) init (λ k d within. init_ok _ (starts.each k d within));
    init_once = starts.once;
    actions = list_all-from_AllPass (is_action task_of) moves (λ k d within. action_ok _ (are_moves k d within));
    axioms = refl;
    goal = refl;
    rank = λ n. 0;
    falls = refl;
  }
