-- The made texts: a robot with two grippers carries balls from one room to another.
use Rattle.std.specs.Prelude.{ℕ, List, ◌++◌, codes}
use Rattle.std.specs.Fmt.{decimal}
use Rattle.std.specs.List.{flat_map, range_with_len}

-- ---- the domain, which is one for every number of balls

unfoldable pub domain_head : List ℕ
domain_head =
    codes "(define (domain gripper)\n"
    ++ codes " (:requirements :strips :typing)\n"
    ++ codes " (:types room ball gripper)\n"
    ++ codes " (:predicates (at-robby ?r - room) (at ?b - ball ?r - room)\n"
    ++ codes "  (free ?g - gripper) (carry ?b - ball ?g - gripper))\n"

unfoldable pub move_action : List ℕ
move_action =
    codes " (:action move :parameters (?from ?to - room)\n"
    ++ codes "  :precondition (at-robby ?from)\n"
    ++ codes "  :effect (and (at-robby ?to) (not (at-robby ?from))))\n"

unfoldable pub pick_action : List ℕ
pick_action =
    codes " (:action pick :parameters (?b - ball ?r - room ?g - gripper)\n"
    ++ codes "  :precondition (and (at ?b ?r) (at-robby ?r) (free ?g))\n"
    ++ codes "  :effect (and (carry ?b ?g) (not (at ?b ?r)) (not (free ?g))))\n"

unfoldable pub drop_action : List ℕ
drop_action =
    codes " (:action drop :parameters (?b - ball ?r - room ?g - gripper)\n"
    ++ codes "  :precondition (and (carry ?b ?g) (at-robby ?r))\n"
    ++ codes "  :effect (and (at ?b ?r) (free ?g) (not (carry ?b ?g)))))\n"

abbrev pub domain : List ℕ
domain = domain_head ++ move_action ++ pick_action ++ drop_action

-- ---- the problem

-- the name of a ball
abbrev pub ball : ℕ → List ℕ
ball number = codes "ball" ++ decimal number

-- the names of so many balls, from ball1 on, each between these two texts
abbrev pub each_ball : ℕ → List ℕ → List ℕ → List ℕ
each_ball balls before after = flat_map (λ number. before ++ ball number ++ after) (range_with_len 1 balls)

-- what stands before the balls' names
unfoldable pub problem_head : List ℕ
problem_head =
    codes "(define (problem made)\n"
    ++ codes " (:domain gripper)\n"
    ++ codes " (:objects rooma roomb - room left right - gripper\n "

-- what stands before the balls' places at the start
unfoldable pub before_places : List ℕ
before_places = codes " - ball)\n (:init (at-robby rooma) (free left) (free right)\n "

-- what stands before the balls' places in the goal
unfoldable pub before_goal : List ℕ
before_goal = codes ")\n (:goal (and"

unfoldable pub problem_end : List ℕ
problem_end = codes ")))\n"

-- the balls are objects, stand in the one room at the start, and are to stand in the other
abbrev pub problem : ℕ → List ℕ
problem balls =
    problem_head ++ each_ball balls (codes " ") (codes "")
    ++ before_places ++ each_ball balls (codes " (at ") (codes " rooma)")
    ++ before_goal ++ each_ball balls (codes " (at ") (codes " roomb)")
    ++ problem_end
