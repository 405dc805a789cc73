-- Searches that were worked by hand, beside those of the examples of the check.
use Rattle.std.specs.Prelude.{ℕ, true, false, List, [], ◌∷◌, Option, Some, None, codes}
use Rattle.normal_task.specs.declared.task.Literal.TheVariants.{Holds}
use Rattle.normal_task.specs.declared.task.Normal.{Normal}
use Rattle.normal_task.specs.declared.task.Place.{Place}
use Rattle.normal_task.specs.declared.task.Place.TheVariants.{Variable, Object}
use Rattle.contradictions.specs.declared.types.Candidate.{Candidate}
use Rattle.contradictions.specs.declared.types.Part.{Part}
use Rattle.invariant_check.specs.Names.{of_parts}
use Rattle.invariant_check.specs.Examples.{adds, deletes, action, task}
use Rattle.invariant_guess.specs.declared.types.Found.{Found}

abbrev pub part : ℕ → List ℕ → Option ℕ → Part
part predicate places counted = record { predicate = predicate; places = places; counted = counted }

abbrev pub found : ℕ → List Candidate → Found
found tried accepted = record { tried = tried; accepted = accepted }

-- what is off is turned on: on, off, and both
abbrev pub on : Candidate
on = of_parts 0 (part 0 [] None ∷ [])

abbrev pub off : Candidate
off = of_parts 0 (part 1 [] None ∷ [])

abbrev pub on_and_off : Candidate
on_and_off = of_parts 0 (part 0 [] None ∷ part 1 [] None ∷ [])

-- one `q` at a time
abbrev pub one_q : Candidate
one_q = of_parts 0 (part 1 [] (Some 0) ∷ [])

-- a place is left for another, and a bell rings where the first of four isn't it: at and rung
abbrev pub bell : Normal
bell =
    task (codes "l1" ∷ codes "l2" ∷ codes "l3" ∷ codes "l4" ∷ []) (1 ∷ 0 ∷ [])
    (action ((0 ∷ 1 ∷ 2 ∷ 3 ∷ []) ∷ (0 ∷ 1 ∷ 2 ∷ 3 ∷ []) ∷ []) (Holds true 0 (Variable 0 ∷ []) ∷ []) (deletes [] [] 0 (Variable 0 ∷ []) ∷ adds [] [] 0 (Variable 1 ∷ []) ∷ [])
    ∷ action [] (Holds false 0 (Object 0 ∷ []) ∷ []) (adds [] [] 1 [] ∷ []) ∷ [])

-- one place at a time
abbrev pub one_place : Candidate
one_place = of_parts 0 (part 0 [] (Some 0) ∷ [])

-- three blocks, which a hand picks up, puts down, stacks and unstacks: on, ontable, clear, handempty and holding
abbrev pub any_block : List ℕ
any_block = 0 ∷ 1 ∷ 2 ∷ []

abbrev pub x : List Place
x = Variable 0 ∷ []

abbrev pub y : List Place
y = Variable 1 ∷ []

abbrev pub x_and_y : List Place
x_and_y = Variable 0 ∷ Variable 1 ∷ []

abbrev pub blocks : Normal
blocks =
    task (codes "a" ∷ codes "b" ∷ codes "c" ∷ []) (2 ∷ 1 ∷ 1 ∷ 0 ∷ 1 ∷ [])
    (action (any_block ∷ []) (Holds true 2 x ∷ Holds true 1 x ∷ Holds true 3 [] ∷ []) (deletes [] [] 1 x ∷ deletes [] [] 2 x ∷ deletes [] [] 3 [] ∷ adds [] [] 4 x ∷ [])
    ∷ action (any_block ∷ []) (Holds true 4 x ∷ []) (deletes [] [] 4 x ∷ adds [] [] 2 x ∷ adds [] [] 3 [] ∷ adds [] [] 1 x ∷ [])
    ∷ action (any_block ∷ any_block ∷ []) (Holds true 4 x ∷ Holds true 2 y ∷ []) (deletes [] [] 4 x ∷ deletes [] [] 2 y ∷ adds [] [] 2 x ∷ adds [] [] 3 [] ∷ adds [] [] 0 x_and_y ∷ [])
    ∷ action (any_block ∷ any_block ∷ []) (Holds true 0 x_and_y ∷ Holds true 2 x ∷ Holds true 3 [] ∷ [])
    (adds [] [] 4 x ∷ adds [] [] 2 y ∷ deletes [] [] 2 x ∷ deletes [] [] 3 [] ∷ deletes [] [] 0 x_and_y ∷ [])
    ∷ [])

-- the hand is empty or holds a block
abbrev pub hand : Candidate
hand = of_parts 0 (part 3 [] None ∷ part 4 [] (Some 0) ∷ [])

-- a block stands on another or on the table, or is held
abbrev pub below_block : Candidate
below_block = of_parts 1 (part 0 (0 ∷ []) (Some 1) ∷ part 1 (0 ∷ []) None ∷ part 4 (0 ∷ []) None ∷ [])

-- on a block stands another or nothing, or it is held
abbrev pub above_block : Candidate
above_block = of_parts 1 (part 0 (1 ∷ []) (Some 0) ∷ part 2 (0 ∷ []) None ∷ part 4 (0 ∷ []) None ∷ [])
