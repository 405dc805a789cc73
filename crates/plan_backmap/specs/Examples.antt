-- Small plan files, worked by hand.
use Rattle.std.specs.Prelude.{◌≡◌, ℕ, true, false, List, [], ◌∷◌, ◌++◌, codes}
use Rattle.sas_task.specs.declared.parts.Operator.{Operator}
use Rattle.plan_backmap.specs.Lines.{lines, trimmed, plan_lines, is_comment, is_step, words, name}
use Rattle.plan_backmap.specs.declared.fault.PlanFault.TheVariants.{BadLine, UnknownStep}
use Rattle.plan_backmap.specs.Plans.{faults, mapped}
use Rattle.plan_backmap.specs.declared.plan.Step.{Step}

abbrev pub operator : List ℕ → ℕ → Operator
operator name cost = record { name = name; conditions = []; effects = []; cost = cost }

-- three operators, two of them with one name
abbrev pub operators : List Operator
operators = operator (codes "flip") 3 ∷ operator (codes "flip") 5 ∷ operator (codes "move a") 4 ∷ []

abbrev pub step : List (List ℕ) → ℕ → Step
step words cost = record { words = words; cost = cost }

-- a line after a text
abbrev pub then_line : List ℕ → List ℕ → List ℕ
then_line text more = text ++ 10 ∷ more

pub record LineExamples : Type 0 where
  pub no_line : lines [] ≡ []
  pub empty_line : lines (10 ∷ []) ≡ [] ∷ []
  pub no_last_feed : lines (then_line (codes "a") (codes "b")) ≡ codes "a" ∷ codes "b" ∷ []
  pub last_feed : lines (then_line (then_line (codes "a") (codes "b")) []) ≡ codes "a" ∷ codes "b" ∷ []
  pub both_ends : trimmed (13 ∷ 32 ∷ 9 ∷ codes "a b" ++ 9 ∷ 32 ∷ 13 ∷ []) ≡ codes "a b"
  pub form_feed : trimmed (12 ∷ []) ≡ 12 ∷ []
  pub blank : is_comment (trimmed (32 ∷ 13 ∷ [])) ≡ true
  pub comment : is_comment (codes "; a") ≡ true
  pub no_comment : is_comment (codes "(a) ; b") ≡ false
  pub step : is_step (codes "(a b)") ≡ true
  pub gaps : is_step (40 ∷ 9 ∷ codes "a " ++ 9 ∷ codes "~! )") ≡ true
  pub more_after : is_step (codes "(a) ; b") ≡ false
  pub not_opened : is_step (codes "a)") ≡ false
  pub only_opened : is_step (codes "(") ≡ false
  pub only_closed : is_step (codes ")") ≡ false
  pub nothing_inside : is_step (codes "()") ≡ false
  pub no_word : is_step (codes "( )") ≡ false
  pub list_inside : is_step (codes "((a))") ≡ false
  pub comment_inside : is_step (codes "(a;b)") ≡ false
  pub byte : is_step (40 ∷ 97 ∷ 127 ∷ 41 ∷ []) ≡ false
  pub return_inside : is_step (40 ∷ 97 ∷ 13 ∷ 41 ∷ []) ≡ false
  pub words_of : words (codes "( Move" ++ 9 ∷ codes "A  b2 )") ≡ codes "move" ∷ codes "a" ∷ codes "b2" ∷ []
  pub question_mark : words (codes "(a?b)") ≡ codes "a?b" ∷ []
  pub name_of : name (codes "move" ∷ codes "a" ∷ codes "b2" ∷ []) ≡ codes "move a b2"

pub record PlanExamples : Type 0 where
  pub costs : mapped operators (plan_lines (then_line (codes "(MOVE a )") (codes "(flip)"))) ≡ record {
    steps = step (codes "move" ∷ codes "a" ∷ []) 4 ∷ step (codes "flip" ∷ []) 3 ∷ [];
    total = 7;
  }
  pub faultless : faults operators (plan_lines (then_line (codes "; a") (codes " (flip)"))) ≡ []
  pub unknown_first : faults operators (plan_lines (then_line (codes "(flop)") (codes "bad"))) ≡ UnknownStep 1 ∷ BadLine 2 ∷ []
  pub bad_first : faults operators (plan_lines (then_line (then_line [] (codes "bad")) (codes "(flop)"))) ≡ BadLine 2 ∷ UnknownStep 3 ∷ []
