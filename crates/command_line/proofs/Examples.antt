-- The definition computes at words that are written out.
use Rattle.std.proofs.Common.{◌≡◌, true, false, [], ◌∷◌, Some, None, refl, codes}
use Rattle.clap.proofs.OnLiterals.{clap_on_literals}
use Rattle.command_line.specs.Accepted.{Files, Made, WrittenTask, accepted}

named : accepted (codes "translate" ∷ codes "d" ∷ codes "--sas-file=o" ∷ codes "p" ∷ []) ≡ Some record { source = Files (codes "d") (codes "p"); settings = record { max_candidates = 100000; full_encoding = false }; output = codes "o"; plan = None; passes = None }
unfolding clap_on_literals accepted
named = refl

numbered : accepted (codes "translate" ∷ codes "d" ∷ codes "p" ∷ codes "--invariant-generation-max-candidates" ∷ codes "007" ∷ [])
    ≡ Some record { source = Files (codes "d") (codes "p"); settings = record { max_candidates = 7; full_encoding = false }; output = codes "output.sas"; plan = None; passes = None }
unfolding clap_on_literals accepted
numbered = refl

after_two_hyphens : accepted (codes "translate" ∷ codes "--" ∷ codes "-d" ∷ codes "-" ∷ []) ≡ Some record { source = Files (codes "-d") (codes "-"); settings = record { max_candidates = 100000; full_encoding = false }; output = codes "output.sas"; plan = None; passes = None }
unfolding clap_on_literals accepted
after_two_hyphens = refl

help_refused : accepted (codes "translate" ∷ codes "d" ∷ codes "p" ∷ codes "--help" ∷ []) ≡ None
unfolding clap_on_literals accepted
help_refused = refl

repeat_refused : accepted (codes "translate" ∷ codes "d" ∷ codes "p" ∷ codes "--sas-file=o" ∷ codes "--sas-file=o" ∷ []) ≡ None
unfolding clap_on_literals accepted
repeat_refused = refl

plus_refused : accepted (codes "translate" ∷ codes "d" ∷ codes "p" ∷ codes "--invariant-generation-max-candidates=+5" ∷ []) ≡ None
unfolding clap_on_literals accepted
plus_refused = refl

made : accepted (codes "translate" ∷ codes "--make" ∷ codes "0200" ∷ codes "--map-plan=" ∷ []) ≡ Some record { source = Made 200; settings = record { max_candidates = 100000; full_encoding = false }; output = codes "output.sas"; plan = Some []; passes = None }
unfolding clap_on_literals accepted
made = refl

no_ball_refused : accepted (codes "translate" ∷ codes "--make" ∷ codes "0" ∷ []) ≡ None
unfolding clap_on_literals accepted
no_ball_refused = refl

balls_beside_a_name_refused : accepted (codes "translate" ∷ codes "--make" ∷ codes "4" ∷ codes "d" ∷ []) ≡ None
unfolding clap_on_literals accepted
balls_beside_a_name_refused = refl

written : accepted (codes "translate" ∷ codes "--from-sas" ∷ codes "t" ∷ []) ≡ Some record { source = WrittenTask (codes "t"); settings = record { max_candidates = 100000; full_encoding = false }; output = codes "output.sas"; plan = None; passes = None }
unfolding clap_on_literals accepted
written = refl

written_beside_balls_refused : accepted (codes "translate" ∷ codes "--from-sas=t" ∷ codes "--make=4" ∷ []) ≡ None
unfolding clap_on_literals accepted
written_beside_balls_refused = refl

passed : accepted (codes "translate" ∷ codes "d" ∷ codes "p" ∷ codes "--pass=order," ∷ []) ≡ Some record { source = Files (codes "d") (codes "p"); settings = record { max_candidates = 100000; full_encoding = false }; output = codes "output.sas"; plan = None; passes = Some (codes "order,") }
unfolding clap_on_literals accepted
passed = refl

two_lists_refused : accepted (codes "translate" ∷ codes "d" ∷ codes "p" ∷ codes "--pass=order" ∷ codes "--pass=order" ∷ []) ≡ None
unfolding clap_on_literals accepted
two_lists_refused = refl

whole : accepted (codes "translate" ∷ codes "d" ∷ codes "--full-encoding" ∷ codes "p" ∷ []) ≡ Some record { source = Files (codes "d") (codes "p"); settings = record { max_candidates = 100000; full_encoding = true }; output = codes "output.sas"; plan = None; passes = None }
unfolding clap_on_literals accepted
whole = refl

whole_with_a_value_refused : accepted (codes "translate" ∷ codes "d" ∷ codes "p" ∷ codes "--full-encoding=x" ∷ []) ≡ None
unfolding clap_on_literals accepted
whole_with_a_value_refused = refl

whole_twice_refused : accepted (codes "translate" ∷ codes "d" ∷ codes "p" ∷ codes "--full-encoding" ∷ codes "--full-encoding" ∷ []) ≡ None
unfolding clap_on_literals accepted
whole_twice_refused = refl
