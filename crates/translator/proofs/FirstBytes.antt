-- Only the lines on the written task begin with a capital T.
use Rattle.std.proofs.Common.{◌≡◌, ◌≢◌, ℕ, List, [], ◌∷◌, ◌++◌, refl, sym, ap, ◌∙◌, arith}
use Rattle.std.specs.declared.option.Option.{Option}
use Rattle.std.specs.declared.option.Option.TheVariants.{Some, None}
use Rattle.std.specs.Io.KnownBytes.{append_known}
use Rattle.std.proofs.lemmas.List.{append_cancel_left}
use Rattle.messages.specs.declared.outcome.Message.{Message}
use Rattle.messages.specs.declared.outcome.Summary.{Summary}
use Rattle.messages.specs.Messages.{usage_line, memory_line, unreadable_line, unwritable_line, fault_line, refusal_line, summary_lines, task_lines}

-- T
abbrev pub capital : ℕ
capital = 84

first : List ℕ → ℕ
first [] = 0
first (byte ∷ rest) = byte

begins : (bytes rest : List ℕ) → bytes ≡ capital ∷ rest → first bytes ≡ 84
unfolding first
begins bytes rest is = ap first is

task_first : (summary : Summary) (plan : List ℕ) → first (task_lines summary plan) ≡ 84
unfolding summary_lines first
task_first summary plan = refl

small : (bytes rest : List ℕ) (byte : ℕ) → first bytes ≡ byte → byte ≢ 84 → bytes ≢ capital ∷ rest
small bytes rest byte is other begins_so = other (sym is ∙ begins bytes rest begins_so)

pub usage_small : (rest : List ℕ) → usage_line ≢ capital ∷ rest
unfolding usage_line first
usage_small rest = small usage_line rest 117 refl (λ e. omega (arith, e))

pub memory_small : (rest : List ℕ) → memory_line ≢ capital ∷ rest
unfolding memory_line first
memory_small rest = small memory_line rest 116 refl (λ e. omega (arith, e))

pub unreadable_small : (name rest : List ℕ) → unreadable_line name ≢ capital ∷ rest
unfolding unreadable_line first
unreadable_small name rest = small (unreadable_line name) rest 116 refl (λ e. omega (arith, e))

pub unwritable_small : (name rest : List ℕ) → unwritable_line name ≢ capital ∷ rest
unfolding unwritable_line first
unwritable_small name rest = small (unwritable_line name) rest 116 refl (λ e. omega (arith, e))

pub refusal_small : (name : List ℕ) (message : Message) (rest : List ℕ) → refusal_line name message ≢ capital ∷ rest
unfolding fault_line first
refusal_small name message rest = small (refusal_line name message) rest 116 refl (λ e. omega (arith, e))

pub begins_capital : (summary : Summary) (plan : List ℕ) (byte : ℕ) (rest : List ℕ) → task_lines summary plan ≡ byte ∷ rest → byte ≡ capital
unfolding first
begins_capital summary plan byte rest is = sym (ap first is) ∙ task_first summary plan

-- what was printed, where it is told
pub printed_is : (printed printed_now : Option (List ℕ)) (before text bytes : List ℕ) → printed ≡ Some before → printed_now ≡ Some (before ++ bytes) → printed_now ≡ append_known printed text → text ≡ bytes
printed_is None printed_now before text bytes told now grows = absurd cc
printed_is (Some old) printed_now before text bytes told now grows =
    let same : old ≡ before = cc in
    let here : Some (old ++ text) ≡ Some (before ++ bytes) = sym grows ∙ now in
    let plain : old ++ text ≡ before ++ bytes = cc (here) in
    append_cancel_left old text bytes (plain ∙ ap (λ (b : List ℕ). b ++ bytes) (sym same))
