-- The text of a valid task is read as that task: all sections.
use Rattle.std.proofs.Common.{◌≡◌, ℕ, ◌+◌, ◌^◌, ◌<◌, List, [], ◌∷◌, ◌++◌, length, refl, ap, ◌∙◌, subst, append_assoc, arith, length-append}
use Rattle.std.specs.Prelude.{codes}
use Rattle.std.specs.List.{All, flat_map, enumerate_from}
use Rattle.std.proofs.lemmas.List.FromFn.{length-enumerate_from}
use Rattle.std.proofs.lemmas.List.Elements.{All-nil, All-cons, All-head, All-tail, All-weaker}
use Rattle.sas_task.specs.declared.parts.Pair.{Pair}
use Rattle.sas_task.specs.declared.parts.Variable.{Variable}
use Rattle.sas_task.specs.declared.parts.Group.{Group}
use Rattle.sas_task.specs.declared.parts.Rule.{Rule}
use Rattle.sas_task.specs.Output.{Line, numeral, counted, spaced, pair_lines, variable_lines, group_lines, goal_lines, rule_lines}
use Rattle.sas_task.specs.Task.{Task}
use Rattle.sas_task.specs.Valid.{AreConditions, IsValidVariable, IsValidGroup}
use Rattle.sas_reader.specs.declared.fault.SasPlace.{SasPlace}
use Rattle.sas_reader.specs.declared.fault.SasPlace.TheVariants as places
use Rattle.sas_reader.specs.Forms.{◌>>=◌, ◌>>◌, Unread, Form, followed, in_section, section, nothing, given}
use Rattle.sas_reader.specs.Sections.{variables, groups, goal}
use Rattle.sas_reader.proofs.Again.{IsSmall, Reads, Again, small_after, again_next}
use Rattle.sas_reader.proofs.AgainPairs.{Fits, again_groups, again_goal}
use Rattle.sas_reader.proofs.AgainSections.{again_variables}
use Rattle.sas_reader.proofs.AgainText.{many, each_short}
use Rattle.lists.proofs.Members.{all_front}
use Rattle.sas_reader.proofs.WholeText.{to_end}

-- the lines are no more than can be counted, and not longer
pub again_when : {A : Type 0} (form : Form A) (x : A) (ls : List Line) → (length ls < 2 ^ 63 → All (λ p. length p < 2 ^ 63) ls → Again form x ls) → Again form x ls
again_when form x ls gives now rest small some is =
    let len : length now.pieces ≡ length (ls ++ rest) = ap length is in
    gives (omega (arith, small.pieces, len, length-append ls rest)) (all_front (λ (p : Line). length p < 2 ^ 63) ls rest (subst (All (λ (p : Line). length p < 2 ^ 63)) is small.each)) now rest small some is

-- the same up to the end of the text
unfoldable pub AgainEnd : {A : Type 0} → Form A → A → List Line → Type 0
AgainEnd form x ls = (now : Unread) → IsSmall now → now.pieces ≡ ls ++ [] ∷ [] → Reads form x now ([] ∷ [])

pub bind_end : {A B : Type 0} (f : Form A) (g : A → Form B) (x : A) (y : B) (l m : List Line) → Again f x l → AgainEnd (g x) y m → AgainEnd (f >>= g) y (l ++ m)
unfolding AgainEnd
bind_end f g x y l m first second now small is =
    let cut : now.pieces ≡ l ++ (m ++ [] ∷ []) = is ∙ append_assoc l m ([] ∷ []) in
    let a = first now (m ++ [] ∷ []) small (omega (arith, length-append m ([] ∷ []))) cut in
    let b = second a.after (small_after now a.after l (m ++ [] ∷ []) small cut a.left) a.left in
    record { after = b.after; is = ap (λ r. followed r g) a.is ∙ b.is; left = b.left }

pub section_again : (place : SasPlace) → Again (section place) tt []
section_again place now rest small some is = record { after = in_section place now; is = refl; left = is }

pub then_end : {A B : Type 0} (place : SasPlace) (f : Form A) (g : A → Form B) (x : A) (y : B) (l m : List Line) → Again f x l → AgainEnd (g x) y m → AgainEnd ((section place >> f) >>= g) y (l ++ m)
then_end place f g x y l m first second = bind_end (section place >> f) g x y l m (again_next (section place) f tt x [] l (section_again place) first) second

pub ends : (t : Task) → AgainEnd (to_end t) t []
unfolding AgainEnd
ends t now small is = record { after = in_section places.End now; is = ap (λ ps. followed (nothing ps (in_section places.End now)) (λ _. given t)) is; left = is }

unnumbered : (P : Variable → Type 0) (n : ℕ) (vs : List Variable) → All (λ (v : ℕ × Variable). P v.1) (enumerate_from n vs) → All P vs
unnumbered P n [] are = All-nil P
unnumbered P n (v ∷ vs) are = All-cons P v vs (All-head (λ (w : ℕ × Variable). P w.1) (n, v) (enumerate_from (n + 1) vs) are) (unnumbered P (n + 1) vs (All-tail (λ (w : ℕ × Variable). P w.1) (n, v) (enumerate_from (n + 1) vs) are))

facts_short : (v : ℕ × Variable) → length (variable_lines v) < 2 ^ 63 → length v.1.facts < 2 ^ 64
facts_short v short =
    let names = flat_map (λ (fact : Line). fact ∷ []) v.1.facts in
    omega (arith, short, many (λ (fact : Line). fact ∷ []) v.1.facts (λ f. omega arith), length-append names (codes "end_variable" ∷ []))

pub variables_small : (vs : List Variable) → length (counted variable_lines (enumerate_from 0 vs)) < 2 ^ 63 → (length vs < 2 ^ 64) × All (λ v. length v.facts < 2 ^ 64) vs
variables_small vs short =
    let all : length (flat_map variable_lines (enumerate_from 0 vs)) < 2 ^ 63 = omega (arith, short) in (
      omega (arith, all, many variable_lines (enumerate_from 0 vs) (λ v. omega arith), length-enumerate_from 0 vs),
      unnumbered (λ v. length v.facts < 2 ^ 64) 0 vs (All-weaker (λ (v : ℕ × Variable). length (variable_lines v) < 2 ^ 63) (λ v. length v.1.facts < 2 ^ 64) facts_short (enumerate_from 0 vs) (each_short variable_lines (enumerate_from 0 vs) (2 ^ 63) all)),
    )

group_short : (g : Group) → length (group_lines g) < 2 ^ 63 → length g.facts < 2 ^ 64
group_short g short = omega (arith, short, many pair_lines g.facts (λ p. omega arith), length-append (flat_map pair_lines g.facts) (codes "end_mutex_group" ∷ []))

goal_short : (ps : List Pair) → length (goal_lines ps) < 2 ^ 63 → length ps < 2 ^ 64
goal_short ps short = omega (arith, short, many pair_lines ps (λ p. omega arith), length-append (flat_map pair_lines ps) (codes "end_goal" ∷ []))

pub rule_short : (r : Rule) → length (rule_lines r) < 2 ^ 63 → length r.conditions < 2 ^ 64
rule_short r short =
    omega (
      arith,
      short,
      many pair_lines r.conditions (λ p. omega arith),
      length-append (flat_map pair_lines r.conditions) (spaced (numeral r.var ∷ numeral r.before ∷ numeral r.after ∷ []) ∷ []),
      length-append (flat_map pair_lines r.conditions ++ spaced (numeral r.var ∷ numeral r.before ∷ numeral r.after ∷ []) ∷ []) (codes "end_rule" ∷ []),
    )

pub variables_again : (vs : List Variable) → All IsValidVariable vs → Again variables vs (counted variable_lines (enumerate_from 0 vs))
variables_again vs are =
    again_when variables vs (counted variable_lines (enumerate_from 0 vs)) (λ short each.
    let small = variables_small vs short in
    again_variables vs small.0 (λ k d within. (are k d within, small.1 k d within)))

pub groups_again : (t : Task) (gs : List Group) → Fits t → All (IsValidGroup t) gs → Again (groups t) gs (counted group_lines gs)
groups_again t gs fits are =
    again_when (groups t) gs (counted group_lines gs) (λ short each.
    let all : length (flat_map group_lines gs) < 2 ^ 63 = omega (arith, short) in
    let few = All-weaker (λ g. length (group_lines g) < 2 ^ 63) (λ g. length g.facts < 2 ^ 64) group_short gs (each_short group_lines gs (2 ^ 63) all) in
    again_groups t gs fits (omega (arith, all, many group_lines gs (λ g. omega arith))) (λ k d within. (are k d within, few k d within)))

pub goal_again : (t : Task) (ps : List Pair) → Fits t → AreConditions t ps → Again (goal t) ps (goal_lines ps)
goal_again t ps fits are = again_when (goal t) ps (goal_lines ps) (λ short each. again_goal t ps fits are (goal_short ps short))
