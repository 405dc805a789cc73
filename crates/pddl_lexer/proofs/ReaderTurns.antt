-- What one turn of the reader's loop keeps.
use Rattle.std.proofs.Common.{◌≡◌, ℕ, suc, ◌<◌, ◌≤◌, ◌+◌, ◌-◌, ◌^◌, cond, eqb, ltb, true, false, List, [], ◌∷◌, ◌++◌, length, not, ◌==◌, get_or, take, drop, Option, Some, None, refl, sym, ap, subst, ◌∙◌, arith}
use Rattle.std.proofs.lemmas.List.{take_all, length-take, drop-drop}
use Rattle.std.specs.List.{prefix_len, take_while}
use Rattle.std.specs.Vec.{vec_len}
use Rattle.pddl_lexer.specs.declared.scanner.Scanner.{Scanner}
use Rattle.pddl_lexer.specs.declared.scanner.Mark.{Mark}
use Rattle.pddl_lexer.specs.declared.fault.Kind.{Kind}
use Rattle.pddl_lexer.specs.declared.builder.Builder.{Builder}
use Rattle.pddl_lexer.specs.Text.{line_feed, mark, line, position}
use Rattle.pddl_lexer.specs.declared.position.At.{At}
use Rattle.pddl_lexer.specs.Scanner.{StandsAfter}
use Rattle.pddl_lexer.specs.Members.{Members, NoMore, lowered_members}
use Rattle.pddl_lexer.specs.Nodes.{AreNodesOf}
use Rattle.pddl_lexer.specs.Tokens.{leading_word, spelled, written, IsTreeOf}
use Rattle.lists.specs.Stops.{IsFirst}
use Rattle.pddl_lexer.specs.Faults.{kind_at, kind_at_end, faults_at, faults_from, tree_faults}
use Rattle.pddl_lexer.specs.Builder.{Partial, Outside, depth, with_mark, entries_so_far, Represents, HasFewNodes, IsShallow, Counts}
use Rattle.pddl_lexer.proofs.Building.{length-places, length-shown, one_node_more}
use Rattle.pddl_lexer.proofs.Reading.{Agrees, IsRead, shallow_on, read_none, read_more, read_whole, tree_of}

-- what the loop keeps: behind are the bytes that were passed, the nearest first
pub record Passed (text : List ℕ) (scanner : Scanner) (builder : Builder) (after : List ℕ) : Type 0 where
  pub behind : List ℕ
  pub partial : Partial
  pub stands : StandsAfter scanner behind
  pub represents : Represents text builder partial
  pub read : IsRead text behind after partial
  pub shallow : depth partial ≤ 100
  pub few : length (entries_so_far partial) ≤ length behind
  pub after_is : drop (length behind) text ≡ after
  pub lengths : length behind + length after ≡ length text
  pub fits : length text < 4294967295

open_are_counted : (text : List ℕ) (b : Builder) (partial : Partial) → Represents text b partial → vec_len b.open ≡ depth partial
open_are_counted text b partial kept = b.open.ok.0 ∙ ap length kept.open_are ∙ length-places partial

nodes_are_counted : (text : List ℕ) (b : Builder) (partial : Partial) → Represents text b partial → vec_len b.nodes ≡ length (entries_so_far partial)
nodes_are_counted text b partial kept = b.nodes.ok.0 ∙ sym (length-shown text b.nodes.items) ∙ ap length kept.nodes_are

counted : (text : List ℕ) (b : Builder) (partial : Partial) (behind : List ℕ) → Represents text b partial → Agrees partial behind → Counts b behind
counted text b partial behind kept agrees =
    let nodes_long = nodes_are_counted text b partial kept in
    record {
      depth_is = omega (arith, agrees.depth_is, open_are_counted text b partial kept);
      begun_is = agrees.begun_is ∙ sym (ap (ltb 0) nodes_long);
      opened_is = agrees.opened_is ∙ sym (ap (ltb 0) nodes_long);
    }

-- the counts that the builder's tests speak of
pub counts : (text : List ℕ) (scanner : Scanner) (b : Builder) (after : List ℕ) (p : Passed text scanner b after) → Counts b p.behind
counts text scanner b after p = counted text b p.partial p.behind p.represents p.read.agrees

-- so few lists are open that their number fits a byte
pub few_open : (text : List ℕ) (scanner : Scanner) (b : Builder) (after : List ℕ) → Passed text scanner b after → IsShallow b
few_open text scanner b after p = omega (arith, p.shallow, open_are_counted text b p.partial p.represents)

-- so few nodes are there that their number fits 32 bits
pub few_nodes : (text : List ℕ) (scanner : Scanner) (b : Builder) (after : List ℕ) → Passed text scanner b after → HasFewNodes b
few_nodes text scanner b after p = omega (arith, nodes_are_counted text b p.partial p.represents, p.few, p.lengths, p.fits)

line_low : (behind : List ℕ) → line behind ≤ suc (length behind)
line_low [] = omega arith
line_low (b ∷ behind) = elim (eqb b 10) as (λ t. cond t (line behind + 1) (line behind) ≤ suc (suc (length behind))) [ true ↦ omega (arith, line_low behind) | false ↦ omega (arith, line_low behind) ]

since_low : (behind : List ℕ) → length (take_while (λ b. not (b == line_feed)) behind) ≤ length behind
since_low behind = omega (arith, length-take (prefix_len (λ b. not (b == line_feed)) behind) behind)

-- the line and the column can grow: neither is over one more than the number of bytes before the place
pub line_fits : (text : List ℕ) (scanner : Scanner) (b : Builder) (after : List ℕ) → Passed text scanner b after → 1 ≤ length after → scanner.at.line + 1 < 2 ^ 32
line_fits text scanner b after p le = omega (arith, ap (λ (at : At). at.line) p.stands.at_is, line_low p.behind, p.lengths, p.fits)

pub column_fits : (text : List ℕ) (scanner : Scanner) (b : Builder) (after : List ℕ) → Passed text scanner b after → 1 ≤ length after → scanner.at.column + 1 < 2 ^ 32
column_fits text scanner b after p le = omega (arith, ap (λ (at : At). at.column) p.stands.at_is, since_low p.behind, p.lengths, p.fits)

-- a fault that is found here is the first
pub fault_here : (text : List ℕ) (scanner : Scanner) (b : Builder) (rest : List ℕ) (p : Passed text scanner b rest) (byte : ℕ) (after : List ℕ) (m : Mark) (kind : Kind) → rest ≡ byte ∷ after → m ≡ mark p.behind byte → Some kind ≡ kind_at m p.behind
    → IsFirst (tree_faults text) (record { kind = kind; at = scanner.at })
unfolding faults_from
fault_here text scanner b rest p byte after m kind rest_is m-is is =
    let others = faults_from (byte ∷ p.behind) after in (
      others,
      p.read.faults_are ∙ ap (faults_from p.behind) rest_is
          ∙ ap (λ (o : Option Kind). faults_at o (position p.behind) ++ others) (ap (λ (k : Mark). kind_at k p.behind) (sym m-is) ∙ sym is)
          ∙ ap (λ (l : At). faults_at (Some kind) l ++ others) (sym p.stands.at_is),
    )

pub fault_end : (text : List ℕ) (scanner : Scanner) (b : Builder) (rest : List ℕ) (p : Passed text scanner b rest) (kind : Kind) → rest ≡ [] → Some kind ≡ kind_at_end p.behind
    → IsFirst (tree_faults text) (record { kind = kind; at = scanner.at })
unfolding faults_from
fault_end text scanner b rest p kind rest_is is = (
  [],
  p.read.faults_are ∙ ap (faults_from p.behind) rest_is
      ∙ ap (λ (o : Option Kind). faults_at o (position p.behind)) (sym is)
      ∙ ap (λ (l : At). faults_at (Some kind) l) (sym p.stands.at_is),
)

pub nothing_passed : (text : List ℕ) (scanner : Scanner) (b : Builder) → StandsAfter scanner [] → Represents text b (Outside NoMore) → length text < 4294967295 → Passed text scanner b text
nothing_passed text scanner b stands represents fits = record {
  behind = [];
  partial = Outside NoMore;
  stands = stands;
  represents = represents;
  read = read_none text;
  shallow = omega arith;
  few = omega arith;
  after_is = refl;
  lengths = omega arith;
  fits = fits;
}

pub passed_more : (text : List ℕ) (scanner : Scanner) (b : Builder) (rest : List ℕ) (p : Passed text scanner b rest) (byte : ℕ) (after : List ℕ) (m : Mark) (begins : ℕ) (scanner' : Scanner) (b' : Builder) → rest ≡ byte ∷ after → m ≡ mark p.behind byte → begins ≡ length text - length rest → None ≡ kind_at m p.behind
    → StandsAfter scanner' (byte ∷ p.behind) → ((text : List ℕ) (partial : Partial) → Represents text b partial → Represents text b' (with_mark m scanner.at (leading_word (drop begins text)) partial)) → Passed text scanner' b' after
passed_more text scanner b rest p byte after m begins scanner' b' rest_is m-is begins_is fine stands represents =
    let one_more : length p.behind + 1 ≡ suc (length p.behind) = omega arith in
    let read : IsRead text p.behind (byte ∷ after) p.partial = subst (λ (t : List ℕ). IsRead text p.behind t p.partial) rest_is p.read in
    let passed : begins ≡ length p.behind = omega (arith, begins_is, p.lengths) in
    let here : drop begins text ≡ byte ∷ after = ap (λ (n : ℕ). drop n text) passed ∙ p.after_is ∙ rest_is in
    let kept' : Represents text b' (with_mark m scanner.at (leading_word (byte ∷ after)) p.partial) = subst (λ (t : List ℕ). Represents text b' (with_mark m scanner.at (leading_word t) p.partial)) here (represents text p.partial p.represents) in
    let fine' : kind_at (mark p.behind byte) p.behind ≡ None = ap (λ (k : Mark). kind_at k p.behind) (sym m-is) ∙ sym fine in
    let kept'' : Represents text b' (with_mark m (position p.behind) (leading_word (byte ∷ after)) p.partial) = subst (λ (l : At). Represents text b' (with_mark m l (leading_word (byte ∷ after)) p.partial)) p.stands.at_is kept' in
    record {
      behind = byte ∷ p.behind;
      partial = with_mark (mark p.behind byte) (position p.behind) (leading_word (byte ∷ after)) p.partial;
      stands = stands;
      represents = subst (λ (k : Mark). Represents text b' (with_mark k (position p.behind) (leading_word (byte ∷ after)) p.partial)) m-is kept'';
      read = read_more text p.behind byte after p.partial read fine';
      shallow = shallow_on (mark p.behind byte) p.behind (position p.behind) (leading_word (byte ∷ after)) p.partial fine' p.read.agrees p.shallow;
      few = omega (arith, one_node_more (mark p.behind byte) (position p.behind) (leading_word (byte ∷ after)) p.partial, p.few);
      after_is = sym (drop-drop 1 (length p.behind) text ∙ ap (λ (n : ℕ). drop n text) one_more) ∙ ap (drop 1) (p.after_is ∙ rest_is);
      lengths = omega (arith, p.lengths, ap length rest_is);
      fits = p.fits;
    }

-- what is read at the end of a text without a fault
pub record Whole (text : List ℕ) (builder : Builder) : Type 0 where
  pub tree : Members
  pub nodes_are : AreNodesOf text tree builder.nodes.items
  pub spells : written tree ≡ spelled text
  pub faultless : tree_faults text ≡ []

pub passed_all : (text : List ℕ) (scanner : Scanner) (b : Builder) (rest : List ℕ) (p : Passed text scanner b rest) → rest ≡ [] → None ≡ kind_at_end p.behind → Whole text b
passed_all text scanner b rest p rest_is fine =
    let w = read_whole text p.behind p.partial (subst (λ (t : List ℕ). IsRead text p.behind t p.partial) rest_is p.read) (sym fine) in
    record {
      tree = w.tree;
      nodes_are = record { shown_are = p.represents.nodes_are ∙ ap entries_so_far w.is; one_list = w.one_list };
      spells = w.spells;
      faultless = w.faultless;
    }

-- what is answered of a text without a fault
pub record IsAnswer (text : List ℕ) (answer : Members) : Type 0 where
  pub is_tree : IsTreeOf text (lowered_members answer)
  pub spells : written answer ≡ spelled text
  pub faultless : tree_faults text ≡ []

pub passed_answer : (text : List ℕ) (b : Builder) (answer : Members) (w : Whole text b) → ((tree : Members) → AreNodesOf text tree b.nodes.items → answer ≡ tree) → IsAnswer text answer
passed_answer text b answer w is =
    let same = is w.tree w.nodes_are in
    record {
      is_tree = subst (λ (tree : Members). IsTreeOf text (lowered_members tree)) (sym same) (tree_of text w.tree w.nodes_are.one_list w.spells);
      spells = ap written same ∙ w.spells;
      faultless = w.faultless;
    }

-- ---- the head of a text, as code sees it

pub first_and_others : (t : List ℕ) → 1 ≤ length t → t ≡ get_or t 0 0 ∷ drop 1 t
first_and_others [] le = absurd (omega arith)
first_and_others (b ∷ t) le = refl

pub first_and_after : (t : List ℕ) (n : ℕ) → 1 ≤ length t → n ≡ length t - 1 → t ≡ get_or t 0 0 ∷ take n (drop 1 t)
first_and_after [] n le is = absurd (omega arith)
first_and_after (b ∷ t) n le is = ap (λ (ts : List ℕ). b ∷ ts) (sym (take_all n t (omega arith)))

pub nothing : (t : List ℕ) → length t < 1 → t ≡ []
nothing [] lt = refl
nothing (b ∷ t) lt = absurd (omega arith)
