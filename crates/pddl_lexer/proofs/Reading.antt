-- What has been read of a text, place by place.
use Rattle.std.proofs.Common.{◌≡◌, ℕ, suc, ◌<◌, ◌≤◌, ◌+◌, Bool, true, false, cond, ◌&&◌, ◌||◌, ltb, List, [], ◌∷◌, ◌++◌, length, map, Option, Some, None, refl, sym, ap, subst, ◌∙◌, append_assoc, arith}
use Rattle.std.proofs.lemmas.List.{append-nil, length-append}
use Rattle.std.proofs.lemmas.Bool.{lt-ltb, leb-false, leb-true, not-false}
use Rattle.pddl_lexer.specs.declared.scanner.Mark.{Mark}
use Rattle.pddl_lexer.specs.declared.scanner.Mark.TheVariants.{Nothing, Bad, Opening, Closing, Beginning}
use Rattle.pddl_lexer.specs.declared.fault.Kind.{Kind}
use Rattle.pddl_lexer.specs.declared.fault.Fault.{Fault}
use Rattle.pddl_lexer.specs.Text.{mark, position}
use Rattle.pddl_lexer.specs.declared.position.At.{At}
use Rattle.pddl_lexer.specs.Members.{Members, NoMore, WordThen, ListThen, IsOneList, lowered_members}
use Rattle.pddl_lexer.specs.Nodes.{list_entry, entries}
use Rattle.pddl_lexer.specs.Tokens.{Token, Open, Close, Word, leading_word, token_at, listed, spelled_from, spelled, lowered_token, written, IsTreeOf}
use Rattle.pddl_lexer.specs.Faults.{is_opening, is_closing, is_token, opened, closed, begun, at_top, after_end, kind_at, kind_at_end, faults_at, faults_from, tree_faults}
use Rattle.pddl_lexer.specs.Builder.{Partial, Outside, Within, joined, depth, with_member, with_end, with_mark, written_so_far, entries_so_far}
use Rattle.pddl_lexer.proofs.Building.{entries-with_member}
use Rattle.pddl_lexer.specs.Nested.{tree}
use Rattle.pddl_lexer.proofs.Lowered.{written-lowered}
use Rattle.pddl_lexer.proofs.Spelled.{tree_of_spelled}

-- in an open list: nothing else stands outside
abbrev pub IsRooted : Partial → Type 0
IsRooted (Outside NoMore) = Unit {0}
IsRooted (Outside (WordThen at bytes more)) = ⊥
IsRooted (Outside (ListThen at inner more)) = ⊥
IsRooted (Within around at read) = IsRooted around

-- one list at most stands outside
abbrev pub IsSingle : Partial → Type 0
IsSingle (Outside NoMore) = Unit {0}
IsSingle (Outside (WordThen at bytes more)) = ⊥
IsSingle (Outside (ListThen at inner NoMore)) = Unit {0}
IsSingle (Outside (ListThen at inner (WordThen a b m))) = ⊥
IsSingle (Outside (ListThen at inner (ListThen a b m))) = ⊥
IsSingle (Within around at read) = IsRooted around

-- what the counts of a text say of what was read of it
pub record Agrees (partial : Partial) (behind : List ℕ) : Type 0 where
  pub depth_is : opened behind ≡ closed behind + depth partial
  pub begun_is : begun behind ≡ ltb 0 (length (entries_so_far partial))
  pub opened_is : ltb 0 (opened behind) ≡ ltb 0 (length (entries_so_far partial))

-- the bytes behind were read without a fault, and this came of it
pub record IsRead (text behind after : List ℕ) (partial : Partial) : Type 0 where
  pub agrees : Agrees partial behind
  pub single : IsSingle partial
  pub spelled_is : spelled text ≡ written_so_far partial ++ spelled_from behind after
  pub faults_are : tree_faults text ≡ faults_from behind after

-- ---- tokens

written-joined : (a b : Members) → written (joined a b) ≡ written a ++ written b
written-joined NoMore b = refl
written-joined (WordThen at bytes more) b = ap (λ (ts : List Token). Word at bytes ∷ ts) (written-joined more b)
written-joined (ListThen at inner more) b =
    ap (λ (ts : List Token). Open at ∷ (written inner ++ (Close ∷ ts))) (written-joined more b)
    ∙ ap (λ (ts : List Token). Open at ∷ ts) (sym (append_assoc (written inner) (Close ∷ written more) (written b)))

written-with_member : (partial : Partial) (m : Members) → written_so_far (with_member partial m) ≡ written_so_far partial ++ written m
written-with_member (Outside read) m = written-joined read m
written-with_member (Within around at read) m =
    ap (λ (ts : List Token). written_so_far around ++ (Open at ∷ ts)) (written-joined read m)
    ∙ sym (append_assoc (written_so_far around) (Open at ∷ written read) (written m))

written-with_end : (partial : Partial) → 0 < depth partial → written_so_far (with_end partial) ≡ written_so_far partial ++ Close ∷ []
written-with_end (Outside read) lt = absurd (omega arith)
written-with_end (Within around at read) lt =
    written-with_member around (ListThen at read NoMore)
    ∙ sym (append_assoc (written_so_far around) (Open at ∷ written read) (Close ∷ []))

written-with_mark : (m : Mark) (at : At) (text : List ℕ) (partial : Partial) → (m ≡ Closing → 0 < depth partial) → written_so_far (with_mark m at (leading_word text) partial) ≡ written_so_far partial ++ listed (token_at m at text)
written-with_mark Nothing at text partial deep = sym (append-nil (written_so_far partial))
written-with_mark Bad at text partial deep = sym (append-nil (written_so_far partial))
written-with_mark Opening at text partial deep = refl
written-with_mark Closing at text partial deep = written-with_end partial (deep refl)
written-with_mark Beginning at text partial deep = written-with_member partial (WordThen at (leading_word text) NoMore)

-- ---- counts

opened_at : (m : Mark) (behind : List ℕ) (b : ℕ) → m ≡ mark behind b → opened (b ∷ behind) ≡ cond (is_opening m) (opened behind + 1) (opened behind)
unfolding opened
opened_at m behind b is = ap (λ (k : Mark). cond (is_opening k) (opened behind + 1) (opened behind)) (sym is)

closed_at : (m : Mark) (behind : List ℕ) (b : ℕ) → m ≡ mark behind b → closed (b ∷ behind) ≡ cond (is_closing m) (closed behind + 1) (closed behind)
unfolding closed
closed_at m behind b is = ap (λ (k : Mark). cond (is_closing k) (closed behind + 1) (closed behind)) (sym is)

begun_at : (m : Mark) (behind : List ℕ) (b : ℕ) → m ≡ mark behind b → begun (b ∷ behind) ≡ (is_token m || begun behind)
unfolding begun
begun_at m behind b is = ap (λ (k : Mark). is_token k || begun behind) (sym is)

guard_none : {A : Type 0} (b : Bool) (x : A) (o : Option A) → cond b (Some x) o ≡ None → (b ≡ false) × (o ≡ None)
guard_none true x o e = absurd cc
guard_none false x o e = (refl, e)

right_wrong : (a b : Bool) → (a && b) ≡ false → b ≡ true → a ≡ false
right_wrong true b e h = absurd cc
right_wrong false b e h = refl

-- a ( that is no fault has fewer than 100 open lists around it
fine_depth : (behind : List ℕ) → kind_at Opening behind ≡ None → opened behind < closed behind + 100
unfolding kind_at
fine_depth behind e = leb-false _ _ (guard_none _ _ _ e).0

fine_opening : (behind : List ℕ) → kind_at Opening behind ≡ None → after_end behind ≡ false
unfolding kind_at
fine_opening behind e = (guard_none _ _ _ (guard_none _ _ _ e).1).0

fine_closing : (behind : List ℕ) → kind_at Closing behind ≡ None → closed behind < opened behind
unfolding kind_at
fine_closing behind e = leb-false _ _ (guard_none _ _ _ e).0

fine_beginning : (behind : List ℕ) → kind_at Beginning behind ≡ None → (begun behind ≡ true) × (after_end behind ≡ false)
unfolding kind_at
fine_beginning behind e = let g = guard_none _ _ _ e in (not-false _ g.0, (guard_none _ _ _ g.1).0)

fine_bad : (behind : List ℕ) → kind_at Bad behind ≡ None → ⊥
unfolding kind_at
fine_bad behind e = cc

-- a list that is neither ended nor new is open
rooted : (partial : Partial) (behind : List ℕ) → IsSingle partial → Agrees partial behind → after_end behind ≡ false → IsRooted partial
rooted (Outside NoMore) behind single counts going = tt
rooted (Outside (WordThen at bytes more)) behind single counts going = single
rooted (Outside (ListThen at inner NoMore)) behind single counts going =
    let low = leb-false _ _ (right_wrong (at_top behind) (ltb 0 (opened behind)) going (counts.opened_is ∙ lt-ltb _ _ (omega arith))) in
    absurd (omega (arith, low, counts.depth_is))
rooted (Outside (ListThen at inner (WordThen a b m))) behind single counts going = absurd single
rooted (Outside (ListThen at inner (ListThen a b m))) behind single counts going = absurd single
rooted (Within around at read) behind single counts going = single

single_member : (partial : Partial) (m : Members) → 0 < depth partial → IsSingle partial → IsSingle (with_member partial m)
single_member (Outside read) m lt single = absurd (omega arith)
single_member (Within around at read) m lt single = single

single_end : (partial : Partial) → IsSingle partial → IsSingle (with_end partial)
single_end (Outside read) single = single
single_end (Within (Outside NoMore) at read) single = tt
single_end (Within (Outside (WordThen a b m)) at read) single = absurd single
single_end (Within (Outside (ListThen a b m)) at read) single = absurd single
single_end (Within (Within around a m) at read) single = single

depth-with_member : (partial : Partial) (m : Members) → depth (with_member partial m) ≡ depth partial
depth-with_member (Outside read) m = refl
depth-with_member (Within around at read) m = refl

depth-with_end : (partial : Partial) → 0 < depth partial → suc (depth (with_end partial)) ≡ depth partial
depth-with_end (Outside read) lt = absurd (omega arith)
depth-with_end (Within around at read) lt = ap suc (depth-with_member around (ListThen at read NoMore))

some-with_end : (partial : Partial) → 0 < depth partial → (0 < length (entries_so_far partial)) × (0 < length (entries_so_far (with_end partial)))
some-with_end (Outside read) lt = absurd (omega arith)
some-with_end (Within around at read) lt = (
  omega (arith, length-append (entries_so_far around) (list_entry at (depth around) 0 ∷ entries (suc (depth around)) read)),
  omega (arith, ap length (entries-with_member around (ListThen at read NoMore)), length-append (entries_so_far around) (entries (depth around) (ListThen at read NoMore))),
)

agrees_on : (m : Mark) (behind : List ℕ) (b : ℕ) (at : At) (word : List ℕ) (partial : Partial) → m ≡ mark behind b → kind_at m behind ≡ None → Agrees partial behind → IsSingle partial
    → Agrees (with_mark m at word partial) (b ∷ behind) × IsSingle (with_mark m at word partial)
agrees_on Nothing behind b at word partial is fine counts single = (
  record {
    depth_is = opened_at Nothing behind b is ∙ counts.depth_is ∙ ap (λ (n : ℕ). n + depth partial) (sym (closed_at Nothing behind b is));
    begun_is = begun_at Nothing behind b is ∙ counts.begun_is;
    opened_is = ap (ltb 0) (opened_at Nothing behind b is) ∙ counts.opened_is;
  },
  single,
)
agrees_on Bad behind b at word partial is fine counts single = absurd (fine_bad behind fine)
agrees_on Opening behind b at word partial is fine counts single =
    let some : 0 < length (entries_so_far (Within partial at NoMore)) = omega (arith, length-append (entries_so_far partial) (list_entry at (depth partial) 0 ∷ [])) in (
      record {
        depth_is = omega (arith, opened_at Opening behind b is, closed_at Opening behind b is, counts.depth_is);
        begun_is = begun_at Opening behind b is ∙ sym (lt-ltb _ _ some);
        opened_is = lt-ltb _ _ (omega (arith, opened_at Opening behind b is)) ∙ sym (lt-ltb _ _ some);
      },
      rooted partial behind single counts (fine_opening behind fine),
    )
agrees_on Closing behind b at word partial is fine counts single =
    let deep : 0 < depth partial = omega (arith, fine_closing behind fine, counts.depth_is) in
    let some = some-with_end partial deep in (
      record {
        depth_is = omega (arith, opened_at Closing behind b is, closed_at Closing behind b is, counts.depth_is, depth-with_end partial deep);
        begun_is = begun_at Closing behind b is ∙ sym (lt-ltb _ _ some.1);
        opened_is = ap (ltb 0) (opened_at Closing behind b is) ∙ counts.opened_is ∙ lt-ltb _ _ some.0 ∙ sym (lt-ltb _ _ some.1);
      },
      single_end partial single,
    )
agrees_on Beginning behind b at word partial is fine counts single =
    let g = fine_beginning behind fine in
    let was_some : ltb 0 (opened behind) ≡ true = counts.opened_is ∙ sym counts.begun_is ∙ g.0 in
    let low = leb-false _ _ (right_wrong (at_top behind) (ltb 0 (opened behind)) g.1 was_some) in
    let deep : 0 < depth partial = omega (arith, low, counts.depth_is) in
    let some : 0 < length (entries_so_far (with_member partial (WordThen at word NoMore))) =
    omega (arith, ap length (entries-with_member partial (WordThen at word NoMore)), length-append (entries_so_far partial) (entries (depth partial) (WordThen at word NoMore))) in (
      record {
        depth_is = omega (arith, opened_at Beginning behind b is, closed_at Beginning behind b is, counts.depth_is, depth-with_member partial (WordThen at word NoMore));
        begun_is = begun_at Beginning behind b is ∙ sym (lt-ltb _ _ some);
        opened_is = ap (ltb 0) (opened_at Beginning behind b is) ∙ was_some ∙ sym (lt-ltb _ _ some);
      },
      single_member partial (WordThen at word NoMore) deep single,
    )

-- at most 100 lists are open, where no fault stands
pub shallow_on : (m : Mark) (behind : List ℕ) (at : At) (word : List ℕ) (partial : Partial) → kind_at m behind ≡ None → Agrees partial behind → depth partial ≤ 100 → depth (with_mark m at word partial) ≤ 100
shallow_on Nothing behind at word partial fine counts low = low
shallow_on Bad behind at word partial fine counts low = low
shallow_on Opening behind at word partial fine counts low = omega (arith, fine_depth behind fine, counts.depth_is)
shallow_on Closing behind at word partial fine counts low =
    let deep : 0 < depth partial = omega (arith, fine_closing behind fine, counts.depth_is) in
    omega (arith, depth-with_end partial deep, low)
shallow_on Beginning behind at word partial fine counts low = omega (arith, depth-with_member partial (WordThen at word NoMore), low)

-- ---- a whole text

pub agrees_first : Agrees (Outside NoMore) []
unfolding opened closed begun
agrees_first = record { depth_is = refl; begun_is = refl; opened_is = refl }

-- nothing is read yet
pub read_none : (text : List ℕ) → IsRead text [] text (Outside NoMore)
read_none text = record { agrees = agrees_first; single = tt; spelled_is = refl; faults_are = refl }

-- one byte more is read, at which there is no fault
pub read_more : (text behind : List ℕ) (b : ℕ) (after : List ℕ) (partial : Partial) → IsRead text behind (b ∷ after) partial → kind_at (mark behind b) behind ≡ None
    → IsRead text (b ∷ behind) after (with_mark (mark behind b) (position behind) (leading_word (b ∷ after)) partial)
unfolding faults_from spelled_from
read_more text behind b after partial r fine =
    let at = position behind in
    let on = agrees_on (mark behind b) behind b at (leading_word (b ∷ after)) partial refl fine r.agrees r.single in
    let deep : mark behind b ≡ Closing → 0 < depth partial =
    λ is. omega (arith, fine_closing behind (ap (λ (m : Mark). kind_at m behind) (sym is) ∙ fine), r.agrees.depth_is) in
    record {
      agrees = on.0;
      single = on.1;
      spelled_is = r.spelled_is
          ∙ sym (append_assoc (written_so_far partial) (listed (token_at (mark behind b) at (b ∷ after))) (spelled_from (b ∷ behind) after))
          ∙ ap (λ (ts : List Token). ts ++ spelled_from (b ∷ behind) after) (sym (written-with_mark (mark behind b) at (b ∷ after) partial deep));
      faults_are = r.faults_are ∙ ap (λ (o : Option Kind). faults_at o at ++ faults_from (b ∷ behind) after) fine;
    }

-- what comes of a text that is read to its end
pub record IsWhole (text : List ℕ) (partial : Partial) : Type 0 where
  pub tree : Members
  pub is : partial ≡ Outside tree
  pub one_list : IsOneList tree
  pub spells : written tree ≡ spelled text
  pub faultless : tree_faults text ≡ []

fine_end : (behind : List ℕ) → kind_at_end behind ≡ None → (at_top behind ≡ true) × (begun behind ≡ true)
unfolding kind_at_end
fine_end behind e = let g = guard_none _ _ _ e in (not-false _ g.0, not-false _ (guard_none _ _ _ g.1).0)

whole : (text behind : List ℕ) (partial : Partial) → Agrees partial behind → IsSingle partial → kind_at_end behind ≡ None → spelled text ≡ written_so_far partial ++ [] → tree_faults text ≡ [] → IsWhole text partial
whole text behind (Outside NoMore) counts single fine spelled_is faultless = absurd (cc ((fine_end behind fine).1, counts.begun_is))
whole text behind (Outside (WordThen at bytes more)) counts single fine spelled_is faultless = absurd single
whole text behind (Outside (ListThen at inner NoMore)) counts single fine spelled_is faultless = record {
  tree = ListThen at inner NoMore;
  is = refl;
  one_list = refl;
  spells = sym (append-nil (written (ListThen at inner NoMore))) ∙ sym spelled_is;
  faultless = faultless;
}
whole text behind (Outside (ListThen at inner (WordThen x y z))) counts single fine spelled_is faultless = absurd single
whole text behind (Outside (ListThen at inner (ListThen x y z))) counts single fine spelled_is faultless = absurd single
whole text behind (Within around at read) counts single fine spelled_is faultless =
    absurd (omega (arith, leb-true _ _ (fine_end behind fine).0, counts.depth_is))

pub read_whole : (text behind : List ℕ) (partial : Partial) → IsRead text behind [] partial → kind_at_end behind ≡ None → IsWhole text partial
unfolding faults_from spelled_from
read_whole text behind partial r fine =
    whole text behind partial r.agrees r.single fine r.spelled_is (r.faults_are ∙ ap (λ (o : Option Kind). faults_at o (position behind)) fine)

lowered_list : (tree : Members) → IsOneList tree → IsOneList (lowered_members tree)
lowered_list NoMore one = one
lowered_list (WordThen at bytes more) one = one
lowered_list (ListThen at inner more) one = ap lowered_members one

-- what is read as written is, once it is lowered, the tree of the text
pub tree_of : (text : List ℕ) (tree : Members) → IsOneList tree → written tree ≡ spelled text → IsTreeOf text (lowered_members tree)
tree_of text tree one spells = record { one_list = lowered_list tree one; spells = written-lowered tree ∙ ap (map lowered_token) spells }

no_faults : (o : Option Kind) (at : At) (more : List Fault) → faults_at o at ++ more ≡ [] → (o ≡ None) × (more ≡ [])
no_faults None at more e = (refl, e)
no_faults (Some kind) at more e = absurd cc

-- what is read of a text without faults
record IsReadAs (text : List ℕ) (tree : Members) : Type 0 where
  one_list : IsOneList tree
  spells : written tree ≡ spelled text

read_from : (text behind after : List ℕ) (partial : Partial) → IsRead text behind after partial → faults_from behind after ≡ [] → (found : Members) × IsReadAs text found
unfolding faults_from
read_from text behind [] partial r none =
    let w = read_whole text behind partial r (no_faults (kind_at_end behind) (position behind) [] (append-nil _ ∙ none)).0 in
    (w.tree, record { one_list = w.one_list; spells = w.spells })
read_from text behind (b ∷ after) partial r none =
    let n = no_faults (kind_at (mark behind b) behind) (position behind) (faults_from (b ∷ behind) after) none in
    read_from text (b ∷ behind) after (with_mark (mark behind b) (position behind) (leading_word (b ∷ after)) partial) (read_more text behind b after partial r n.0) n.1

faultless : (text : List ℕ) → tree_faults text ≡ [] → IsReadAs text (tree text)
faultless text none =
    let r = read_from text [] text (Outside NoMore) (read_none text) none in
    subst (λ (found : Members). IsReadAs text found) (sym (tree_of_spelled text r.0 r.1.spells)) r.1

-- the nested list of a text without tree faults spells its tokens, and is lowered to its tree
pub spells : (text : List ℕ) → tree_faults text ≡ [] → written (tree text) ≡ spelled text
spells text none = (faultless text none).spells

pub tree_of_faultless : (text : List ℕ) → tree_faults text ≡ [] → IsTreeOf text (lowered_members (tree text))
tree_of_faultless text none = tree_of text (tree text) (faultless text none).one_list (spells text none)
