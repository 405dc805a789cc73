-- Where the nodes of a tree stand in pre-order.
use Rattle.std.proofs.Common.{◌≡◌, ℕ, zero, suc, ◌<◌, ◌≤◌, ◌+◌, ◌-◌, ◌⊎◌, Bool, false, cond, Some, None, IsNone, ◌↔◌, List, [], ◌∷◌, ◌++◌, length, get_or, drop, Option, refl, sym, ap, subst, ◌∙◌, append_assoc, add-zero, arith, inl, inr}
use Rattle.std.proofs.lemmas.Bool.{cases_lt, false≢true}
use Rattle.std.proofs.lemmas.List.{append-nil, drop_at, drop-append-le, length-append, length-drop, get_or-drop, get_or_append_left, get_or-append-add, get_or-map, length-map}
use Rattle.std.proofs.Math.Seq.{drop-append-add}
use Rattle.pddl_lexer.specs.declared.position.At.{At}
use Rattle.pddl_lexer.specs.Positions.{nowhere}
use Rattle.pddl_lexer.specs.Members.{Members, NoMore, WordThen, ListThen, IsOneList, count, nodes, from, word, inside, rest, is_empty, members_at, IsPlace, beginning}
use Rattle.pddl_lexer.specs.Nodes.{Entry, list_entry, entries, Shows, AreNodesOf, content_depth, content_below, depth_of, entry, shown, kept}
use Rattle.pddl_lexer.specs.declared.tree.Node.{Node}
use Rattle.pddl_lexer.specs.Kept.{Ends}

pub length-nodes : (m : Members) → length (nodes m) ≡ count m
length-nodes NoMore = refl
length-nodes (WordThen at bytes more) = ap suc (length-nodes more)
length-nodes (ListThen at inner more) = omega (arith, length-append (nodes inner) (nodes more), length-nodes inner, length-nodes more)

pub length-entries : (depth : ℕ) (m : Members) → length (entries depth m) ≡ count m
length-entries depth NoMore = refl
length-entries depth (WordThen at bytes more) = ap suc (length-entries depth more)
length-entries depth (ListThen at inner more) = omega (arith, length-append (entries (suc depth) inner) (entries depth more), length-entries (suc depth) inner, length-entries depth more)

Ends_both : (depth : ℕ) (es fs : List Entry) → Ends depth es → Ends depth fs → Ends depth (es ++ fs)
Ends_both depth [] fs h k = k
Ends_both depth (e ∷ es) fs h k = h

Ends_low : (deep depth : ℕ) (m : Members) → depth < deep → Ends deep (entries depth m)
Ends_low deep depth NoMore lt = tt
Ends_low deep depth (WordThen at bytes more) lt = lt
Ends_low deep depth (ListThen at inner more) lt = lt

-- What stands in the two lists from the node i on: its members and those after it, and then nodes that are less deep.
pub record Place (depth : ℕ) (tree : Members) (i : ℕ) : Type 0 where
  pub deep : ℕ
  pub not_less : depth ≤ deep
  pub some : is_empty (from tree i) ≡ false
  pub more_nodes : List Members
  pub more_entries : List Entry
  pub nodes_are : drop i (nodes tree) ≡ nodes (from tree i) ++ more_nodes
  pub entries_are : drop i (entries depth tree) ≡ entries deep (from tree i) ++ more_entries
  pub ends : Ends deep more_entries
  pub same : length more_nodes ≡ length more_entries

place_inside : (depth : ℕ) (at : At) (inner more : Members) (i : ℕ) → i < length (nodes inner) → Place (suc depth) inner i → Place depth (ListThen at inner more) (suc i)
place_inside depth at inner more i lt p =
    let here : from (ListThen at inner more) (suc i) ≡ from inner i = get_or_append_left (nodes inner) (nodes more) NoMore i lt in
    let within : i ≤ length (entries (suc depth) inner) = omega (arith, length-entries (suc depth) inner, length-nodes inner) in
    record {
      deep = p.deep;
      not_less = omega (arith, p.not_less);
      some = ap is_empty here ∙ p.some;
      more_nodes = p.more_nodes ++ nodes more;
      more_entries = p.more_entries ++ entries depth more;
      nodes_are = drop-append-le i (nodes inner) (nodes more) (omega arith) ∙ ap (λ (xs : List Members). xs ++ nodes more) p.nodes_are ∙ append_assoc (nodes (from inner i)) p.more_nodes (nodes more) ∙ ap (λ (x : Members). nodes x ++ (p.more_nodes ++ nodes more)) (sym here);
      entries_are = drop-append-le i (entries (suc depth) inner) (entries depth more) within ∙ ap (λ (xs : List Entry). xs ++ entries depth more) p.entries_are ∙ append_assoc (entries p.deep (from inner i)) p.more_entries (entries depth more) ∙ ap (λ (x : Members). entries p.deep x ++ (p.more_entries ++ entries depth more)) (sym here);
      ends = Ends_both p.deep p.more_entries (entries depth more) p.ends (Ends_low p.deep depth more (omega (arith, p.not_less)));
      same = omega (arith, p.same, length-append p.more_nodes (nodes more), length-append p.more_entries (entries depth more), length-nodes more, length-entries depth more);
    }

place_after : (depth : ℕ) (at : At) (inner more : Members) (i k : ℕ) → i ≡ length (nodes inner) + k → Place depth more k → Place depth (ListThen at inner more) (suc i)
place_after depth at inner more i k i-is p =
    let here : from (ListThen at inner more) (suc i) ≡ from more k = ap (λ (n : ℕ). get_or (nodes inner ++ nodes more) n NoMore) i-is ∙ get_or-append-add (nodes inner) (nodes more) k NoMore in
    let i-is' : i ≡ length (entries (suc depth) inner) + k = omega (arith, length-entries (suc depth) inner, length-nodes inner) in
    record {
      deep = p.deep;
      not_less = p.not_less;
      some = ap is_empty here ∙ p.some;
      more_nodes = p.more_nodes;
      more_entries = p.more_entries;
      nodes_are = ap (λ (n : ℕ). drop n (nodes inner ++ nodes more)) i-is ∙ drop-append-add (nodes inner) (nodes more) k ∙ p.nodes_are ∙ ap (λ (x : Members). nodes x ++ p.more_nodes) (sym here);
      entries_are = ap (λ (n : ℕ). drop n (entries (suc depth) inner ++ entries depth more)) i-is' ∙ drop-append-add (entries (suc depth) inner) (entries depth more) k ∙ p.entries_are ∙ ap (λ (x : Members). entries p.deep x ++ p.more_entries) (sym here);
      ends = p.ends;
      same = p.same;
    }

place_first : (depth : ℕ) (tree : Members) → from tree 0 ≡ tree → is_empty tree ≡ false → Place depth tree 0
place_first depth tree here some = record {
  deep = depth;
  not_less = omega arith;
  some = ap is_empty here ∙ some;
  more_nodes = [];
  more_entries = [];
  nodes_are = ap nodes (sym here) ∙ sym (append-nil (nodes (from tree 0)));
  entries_are = ap (entries depth) (sym here) ∙ sym (append-nil (entries depth (from tree 0)));
  ends = tt;
  same = refl;
}

pub place : (depth : ℕ) (tree : Members) (i : ℕ) → i < length (nodes tree) → Place depth tree i
place depth NoMore i lt = absurd (omega arith)
place depth (WordThen at bytes more) zero lt = place_first depth (WordThen at bytes more) refl refl
place depth (WordThen at bytes more) (suc i) lt =
    let p = place depth more i (omega arith) in
    record { deep = p.deep; not_less = p.not_less; some = p.some; more_nodes = p.more_nodes; more_entries = p.more_entries; nodes_are = p.nodes_are; entries_are = p.entries_are; ends = p.ends; same = p.same }
place depth (ListThen at inner more) zero lt = place_first depth (ListThen at inner more) refl refl
place depth (ListThen at inner more) (suc i) lt =
    elim (cases_lt i (length (nodes inner))) [
      | inl inner_lt ↦ place_inside depth at inner more i inner_lt (place (suc depth) inner i inner_lt)
      | inr le ↦
          let k : ℕ = i - length (nodes inner) in
          let i-is : i ≡ length (nodes inner) + k = omega arith in
          place_after depth at inner more i k i-is (place depth more k (omega (arith, length-append (nodes inner) (nodes more))))
    ]

count_none : (m : Members) → count m ≡ 0 → m ≡ NoMore
count_none NoMore h = refl
count_none (WordThen at bytes more) h = absurd (omega arith)
count_none (ListThen at inner more) h = absurd (omega arith)

none_or_some : (m : Members) → (m ≡ NoMore) ⊎ (is_empty m ≡ false)
none_or_some NoMore = inl refl
none_or_some (WordThen at bytes more) = inr refl
none_or_some (ListThen at inner more) = inr refl

-- every node is a word or a list
pub some_member : (tree : Members) (i : ℕ) → i < length (nodes tree) → is_empty (from tree i) ≡ false
some_member tree i lt = (place 0 tree i lt).some

-- ---- the lists from a node on

first_entry : (deep : ℕ) (x : Members) (es : List Entry) → is_empty x ≡ false → Shows (get_or (entries deep x ++ es) 0 (list_entry nowhere 0 0)) x × ((get_or (entries deep x ++ es) 0 (list_entry nowhere 0 0)).depth ≡ deep)
first_entry deep NoMore es some = absurd cc
first_entry deep (WordThen at bytes more) es some = (record { at_is = refl; word_is = refl; below_is = refl }, refl)
first_entry deep (ListThen at inner more) es some = (record { at_is = refl; word_is = refl; below_is = refl }, refl)

first_node : (x : Members) (xs : List Members) → is_empty x ≡ false → get_or (nodes x ++ xs) 0 NoMore ≡ x
first_node NoMore xs some = absurd cc
first_node (WordThen at bytes more) xs some = refl
first_node (ListThen at inner more) xs some = refl

inside_node : (x : Members) (xs : List Members) → is_empty (inside x) ≡ false → get_or (nodes x ++ xs) 1 NoMore ≡ inside x
inside_node NoMore xs some = absurd cc
inside_node (WordThen at bytes more) xs some = absurd cc
inside_node (ListThen at NoMore more) xs some = absurd cc
inside_node (ListThen at (WordThen a b m) more) xs some = refl
inside_node (ListThen at (ListThen a b m) more) xs some = refl

rest_nodes : (x : Members) (xs : List Members) → is_empty x ≡ false → drop (suc (count (inside x))) (nodes x ++ xs) ≡ nodes (rest x) ++ xs
rest_nodes NoMore xs some = absurd cc
rest_nodes (WordThen at bytes more) xs some = refl
rest_nodes (ListThen at inner more) xs some = ap (drop (count inner)) (append_assoc (nodes inner) (nodes more) xs) ∙ drop_at (nodes inner) (nodes more ++ xs) (count inner) (length-nodes inner)

rest_entries : (deep : ℕ) (x : Members) (es : List Entry) → is_empty x ≡ false → drop (suc (count (inside x))) (entries deep x ++ es) ≡ entries deep (rest x) ++ es
rest_entries deep NoMore es some = absurd cc
rest_entries deep (WordThen at bytes more) es some = refl
rest_entries deep (ListThen at inner more) es some = ap (drop (count inner)) (append_assoc (entries (suc deep) inner) (entries deep more) es) ∙ drop_at (entries (suc deep) inner) (entries deep more ++ es) (count inner) (length-entries (suc deep) inner)

-- ---- in the whole tree

-- the element i + k of a list is the element k from i on
from_here : {A : Type 0} (xs ys : List A) (i k : ℕ) (d : A) → drop i xs ≡ ys → get_or xs (i + k) d ≡ get_or ys k d
from_here xs ys i k d is = sym (get_or-drop i xs k d) ∙ ap (λ (l : _). get_or l k d) is

-- the element j of a list is the first from j on, told in two steps
from_later : {A : Type 0} (xs ys zs : List A) (i k j : ℕ) (d : A) → drop i xs ≡ ys → drop k ys ≡ zs → j ≡ i + k → get_or xs j d ≡ get_or zs 0 d
from_later xs ys zs i k j d is later j-is =
    ap (λ (n : ℕ). get_or xs n d) j-is ∙ from_here xs ys i k d is ∙ ap (λ (n : ℕ). get_or ys n d) (sym (add-zero k)) ∙ from_here ys zs k 0 d later

count_some : (m : Members) → is_empty m ≡ false → 0 < count m
count_some NoMore some = absurd cc
count_some (WordThen at bytes more) some = omega arith
count_some (ListThen at inner more) some = omega arith

count_parts : (x : Members) → is_empty x ≡ false → count x ≡ suc (count (inside x) + count (rest x))
count_parts NoMore some = absurd cc
count_parts (WordThen at bytes more) some = omega arith
count_parts (ListThen at inner more) some = refl

ends_first : (deep : ℕ) (es : List Entry) → 0 < length es → Ends deep es → (get_or es 0 (list_entry nowhere 0 0)).depth < deep
ends_first deep [] lt h = absurd (omega arith)
ends_first deep (e ∷ es) lt h = h

module _ (tree : Members) (i : ℕ) (lt : i < length (nodes tree)) where
  abbrev x : Members
  x = from tree i

  abbrev none : Entry
  none = list_entry nowhere 0 0

  abbrev spot : Place 0 tree i
  spot = place 0 tree i lt

  abbrev after : ℕ
  after = i + 1 + count (inside x)

  entry_is : get_or (entries 0 tree) i none ≡ get_or (entries spot.deep x ++ spot.more_entries) 0 none
  entry_is = from_later (entries 0 tree) (entries spot.deep x ++ spot.more_entries) (entries spot.deep x ++ spot.more_entries) i 0 i none spot.entries_are refl (omega arith)

  deep_is : depth_of tree i ≡ spot.deep
  deep_is = ap (λ (e : Entry). e.depth) entry_is ∙ (first_entry spot.deep x spot.more_entries spot.some).1

  length_is : length (nodes tree) ≡ after + count (rest x) + length spot.more_nodes
  length_is = omega (arith, lt, length-drop i (nodes tree), ap length spot.nodes_are, length-append (nodes x) spot.more_nodes, length-nodes x, count_parts x spot.some)

  pub node_shows : Shows (get_or (entries 0 tree) i (list_entry nowhere 0 0)) (from tree i)
  node_shows = subst (λ (e : Entry). Shows e (from tree i)) (sym entry_is) (first_entry spot.deep x spot.more_entries spot.some).0

  pub node_fits : i + 1 + count (inside (from tree i)) ≤ length (nodes tree)
  node_fits = omega (arith, length_is)

  pub inside_begins : is_empty (inside (from tree i)) ≡ false → (i + 1 < length (nodes tree)) × (from tree (i + 1) ≡ inside (from tree i))
  inside_begins some =
      (omega (arith, length_is, count_some (inside x) some), from_here (nodes tree) (nodes x ++ spot.more_nodes) i 1 NoMore spot.nodes_are ∙ inside_node x spot.more_nodes some)

  pub rest_begins : is_empty (rest (from tree i)) ≡ false → (i + 1 + count (inside (from tree i)) < length (nodes tree)) × (from tree (i + 1 + count (inside (from tree i))) ≡ rest (from tree i)) × (depth_of tree (i + 1 + count (inside (from tree i))) ≡ depth_of tree i)
  rest_begins some =
      let node = from_later (nodes tree) (nodes x ++ spot.more_nodes) (nodes (rest x) ++ spot.more_nodes) i (suc (count (inside x))) after NoMore spot.nodes_are (rest_nodes x spot.more_nodes spot.some) (omega arith) in
      let kept = from_later (entries 0 tree) (entries spot.deep x ++ spot.more_entries) (entries spot.deep (rest x) ++ spot.more_entries) i (suc (count (inside x))) after none spot.entries_are (rest_entries spot.deep x spot.more_entries spot.some) (omega arith) in (
        omega (arith, length_is, count_some (rest x) some),
        node ∙ first_node (rest x) spot.more_nodes some,
        ap (λ (e : Entry). e.depth) kept ∙ (first_entry spot.deep (rest x) spot.more_entries some).1 ∙ sym deep_is,
      )

  pub rest_ends : rest (from tree i) ≡ NoMore → i + 1 + count (inside (from tree i)) < length (nodes tree) → depth_of tree (i + 1 + count (inside (from tree i))) < depth_of tree i
  rest_ends ended lt' =
      let kept = from_later (entries 0 tree) (entries spot.deep x ++ spot.more_entries) (entries spot.deep (rest x) ++ spot.more_entries) i (suc (count (inside x))) after none spot.entries_are (rest_entries spot.deep x spot.more_entries spot.some) (omega arith) in
      let kept' : get_or (entries 0 tree) after none ≡ get_or spot.more_entries 0 none = kept ∙ ap (λ (m : Members). get_or (entries spot.deep m ++ spot.more_entries) 0 none) ended in
      let left : 0 < length spot.more_entries = omega (arith, length_is, lt', ap count ended, spot.same) in
      let after_is : depth_of tree after ≡ (get_or spot.more_entries 0 none).depth = ap (λ (e : Entry). e.depth) kept' in
      omega (arith, after_is, deep_is, ends_first spot.deep spot.more_entries left spot.ends)

-- ---- what the code keeps

pub same_length : (text : List ℕ) (ns : List Node) (tree : Members) → kept text ns ≡ tree → AreNodesOf text (kept text ns) ns → length ns ≡ length (nodes tree)
same_length text ns tree view_is inv =
    omega (arith, length-map {B = Entry} ns (entry text), ap length inv.shown_are, length-entries 0 (kept text ns), length-nodes tree, ap count view_is)

-- what a node of the code tells
pub record Tells (text : List ℕ) (tree : Members) (i : ℕ) (n : Node) : Type 0 where
  pub shows : Shows (entry text n) (from tree i)
  pub depth_is : content_depth n.content ≡ depth_of tree i
  pub in_range : i + 1 + content_below n.content ≤ length (nodes tree)

pub tells : (text : List ℕ) (ns : List Node) (tree : Members) (i : ℕ) (n : Node) → kept text ns ≡ tree → AreNodesOf text (kept text ns) ns → i < length (nodes tree) → n ≡ get_or ns i n → Tells text tree i n
tells text ns tree i n view_is inv lt is =
    let same : shown text ns ≡ entries 0 tree = inv.shown_are ∙ ap (entries 0) view_is in
    let within : i < length ns = omega (arith, same_length text ns tree view_is inv) in
    let entry_is : entry text n ≡ get_or (entries 0 tree) i (list_entry nowhere 0 0) =
    ap (entry text) is ∙ sym (get_or-map (entry text) ns i n (list_entry nowhere 0 0) within) ∙ ap (λ (es : List Entry). get_or es i (list_entry nowhere 0 0)) same in
    let shows : Shows (entry text n) (from tree i) = subst (λ (e : Entry). Shows e (from tree i)) (sym entry_is) (node_shows tree i lt) in
    record {
      shows = shows;
      depth_is = ap (λ (e : Entry). e.depth) entry_is;
      in_range = omega (arith, node_fits tree i lt, shows.below_is);
    }

-- the bytes of a word, and that a list has none
pub word_told : (e : Entry) (here : Members) (bytes : List ℕ) → Shows e here → e.word ≡ Some bytes → bytes ≡ word here
word_told e NoMore bytes shows is = cc (shows.word_is, is)
word_told e (WordThen at word rest) bytes shows is = cc (shows.word_is, is)
word_told e (ListThen at inside rest) bytes shows is = absurd (cc (shows.word_is, is))

pub none_told : (e : Entry) (here : Members) → Shows e here → e.word ≡ None → [] ≡ word here
none_told e NoMore shows is = refl
none_told e (WordThen at word rest) shows is = absurd (cc (shows.word_is, is))
none_told e (ListThen at inside rest) shows is = refl

-- node 0 is the whole list
pub whole_first : (tree : Members) → IsOneList tree → (0 < length (nodes tree)) × (from tree 0 ≡ tree)
whole_first NoMore one = absurd one
whole_first (WordThen at bytes more) one = absurd one
whole_first (ListThen at inner more) one = (omega arith, refl)

-- nothing stands after the whole list
pub whole_last : (tree : Members) → IsOneList tree → rest (from tree 0) ≡ NoMore
whole_last NoMore one = absurd one
whole_last (WordThen at bytes more) one = absurd one
whole_last (ListThen at inner more) one = one

pub not_none : (m : Members) → 0 < count m → is_empty m ≡ false
not_none NoMore lt = absurd (omega arith)
not_none (WordThen at bytes more) lt = refl
not_none (ListThen at inner more) lt = refl

-- an answer is the place where members begin
pub record Leads (tree wanted : Members) (i : ℕ) (answer : Option ℕ) : Type 0 where
  pub begins : members_at tree answer ≡ wanted
  pub is_place : IsPlace tree answer
  pub exact : answer ≡ beginning wanted i
  pub none : IsNone answer ↔ (wanted ≡ NoMore)

leads_nowhere : (tree wanted : Members) (i : ℕ) → wanted ≡ NoMore → Leads tree wanted i None
leads_nowhere tree wanted i none = record {
  begins = sym none;
  is_place = tt;
  exact = ap (λ (m : Members). beginning m i) (sym none);
  none = (λ _. none, λ _. refl);
}

leads_to : (tree wanted : Members) (i j : ℕ) → is_empty wanted ≡ false → i ≡ j → j < length (nodes tree) → from tree i ≡ wanted → Leads tree wanted i (Some j)
leads_to tree wanted i j some is lt begins = record {
  begins = ap (from tree) (sym is) ∙ begins;
  is_place = lt;
  exact = ap (λ (k : ℕ). Some k) (sym is) ∙ ap (λ (b : Bool). cond b None (Some i)) (sym some);
  none = (λ h. absurd (false≢true (sym h)), λ ended. absurd (false≢true (sym some ∙ ap is_empty ended)));
}

pub first_none : (tree : Members) (i below : ℕ) → below ≡ count (inside (from tree i)) → below ≡ 0 → Leads tree (inside (from tree i)) (i + 1) None
first_none tree i below below_is is_zero = leads_nowhere tree _ _ (count_none _ (omega arith))

pub first_some : (tree : Members) (i below : ℕ) → i < length (nodes tree) → below ≡ count (inside (from tree i)) → (below ≡ 0 → ⊥) → Leads tree (inside (from tree i)) (i + 1) (Some (i + 1))
first_some tree i below lt below_is more =
    let some = not_none (inside (from tree i)) (omega arith) in
    let p = inside_begins tree i lt some in
    leads_to tree _ _ _ some refl p.0 p.1

-- the next node stands where the node's own end, if it is as deep
pub next_some : (tree : Members) (i after depth next_depth : ℕ) → i < length (nodes tree) → after ≡ i + 1 + count (inside (from tree i)) → after < length (nodes tree) → depth ≡ depth_of tree i → next_depth ≡ depth_of tree after → next_depth ≡ depth
    → Leads tree (rest (from tree i)) (i + 1 + count (inside (from tree i))) (Some after)
next_some tree i after depth next_depth lt is lt' a b same =
    elim (none_or_some (rest (from tree i))) [
      | inl none ↦ absurd (omega (arith, rest_ends tree i lt none (omega arith), ap (depth_of tree) is))
      | inr some ↦ leads_to tree _ _ after some (sym is) lt' (rest_begins tree i lt some).1
    ]

pub next_none : (tree : Members) (i after depth : ℕ) → i < length (nodes tree) → after ≡ i + 1 + count (inside (from tree i)) → depth ≡ depth_of tree i
    → (after < length (nodes tree) → depth_of tree after ≡ depth → ⊥)
    → Leads tree (rest (from tree i)) (i + 1 + count (inside (from tree i))) None
next_none tree i after depth lt is a differs =
    elim (none_or_some (rest (from tree i))) [
      | inl none ↦ leads_nowhere tree _ _ none
      | inr some ↦ let p = rest_begins tree i lt some in absurd (differs (omega (arith, p.0)) (ap (depth_of tree) is ∙ p.2 ∙ sym a))
    ]
