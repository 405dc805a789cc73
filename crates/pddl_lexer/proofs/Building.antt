-- What a builder kept while it reads.
use Rattle.std.proofs.Common.{◌≡◌, ℕ, suc, ◌<◌, ◌≤◌, ◌+◌, ◌-◌, List, [], ◌∷◌, ◌++◌, length, set, get_or, refl, sym, ap, subst, ◌∙◌, append_assoc, arith}
use Rattle.std.proofs.lemmas.List.{append-nil, length-append, length-map, map_push, map-set, length-set, get_or-map}
use Rattle.std.proofs.Math.Seq.{set-append_seam, get_or-append_seam}
use Rattle.std.specs.Vec.{vec_len}
use Rattle.pddl_lexer.specs.declared.position.At.{At}
use Rattle.pddl_lexer.specs.declared.tree.Node.{Node}
use Rattle.pddl_lexer.specs.declared.builder.Builder.{Builder}
use Rattle.pddl_lexer.specs.declared.scanner.Mark.{Mark}
use Rattle.pddl_lexer.specs.declared.scanner.Mark.TheVariants.{Nothing, Bad, Opening, Closing, Beginning}
use Rattle.pddl_lexer.specs.Members.{Members, NoMore, WordThen, ListThen, count}
use Rattle.pddl_lexer.specs.Nodes.{Entry, word_entry, list_entry, entries, content_depth, entry, shown}
use Rattle.pddl_lexer.specs.Builder.{Partial, Outside, Within, joined, depth, with_member, with_end, with_mark, entries_so_far, places_open, Represents}
use Rattle.pddl_lexer.proofs.Places.{length-entries}

pub entries-joined : (deep : ℕ) (a b : Members) → entries deep (joined a b) ≡ entries deep a ++ entries deep b
entries-joined deep NoMore b = refl
entries-joined deep (WordThen at bytes more) b = ap (λ (es : List Entry). word_entry at bytes deep ∷ es) (entries-joined deep more b)
entries-joined deep (ListThen at inner more) b =
    ap (λ (es : List Entry). list_entry at deep (count inner) ∷ (entries (suc deep) inner ++ es)) (entries-joined deep more b)
    ∙ ap (λ (es : List Entry). list_entry at deep (count inner) ∷ es) (sym (append_assoc (entries (suc deep) inner) (entries deep more) (entries deep b)))

pub entries-with_member : (partial : Partial) (m : Members) → entries_so_far (with_member partial m) ≡ entries_so_far partial ++ entries (depth partial) m
entries-with_member (Outside read) m = entries-joined 0 read m
entries-with_member (Within around at read) m =
    ap (λ (es : List Entry). entries_so_far around ++ (list_entry at (depth around) 0 ∷ es)) (entries-joined (suc (depth around)) read m)
    ∙ sym (append_assoc (entries_so_far around) (list_entry at (depth around) 0 ∷ entries (suc (depth around)) read) (entries (suc (depth around)) m))

places-with_member : (partial : Partial) (m : Members) → places_open (with_member partial m) ≡ places_open partial
places-with_member (Outside read) m = refl
places-with_member (Within around at read) m = refl

pub length-places : (partial : Partial) → length (places_open partial) ≡ depth partial
length-places (Outside read) = refl
length-places (Within around at read) = omega (arith, length-append (places_open around) (length (entries_so_far around) ∷ []), length-places around)

snoc_same : (xs ys : List ℕ) (x y : ℕ) → xs ++ x ∷ [] ≡ ys ++ y ∷ [] → (xs ≡ ys) × (x ≡ y)
snoc_same [] [] x y e = (refl, cc)
snoc_same [] (b ∷ ys) x y e = absurd (omega (arith, ap length e, length-append ys (y ∷ [])))
snoc_same (a ∷ xs) [] x y e = absurd (omega (arith, ap length e, length-append xs (x ∷ [])))
snoc_same (a ∷ xs) (b ∷ ys) x y e =
    let head : a ≡ b = cc in
    let tail : xs ++ x ∷ [] ≡ ys ++ y ∷ [] = cc in
    let r = snoc_same xs ys x y tail in
    (cc (head, r.0), r.1)

pub length-shown : (text : List ℕ) (ns : List Node) → length (shown text ns) ≡ length ns
length-shown text ns = length-map {B = Entry} ns (entry text)

pub represents_word : (text : List ℕ) (b b' : Builder) (partial : Partial) (n : Node) (at : At) (word : List ℕ) → Represents text b partial → b'.nodes.items ≡ b.nodes.items ++ n ∷ [] → b'.open.items ≡ b.open.items → entry text n ≡ word_entry at word (length b.open.items)
    → Represents text b' (with_member partial (WordThen at word NoMore))
represents_word text b b' partial n at word kept nodes_are open_are is =
    let deep : length b.open.items ≡ depth partial = ap length kept.open_are ∙ length-places partial in
    record {
      nodes_are = ap (shown text) nodes_are ∙ map_push (entry text) b.nodes.items n
          ∙ ap (λ (es : List Entry). es ++ entry text n ∷ []) kept.nodes_are
          ∙ ap (λ (e : Entry). entries_so_far partial ++ e ∷ []) (is ∙ ap (word_entry at word) deep)
          ∙ sym (entries-with_member partial (WordThen at word NoMore));
      open_are = open_are ∙ kept.open_are ∙ sym (places-with_member partial (WordThen at word NoMore));
    }

pub represents_list : (text : List ℕ) (b b' : Builder) (partial : Partial) (n : Node) (at : At) → Represents text b partial → b'.nodes.items ≡ b.nodes.items ++ n ∷ [] → b'.open.items ≡ b.open.items ++ vec_len b.nodes ∷ [] → entry text n ≡ list_entry at (length b.open.items) 0
    → Represents text b' (Within partial at NoMore)
represents_list text b b' partial n at kept nodes_are open_are is =
    let deep : length b.open.items ≡ depth partial = ap length kept.open_are ∙ length-places partial in
    let long : length b.nodes.items ≡ length (entries_so_far partial) = sym (length-shown text b.nodes.items) ∙ ap length kept.nodes_are in
    record {
      nodes_are = ap (shown text) nodes_are ∙ map_push (entry text) b.nodes.items n
          ∙ ap (λ (es : List Entry). es ++ entry text n ∷ []) kept.nodes_are
          ∙ ap (λ (e : Entry). entries_so_far partial ++ e ∷ []) (is ∙ ap (λ (d : ℕ). list_entry at d 0) deep);
      open_are = open_are ∙ ap (λ (xs : List ℕ). xs ++ vec_len b.nodes ∷ []) kept.open_are
          ∙ ap (λ (n : ℕ). places_open partial ++ n ∷ []) (b.nodes.ok.0 ∙ long);
    }

-- where the innermost open list stands
pub record IsInnermost (partial : Partial) (list : ℕ) (open' : List ℕ) : Type 0 where
  pub around : Partial
  pub at : At
  pub read : Members
  pub is : partial ≡ Within around at read
  pub list_is : list ≡ length (entries_so_far around)
  pub others_are : open' ≡ places_open around

pub innermost : (partial : Partial) (list : ℕ) (open' : List ℕ) → places_open partial ≡ open' ++ list ∷ [] → IsInnermost partial list open'
innermost (Outside read) list open' e = absurd (omega (arith, ap length e, length-append open' (list ∷ [])))
innermost (Within around at read) list open' e =
    let r = snoc_same _ _ _ _ e in
    record { around = around; at = at; read = read; is = refl; list_is = sym r.1; others_are = sym r.0 }

pub list_within : (text : List ℕ) (b : Builder) (partial : Partial) (list : ℕ) (open' : List ℕ) → Represents text b partial → b.open.items ≡ open' ++ list ∷ [] → list + 1 ≤ length b.nodes.items
list_within text b partial list open' kept e =
    let i = innermost partial list open' (sym kept.open_are ∙ e) in
    omega (arith, i.list_is, length-shown text b.nodes.items, ap length kept.nodes_are, ap (λ (h : Partial). length (entries_so_far h)) i.is, length-append (entries_so_far i.around) (list_entry i.at (depth i.around) 0 ∷ entries (suc (depth i.around)) i.read))

-- the nodes that an open list has, once it is closed
closed_nodes : (around : Partial) (at : At) (read : Members) → set (entries_so_far (Within around at read)) (length (entries_so_far around)) (list_entry at (depth around) (count read)) ≡ entries_so_far (with_member around (ListThen at read NoMore))
closed_nodes around at read =
    set-append_seam (entries_so_far around) (list_entry at (depth around) 0) (entries (suc (depth around)) read) (list_entry at (depth around) (count read))
    ∙ ap (λ (es : List Entry). entries_so_far around ++ (list_entry at (depth around) (count read) ∷ es)) (sym (append-nil (entries (suc (depth around)) read)))
    ∙ sym (entries-with_member around (ListThen at read NoMore))

-- what stands at a place adds one node at most
pub one_node_more : (mark : Mark) (at : At) (word : List ℕ) (partial : Partial) → length (entries_so_far (with_mark mark at word partial)) ≤ suc (length (entries_so_far partial))
one_node_more Nothing at word partial = omega arith
one_node_more Bad at word partial = omega arith
one_node_more Opening at word partial = omega (arith, length-append (entries_so_far partial) (list_entry at (depth partial) 0 ∷ []))
one_node_more Closing at word (Outside read) = omega arith
one_node_more Closing at word (Within around at' read) =
    omega (arith, ap length (closed_nodes around at' read), length-set (entries_so_far (Within around at' read)) (length (entries_so_far around)) (list_entry at' (depth around) (count read)))
one_node_more Beginning at word partial =
    omega (arith, ap length (entries-with_member partial (WordThen at word NoMore)), length-append (entries_so_far partial) (word_entry at word (depth partial) ∷ []))

-- the node of an open list
open_node : (around : Partial) (at : At) (read : Members) (d : Entry) → get_or (entries_so_far (Within around at read)) (length (entries_so_far around)) d ≡ list_entry at (depth around) 0
open_node around at read d = get_or-append_seam (entries_so_far around) (list_entry at (depth around) 0) (entries (suc (depth around)) read) d

represents_end_within : (text : List ℕ) (b b' : Builder) (around : Partial) (at : At) (read : Members) (list below : ℕ) (n n' : Node) → Represents text b (Within around at read) → list ≡ length (entries_so_far around) → b'.open.items ≡ places_open around
    → n ≡ get_or b.nodes.items list n → b'.nodes.items ≡ set b.nodes.items list n' → entry text n' ≡ list_entry n.at (content_depth n.content) below → below ≡ length b.nodes.items - list - 1
    → Represents text b' (with_member around (ListThen at read NoMore))
represents_end_within text b b' around at read list below n n' kept list_is others n-is nodes_are is below_is =
    let long = length-append (entries_so_far around) (list_entry at (depth around) 0 ∷ entries (suc (depth around)) read) in
    let total : length b.nodes.items ≡ length (entries_so_far around) + suc (count read) = omega (arith, long, length-shown text b.nodes.items, ap length kept.nodes_are, length-entries (suc (depth around)) read) in
    let within : list < length b.nodes.items = omega (arith, total, list_is) in
    let node : entry text n ≡ list_entry at (depth around) 0 =
    ap (entry text) n-is ∙ sym (get_or-map (entry text) b.nodes.items list n (entry text n) within)
    ∙ ap (λ (es : List Entry). get_or es list (entry text n)) kept.nodes_are
    ∙ ap (λ (k : ℕ). get_or (entries_so_far (Within around at read)) k (entry text n)) list_is
    ∙ open_node around at read (entry text n) in
    let counted : below ≡ count read = omega (arith, total, list_is, below_is) in
    let node' : entry text n' ≡ list_entry at (depth around) (count read) =
    is ∙ ap (λ (e : Entry). list_entry e.at e.depth below) node ∙ ap (λ (k : ℕ). list_entry at (depth around) k) counted in
    record {
      nodes_are = ap (shown text) nodes_are ∙ map-set (entry text) b.nodes.items list n'
          ∙ ap (λ (es : List Entry). set es list (entry text n')) kept.nodes_are
          ∙ ap (λ (e : Entry). set (entries_so_far (Within around at read)) list e) node'
          ∙ ap (λ (k : ℕ). set (entries_so_far (Within around at read)) k (list_entry at (depth around) (count read))) list_is
          ∙ closed_nodes around at read;
      open_are = others ∙ sym (places-with_member around (ListThen at read NoMore));
    }

pub represents_end : (text : List ℕ) (b b' : Builder) (partial : Partial) (list len : ℕ) (n n' : Node) → Represents text b partial → b.open.items ≡ b'.open.items ++ list ∷ []
    → n ≡ get_or b.nodes.items list n → b'.nodes.items ≡ set b.nodes.items list n' → entry text n' ≡ list_entry n.at (content_depth n.content) (len - list - 1) → len ≡ length b.nodes.items
    → Represents text b' (with_end partial)
represents_end text b b' partial list len n n' kept open_is n-is nodes_are is len_is =
    let i = innermost partial list b'.open.items (sym kept.open_are ∙ open_is) in
    subst (λ (h : Partial). Represents text b' (with_end h)) (sym i.is)
    (represents_end_within text b b' i.around i.at i.read list (len - list - 1) n n' (subst (Represents text b) i.is kept) i.list_is i.others_are n-is nodes_are is (omega (arith, len_is)))
