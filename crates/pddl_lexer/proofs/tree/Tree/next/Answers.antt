use Rattle.std.proofs.Common.{◌≡◌, ◌+◌, None, ℕ, refl, sym, ap, ◌∙◌, arith}
use Rattle.pddl_lexer.specs.Members.{count, inside, rest, from}
use Rattle.pddl_lexer.proofs.Places.{Leads, next_some, next_none, whole_last}
use Rattle.pddl_lexer.proofs.tree.Tree.next.Goals as goal
use Rattle.pddl_lexer.proofs.tree.Tree.next.Goals.{else-after-len-via-then-after-len+else-depth, else-after-len-via-else-after-len}

pub returns-then-depth : goal.returns-then-depth
returns-then-depth c =
    let l = next_some _ _ _ _ _ c.requires (omega (arith, c.below.ensures, c.node-node.ensures.shows.1.below_is)) (omega (arith, c.len.ensures.nodes)) (c.depth-then-after-len.ensures ∙ c.node-node.ensures.depth) (c.depth.ensures ∙ c.node.ensures.depth) c.if-depth.true in
    record {
      begins = l.begins;
      is_place = l.is_place;
      exact = l.exact;
      none = l.none;
      whole = λ is. l.none.1 (ap (λ (i : ℕ). rest (from c.args.self.now i)) is ∙ whole_last c.args.self.now c.len.ensures.one_list);
    }

pub returns-else-after-len : goal.returns-else-after-len
returns-else-after-len c =
    let is : c.args.i + 1 + c.below.result ≡ c.args.i + 1 + count (inside (from c.args.self.now c.args.i)) = omega (arith, c.below.ensures, c.node-node.ensures.shows.1.below_is) in
    let l : Leads c.args.self.now (rest (from c.args.self.now c.args.i)) (c.args.i + 1 + count (inside (from c.args.self.now c.args.i))) None =
    elim c.else-after-len.branch [
      | else-after-len-via-then-after-len+else-depth w ↦ next_none _ _ _ _ c.requires is c.node-node.ensures.depth (λ lt same. w.if-depth.false (w.depth.ensures ∙ w.node.ensures.depth ∙ same ∙ sym w.depth-then-after-len.ensures))
      | else-after-len-via-else-after-len w ↦ next_none _ _ _ _ c.requires is c.node-node.ensures.depth (λ lt same. omega (arith, c.len.ensures.nodes))
    ] in
    record { begins = l.begins; is_place = l.is_place; exact = l.exact; none = l.none; whole = λ _. refl }
