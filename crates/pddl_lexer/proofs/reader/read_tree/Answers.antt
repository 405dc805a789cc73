use Rattle.std.proofs.Common.{Err, refl, ap}
use Rattle.lists.proofs.Stops.{first_same, some_first}
use Rattle.pddl_lexer.proofs.Spelled.{tree_of_spelled}
use Rattle.pddl_lexer.specs.declared.fault.Fault.{Fault}
use Rattle.lists.specs.declared.stop.Stop.TheVariants as stops
use Rattle.pddl_lexer.proofs.ReaderTurns.{Whole, IsAnswer, counts, few_open, few_nodes, line_fits, column_fits, fault_here, fault_end, nothing_passed, passed_more, passed_all, passed_answer, first_and_others, first_and_after, nothing}
use Rattle.pddl_lexer.proofs.reader.read_tree.Goals as goal
use Rattle.pddl_lexer.proofs.reader.read_tree.Goals.{In-None, After-drop-builder-2}

-- ---- a fault at a place

pub returns-in-Some-clause-first : goal.returns-in-Some-clause-first
returns-in-Some-clause-first c =
    fault_here _ _ _ _ c.loop-text.invariant _ _ c.mark-mark.result c.in-Some.kind
    (first_and_others _ c.in-len1-up.len_at_least)
    (c.mark-mark.ensures _ c.loop-text.invariant.stands)
    (c.in-Some.ensures _ (counts _ _ _ _ c.loop-text.invariant))

pub returns-in-Some-clause-ok : goal.returns-in-Some-clause-ok
returns-in-Some-clause-ok c = λ none. absurd (some_first _ _ (returns-in-Some-clause-first c) none)

pub returns-in-Some-clause-fault : goal.returns-in-Some-clause-fault
returns-in-Some-clause-fault c = λ fault first. ap (λ (f : Fault). Err (stops.Fault f)) (first_same _ _ _ (returns-in-Some-clause-first c) first)

-- ---- the turns

pub loop-text-init : goal.loop-text-init
loop-text-init c = nothing_passed _ _ _ c.new-scanner.ensures (c.new-builder.ensures.represents _) c.if-bytes-ge-BYTE_LIMIT.false

pub add-requires-clause-shallow : goal.add-requires-clause-shallow
add-requires-clause-shallow c = few_open _ _ _ _ c.loop-text.invariant

pub add-requires-clause-few : goal.add-requires-clause-few
add-requires-clause-few c = few_nodes _ _ _ _ c.loop-text.invariant

pub after-scanner-requires-clause-line : goal.after-scanner-requires-clause-line
after-scanner-requires-clause-line c = line_fits _ _ _ _ c.loop-text.invariant c.in-len1-up.len_at_least

pub after-scanner-requires-clause-column : goal.after-scanner-requires-clause-column
after-scanner-requires-clause-column c = column_fits _ _ _ _ c.loop-text.invariant c.in-len1-up.len_at_least

pub loop-text-preserved : goal.loop-text-preserved
loop-text-preserved c =
    passed_more _ _ _ _ c.loop-text.invariant _ _ c.mark-mark.result _ c.after-scanner.result c.add.new.self
    (first_and_after _ _ c.in-len1-up.len_at_least refl)
    (c.mark-mark.ensures _ c.loop-text.invariant.stands)
    refl
    (c.in_default-kind_at.ensures _ (counts _ _ _ _ c.loop-text.invariant))
    (c.after-scanner.ensures _ c.loop-text.invariant.stands)
    c.in_ok-add.ensures

-- ---- the end

pub returns-in-Some-kind_at_end-clause-first : goal.returns-in-Some-kind_at_end-clause-first
returns-in-Some-kind_at_end-clause-first c =
    fault_end _ _ _ _ c.loop-text.invariant c.in-Some-kind_at_end.kind
    (nothing _ c.in_default.len_below)
    (c.in-Some-kind_at_end.ensures _ (counts _ _ _ _ c.loop-text.invariant))

pub returns-in-Some-kind_at_end-clause-ok : goal.returns-in-Some-kind_at_end-clause-ok
returns-in-Some-kind_at_end-clause-ok c = λ none. absurd (some_first _ _ (returns-in-Some-kind_at_end-clause-first c) none)

pub returns-in-Some-kind_at_end-clause-fault : goal.returns-in-Some-kind_at_end-clause-fault
returns-in-Some-kind_at_end-clause-fault c = λ fault first. ap (λ (f : Fault). Err (stops.Fault f)) (first_same _ _ _ (returns-in-Some-kind_at_end-clause-first c) first)

-- the whole of the text is read
read_whole : (c : In-None) → Whole c.args.bytes.now c.loop-text.builder
read_whole c = passed_all _ _ _ _ c.loop-text.invariant (nothing _ c.in_default.len_below) (c.in-None.ensures _ (counts _ _ _ _ c.loop-text.invariant))

pub of_nodes-requires : goal.of_nodes-requires
of_nodes-requires c = let w = read_whole c in (w.tree, w.nodes_are)

-- what is answered is the tree that was read
answer : (c : After-drop-builder-2) → IsAnswer c.args.bytes.now c.of_nodes.result
answer c =
    passed_answer _ _ c.of_nodes.result
    (passed_all _ _ _ _ c.loop-text.invariant (nothing _ c.in_default.len_below) (c.in-None.ensures _ (counts _ _ _ _ c.loop-text.invariant)))
    c.of_nodes.ensures

pub returns-clause-tree : goal.returns-clause-tree
returns-clause-tree c = (answer c).is_tree

pub returns-clause-words : goal.returns-clause-words
returns-clause-words c = (answer c).spells

pub returns-clause-nested : goal.returns-clause-nested
returns-clause-nested c = tree_of_spelled _ _ (answer c).spells

pub returns-clause-faultless : goal.returns-clause-faultless
returns-clause-faultless c = (answer c).faultless

pub returns-clause-fault : goal.returns-clause-fault
returns-clause-fault c = λ fault first. absurd (some_first _ _ first (answer c).faultless)
