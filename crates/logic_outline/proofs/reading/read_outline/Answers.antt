use Rattle.std.proofs.Common.{◌∷◌, ◌++◌, List, [], arith, ap, codes, refl, reverse, subst, sym, ◌∙◌}
use Rattle.logic_outline.specs.declared.outline.Node.{Node}
use Rattle.logic_outline.specs.Outlines.{IsTyped}
use Rattle.logic_outline.specs.Readings.{IsRead}
use Rattle.logic_outline.specs.inner.Parts.{later_node, node_text}
use Rattle.logic_outline.proofs.ByNodes.{Ready, after_is, after_node, at_start, ends, first_read, is_whole, none_after, stops}
use Rattle.logic_outline.proofs.reading.read_outline.Goals as goal

pub returns-in_default : goal.returns-in_default
returns-in_default c =
    let bytes = c.args.bytes.now in
    stops bytes [] (codes " " ++ bytes) 1 [] (omega arith) (first_read bytes _ (subst (IsRead node_text IsTyped bytes) c.in_default.is c.in_ok-first.ensures)) (at_start bytes)

pub returns-in_default-2 : goal.returns-in_default-2
returns-in_default-2 c =
    let bytes = c.args.bytes.now in
    none_after bytes [] (codes " " ++ bytes) 1 [] (reverse c.after_node.new.later.items) (c.in-Some.first, c.in-Some.rest) (omega arith)
    (first_read bytes _ (subst (IsRead node_text IsTyped bytes) c.in-Some.is c.in_ok-first.ensures))
    (after_is c.in-Some.first 1 (reverse c.new-later.result.items) [] c.in-Some.rest.now (reverse c.after_node.new.later.items) _ _ (ap reverse c.new-later.ensures.items) c.in_default-2.is c.in_ok-due.ensures)
    (at_start bytes)

pub loop-due-init : goal.loop-due-init
loop-due-init c =
    let bytes = c.args.bytes.now in
    subst (λ (nodes : List Node). Ready bytes nodes c.in-Some-2.left.now c.in-Some-2.due (reverse c.after_node.new.later.items))
    (sym (c.in_ok-push.ensures.items ∙ ap (λ (nodes : List Node). nodes ++ c.in-Some.first ∷ []) c.new-nodes.ensures.items))
    (after_node bytes [] (codes " " ++ bytes) 1 [] (reverse c.after_node.new.later.items) (c.in-Some.first, c.in-Some.rest) (c.in-Some-2.due, c.in-Some-2.left) (omega arith)
    (first_read bytes _ (subst (IsRead node_text IsTyped bytes) c.in-Some.is c.in_ok-first.ensures))
    (after_is c.in-Some.first 1 (reverse c.new-later.result.items) [] c.in-Some.rest.now (reverse c.after_node.new.later.items) _ _ (ap reverse c.new-later.ensures.items) c.in-Some-2.is c.in_ok-due.ensures)
    (at_start bytes))

pub returns-in_default-3 : goal.returns-in_default-3
returns-in_default-3 c =
    stops c.args.bytes.now c.loop-due.nodes.items c.loop-due.left.now c.loop-due.due (reverse c.loop-due.later.items) (omega (arith, c.loop-due-test.true))
    (subst (IsRead later_node IsTyped c.loop-due.left.now) c.in_default-3.is c.in_ok-node.ensures) c.loop-due.invariant.reads

pub returns-in_default-4 : goal.returns-in_default-4
returns-in_default-4 c =
    none_after c.args.bytes.now c.loop-due.nodes.items c.loop-due.left.now c.loop-due.due (reverse c.loop-due.later.items) (reverse c.after_node-in-loop-due.new.later.items) (c.in-Some-3.node, c.in-Some-3.rest)
    (omega (arith, c.loop-due-test.true)) (subst (IsRead later_node IsTyped c.loop-due.left.now) c.in-Some-3.is c.in_ok-node.ensures)
    (after_is c.in-Some-3.node c.loop-due.due (reverse c.loop-due.later.items) _ c.in-Some-3.rest.now (reverse c.after_node-in-loop-due.new.later.items) _ _ refl c.in_default-4.is c.in_ok-count.ensures)
    c.loop-due.invariant.reads

pub loop-due-preserved : goal.loop-due-preserved
loop-due-preserved c =
    subst (λ (nodes : List Node). Ready c.args.bytes.now nodes c.in-Some-4.rest.now c.in-Some-4.count (reverse c.after_node-in-loop-due.new.later.items)) (sym c.in_ok-push-2.ensures.items)
    (after_node c.args.bytes.now c.loop-due.nodes.items c.loop-due.left.now c.loop-due.due (reverse c.loop-due.later.items) (reverse c.after_node-in-loop-due.new.later.items) (c.in-Some-3.node, c.in-Some-3.rest)
    (c.in-Some-4.count, c.in-Some-4.rest) (omega (arith, c.loop-due-test.true)) (subst (IsRead later_node IsTyped c.loop-due.left.now) c.in-Some-3.is c.in_ok-node.ensures)
    (after_is c.in-Some-3.node c.loop-due.due (reverse c.loop-due.later.items) _ c.in-Some-3.rest.now (reverse c.after_node-in-loop-due.new.later.items) _ _ refl c.in-Some-4.is c.in_ok-count.ensures)
    c.loop-due.invariant.reads)

pub of-requires : goal.of-requires
of-requires c = is_whole c.args.bytes.now c.loop-due.nodes.items c.loop-due.left.now c.loop-due.due (reverse c.loop-due.later.items) (omega (arith, c.loop-due-test.false)) c.loop-due.invariant

pub returns : goal.returns
returns c = rw c.of.ensures (ends c.args.bytes.now c.loop-due.nodes.items c.loop-due.left c.loop-due.due (reverse c.loop-due.later.items) (omega (arith, c.loop-due-test.false)) c.loop-due.invariant)
