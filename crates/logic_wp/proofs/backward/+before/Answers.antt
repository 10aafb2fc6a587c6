use Rattle.std.proofs.Common.{◌-◌, arith, rules, refl}
use Rattle.lang_monitor.specs.declared.monitor.Stmt.TheViews.{the_lemmas}
use Rattle.logic_linear.proofs.LinearLemmas.{mapped_at}
use Rattle.logic_wp.specs.inner.Negatable.{negates_statement}
use Rattle.logic_wp.proofs.BodyParts.{body_begins, body_stops, body_turns, if_before, put_before}
use Rattle.logic_wp.proofs.backward.+before.Goals as goal

pub before_body-loop-left-init : goal.before_body-loop-left-init
before_body-loop-left-init t c = body_begins c.args.body.now c.args.parts.now c.in_ok-made.made.items c.in_ok-made.ensures

pub before_body-before_statement-requires : goal.before_body-before_statement-requires
before_body-before_statement-requires t c =
    (search (rules, the_lemmas), rw c.index-body-left.is (mapped_at negates_statement c.args.body.now _ c.index-body-left.result (omega (arith, c.loop-left-test.true, c.loop-left.invariant.within)) c.requires))

pub before_body-returns-in_default : goal.before_body-returns-in_default
before_body-returns-in_default t c =
    body_stops c.args.body.now c.args.parts.now c.loop-left.left (c.loop-left.left - 1) c.index-body-left.result c.loop-left.made.items c.deref.result.now c.in_ok-next.field-0
    c.loop-left.invariant c.loop-left-test.true refl c.index-body-left.is c.deref.ensures.value c.in_ok-next.ensures c.in_default.is

pub before_body-loop-left-preserved : goal.before_body-loop-left-preserved
before_body-loop-left-preserved t c =
    rw c.into_items-made.ensures
    (body_turns c.args.body.now c.args.parts.now c.loop-left.left (c.loop-left.left - 1) c.index-body-left.result c.loop-left.made.items c.deref.result.now c.in-Some.next c.in_ok-next.field-0
    c.loop-left.invariant c.loop-left-test.true refl c.index-body-left.is c.deref.ensures.value c.in_ok-next.ensures c.in-Some.is)

pub before_statement-returns-in_ok-before_step-in-Put : goal.before_statement-returns-in_ok-before_step-in-Put
before_statement-returns-in_ok-before_step-in-Put t c =
    put_before c.args.statement.now c.in-Put.put c.in_ok-copy-in-Put.copy c.args.parts.now c.in_ok-before_step-in-Put.field-0
    c.in-Put.is c.in_ok-copy-in-Put.ensures c.in_ok-before_step-in-Put.ensures

pub before_statement-returns-in_ok-before_branches-in-If : goal.before_statement-returns-in_ok-before_branches-in-If
before_statement-returns-in_ok-before_branches-in-If t c =
    if_before c.args.statement.now c.in-If.when c.in-If.then c.in-If.other c.items.result.now c.items-in-If.result.now c.args.parts.now c.in_ok-bodies-in-If.bodies c.in_ok-others-in-If.others c.in_ok-before_branches-in-If.field-0
    c.in-If.is c.items.ensures c.items-in-If.ensures c.in_ok-bodies-in-If.ensures c.in_ok-others-in-If.ensures c.in_ok-before_branches-in-If.ensures
