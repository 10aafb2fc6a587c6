use Rattle.std.proofs.Common.{◌≡◌, ◌+◌, List, [], ◌∷◌, ◌++◌, length, rules, ap, sym, subst, arith}
use Rattle.std.specs.List.{enumerate_from}
use Rattle.machine_events.specs.declared.plan.Note.{Note}
use Rattle.machine_events.specs.PlanText.{block_text}
use Rattle.report_verdict.specs.Reports.{AreNotesOf}
use Rattle.report_proofs.specs.Fronts.{Anything}
use Rattle.report_proofs.proofs.Fronts.{AreGoing, Found, going_start}
use Rattle.report_proofs.proofs.PlanParts.{block_line, lists_end, lists_more, lists_stop}
use Rattle.report_proofs.proofs.notes.read_lists.Goals as goal

pub loop-index-init : goal.loop-index-init
loop-index-init c =
    let monitor = c.args.monitor.now in
    let items = enumerate_from 0 monitor.blocks in
    subst (λ (lists : List (List Note)). AreGoing (block_line monitor) (AreNotesOf monitor) items c.args.bytes.now 0 lists c.args.bytes.now) (sym c.new-lists.ensures.items)
    (going_start (block_line monitor) (AreNotesOf monitor) items c.args.bytes.now)

pub returns-in-None : goal.returns-in-None
returns-in-None c =
    let monitor = c.args.monitor.now in
    let many = ap length c.blocks-index-end.ensures.blocks in
    lists_stop monitor c.args.bytes.now c.loop-index.index c.loop-index.lists.items c.loop-index.rest.now (omega (arith, many, c.loop-index-test.true)) c.loop-index.invariant
    (subst (Found (AreNotesOf monitor) Anything (block_text monitor c.loop-index.index) c.loop-index.rest.now) c.in-None.is c.in_ok-list.ensures)

pub loop-index-preserved : goal.loop-index-preserved
loop-index-preserved c =
    let monitor = c.args.monitor.now in
    let many = ap length c.blocks-index-end.ensures.blocks in
    let pushed : c.push.new.self.items ≡ c.loop-index.lists.items ++ c.in-Some.list ∷ [] = search rules in
    subst (λ (lists : List (List Note)). AreGoing (block_line monitor) (AreNotesOf monitor) (enumerate_from 0 monitor.blocks) c.args.bytes.now (c.loop-index.index + 1) lists c.in-Some.left.now) (sym pushed)
    (lists_more monitor c.args.bytes.now c.loop-index.index c.loop-index.lists.items c.loop-index.rest.now c.in-Some.list c.in-Some.left.now (omega (arith, many, c.loop-index-test.true)) c.loop-index.invariant
    (subst (Found (AreNotesOf monitor) Anything (block_text monitor c.loop-index.index) c.loop-index.rest.now) c.in-Some.is c.in_ok-list.ensures))

pub returns : goal.returns
returns c =
    let many = ap length c.blocks-index-end.ensures.blocks in
    lists_end c.args.monitor.now c.args.bytes.now c.loop-index.index c.loop-index.lists.items c.loop-index.rest.now (omega (arith, many, c.loop-index-test.false)) c.loop-index.invariant
