use Rattle.std.proofs.Common.{ap, sym, subst, ◌∙◌}
use Rattle.std.specs.Prelude.{All}
use Rattle.std.specs.List.{filter}
use Rattle.logic_wp.specs.PlainClaims.{MayAsk}
use Rattle.report_audit.specs.CountedFindings.{is_passing}
use Rattle.report_audit.proofs.Uncounted.{passed_at, passing_askable, signal_at, signal_reads, uncounted_of}
use Rattle.report_audit.proofs.counting.uncounted_at.Goals as goal

pub first_unproved-requires-clause-claims : goal.first_unproved-requires-clause-claims
first_unproved-requires-clause-claims c =
    let monitor = c.args.monitor.now in
    subst (All (MayAsk monitor)) (sym (c.deref.ensures.value ∙ c.in_ok-passing.ensures ∙ ap (filter (is_passing c.args.plan.now c.args.condition)) c.requires.claims))
    (passing_askable monitor c.args.plan.now c.args.condition c.requires.plan c.requires.kept)

pub returns-in-None : goal.returns-in-None
returns-in-None c =
    passed_at c.args.monitor.now c.args.plan.now c.args.condition c.items-2.result.now c.deref.result.now c.in_ok-first_unproved.field-0 c.items-2.ensures
    (c.deref.ensures.value ∙ c.in_ok-passing.ensures ∙ ap (filter (is_passing c.args.plan.now c.args.condition)) c.requires.claims) c.in-None.is c.in_ok-first_unproved.ensures

pub uncounted_by_rows-requires-clause-reads : goal.uncounted_by_rows-requires-clause-reads
uncounted_by_rows-requires-clause-reads c =
    let monitor = c.args.monitor.now in
    let plan = c.args.plan.now in
    let kind = signal_at monitor plan c.args.condition c.items.result.now c.is_broadcast_at.result c.requires.plan c.requires.condition c.items.ensures c.is_broadcast_at.ensures c.if-is_broadcast_at.false in
    signal_reads monitor plan c.args.condition c.blocks-blocks.ensures.rule c.requires.plan c.requires.sight c.requires.condition kind

pub returns : goal.returns
returns c =
    let monitor = c.args.monitor.now in
    let plan = c.args.plan.now in
    uncounted_of monitor plan c.args.condition c.items-2.result.now c.deref.result.now c.in_ok-first_unproved.field-0 c.in-Some.claim c.uncounted_by_rows.result
    c.items-2.ensures (c.deref.ensures.value ∙ c.in_ok-passing.ensures ∙ ap (filter (is_passing plan c.args.condition)) c.requires.claims)
    (signal_at monitor plan c.args.condition c.items.result.now c.is_broadcast_at.result c.requires.plan c.requires.condition c.items.ensures c.is_broadcast_at.ensures c.if-is_broadcast_at.false)
    c.in-Some.is c.in_ok-first_unproved.ensures c.uncounted_by_rows.ensures
