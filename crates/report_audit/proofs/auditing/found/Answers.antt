use Rattle.std.proofs.Common.{ℕ, List, length, ap, subst, arith}
use Rattle.lang_monitor.specs.declared.candidate.Candidate.{Candidate}
use Rattle.report_verdict.proofs.Counted.{kept_are_few}
use Rattle.report_audit.specs.inner.Seen.{IsFalseAt}
use Rattle.report_audit.proofs.FoundByCounting.{start_found}
use Rattle.report_audit.proofs.auditing.found.Goals as goal

pub first_false-requires : goal.first_false-requires
first_false-requires c =
    omega (arith, kept_are_few c.args.monitor.now c.args.plan.now.kept c.blocks-blocks.ensures.rule c.requires.kept, ap {B = ℕ} length c.items.ensures)

pub returns-in-Some : goal.returns-in-Some
returns-in-Some c =
    let monitor = c.args.monitor.now in
    let told = subst (λ (kept : List Candidate). IsFalseAt monitor kept c.first_false.result) c.items.ensures c.first_false.ensures in
    let own = subst (IsFalseAt monitor c.args.plan.now.kept) c.in-Some.is told in
    start_found c.args.count monitor c.args.plan.now c.in-Some.kept (record { here = own.0; before = own.1 })

pub suited-requires-clause-starts : goal.suited-requires-clause-starts
suited-requires-clause-starts c =
    let monitor = c.args.monitor.now in
    let told = subst (λ (kept : List Candidate). IsFalseAt monitor kept c.first_false.result) c.items.ensures c.first_false.ensures in
    subst (IsFalseAt monitor c.args.plan.now.kept) c.in-None.is told
