use Rattle.std.proofs.Common.{refl}
use Rattle.front_command.specs.CommandLine.{as_plan, audit}
use Rattle.expresso_answers.proofs.Ending.{memory_ended}
use Rattle.expresso_reports.proofs.Audited.{audit_ended, plan_limit}
use Rattle.expresso_reports.proofs.audit.audit_files.Goals as goal

pub returns-in-Err-clause-ended : goal.returns-in-Err-clause-ended
returns-in-Err-clause-ended g c =
    c.in-Err.ensures.ended (as_plan c.args.count) (plan_limit c.args.count c.args.plan.now _ refl refl) (audit c.args.monitor.now c.args.plan.now c.args.count) refl

pub returns-in-Ok-audited-clause-ended : goal.returns-in-Ok-audited-clause-ended
returns-in-Ok-audited-clause-ended g c =
    let opened = c.in-Ok.opened in
    audit_ended c.one_spelling.ensures.one c.derives_one_tree.ensures.monitors c.args.count c.args.monitor.now c.args.plan.now opened.bytes.items c.deref.result.now (g.F.Files.seen c.args.files.now)
    c.deref.ensures.value c.in-Ok.ensures.told c.in-Ok.ensures.short opened.found.tree opened.found.monitor c.in-Ok.ensures.holds
    (g.F.Files.seen c.open_both.new.files) c.in-Ok-audited.found _ (g.S.Sink.seen c.args.out.now) (g.S.Sink.seen c.open_both.new.out) _
    c.in-Ok.ensures.quiet.steady c.in-Ok.ensures.quiet.silent c.in-Ok-audited.ensures c.show_judged.ensures

pub returns-clause-ended : goal.returns-clause-ended
returns-clause-ended g c =
    memory_ended (audit c.args.monitor.now c.args.plan.now c.args.count) (g.F.Files.seen c.args.files.now) (g.F.Files.seen c.open_both.new.files) _
    (g.S.Sink.seen c.args.out.now) (g.S.Sink.seen c.open_both.new.out) refl c.in-Ok.ensures.quiet.silent
