use Rattle.std.proofs.Common.{List, length, refl, subst, sym, ◌≤◌, ℕ}
use Rattle.front_command.specs.CommandLine.{as_report, recheck}
use Rattle.expresso_answers.proofs.Ending.{memory_ended}
use Rattle.expresso_reports.proofs.Judged.{judged_ended, report_limit}
use Rattle.expresso_reports.proofs.recheck.recheck_files.Goals as goal

pub returns-in-Err-clause-ended : goal.returns-in-Err-clause-ended
returns-in-Err-clause-ended g c = c.in-Err.ensures.ended as_report (report_limit c.args.report.now _ refl refl) (recheck c.args.monitor.now c.args.report.now) refl

pub judged-requires : goal.judged-requires
judged-requires g c = subst (λ (b : List ℕ). length b ≤ 16777216) (sym c.deref.ensures.value) c.in-Ok.ensures.short

pub returns-in-Ok-judged-clause-ended : goal.returns-in-Ok-judged-clause-ended
returns-in-Ok-judged-clause-ended g c =
    let opened = c.in-Ok.opened in
    judged_ended c.one_spelling.ensures.one c.derives_one_tree.ensures.monitors c.args.monitor.now c.args.report.now opened.bytes.items c.deref.result.now (g.F.Files.seen c.args.files.now)
    c.deref.ensures.value c.in-Ok.ensures.told c.in-Ok.ensures.short opened.found.tree opened.found.monitor c.in-Ok.ensures.holds
    (g.F.Files.seen c.open_both.new.files) c.in-Ok-judged.found _ (g.S.Sink.seen c.args.out.now) (g.S.Sink.seen c.open_both.new.out) _
    c.in-Ok.ensures.quiet.steady c.in-Ok.ensures.quiet.silent c.in-Ok-judged.ensures c.show_judgement.ensures

pub returns-clause-ended : goal.returns-clause-ended
returns-clause-ended g c =
    memory_ended (recheck c.args.monitor.now c.args.report.now) (g.F.Files.seen c.args.files.now) (g.F.Files.seen c.open_both.new.files) _
    (g.S.Sink.seen c.args.out.now) (g.S.Sink.seen c.open_both.new.out) refl c.in-Ok.ensures.quiet.silent
