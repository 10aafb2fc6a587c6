use Rattle.std.proofs.Common.{false, refl}
use Rattle.expresso_answers.specs.Texts.{explained_text}
use Rattle.expresso_answers.specs.declared.status.Status.TheVariants.{Done}
use Rattle.front_command.specs.CommandLine.{explain}
use Rattle.expresso_reports.proofs.Explained.{explain_done}
use Rattle.expresso_answers.proofs.Outcomes.{written_since}
use Rattle.expresso_reports.proofs.explain.explain_file.Goals as goal

pub returns-in-Err-clause-ended : goal.returns-in-Err-clause-ended
returns-in-Err-clause-ended g c = c.in-Err.ensures.ended (explain c.args.file.now false false) refl

pub returns-in-Ok-explanation_of-clause-ended : goal.returns-in-Ok-explanation_of-clause-ended
returns-in-Ok-explanation_of-clause-ended g c =
    let found = c.in-Ok.found in
    let explanation = c.in-Ok-explanation_of.explanation in
    explain_done c.args.file.now found.tree found.monitor explanation.plan explanation.reasons.items
    (g.F.Files.seen c.args.files.now) (g.F.Files.seen c.monitor_of.new.files) _ (g.S.Sink.seen c.args.out.now) _ c.in-Ok.ensures.holds c.in-Ok-explanation_of.ensures c.in-Ok.ensures.quiet.steady
    (written_since Done (explained_text found.tree found.monitor explanation.plan explanation.reasons.items) _ _ _ _ c.in-Ok.ensures.quiet.silent c.show_explanation.ensures)
