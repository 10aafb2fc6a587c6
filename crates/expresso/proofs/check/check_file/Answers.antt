use Rattle.std.proofs.Common.{refl}
use Rattle.lang_printer.specs.Canonical.{tree_text}
use Rattle.expresso_answers.specs.declared.status.Status.TheVariants.{Done}
use Rattle.front_command.specs.CommandLine.{check}
use Rattle.expresso.proofs.Compiled.{check_done}
use Rattle.expresso_answers.proofs.Outcomes.{written_since}
use Rattle.expresso.proofs.check.check_file.Goals as goal

pub returns-in-Ok-clause-ended : goal.returns-in-Ok-clause-ended
returns-in-Ok-clause-ended g c =
    check_done c.args.file.now c.in-Ok.found.tree c.in-Ok.found.monitor
    (g.F.Files.seen c.args.files.now) (g.F.Files.seen c.monitor_of.new.files) _ (g.S.Sink.seen c.args.out.now) _ c.in-Ok.ensures.holds c.in-Ok.ensures.quiet.steady
    (written_since Done (tree_text c.in-Ok.found.tree) _ _ _ _ c.in-Ok.ensures.quiet.silent c.show_tree.ensures)

pub returns-in-Err-clause-ended : goal.returns-in-Err-clause-ended
returns-in-Err-clause-ended g c = c.in-Err.ensures.ended (check c.args.file.now) refl
