use Rattle.std.proofs.Common.{◌≡◌, sym, subst}
use Rattle.front_command.specs.declared.command.Command.{Command as Words}
use Rattle.front_command.specs.declared.command.Command.TheVariants.{Stress}
use Rattle.front_command.specs.Commands.{command_meant}
use Rattle.expresso_answers.specs.Ending.{CommandEnds}
use Rattle.expresso.proofs.work.work_in_threads.Goals as goal

pub returns-in-Stress-clause-ended : goal.returns-in-Stress-clause-ended
returns-in-Stress-clause-ended g c =
    let files = g.F.Files.seen c.args.files.now in
    let is : c.args.command ≡ Stress c.in-Stress.number c.in-Stress.workers = cc c.in-Stress.is in
    subst (λ (command : Words). CommandEnds (command_meant command) files files c.run_large.result (g.S.Sink.seen c.args.out.now) (g.S.Sink.seen c.run_large.new.out)) (sym is) (c.run_large.ensures files)
