use Rattle.std.proofs.Common.{ap, subst, sym}
use Rattle.front_command.specs.CommandLine.{Command}
use Rattle.front_command.specs.Commands.{command_meant}
use Rattle.expresso_answers.specs.Ending.{CommandEnds}
use Rattle.expresso.proofs.work.work.Goals as goal

pub returns-in-Version-clause-ended : goal.returns-in-Version-clause-ended
returns-in-Version-clause-ended g c =
    let seen = g.F.Files.seen c.args.files.now in
    subst (λ (command : Command). CommandEnds command seen seen c.version.result (g.S.Sink.seen c.args.out.now) (g.S.Sink.seen c.version.new.out))
    (sym (ap command_meant c.in-Version.is)) (c.version.ensures seen)
