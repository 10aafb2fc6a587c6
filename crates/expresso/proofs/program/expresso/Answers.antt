use Rattle.std.proofs.Common.{◌≡◌, All, map, rules, sym, subst}
use Rattle.std.specs.Global.{Global}
use Rattle.std.specs.String.{string_bytes}
use Rattle.base_io.specs.Outside.{FilesSeen, SinkSeen}
use Rattle.front_command.specs.CommandLine.{files_of}
use Rattle.front_command.specs.Commands.{command_meant}
use Rattle.expresso.specs.ProgramEnds.{ProgramEnds}
use Rattle.expresso_answers.specs.Ending.{CommandEnds}
use Rattle.expresso_runs.specs.Ranges.{IsInRange}
use Rattle.expresso_runs.proofs.Ranges.{in_range}
use Rattle.expresso.proofs.ProgramEnded.{command_ended}
use Rattle.expresso.proofs.Promised.{headline_kept}
use Rattle.expresso.proofs.program.expresso.Given.{Over}
use Rattle.expresso.proofs.program.expresso.Goals as goal
use Rattle.expresso.proofs.program.expresso.Goals.{After-work_in_threads}

pub work_in_threads-requires-clause-files : goal.work_in_threads-requires-clause-files
work_in_threads-requires-clause-files g c =
    let command = command_meant c.in-Err.command in
    let before : All (g.F.Files.may_read c.args.files.now) (files_of command) = c.requires command c.in-Err.ensures.taken in
    let every : All (g.F.Files.may_read c.without_threads.new.files) (files_of command) = subst (λ files. All (g.F.Files.may_read files) (files_of command)) (sym c.in-Err.ensures.unread) before in
    search (rules, every)

pub work_in_threads-requires-clause-range : goal.work_in_threads-requires-clause-range
work_in_threads-requires-clause-range g c =
    let command = command_meant c.in-Err.command in
    let ranged : IsInRange command = in_range (map (string_bytes {Z = Global}) c.args.words.now.items) command c.in-Err.ensures.taken in
    search (rules, ranged)

-- the command ended from where the call began
worked : (g : Over) (c : After-work_in_threads g)
    → ProgramEnds (map (string_bytes {Z = Global}) c.args.words.now.items) (g.F.Files.seen c.args.files.now) (g.F.Files.seen c.work_in_threads.new.files) c.work_in_threads.result (g.S.Sink.seen c.args.out.now) (g.S.Sink.seen c.work_in_threads.new.out)
worked g c =
    let command = command_meant c.in-Err.command in
    command_ended c.one_command.ensures (map (string_bytes {Z = Global}) c.args.words.now.items) command (g.F.Files.seen c.args.files.now) (g.F.Files.seen c.work_in_threads.new.files) c.work_in_threads.result
    (g.S.Sink.seen c.args.out.now) (g.S.Sink.seen c.work_in_threads.new.out) c.in-Err.ensures.taken
    (subst (λ files. CommandEnds command (g.F.Files.seen files) (g.F.Files.seen c.work_in_threads.new.files) c.work_in_threads.result (g.S.Sink.seen c.args.out.now) (g.S.Sink.seen c.work_in_threads.new.out)) c.in-Err.ensures.unread
    (subst (λ out. CommandEnds command (g.F.Files.seen c.without_threads.new.files) (g.F.Files.seen c.work_in_threads.new.files) c.work_in_threads.result (g.S.Sink.seen out) (g.S.Sink.seen c.work_in_threads.new.out)) c.in-Err.ensures.silent
    c.work_in_threads.ensures.ended))

pub returns-in-Err-clause-ended : goal.returns-in-Err-clause-ended
returns-in-Err-clause-ended g c = worked g (goal.at.returns-in-Err-clause-ended g c).After-work_in_threads

pub returns-in-Err-clause-headline : goal.returns-in-Err-clause-headline
returns-in-Err-clause-headline g c =
    headline_kept c.one_command.ensures (map (string_bytes {Z = Global}) c.args.words.now.items) (g.F.Files.seen c.args.files.now) (g.F.Files.seen c.work_in_threads.new.files) (g.S.Sink.seen c.args.out.now) (g.S.Sink.seen c.work_in_threads.new.out) c.work_in_threads.result
    (worked g (goal.at.returns-in-Err-clause-headline g c).After-work_in_threads).answer

pub returns-in-Ok-clause-headline : goal.returns-in-Ok-clause-headline
returns-in-Ok-clause-headline g c =
    headline_kept c.one_command.ensures (map (string_bytes {Z = Global}) c.args.words.now.items) (g.F.Files.seen c.args.files.now) (g.F.Files.seen c.without_threads.new.files) (g.S.Sink.seen c.args.out.now) (g.S.Sink.seen c.without_threads.new.out) c.in-Ok.status
    c.in-Ok.ensures.ended.answer
