use Rattle.std.proofs.Common.{All, map, rules}
use Rattle.std.specs.Global.{Global}
use Rattle.std.specs.String.{string_bytes}
use Rattle.front_command.specs.CommandLine.{Takes, TakesNone, files_of}
use Rattle.front_command.specs.Commands.{command_meant}
use Rattle.expresso_runs.proofs.Ranges.{in_range}
use Rattle.expresso.proofs.GivenWords.{none_of, taken_of}
use Rattle.expresso.proofs.ProgramEnded.{each_ended, left_taken, no_words_ended, usage_ended}
use Rattle.expresso.proofs.program.without_threads.Goals as goal

pub work-requires-clause-files : goal.work-requires-clause-files
work-requires-clause-files g c =
    let command = command_meant c.in-Ok.command in
    let taken : Takes (map (string_bytes {Z = Global}) c.args.words.now.items) command = taken_of (string_bytes {Z = Global}) c.as_slice.result.now c.args.words.now.items command c.as_slice.ensures.value c.in-Ok.ensures.taken in
    let every : All (g.F.Files.may_read c.args.files.now) (files_of command) = c.requires command taken in
    search (rules, every)

pub work-requires-clause-range : goal.work-requires-clause-range
work-requires-clause-range g c =
    let command = command_meant c.in-Ok.command in
    let taken : Takes (map (string_bytes {Z = Global}) c.args.words.now.items) command = taken_of (string_bytes {Z = Global}) c.as_slice.result.now c.args.words.now.items command c.as_slice.ensures.value c.in-Ok.ensures.taken in
    in_range (map (string_bytes {Z = Global}) c.args.words.now.items) command taken

pub returns-in-Ok-clause-ended : goal.returns-in-Ok-clause-ended
returns-in-Ok-clause-ended g c =
    let command = command_meant c.in-Ok.command in
    let taken : Takes (map (string_bytes {Z = Global}) c.args.words.now.items) command = taken_of (string_bytes {Z = Global}) c.as_slice.result.now c.args.words.now.items command c.as_slice.ensures.value c.in-Ok.ensures.taken in
    each_ended c.one_command.ensures (map (string_bytes {Z = Global}) c.args.words.now.items) command (g.F.Files.seen c.args.files.now) (g.F.Files.seen c.work.new.files) c.work.result (g.S.Sink.seen c.args.out.now) (g.S.Sink.seen c.work.new.out) taken c.work.ensures.ended

pub returns-in-Ok-clause-taken : goal.returns-in-Ok-clause-taken
returns-in-Ok-clause-taken g c =
    let command = command_meant c.in-Ok.command in
    let taken : Takes (map (string_bytes {Z = Global}) c.args.words.now.items) command = taken_of (string_bytes {Z = Global}) c.as_slice.result.now c.args.words.now.items command c.as_slice.ensures.value c.in-Ok.ensures.taken in
    left_taken (map (string_bytes {Z = Global}) c.args.words.now.items) c.in-Ok.command c.work.result taken c.work.ensures.left

pub returns-in-Err-Usage-clause-ended : goal.returns-in-Err-Usage-clause-ended
returns-in-Err-Usage-clause-ended g c =
    let none : TakesNone (map (string_bytes {Z = Global}) c.args.words.now.items) =
    none_of (string_bytes {Z = Global}) c.as_slice.result.now c.args.words.now.items c.as_slice.ensures.value (c.in-Err-Usage.ensures.usage (cc c.in-Err-Usage.field-0-is)) in
    usage_ended (map (string_bytes {Z = Global}) c.args.words.now.items) (g.F.Files.seen c.args.files.now) c.show_usage.result (g.S.Sink.seen c.args.out.now) (g.S.Sink.seen c.show_usage.new.out) none c.show_usage.ensures

pub returns-in-Err-OutOfMemory-clause-ended : goal.returns-in-Err-OutOfMemory-clause-ended
returns-in-Err-OutOfMemory-clause-ended g c = no_words_ended (map (string_bytes {Z = Global}) c.args.words.now.items) (g.F.Files.seen c.args.files.now) (g.S.Sink.seen c.args.out.now)
