use Rattle.std.proofs.lemmas.Result.{err_from_is_err_and}
use Rattle.front_command.specs.CommandLine.{one_file}
use Rattle.expresso_answers.proofs.OneFile.{alone, each_held, file_judged, file_unread}
use Rattle.expresso_answers.proofs.Outcomes.{still_quiet}
use Rattle.expresso_answers.proofs.input.monitor_of.Goals as goal

pub returns-in_err-bytes-clause-ended : goal.returns-in_err-bytes-clause-ended
returns-in_err-bytes-clause-ended g c =
    let returned = err_from_is_err_and c.from_residual.result c.from_residual.ensures.1 in
    rw (returned.1, returned.2)
    (file_unread (one_file c.args.file.now) c.args.file.now (alone c.args.file.now) (g.F.Files.seen c.args.files.now) (g.F.Files.seen c.bytes_of.new.files) _ (g.S.Sink.seen c.args.out.now) (g.S.Sink.seen c.bytes_of.new.out) c.in_err-bytes.ensures.unread)

pub returns-clause-holds : goal.returns-clause-holds
returns-clause-holds g c =
    each_held (g.F.Files.seen c.args.files.now).held c.args.file.now c.in_ok-bytes.bytes.items c.deref.result.now _ c.deref.ensures.value c.in_ok-bytes.ensures.told c.monitor_in.ensures.accepted

pub returns-clause-ended : goal.returns-clause-ended
returns-clause-ended g c =
    file_judged c.one_spelling.ensures.one c.one_spelling.ensures.stuck c.derives_one_tree.ensures.monitors c.args.file.now c.in_ok-bytes.bytes.items c.deref.result.now
    (g.F.Files.seen c.args.files.now) (g.F.Files.seen c.bytes_of.new.files) _ (g.S.Sink.seen c.args.out.now) (g.S.Sink.seen c.bytes_of.new.out) _
    c.deref.ensures.value c.in_ok-bytes.ensures.told c.in_ok-bytes.ensures.quiet.steady c.in_ok-bytes.ensures.quiet.silent c.monitor_in.ensures.refused

pub returns-clause-quiet : goal.returns-clause-quiet
returns-clause-quiet g c =
    still_quiet c.monitor_in.result (g.F.Files.seen c.args.files.now) (g.F.Files.seen c.bytes_of.new.files) (g.S.Sink.seen c.args.out.now) (g.S.Sink.seen c.bytes_of.new.out) _ c.in_ok-bytes.ensures.quiet c.monitor_in.ensures.silent
