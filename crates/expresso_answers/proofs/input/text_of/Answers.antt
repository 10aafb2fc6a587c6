use Rattle.std.proofs.Common.{◌∙◌}
use Rattle.std.proofs.lemmas.Result.{err_from_is_err_and}
use Rattle.front_command.specs.CommandLine.{one_file}
use Rattle.expresso_answers.proofs.OneFile.{alone, file_refused, file_unread, text_held}
use Rattle.expresso_answers.proofs.input.text_of.Goals as goal

pub returns-in_err-bytes-clause-ended : goal.returns-in_err-bytes-clause-ended
returns-in_err-bytes-clause-ended g c =
    let returned = err_from_is_err_and c.from_residual.result c.from_residual.ensures.1 in
    rw (returned.1, returned.2)
    (file_unread (one_file c.args.file.now) c.args.file.now (alone c.args.file.now) (g.F.Files.seen c.args.files.now) (g.F.Files.seen c.bytes_of.new.files) _ (g.S.Sink.seen c.args.out.now) (g.S.Sink.seen c.bytes_of.new.out) c.in_err-bytes.ensures.unread)

pub returns-in_err-found-clause-ended : goal.returns-in_err-found-clause-ended
returns-in_err-found-clause-ended g c =
    let returned = err_from_is_err_and c.from_residual-in_err-found.result c.from_residual-in_err-found.ensures.1 in
    rw (returned.1, returned.2)
    (file_refused c.one_spelling.ensures.one c.one_spelling.ensures.stuck c.derives_one_tree.ensures.monitors (one_file c.args.file.now) c.args.file.now (alone c.args.file.now) c.in_ok-bytes.bytes.items c.deref.result.now
    (g.F.Files.seen c.args.files.now) (g.F.Files.seen c.bytes_of.new.files) _ (g.S.Sink.seen c.args.out.now) (g.S.Sink.seen c.bytes_of.new.out) _
    c.deref.ensures.value c.in_ok-bytes.ensures.told c.in_ok-bytes.ensures.quiet.steady c.in_ok-bytes.ensures.quiet.silent c.in_err-found.ensures.refused)

pub returns-clause-holds : goal.returns-clause-holds
returns-clause-holds g c =
    text_held (g.F.Files.seen c.args.files.now).held c.args.file.now c.in_ok-bytes.bytes.items c.deref.result.now
    c.in_ok-found.found.tree c.in_ok-found.found.monitor c.deref.ensures.value c.in_ok-bytes.ensures.told c.in_ok-found.ensures.accepted

pub returns-clause-quiet : goal.returns-clause-quiet
returns-clause-quiet g c = record {
  steady = c.in_ok-bytes.ensures.quiet.steady;
  silent = c.in_ok-found.ensures.silent ∙ c.in_ok-bytes.ensures.quiet.silent;
}
