use Rattle.std.proofs.Common.{[], ◌∷◌, ◌∙◌, ◌≤◌, List, length, subst, ℕ}
use Rattle.std.proofs.lemmas.List.Elements.{All-head, All-tail}
use Rattle.std.proofs.lemmas.Result.{err_from_is_err_and}
use Rattle.front_command.specs.CommandLine.{two_files}
use Rattle.expresso_answers.proofs.OneFile.{beside, file_refused, file_unread, monitor_held}
use Rattle.expresso_answers.proofs.OtherFile.{other_held, other_long, other_unread}
use Rattle.expresso_answers.proofs.input.open_both.Goals as goal

pub returns-in_err-monitor_bytes-clause-ended : goal.returns-in_err-monitor_bytes-clause-ended
returns-in_err-monitor_bytes-clause-ended g c =
    let returned = err_from_is_err_and c.from_residual.result c.from_residual.ensures.1 in
    rw (returned.1, returned.2) (λ kind limit.
    file_unread (two_files kind c.args.monitor.now c.args.other.now) c.args.monitor.now (beside kind c.args.monitor.now c.args.other.now)
    (g.F.Files.seen c.args.files.now) (g.F.Files.seen c.bytes_of.new.files) _ (g.S.Sink.seen c.args.out.now) (g.S.Sink.seen c.bytes_of.new.out) c.in_err-monitor_bytes.ensures.unread)

pub returns-in_err-bytes-clause-ended : goal.returns-in_err-bytes-clause-ended
returns-in_err-bytes-clause-ended g c =
    let returned = err_from_is_err_and c.from_residual-in_err-bytes.result c.from_residual-in_err-bytes.ensures.1 in
    rw (returned.1, returned.2) (λ kind limit.
    other_unread kind c.args.monitor.now c.args.other.now (g.F.Files.seen c.args.files.now) (g.F.Files.seen c.bytes_of.new.files) (g.F.Files.seen c.bytes_of-2.new.files) _
    (g.S.Sink.seen c.args.out.now) (g.S.Sink.seen c.bytes_of.new.out) (g.S.Sink.seen c.bytes_of-2.new.out)
    c.in_ok-monitor_bytes.ensures.quiet.steady c.in_ok-monitor_bytes.ensures.quiet.silent c.in_err-bytes.ensures.unread)

pub returns-in_err-found-clause-ended : goal.returns-in_err-found-clause-ended
returns-in_err-found-clause-ended g c =
    let returned = err_from_is_err_and c.from_residual-in_err-found.result c.from_residual-in_err-found.ensures.1 in
    rw (returned.1, returned.2) (λ kind limit.
    file_refused c.one_spelling.ensures.one c.one_spelling.ensures.stuck c.derives_one_tree.ensures.monitors
    (two_files kind c.args.monitor.now c.args.other.now) c.args.monitor.now (beside kind c.args.monitor.now c.args.other.now) c.in_ok-monitor_bytes.monitor_bytes.items c.deref.result.now
    (g.F.Files.seen c.args.files.now) (g.F.Files.seen c.bytes_of-2.new.files) _ (g.S.Sink.seen c.args.out.now) (g.S.Sink.seen c.bytes_of-2.new.out) _
    c.deref.ensures.value c.in_ok-monitor_bytes.ensures.told (c.in_ok-bytes.ensures.quiet.steady ∙ c.in_ok-monitor_bytes.ensures.quiet.steady)
    (c.in_ok-bytes.ensures.quiet.silent ∙ c.in_ok-monitor_bytes.ensures.quiet.silent) c.in_err-found.ensures.refused)

pub returns-in_err-check_length-clause-ended : goal.returns-in_err-check_length-clause-ended
returns-in_err-check_length-clause-ended g c =
    let returned = err_from_is_err_and c.from_residual-in_err-check_length.result c.from_residual-in_err-check_length.ensures.1 in
    let held = monitor_held (g.F.Files.seen c.args.files.now).held c.args.monitor.now c.in_ok-monitor_bytes.monitor_bytes.items c.deref.result.now
    c.in_ok-found.found.tree c.in_ok-found.found.monitor c.deref.ensures.value c.in_ok-monitor_bytes.ensures.told c.in_ok-found.ensures.accepted in
    rw (returned.1, returned.2) (λ kind limit.
    other_long c.one_spelling.ensures.one c.derives_one_tree.ensures.monitors kind c.args.monitor.now c.args.other.now c.in_ok-bytes.bytes.items c.deref-2.result.now
    (g.F.Files.seen c.args.files.now) (g.F.Files.seen c.bytes_of.new.files) (g.F.Files.seen c.bytes_of-2.new.files) c.args.most _ _
    (g.S.Sink.seen c.args.out.now) (g.S.Sink.seen c.monitor_in.new.out) _ c.in_ok-found.found.tree c.in_ok-found.found.monitor
    c.deref-2.ensures.value held (c.in_ok-monitor_bytes.ensures.files.held c.args.other.now) c.in_ok-bytes.ensures.told c.in_err-check_length.ensures.long
    (c.in_ok-bytes.ensures.quiet.steady ∙ c.in_ok-monitor_bytes.ensures.quiet.steady)
    (c.in_ok-found.ensures.silent ∙ c.in_ok-bytes.ensures.quiet.silent ∙ c.in_ok-monitor_bytes.ensures.quiet.silent) c.in_err-check_length.ensures.written limit)

pub returns-clause-holds : goal.returns-clause-holds
returns-clause-holds g c =
    monitor_held (g.F.Files.seen c.args.files.now).held c.args.monitor.now c.in_ok-monitor_bytes.monitor_bytes.items c.deref.result.now
    c.in_ok-found.found.tree c.in_ok-found.found.monitor c.deref.ensures.value c.in_ok-monitor_bytes.ensures.told c.in_ok-found.ensures.accepted

pub returns-clause-told : goal.returns-clause-told
returns-clause-told g c =
    other_held (g.F.Files.seen c.args.files.now).held (g.F.Files.seen c.bytes_of.new.files).held c.args.other.now c.in_ok-bytes.bytes.items c.deref-2.result.now c.args.most
    c.deref-2.ensures.value (c.in_ok-monitor_bytes.ensures.files.held c.args.other.now) c.in_ok-bytes.ensures.told c.in_ok-check_length.ensures.short

pub returns-clause-short : goal.returns-clause-short
returns-clause-short g c = subst (λ (b : List ℕ). length b ≤ c.args.most) c.deref-2.ensures.value c.in_ok-check_length.ensures.short

pub returns-clause-quiet : goal.returns-clause-quiet
returns-clause-quiet g c = record {
  steady = c.in_ok-bytes.ensures.quiet.steady ∙ c.in_ok-monitor_bytes.ensures.quiet.steady;
  silent = c.in_ok-check_length.ensures.silent ∙ c.in_ok-found.ensures.silent ∙ c.in_ok-bytes.ensures.quiet.silent ∙ c.in_ok-monitor_bytes.ensures.quiet.silent;
}

pub bytes_of-requires : goal.bytes_of-requires
bytes_of-requires g c = All-head (g.F.Files.may_read c.args.files.now) c.args.monitor.now (c.args.other.now ∷ []) c.requires.files

pub bytes_of-requires-2 : goal.bytes_of-requires-2
bytes_of-requires-2 g c =
    let both = All-tail (g.F.Files.may_read c.args.files.now) c.args.monitor.now (c.args.other.now ∷ []) c.requires.files in
    (c.in_ok-monitor_bytes.ensures.files.may_read c.args.other.now).1 (All-head (g.F.Files.may_read c.args.files.now) c.args.other.now [] both)
