use Rattle.std.proofs.Common.{codes}
use Rattle.base_io.proofs.Writing.{wrote_both, wrote_fails, wrote_longer}
use Rattle.emit_statements.specs.Sources.{seen}
use Rattle.emit_statements.specs.Statements.{note_test, notify_text}
use Rattle.emit_statements.proofs.statements.write_note.Goals as goal

pub returns-in_err-write_around_count : goal.returns-in_err-write_around_count
returns-in_err-write_around_count g c =
    wrote_fails _ c.from_residual.ensures.0 (wrote_longer (codes "        }\n") (wrote_longer (notify_text (seen c.args.source.now) c.args.note) (wrote_longer (codes " {\n    ") (wrote_longer (note_test (seen c.args.source.now) c.args.note) c.in_err-write_around_count.ensures))))

pub returns-in_err-write_note_test : goal.returns-in_err-write_note_test
returns-in_err-write_note_test g c =
    wrote_fails _ c.from_residual-in_err-write_note_test.ensures.0 (wrote_longer (codes "        }\n") (wrote_longer (notify_text (seen c.args.source.now) c.args.note) (wrote_longer (codes " {\n    ") (wrote_both c.in_ok-write_around_count.ensures c.in_err-write_note_test.ensures))))

pub returns-in_err-write_piece : goal.returns-in_err-write_piece
returns-in_err-write_piece g c =
    wrote_fails _ c.from_residual-in_err-write_piece.ensures.0 (wrote_longer (codes "        }\n") (wrote_longer (notify_text (seen c.args.source.now) c.args.note) (wrote_both (wrote_both c.in_ok-write_around_count.ensures c.in_ok-write_note_test.ensures) c.in_err-write_piece.ensures)))

pub returns-in_err-write_notify : goal.returns-in_err-write_notify
returns-in_err-write_notify g c =
    wrote_fails _ c.from_residual-in_err-write_notify.ensures.0 (wrote_longer (codes "        }\n") (wrote_both (wrote_both (wrote_both c.in_ok-write_around_count.ensures c.in_ok-write_note_test.ensures) c.in_ok-write_piece.ensures) c.in_err-write_notify.ensures))

pub returns : goal.returns
returns g c =
    wrote_both (wrote_both (wrote_both (wrote_both c.in_ok-write_around_count.ensures c.in_ok-write_note_test.ensures) c.in_ok-write_piece.ensures) c.in_ok-write_notify.ensures) c.write_piece-2.ensures
