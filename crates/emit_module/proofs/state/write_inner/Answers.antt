use Rattle.std.proofs.Common.{codes, ap, List}
use Rattle.std.specs.List.{enumerate_from, flat_map}
use Rattle.lang_monitor.specs.declared.monitor.Condition.{Condition}
use Rattle.emit_comments.proofs.Numbered.{numbered}
use Rattle.emit_statements.specs.Sources.{seen}
use Rattle.emit_module.specs.Fixed.{COPY, COPY_END}
use Rattle.emit_module.specs.Modules.{count_copy, count_field, lints_text}
use Rattle.base_io.proofs.Writing.{wrote_both, wrote_fails, wrote_longer, wrote_same}
use Rattle.emit_module.proofs.state.write_inner.Goals as goal

pub returns-in_err-write_piece : goal.returns-in_err-write_piece
returns-in_err-write_piece g c =
    wrote_fails _ c.from_residual.ensures.0 (wrote_longer (COPY_END) (wrote_longer (flat_map (numbered (count_copy (seen c.args.source.now))) (enumerate_from 0 c.args.source.now.monitor.now.conditions)) (wrote_longer (COPY) (wrote_longer (flat_map (numbered (count_field (seen c.args.source.now))) (enumerate_from 0 c.args.source.now.monitor.now.conditions)) (wrote_longer (codes "struct Inner<D = ()> {\n    state: State,\n") (wrote_longer (lints_text c.args.source.now.tree.now) (wrote_same _ (c.inner_bytes.ensures) c.in_err-write_piece.ensures)))))))

pub returns-in_err-write_lints : goal.returns-in_err-write_lints
returns-in_err-write_lints g c =
    wrote_fails _ c.from_residual-in_err-write_lints.ensures.0 (wrote_longer (COPY_END) (wrote_longer (flat_map (numbered (count_copy (seen c.args.source.now))) (enumerate_from 0 c.args.source.now.monitor.now.conditions)) (wrote_longer (COPY) (wrote_longer (flat_map (numbered (count_field (seen c.args.source.now))) (enumerate_from 0 c.args.source.now.monitor.now.conditions)) (wrote_longer (codes "struct Inner<D = ()> {\n    state: State,\n") (wrote_both (wrote_same _ (c.inner_bytes.ensures) c.in_ok-write_piece.ensures) c.in_err-write_lints.ensures))))))

pub returns-in_err-write_piece-2 : goal.returns-in_err-write_piece-2
returns-in_err-write_piece-2 g c =
    wrote_fails _ c.from_residual-in_err-write_piece-2.ensures.0 (wrote_longer (COPY_END) (wrote_longer (flat_map (numbered (count_copy (seen c.args.source.now))) (enumerate_from 0 c.args.source.now.monitor.now.conditions)) (wrote_longer (COPY) (wrote_longer (flat_map (numbered (count_field (seen c.args.source.now))) (enumerate_from 0 c.args.source.now.monitor.now.conditions)) (wrote_both (wrote_both (wrote_same _ (c.inner_bytes.ensures) c.in_ok-write_piece.ensures) c.in_ok-write_lints.ensures) c.in_err-write_piece-2.ensures)))))

pub returns-in_err-write_conditions : goal.returns-in_err-write_conditions
returns-in_err-write_conditions g c =
    wrote_fails _ c.from_residual-in_err-write_conditions.ensures.0 (wrote_longer (COPY_END) (wrote_longer (flat_map (numbered (count_copy (seen c.args.source.now))) (enumerate_from 0 c.args.source.now.monitor.now.conditions)) (wrote_longer (COPY) (wrote_both (wrote_both (wrote_both (wrote_same _ (c.inner_bytes.ensures) c.in_ok-write_piece.ensures) c.in_ok-write_lints.ensures) c.in_ok-write_piece-2.ensures) (wrote_same _ (ap (λ (xs : List Condition). flat_map (numbered (count_field (seen c.args.source.now))) (enumerate_from 0 xs)) c.conditions-conditions.ensures.conditions) c.in_err-write_conditions.ensures)))))

pub returns-in_err-write_piece-3 : goal.returns-in_err-write_piece-3
returns-in_err-write_piece-3 g c =
    wrote_fails _ c.from_residual-in_err-write_piece-3.ensures.0 (wrote_longer (COPY_END) (wrote_longer (flat_map (numbered (count_copy (seen c.args.source.now))) (enumerate_from 0 c.args.source.now.monitor.now.conditions)) (wrote_both (wrote_both (wrote_both (wrote_both (wrote_same _ (c.inner_bytes.ensures) c.in_ok-write_piece.ensures) c.in_ok-write_lints.ensures) c.in_ok-write_piece-2.ensures) (wrote_same _ (ap (λ (xs : List Condition). flat_map (numbered (count_field (seen c.args.source.now))) (enumerate_from 0 xs)) c.conditions-conditions.ensures.conditions) c.in_ok-write_conditions.ensures)) (wrote_same _ (c.copy_bytes.ensures) c.in_err-write_piece-3.ensures))))

pub returns-in_err-write_conditions-2 : goal.returns-in_err-write_conditions-2
returns-in_err-write_conditions-2 g c =
    wrote_fails _ c.from_residual-in_err-write_conditions-2.ensures.0 (wrote_longer (COPY_END) (wrote_both (wrote_both (wrote_both (wrote_both (wrote_both (wrote_same _ (c.inner_bytes.ensures) c.in_ok-write_piece.ensures) c.in_ok-write_lints.ensures) c.in_ok-write_piece-2.ensures) (wrote_same _ (ap (λ (xs : List Condition). flat_map (numbered (count_field (seen c.args.source.now))) (enumerate_from 0 xs)) c.conditions-conditions.ensures.conditions) c.in_ok-write_conditions.ensures)) (wrote_same _ (c.copy_bytes.ensures) c.in_ok-write_piece-3.ensures)) (wrote_same _ (ap (λ (xs : List Condition). flat_map (numbered (count_copy (seen c.args.source.now))) (enumerate_from 0 xs)) c.conditions-conditions.ensures.conditions) c.in_err-write_conditions-2.ensures)))

pub returns : goal.returns
returns g c =
    wrote_both (wrote_both (wrote_both (wrote_both (wrote_both (wrote_both (wrote_same _ (c.inner_bytes.ensures) c.in_ok-write_piece.ensures) c.in_ok-write_lints.ensures) c.in_ok-write_piece-2.ensures) (wrote_same _ (ap (λ (xs : List Condition). flat_map (numbered (count_field (seen c.args.source.now))) (enumerate_from 0 xs)) c.conditions-conditions.ensures.conditions) c.in_ok-write_conditions.ensures)) (wrote_same _ (c.copy_bytes.ensures) c.in_ok-write_piece-3.ensures)) (wrote_same _ (ap (λ (xs : List Condition). flat_map (numbered (count_copy (seen c.args.source.now))) (enumerate_from 0 xs)) c.conditions-conditions.ensures.conditions) c.in_ok-write_conditions-2.ensures)) (wrote_same _ (c.copy_end.ensures) c.write_piece-4.ensures)
