use Rattle.std.proofs.Common.{codes, ap, List}
use Rattle.std.specs.List.{enumerate_from, flat_map}
use Rattle.lang_monitor.specs.declared.monitor.Condition.{Condition}
use Rattle.emit_comments.proofs.Numbered.{numbered}
use Rattle.emit_statements.specs.Sources.{seen}
use Rattle.emit_module.specs.Modules.{condition_start, count_start}
use Rattle.base_io.proofs.Writing.{wrote_both, wrote_fails, wrote_longer, wrote_same}
use Rattle.emit_module.proofs.module.write_opening.Goals as goal

pub returns-in_err-write_with_data : goal.returns-in_err-write_with_data
returns-in_err-write_with_data g c =
    wrote_fails _ c.from_residual.ensures.0 (wrote_longer (codes "        }\n    }\n") (wrote_longer (flat_map (numbered (condition_start (seen c.args.source.now))) (enumerate_from 0 c.args.source.now.monitor.now.conditions)) (wrote_longer (codes "                data,\n            }),\n") (wrote_longer (flat_map (numbered (count_start (seen c.args.source.now))) (enumerate_from 0 c.args.source.now.monitor.now.conditions)) c.in_err-write_with_data.ensures))))

pub returns-in_err-write_conditions : goal.returns-in_err-write_conditions
returns-in_err-write_conditions g c =
    wrote_fails _ c.from_residual-in_err-write_conditions.ensures.0 (wrote_longer (codes "        }\n    }\n") (wrote_longer (flat_map (numbered (condition_start (seen c.args.source.now))) (enumerate_from 0 c.args.source.now.monitor.now.conditions)) (wrote_longer (codes "                data,\n            }),\n") (wrote_both c.in_ok-write_with_data.ensures (wrote_same _ (ap (λ (xs : List Condition). flat_map (numbered (count_start (seen c.args.source.now))) (enumerate_from 0 xs)) c.conditions-conditions.ensures.conditions) c.in_err-write_conditions.ensures)))))

pub returns-in_err-write_piece : goal.returns-in_err-write_piece
returns-in_err-write_piece g c =
    wrote_fails _ c.from_residual-in_err-write_piece.ensures.0 (wrote_longer (codes "        }\n    }\n") (wrote_longer (flat_map (numbered (condition_start (seen c.args.source.now))) (enumerate_from 0 c.args.source.now.monitor.now.conditions)) (wrote_both (wrote_both c.in_ok-write_with_data.ensures (wrote_same _ (ap (λ (xs : List Condition). flat_map (numbered (count_start (seen c.args.source.now))) (enumerate_from 0 xs)) c.conditions-conditions.ensures.conditions) c.in_ok-write_conditions.ensures)) c.in_err-write_piece.ensures)))

pub returns-in_err-write_conditions-2 : goal.returns-in_err-write_conditions-2
returns-in_err-write_conditions-2 g c =
    wrote_fails _ c.from_residual-in_err-write_conditions-2.ensures.0 (wrote_longer (codes "        }\n    }\n") (wrote_both (wrote_both (wrote_both c.in_ok-write_with_data.ensures (wrote_same _ (ap (λ (xs : List Condition). flat_map (numbered (count_start (seen c.args.source.now))) (enumerate_from 0 xs)) c.conditions-conditions.ensures.conditions) c.in_ok-write_conditions.ensures)) c.in_ok-write_piece.ensures) (wrote_same _ (ap (λ (xs : List Condition). flat_map (numbered (condition_start (seen c.args.source.now))) (enumerate_from 0 xs)) c.conditions-conditions.ensures.conditions) c.in_err-write_conditions-2.ensures)))

pub returns : goal.returns
returns g c =
    wrote_both (wrote_both (wrote_both (wrote_both c.in_ok-write_with_data.ensures (wrote_same _ (ap (λ (xs : List Condition). flat_map (numbered (count_start (seen c.args.source.now))) (enumerate_from 0 xs)) c.conditions-conditions.ensures.conditions) c.in_ok-write_conditions.ensures)) c.in_ok-write_piece.ensures) (wrote_same _ (ap (λ (xs : List Condition). flat_map (numbered (condition_start (seen c.args.source.now))) (enumerate_from 0 xs)) c.conditions-conditions.ensures.conditions) c.in_ok-write_conditions-2.ensures)) c.write_piece-2.ensures
