use Rattle.std.proofs.Common.{codes, ap, List}
use Rattle.base_io.proofs.Writing.{wrote_both, wrote_fails, wrote_longer, wrote_same}
use Rattle.emit_comments.proofs.Numbered.{numbered}
use Rattle.emit_statements.specs.Sources.{seen}
use Rattle.lang_monitor.specs.declared.monitor.Condition.{Condition}
use Rattle.std.specs.List.{enumerate_from, flat_map}
use Rattle.emit_module.specs.Modules.{condition_field, lints_text, struct_head}
use Rattle.emit_module.proofs.module.write_struct.Goals as goal

pub returns-in_err-write_struct_docs : goal.returns-in_err-write_struct_docs
returns-in_err-write_struct_docs g c =
    wrote_fails _ c.from_residual.ensures.0 (wrote_longer (codes "}\n\n") (wrote_longer (flat_map (numbered (condition_field (seen c.args.source.now))) (enumerate_from 0 c.args.source.now.monitor.now.conditions)) (wrote_longer (struct_head c.args.source.now.tree.now) (wrote_longer (lints_text c.args.source.now.tree.now) c.in_err-write_struct_docs.ensures))))

pub returns-in_err-write_lints : goal.returns-in_err-write_lints
returns-in_err-write_lints g c =
    wrote_fails _ c.from_residual-in_err-write_lints.ensures.0 (wrote_longer (codes "}\n\n") (wrote_longer (flat_map (numbered (condition_field (seen c.args.source.now))) (enumerate_from 0 c.args.source.now.monitor.now.conditions)) (wrote_longer (struct_head c.args.source.now.tree.now) (wrote_both c.in_ok-write_struct_docs.ensures c.in_err-write_lints.ensures))))

pub returns-in_err-write_struct_head : goal.returns-in_err-write_struct_head
returns-in_err-write_struct_head g c =
    wrote_fails _ c.from_residual-in_err-write_struct_head.ensures.0 (wrote_longer (codes "}\n\n") (wrote_longer (flat_map (numbered (condition_field (seen c.args.source.now))) (enumerate_from 0 c.args.source.now.monitor.now.conditions)) (wrote_both (wrote_both c.in_ok-write_struct_docs.ensures c.in_ok-write_lints.ensures) c.in_err-write_struct_head.ensures)))

pub returns-in_err-write_conditions : goal.returns-in_err-write_conditions
returns-in_err-write_conditions g c =
    wrote_fails _ c.from_residual-in_err-write_conditions.ensures.0 (wrote_longer (codes "}\n\n") (wrote_both (wrote_both (wrote_both c.in_ok-write_struct_docs.ensures c.in_ok-write_lints.ensures) c.in_ok-write_struct_head.ensures) (wrote_same _ (ap (λ (xs : List Condition). flat_map (numbered (condition_field (seen c.args.source.now))) (enumerate_from 0 xs)) c.conditions-conditions.ensures.conditions) c.in_err-write_conditions.ensures)))

pub returns : goal.returns
returns g c =
    wrote_both (wrote_both (wrote_both (wrote_both c.in_ok-write_struct_docs.ensures c.in_ok-write_lints.ensures) c.in_ok-write_struct_head.ensures) (wrote_same _ (ap (λ (xs : List Condition). flat_map (numbered (condition_field (seen c.args.source.now))) (enumerate_from 0 xs)) c.conditions-conditions.ensures.conditions) c.in_ok-write_conditions.ensures)) c.write_piece.ensures
