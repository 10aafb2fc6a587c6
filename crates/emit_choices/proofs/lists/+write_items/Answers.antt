use Rattle.std.proofs.Common.{◌||◌, refl}
use Rattle.base_io.proofs.Writing.{wrote_both, wrote_same, wrote_fails, wrote_longer}
use Rattle.emit_names.specs.Names.{is_parameter}
use Rattle.emit_choices.specs.Lists.{items_text}
use Rattle.emit_choices.proofs.Items.{after_first, items_cut}
use Rattle.emit_choices.proofs.lists.+write_items.Goals as goal

pub returns-in_err-write_item : goal.returns-in_err-write_item
returns-in_err-write_item g t c =
    wrote_fails _ c.from_residual.ensures.0
    (wrote_same _ (items_cut c.args.form c.args.tree.now c.args.begun _ _ c.args.declared.now c.one-item.result c.in-len1-up.len_at_least c.one-item.is refl refl)
    (wrote_longer (items_text c.args.form c.args.tree.now (c.args.begun || is_parameter c.one-item.result) (after_first c.args.declared.now)) c.in_err-write_item.ensures))

pub returns : goal.returns
returns g t c =
    wrote_same _ (items_cut c.args.form c.args.tree.now c.args.begun _ _ c.args.declared.now c.one-item.result c.in-len1-up.len_at_least c.one-item.is c.is_parameter.ensures c.either.ensures)
    (wrote_both c.in_ok-write_item.ensures c.write_items.ensures)
