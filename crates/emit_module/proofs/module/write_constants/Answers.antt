use Rattle.std.proofs.Common.{◌∙◌, ap, not}
use Rattle.base_io.proofs.Writing.{wrote_both, wrote_fails, wrote_longer, wrote_same}
use Rattle.emit_statements.specs.Sources.{seen}
use Rattle.emit_choices.specs.Declarations.{is_field}
use Rattle.emit_module.specs.Modules.{constant_line, constants_end}
use Rattle.std.specs.List.{flat_map, list_any}
use Rattle.emit_module.proofs.module.write_constants.Goals as goal

pub returns-in_err-write_constant_lines : goal.returns-in_err-write_constant_lines
returns-in_err-write_constant_lines g c =
    wrote_fails _ c.from_residual.ensures.0 (wrote_longer (constants_end (list_any (λ one. not (is_field one)) c.args.source.now.tree.now.decls)) (wrote_same _ (ap (flat_map (constant_line (seen c.args.source.now))) c.items.ensures) c.in_err-write_constant_lines.ensures))

pub returns : goal.returns
returns g c =
    wrote_both (wrote_same _ (ap (flat_map (constant_line (seen c.args.source.now))) c.items.ensures) c.in_ok-write_constant_lines.ensures) (wrote_same _ (c.constants_end.ensures ∙ ap constants_end (c.has_constant.ensures ∙ ap (list_any (λ one. not (is_field one))) c.items-2.ensures)) c.write_piece.ensures)
