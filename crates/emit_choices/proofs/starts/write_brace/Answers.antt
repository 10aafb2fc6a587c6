use Rattle.std.proofs.Common.{◌∙◌, ap}
use Rattle.std.specs.List.{list_any}
use Rattle.base_io.proofs.Writing.{wrote_same}
use Rattle.emit_choices.specs.Declarations.{is_field}
use Rattle.emit_choices.specs.Starts.{brace_by}
use Rattle.emit_choices.proofs.starts.write_brace.Goals as goal

pub returns : goal.returns
returns g c = wrote_same _ (c.brace_bytes.ensures ∙ ap brace_by (c.has_field.ensures ∙ ap (list_any is_field) c.items.ensures)) c.write_piece.ensures
