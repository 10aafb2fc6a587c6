use Rattle.std.proofs.Common.{◌∙◌, ap}
use Rattle.std.specs.List.{list_any}
use Rattle.base_io.proofs.Writing.{wrote_same}
use Rattle.emit_choices.specs.Declarations.{is_field}
use Rattle.emit_choices.specs.Starts.{starts_end_by}
use Rattle.emit_choices.proofs.starts.write_end.Goals as goal

pub returns : goal.returns
returns g c = wrote_same _ (c.end_bytes.ensures ∙ ap starts_end_by (c.has_field.ensures ∙ ap (list_any is_field) c.items.ensures)) c.write_piece.ensures
