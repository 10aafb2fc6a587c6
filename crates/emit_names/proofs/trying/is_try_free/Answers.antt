use Rattle.std.proofs.Common.{◌∙◌, not, ap}
use Rattle.std.specs.List.{list_any}
use Rattle.std.specs.Str.{bytes_eq}
use Rattle.emit_names.specs.Names.{member_names}
use Rattle.emit_names.proofs.trying.is_try_free.Goals as goal

pub returns : goal.returns
returns c = ap not (c.is_member.ensures ∙ ap (λ text. list_any (bytes_eq text) (member_names c.args.tree.now)) c.member_spelling-tried.ensures)
