use Rattle.std.proofs.Common.{◌∙◌, ap}
use Rattle.std.specs.List.{list_any}
use Rattle.emit_expressions.specs.Scopes.{declares}
use Rattle.emit_bodies.proofs.traces.is_declared.Goals as goal

pub returns : goal.returns
returns c =
    c.any_declares.ensures ∙ ap (list_any (declares c.args.name.now)) c.items.ensures
