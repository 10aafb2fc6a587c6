use Rattle.std.proofs.Common.{◌∙◌, Bool, ap}
use Rattle.base_io.proofs.Writing.{wrote_same}
use Rattle.emit_statements.proofs.Choices.{if_false, if_true}
use Rattle.emit_method.specs.Methods.{own_arrow, work_arrow}
use Rattle.emit_statements.specs.Ways.{may_refuse}
use Rattle.emit_statements.specs.Statements.{method_seen}
use Rattle.emit_method.proofs.methods.write_method_arrow.Goals as goal

pub returns-then-it : goal.returns-then-it
returns-then-it g c =
    wrote_same _ (c.work_arrow.ensures ∙ ap (λ (refused : Bool). work_arrow refused c.args.it.now.fails) c.may_refuse.ensures ∙ if_true c.args.it.now.works (work_arrow (may_refuse c.args.it.now.way) c.args.it.now.fails) (own_arrow (method_seen c.args.it.now)) c.if-it.true) c.write_piece.ensures

pub returns : goal.returns
returns g c =
    wrote_same _ (if_false c.args.it.now.works (work_arrow (may_refuse c.args.it.now.way) c.args.it.now.fails) (own_arrow (method_seen c.args.it.now)) c.if-it.false) c.write_own_arrow.ensures
