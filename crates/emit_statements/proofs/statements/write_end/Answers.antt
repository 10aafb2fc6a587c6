use Rattle.std.proofs.Common.{◌∙◌, Bool, ap}
use Rattle.base_io.proofs.Writing.{wrote_same}
use Rattle.emit_statements.proofs.Choices.{if_false, if_true}
use Rattle.emit_statements.specs.Statements.{own_end, work_end}
use Rattle.emit_statements.specs.Ways.{may_refuse}
use Rattle.emit_statements.proofs.statements.write_end.Goals as goal

pub returns-then-it : goal.returns-then-it
returns-then-it g c =
    wrote_same _
    (c.work_end.ensures ∙ ap (λ (refused : Bool). work_end c.args.it.now.fails refused) c.may_refuse.ensures
    ∙ if_true c.args.it.now.works (work_end c.args.it.now.fails (may_refuse c.args.it.now.way)) (own_end c.args.it.now.fails (may_refuse c.args.it.now.way) c.args.it.now.answer) c.if-it.true)
    c.write_piece.ensures

pub returns : goal.returns
returns g c =
    wrote_same _
    (ap (λ (refused : Bool). own_end c.args.it.now.fails refused c.args.it.now.answer) c.may_refuse-2.ensures
    ∙ if_false c.args.it.now.works (work_end c.args.it.now.fails (may_refuse c.args.it.now.way)) (own_end c.args.it.now.fails (may_refuse c.args.it.now.way) c.args.it.now.answer) c.if-it.false)
    c.write_own_end.ensures
