use Rattle.emit_bodies.specs.Bodies.{arrow_text}
use Rattle.emit_method.specs.Methods.{try_arrow}
use Rattle.base_io.proofs.Writing.{wrote_same}
use Rattle.emit_statements.specs.Ways.{may_refuse}
use Rattle.emit_statements.proofs.Choices.{no_text, yes_text}
use Rattle.emit_method.proofs.methods.write_own_arrow.Goals as goal

pub returns-then-not-may_refuse : goal.returns-then-not-may_refuse
returns-then-not-may_refuse g c =
    wrote_same _ (no_text (may_refuse c.args.it.now.way) _ (try_arrow c.args.it.now.answer c.args.it.now.fails) (arrow_text c.args.it.now.answer c.args.it.now.fails) c.may_refuse.ensures c.if-not-may_refuse.true) c.write_arrow.ensures

pub returns : goal.returns
returns g c =
    wrote_same _ (yes_text (may_refuse c.args.it.now.way) _ (try_arrow c.args.it.now.answer c.args.it.now.fails) (arrow_text c.args.it.now.answer c.args.it.now.fails) c.may_refuse.ensures c.if-not-may_refuse.false) c.write_try_arrow.ensures
