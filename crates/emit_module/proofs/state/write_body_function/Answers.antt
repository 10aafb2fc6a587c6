use Rattle.base_io.proofs.Writing.{wrote_same}
use Rattle.emit_module.proofs.Functions.{body_says}
use Rattle.emit_statements.specs.Sources.{seen}
use Rattle.emit_module.proofs.state.write_body_function.Goals as goal

pub returns : goal.returns
returns g c =
    wrote_same _ (body_says (seen c.args.source.now) c.args.method.now c.args.place c.args.block c.args.parts.now _ _ _ c.answer_of-answer.ensures c.items-body.ensures c.is_whole-whole.ensures) c.write_own_body.ensures
