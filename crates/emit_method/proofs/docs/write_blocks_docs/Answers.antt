use Rattle.std.proofs.Common.{refl}
use Rattle.base_io.proofs.Writing.{wrote_same}
use Rattle.emit_comments.proofs.Numbered.{numbered_done, numbered_stopped, numbered_went}
use Rattle.emit_method.specs.Docs.{waiting_text}
use Rattle.emit_statements.specs.Statements.{method_seen}
use Rattle.emit_method.proofs.docs.write_blocks_docs.Goals as goal

pub loop-place-preserved : goal.loop-place-preserved
loop-place-preserved g c =
    numbered_went (waiting_text (method_seen c.args.it.now)) c.args.blocks.now c.loop-place.place c.index-blocks-place.result _ c.loop-place-test.true c.index-blocks-place.is refl c.loop-place.invariant c.in_ok-write_waiting.ensures

pub returns-in_err-write_waiting : goal.returns-in_err-write_waiting
returns-in_err-write_waiting g c =
    numbered_stopped (waiting_text (method_seen c.args.it.now)) c.args.blocks.now c.loop-place.place c.index-blocks-place.result _ _ c.loop-place-test.true c.index-blocks-place.is refl c.from_residual.ensures.0 c.loop-place.invariant c.in_err-write_waiting.ensures

pub returns : goal.returns
returns g c =
    wrote_same _ (numbered_done (waiting_text (method_seen c.args.it.now)) c.args.blocks.now c.loop-place.place c.loop-place-test.false) c.loop-place.invariant
