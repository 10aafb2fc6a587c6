use Rattle.std.proofs.Common.{get_or, refl}
use Rattle.std.proofs.lemmas.List.{get_or_default}
use Rattle.base_io.proofs.Writing.{wrote_same}
use Rattle.emit_comments.proofs.Numbered.{numbered_done, numbered_stopped, numbered_went}
use Rattle.emit_comments.specs.Comments.{byte_text}
use Rattle.emit_comments.proofs.docs.write_plain.Goals as goal

pub loop-at-preserved : goal.loop-at-preserved
loop-at-preserved g c =
    numbered_went (byte_text c.args.text.now) c.args.text.now c.loop-at.at (get_or c.args.text.now c.loop-at.at 0) _ c.loop-at-test.true (get_or_default c.args.text.now c.loop-at.at 0 _ c.loop-at-test.true) refl c.loop-at.invariant c.in_ok-write_byte.ensures

pub returns-in_err-write_byte : goal.returns-in_err-write_byte
returns-in_err-write_byte g c =
    numbered_stopped (byte_text c.args.text.now) c.args.text.now c.loop-at.at (get_or c.args.text.now c.loop-at.at 0) _ _ c.loop-at-test.true (get_or_default c.args.text.now c.loop-at.at 0 _ c.loop-at-test.true) refl c.from_residual.ensures.0 c.loop-at.invariant c.in_err-write_byte.ensures

pub returns : goal.returns
returns g c =
    wrote_same _ (numbered_done (byte_text c.args.text.now) c.args.text.now c.loop-at.at c.loop-at-test.false) c.loop-at.invariant
