use Rattle.std.proofs.Common.{◌+◌, ◌∙◌}
use Rattle.emit_comments.proofs.Numbered.{tested_all, tested_more}
use Rattle.emit_statements.specs.Sources.{seen}
use Rattle.emit_statements.specs.Statements.{block_fails}
use Rattle.emit_statements.proofs.statements.any_fails.Goals as goal

pub loop-place-preserved : goal.loop-place-preserved
loop-place-preserved c =
    c.either-found.ensures ∙ tested_more (λ place. block_fails (seen c.args.source.now) c.args.method.now (c.args.first + place)) c.args.blocks.now c.loop-place.place c.index-blocks-place.result _ _ c.loop-place-test.true c.index-blocks-place.is c.block_fails-here.ensures c.loop-place.invariant

pub returns : goal.returns
returns c =
    c.loop-place.invariant ∙ tested_all (λ place. block_fails (seen c.args.source.now) c.args.method.now (c.args.first + place)) c.args.blocks.now c.loop-place.place c.loop-place-test.false
