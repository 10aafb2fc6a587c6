use Rattle.std.proofs.Common.{take}
use Rattle.lang_types.specs.Typed.{placed_in}
use Rattle.lang_types.specs.inner.Making.{AreAdded}
use Rattle.lang_types.proofs.making.blocks.push_blocks.Given as goal

abbrev pub invariant-loop-block : goal.invariant-loop-block
invariant-loop-block l = AreAdded l.decls (placed_in l.number l.tree (take l.block-index l.blocks)) l.fn.to.items l.to.items l.fn.known.items l.known.items
