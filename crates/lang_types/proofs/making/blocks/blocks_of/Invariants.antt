use Rattle.std.proofs.Common.{[], take}
use Rattle.lang_types.specs.Typed.{blocks_from}
use Rattle.lang_types.specs.inner.Making.{AreAdded}
use Rattle.lang_types.proofs.making.blocks.blocks_of.Given as goal

abbrev pub invariant-loop-number : goal.invariant-loop-number
invariant-loop-number l = AreAdded l.decls (blocks_from 0 (take l.number l.trees)) [] l.blocks.items [] l.known.items
