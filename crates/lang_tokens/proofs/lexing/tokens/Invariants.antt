use Rattle.std.proofs.Common.{length}
use Rattle.lang_tokens.proofs.Cutting.{Going}
use Rattle.lang_tokens.proofs.lexing.tokens.Given as goal

abbrev pub invariant-pieces : goal.invariant-pieces
invariant-pieces l = Going l.bytes l.out.items l.at l.rest

abbrev pub decreases-pieces : goal.decreases-pieces
decreases-pieces l = length l.rest
