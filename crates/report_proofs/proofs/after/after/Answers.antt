use Rattle.std.proofs.Common.{List, ℕ, Bor, subst}
use Rattle.report_proofs.specs.Fronts.{IsAfter}
use Rattle.report_proofs.proofs.Fronts.{pieces_stop}
use Rattle.report_proofs.proofs.after.after.Goals as goal

pub returns-in-None : goal.returns-in-None
returns-in-None c =
    pieces_stop (λ (piece : Bor (List ℕ)). piece.now) c.args.pieces.now c.loop-piece.piece-index _ c.args.bytes.now c.loop-piece.rest.now c.loop-piece-test.true c.loop-piece.invariant
    (subst (IsAfter c.loop-piece.rest.now _) c.in-None.is c.after_piece.ensures)
