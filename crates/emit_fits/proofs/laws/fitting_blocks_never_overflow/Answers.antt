use Rattle.emit_fits.proofs.FittingCalls.{calls_never_overflow}
use Rattle.emit_fits.proofs.FittingMoves.{never_overflows}
use Rattle.emit_fits.proofs.laws.fitting_blocks_never_overflow.Goals as goal

pub returns-clause-blocks : goal.returns-clause-blocks
returns-clause-blocks c = never_overflows

pub returns-clause-calls : goal.returns-clause-calls
returns-clause-calls c = calls_never_overflow
