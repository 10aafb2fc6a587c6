mod BodiesIn64
mod MomentsIn64
mod FittingMoves
mod FittingCalls
