use Rattle.std.proofs.Common.{take}
use Rattle.std.specs.List.{flat_map}
use Rattle.base_pen.specs.Putting.{Adds}
use Rattle.report_tally.specs.CountedTexts.{still_owed_text}
use Rattle.report_tally.proofs.writing.put_still_owed.Given as goal

abbrev pub invariant-loop-proof : goal.invariant-loop-proof
invariant-loop-proof g l = Adds g.S.Sink.seen l.initial.pen l.pen (flat_map (still_owed_text l.monitor l.columns) (take l.proof-index l.proofs))
