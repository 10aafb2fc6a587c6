use Rattle.std.proofs.Common.{take}
use Rattle.std.specs.List.{flat_map, enumerate_from}
use Rattle.base_pen.specs.Putting.{Adds}
use Rattle.report_tally.specs.CountedTexts.{column_text}
use Rattle.report_tally.proofs.writing.put_columns.Given as goal

abbrev pub invariant-loop-index : goal.invariant-loop-index
invariant-loop-index g l =
    Adds g.S.Sink.seen l.initial.pen l.pen (flat_map (λ one. column_text l.monitor one.0 one.1) (take l.index (enumerate_from 1 l.columns)))
