use Rattle.std.proofs.Common.{take}
use Rattle.std.specs.List.{flat_map, enumerate_from}
use Rattle.base_pen.specs.Putting.{Adds}
use Rattle.report_fits.specs.FitTexts.{fit_if, fit_text}
use Rattle.report_fits.proofs.writing.put_fits.Given as goal

abbrev pub invariant-loop-index : goal.invariant-loop-index
invariant-loop-index g l =
    Adds g.S.Sink.seen l.initial.pen l.pen (flat_map (λ one. flat_map (fit_text l.monitor) (fit_if one.0 one.1)) (take l.index (enumerate_from 0 l.answers)))
