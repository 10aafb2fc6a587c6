use Rattle.std.proofs.Common.{Ok, take}
use Rattle.std.specs.List.{flat_map, enumerate_from}
use Rattle.base_io.specs.Writing.{Wrote}
use Rattle.logic_solve.specs.Solutions.{valuation_of}
use Rattle.report_reasons.specs.ReasonText.{local_text}
use Rattle.report_reasons.proofs.clients.write_locals.Given as goal

abbrev pub invariant-loop-number : goal.invariant-loop-number
invariant-loop-number g l =
    Wrote (g.S.Sink.seen l.initial.out) (g.S.Sink.seen l.out) (Ok tt) (flat_map (λ one. local_text (valuation_of l.at) l.first l.locals l.before one.0 one.1) (take l.number (enumerate_from 0 l.values)))
