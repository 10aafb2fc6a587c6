use Rattle.std.proofs.Common.{Ok, take}
use Rattle.std.specs.List.{flat_map, enumerate_from}
use Rattle.base_io.specs.Writing.{Wrote}
use Rattle.logic_solve.specs.Solutions.{valuation_of}
use Rattle.report_reasons.specs.ReasonText.{field_text}
use Rattle.report_reasons.proofs.values.write_fields.Given as goal

abbrev pub invariant-loop-number : goal.invariant-loop-number
invariant-loop-number g l =
    Wrote (g.S.Sink.seen l.initial.out) (g.S.Sink.seen l.out) (Ok tt) (flat_map (λ one. field_text (valuation_of l.at) one.0 one.1) (take l.number (enumerate_from 0 l.fields)))
