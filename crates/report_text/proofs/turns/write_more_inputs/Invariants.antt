use Rattle.std.proofs.Common.{◌++◌, Ok, take, codes}
use Rattle.std.specs.List.{flat_map}
use Rattle.report_text.specs.TurnsText.{value_text}
use Rattle.base_io.specs.Writing.{Wrote}
use Rattle.report_text.proofs.turns.write_more_inputs.Given as goal

abbrev pub invariant-loop-input : goal.invariant-loop-input
invariant-loop-input g l =
    Wrote (g.S.Sink.seen l.initial.out) (g.S.Sink.seen l.out) (Ok tt) (flat_map (λ input. codes ", " ++ value_text input) (take l.input-index l.inputs))
