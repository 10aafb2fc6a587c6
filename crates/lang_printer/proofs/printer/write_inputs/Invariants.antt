use Rattle.std.proofs.Common.{◌++◌, Ok, take, codes}
use Rattle.std.specs.List.{flat_map}
use Rattle.lang_printer.specs.Canonical.{input_text}
use Rattle.base_io.specs.Writing.{Wrote}
use Rattle.lang_printer.proofs.printer.write_inputs.Given as goal

abbrev pub invariant-loop-input : goal.invariant-loop-input
invariant-loop-input g l =
    Wrote (g.S.Sink.seen l.initial.out) (g.S.Sink.seen l.out) (Ok tt) (flat_map (λ input. codes ", " ++ input_text input) (take l.input-index l.rest))
