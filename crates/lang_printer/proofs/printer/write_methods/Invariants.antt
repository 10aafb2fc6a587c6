use Rattle.std.proofs.Common.{Ok, take}
use Rattle.std.specs.List.{flat_map}
use Rattle.lang_printer.specs.Canonical.{method_text}
use Rattle.base_io.specs.Writing.{Wrote}
use Rattle.lang_printer.proofs.printer.write_methods.Given as goal

abbrev pub invariant-loop-method : goal.invariant-loop-method
invariant-loop-method g l =
    Wrote (g.S.Sink.seen l.initial.out) (g.S.Sink.seen l.out) (Ok tt) (flat_map method_text (take l.method-index l.methods))
