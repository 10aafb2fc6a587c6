use Rattle.std.proofs.Common.{◌++◌, Ok, take, codes}
use Rattle.std.specs.List.{flat_map}
use Rattle.lang_printer.specs.CanonicalClients.{argument_text}
use Rattle.base_io.specs.Writing.{Wrote}
use Rattle.lang_printer.proofs.printer.clients.write_arguments.Given as goal

abbrev pub invariant-loop-argument : goal.invariant-loop-argument
invariant-loop-argument g l =
    Wrote (g.S.Sink.seen l.initial.out) (g.S.Sink.seen l.out) (Ok tt) (flat_map (λ argument. codes ", " ++ argument_text argument) (take l.argument-index l.rest))
