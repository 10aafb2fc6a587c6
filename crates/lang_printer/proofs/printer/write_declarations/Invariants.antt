use Rattle.std.proofs.Common.{◌++◌, Ok, take}
use Rattle.std.specs.List.{flat_map}
use Rattle.lang_printer.specs.Canonical.{declared_text}
use Rattle.base_io.specs.Writing.{Wrote}
use Rattle.lang_printer.proofs.printer.write_declarations.Given as goal

abbrev pub invariant-loop-declaration : goal.invariant-loop-declaration
invariant-loop-declaration g l =
    Wrote (g.S.Sink.seen l.initial.out) (g.S.Sink.seen l.out) (Ok tt) (flat_map (λ declaration. l.lead ++ declared_text declaration) (take l.declaration-index l.declarations))
