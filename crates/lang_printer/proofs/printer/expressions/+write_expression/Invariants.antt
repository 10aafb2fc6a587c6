use Rattle.std.proofs.Common.{◌++◌, Ok, take}
use Rattle.std.specs.List.{flat_map}
use Rattle.lang_printer.specs.Printing.{part_text, later_factor, later_addend}
use Rattle.base_io.specs.Writing.{Wrote}
use Rattle.lang_printer.proofs.printer.expressions.+write_expression.Given as goal

abbrev pub invariant-write_factors-loop-factor : goal.invariant-write_factors-loop-factor
invariant-write_factors-loop-factor g l =
    Wrote (g.S.Sink.seen l.initial.out) (g.S.Sink.seen l.out) (Ok tt) (flat_map later_factor (take l.factor-index l.factors))

abbrev pub invariant-write_addends-loop-addend : goal.invariant-write_addends-loop-addend
invariant-write_addends-loop-addend g l =
    Wrote (g.S.Sink.seen l.initial.out) (g.S.Sink.seen l.out) (Ok tt) (flat_map later_addend (take l.addend-index l.addends))

abbrev pub invariant-write_joined-loop-part : goal.invariant-write_joined-loop-part
invariant-write_joined-loop-part g l =
    Wrote (g.S.Sink.seen l.initial.out) (g.S.Sink.seen l.out) (Ok tt) (flat_map (λ part. l.sign ++ part_text l.asked part) (take l.part-index l.rest))
