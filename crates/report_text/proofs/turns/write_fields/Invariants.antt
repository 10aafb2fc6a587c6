use Rattle.std.proofs.Common.{Ok, take, length}
use Rattle.report_text.specs.TurnsText.{fields_text}
use Rattle.base_io.specs.Writing.{Wrote}
use Rattle.report_text.proofs.turns.write_fields.Given as goal

abbrev pub invariant-loop-field : goal.invariant-loop-field
invariant-loop-field g l =
    Wrote (g.S.Sink.seen l.initial.out) (g.S.Sink.seen l.out) (Ok tt) (fields_text (take (length l.yielded) l.fields) (take (length l.yielded) l.values))
