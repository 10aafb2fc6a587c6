use Rattle.std.proofs.Common.{Ok, take}
use Rattle.std.specs.List.{flat_map}
use Rattle.base_io.specs.Writing.{Wrote}
use Rattle.logic_cert.specs.CertText.{combine_text}
use Rattle.logic_cert.proofs.printing.write_combines.Given as goal

abbrev pub invariant-loop-combine : goal.invariant-loop-combine
invariant-loop-combine g l = Wrote (g.S.Sink.seen l.initial.out) (g.S.Sink.seen l.out) (Ok tt) (flat_map combine_text (take l.combine-index l.combines))
