use Rattle.std.proofs.Common.{Ok, take}
use Rattle.std.specs.List.{flat_map}
use Rattle.base_io.specs.Writing.{Wrote}
use Rattle.logic_cert.specs.CertText.{term_text}
use Rattle.logic_cert.proofs.printing.write_terms.Given as goal

abbrev pub invariant-loop-term : goal.invariant-loop-term
invariant-loop-term g l = Wrote (g.S.Sink.seen l.initial.out) (g.S.Sink.seen l.out) (Ok tt) (flat_map term_text (take l.term-index l.terms))
