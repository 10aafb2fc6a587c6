use Rattle.std.proofs.Common.{Ok, take}
use Rattle.base_io.specs.Writing.{Wrote}
use Rattle.logic_cert.specs.inner.Texts.{later_texts}
use Rattle.logic_cert.proofs.printing.+print_cert.Given as goal

abbrev pub invariant-write_certs-loop-cert : goal.invariant-write_certs-loop-cert
invariant-write_certs-loop-cert g l = Wrote (g.S.Sink.seen l.initial.out) (g.S.Sink.seen l.out) (Ok tt) (later_texts (take l.cert-index l.certs))
