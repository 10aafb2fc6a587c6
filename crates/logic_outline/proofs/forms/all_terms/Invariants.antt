use Rattle.std.proofs.Common.{◌-◌}
use Rattle.logic_cert.specs.CertText.{term_text}
use Rattle.logic_outline.specs.inner.Parts.{IsTypedTerm}
use Rattle.logic_outline.proofs.Readings.{Follows}
use Rattle.logic_outline.proofs.forms.all_terms.Given as goal

abbrev pub invariant-loop-turn : goal.invariant-loop-turn
invariant-loop-turn l = Follows term_text IsTypedTerm l.bytes l.count l.terms.items l.left (l.count - l._turn)
