use Rattle.std.proofs.Common.{◌-◌}
use Rattle.logic_cert.specs.CertText.{combine_text}
use Rattle.logic_outline.specs.Outlines.{IsCombine}
use Rattle.logic_outline.proofs.Readings.{Follows}
use Rattle.logic_outline.proofs.reading.combines.Given as goal

abbrev pub invariant-loop-turn : goal.invariant-loop-turn
invariant-loop-turn l = Follows combine_text IsCombine l.bytes l.count l.combines.items l.left (l.count - l._turn)
