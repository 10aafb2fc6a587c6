use Rattle.std.proofs.Common.{arith, pos}
use Rattle.std.proofs.lemmas.List.Elements.{All-more}
use Rattle.logic_cert.specs.declared.cert.Combine.{Combine}
use Rattle.logic_outline.specs.Outlines.{IsCombine}
use Rattle.report_verdict.proofs.Pairs.{all_taken}
use Rattle.report_proofs.proofs.ranges.of_combines.Goals as goal

abbrev no_combine : Combine
no_combine = record { left = 0; left_times = pos 0; right = 0; right_times = pos 0 }

pub loop-combine-preserved : goal.loop-combine-preserved
loop-combine-preserved c = All-more IsCombine c.args.combines.now c.loop-combine.combine-index no_combine c.loop-combine-test.true c.loop-combine.invariant c.of_combine.ensures

pub returns : goal.returns
returns c = all_taken IsCombine c.args.combines.now c.loop-combine.combine-index (omega (arith, c.loop-combine-test.false)) c.loop-combine.invariant
