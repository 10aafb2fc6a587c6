use Rattle.std.proofs.Common.{refl, pos, get_or}
use Rattle.base_io.proofs.Rows.{row_stopped}
use Rattle.logic_cert.specs.declared.cert.Combine.{Combine}
use Rattle.logic_cert.specs.CertText.{combine_text}
use Rattle.logic_cert.proofs.TextLemmas.{same_default}
use Rattle.logic_cert.proofs.printing.write_combines.Goals as goal

abbrev no_combine : Combine
no_combine = record { left = 0; left_times = pos 0; right = 0; right_times = pos 0 }

pub returns-in_err-write_combine : goal.returns-in_err-write_combine
returns-in_err-write_combine g c =
    row_stopped combine_text c.args.combines.now c.loop-combine.combine-index (get_or c.args.combines.now c.loop-combine.combine-index no_combine) _ _ c.loop-combine-test.true
    (same_default c.args.combines.now c.loop-combine.combine-index no_combine c.loop-combine-test.true) refl c.from_residual.ensures.0 c.loop-combine.invariant c.in_err-write_combine.ensures
