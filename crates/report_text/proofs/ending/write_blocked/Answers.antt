use Rattle.std.proofs.Common.{ap, refl, arith}
use Rattle.std.specs.List.{flat_map, enumerate_from}
use Rattle.report_text.specs.TurnsText.{blocked_text}
use Rattle.report_text.specs.inner.Ends.{places_listed}
use Rattle.base_io.proofs.Rows.{row_went, row_stopped}
use Rattle.base_io.proofs.Writing.{wrote_same}
use Rattle.report_text.proofs.PlanRows.{both}
use Rattle.report_text.proofs.LogRows.{within_enumerated, enumerated_at, enumerated_end}
use Rattle.report_text.proofs.ending.write_blocked.Goals as goal

pub loop-client-preserved : goal.loop-client-preserved
loop-client-preserved g c =
    row_went (λ one. blocked_text c.args.monitor.now c.args.clients.now one.0 one.1) (enumerate_from 0 (places_listed c.args.left.now)) c.loop-client.client (both c.loop-client.client c.place.result.now) _
    (within_enumerated (places_listed c.args.left.now) c.loop-client.client (omega (arith, c.loop-client-test.true, c.count-client-end.ensures))) (enumerated_at (places_listed c.args.left.now) c.loop-client.client c.place.result.now (omega (arith, c.loop-client-test.true, c.count-client-end.ensures)) c.place.ensures)
    refl c.loop-client.invariant c.in_ok-write_if_blocked.ensures

pub returns-in_err-write_if_blocked : goal.returns-in_err-write_if_blocked
returns-in_err-write_if_blocked g c =
    row_stopped (λ one. blocked_text c.args.monitor.now c.args.clients.now one.0 one.1) (enumerate_from 0 (places_listed c.args.left.now)) c.loop-client.client (both c.loop-client.client c.place.result.now) _ _
    (within_enumerated (places_listed c.args.left.now) c.loop-client.client (omega (arith, c.loop-client-test.true, c.count-client-end.ensures))) (enumerated_at (places_listed c.args.left.now) c.loop-client.client c.place.result.now (omega (arith, c.loop-client-test.true, c.count-client-end.ensures)) c.place.ensures)
    refl c.from_residual.ensures.0 c.loop-client.invariant c.in_err-write_if_blocked.ensures

pub returns : goal.returns
returns g c =
    wrote_same _ (ap (flat_map (λ one. blocked_text c.args.monitor.now c.args.clients.now one.0 one.1)) (enumerated_end (places_listed c.args.left.now) c.loop-client.client (omega (arith, c.loop-client-test.false, c.count-client-end.ensures)))) c.loop-client.invariant
