use Rattle.std.proofs.Common.{refl}
use Rattle.lang_printer.specs.CanonicalClients.{client_text}
use Rattle.base_io.proofs.Rows.{row_went, row_stopped}
use Rattle.lang_printer.proofs.printer.clients.write_clients.Goals as goal

pub loop-client-preserved : goal.loop-client-preserved
loop-client-preserved g c =
    row_went client_text c.args.clients.now c.loop-client.client-index c.client-item.result _ c.loop-client-test.true c.client-item.is refl c.loop-client.invariant c.in_ok-write_client.ensures

pub returns-in_err-write_client : goal.returns-in_err-write_client
returns-in_err-write_client g c =
    row_stopped client_text c.args.clients.now c.loop-client.client-index c.client-item.result _ _ c.loop-client-test.true c.client-item.is refl c.from_residual.ensures.0 c.loop-client.invariant c.in_err-write_client.ensures
