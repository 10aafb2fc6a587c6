use Rattle.std.proofs.Common.{codes, decimal, ◌++◌, refl}
use Rattle.std.specs.List.{flat_map}
use Rattle.base_io.proofs.Rows.{row_stopped}
use Rattle.base_io.proofs.Writing.{wrote_both, wrote_fails, wrote_longer, wrote_same}
use Rattle.logic_cert.specs.CertText.{cert_text, combine_text}
use Rattle.logic_cert.specs.inner.Texts.{later_text, later_texts}
use Rattle.logic_cert.proofs.TextLemmas.{text-Split, text-Clash, text-Chain, text-Cases}
use Rattle.logic_cert.proofs.printing.+print_cert.Goals as goal

pub print_cert-returns-in_err-write_word-in-Split : goal.print_cert-returns-in_err-write_word-in-Split
print_cert-returns-in_err-write_word-in-Split g t c =
    wrote_same _ (text-Split c.args.cert.now c.in-Split.certs c.items.result.now c.in-Split.certs c.in-Split.is c.items.ensures refl) (wrote_fails _ c.from_residual.ensures.0 (wrote_longer (later_texts c.in-Split.certs) c.in_err-write_word-in-Split.ensures))

pub print_cert-returns-in_err-write_word-in-Clash : goal.print_cert-returns-in_err-write_word-in-Clash
print_cert-returns-in_err-write_word-in-Clash g t c =
    wrote_same _ (text-Clash c.args.cert.now c.in-Clash.left c.in-Clash.right c.in-Clash.is) (wrote_fails _ c.from_residual-in_err-write_word-in-Clash.ensures.0 (wrote_longer (codes " " ++ decimal c.in-Clash.right) c.in_err-write_word-in-Clash.ensures))

pub print_cert-returns-in_err-write_word-in-Chain : goal.print_cert-returns-in_err-write_word-in-Chain
print_cert-returns-in_err-write_word-in-Chain g t c =
    wrote_same _ (text-Chain c.args.cert.now c.in-Chain.combines c.items-in-Chain.result.now c.in-Chain.combines c.in-Chain.is c.items-in-Chain.ensures refl)
    (wrote_fails _ c.from_residual-in_err-write_word-in-Chain.ensures.0 (wrote_longer (flat_map combine_text c.in-Chain.combines) c.in_err-write_word-in-Chain.ensures))

pub print_cert-returns-in_ok-write_word-in-Split : goal.print_cert-returns-in_ok-write_word-in-Split
print_cert-returns-in_ok-write_word-in-Split g t c =
    wrote_same _ (text-Split c.args.cert.now c.in-Split.certs c.items.result.now c.items-in-Split.result.now c.in-Split.is c.items.ensures c.items-in-Split.ensures) (wrote_both c.in_ok-write_word-in-Split.ensures c.write_certs.ensures)

pub print_cert-returns-in_ok-write_word-in-Clash : goal.print_cert-returns-in_ok-write_word-in-Clash
print_cert-returns-in_ok-write_word-in-Clash g t c =
    wrote_same _ (text-Clash c.args.cert.now c.in-Clash.left c.in-Clash.right c.in-Clash.is) (wrote_both c.in_ok-write_word-in-Clash.ensures c.write_number.ensures)

pub print_cert-returns-in_ok-write_word-in-Chain : goal.print_cert-returns-in_ok-write_word-in-Chain
print_cert-returns-in_ok-write_word-in-Chain g t c =
    wrote_same _ (text-Chain c.args.cert.now c.in-Chain.combines c.items-in-Chain.result.now c.items-in-Chain-2.result.now c.in-Chain.is c.items-in-Chain.ensures c.items-in-Chain-2.ensures) (wrote_both c.in_ok-write_word-in-Chain.ensures c.write_combines.ensures)

pub write_certs-returns-in_err-write_later : goal.write_certs-returns-in_err-write_later
write_certs-returns-in_err-write_later g t c =
    row_stopped later_text c.args.certs.now c.loop-cert.cert-index c.cert-item.result _ _ c.loop-cert-test.true c.cert-item.is refl c.from_residual.ensures.0 c.loop-cert.invariant c.in_err-write_later.ensures

pub write_later-returns : goal.write_later-returns
write_later-returns g t c = wrote_both c.in_ok-write_piece.ensures c.print_cert.ensures

pub print_cert-returns-in_err-write_cases-in-Cases : goal.print_cert-returns-in_err-write_cases-in-Cases
print_cert-returns-in_err-write_cases-in-Cases g t c =
    wrote_same _ (text-Cases c.args.cert.now c.in-Cases.form c.in-Cases.below c.in-Cases.above c.in-Cases.below c.in-Cases.above c.in-Cases.is refl refl)
    (wrote_fails _ c.from_residual-in_err-write_cases-in-Cases.ensures.0
    (wrote_longer (codes " above " ++ cert_text c.in-Cases.above) (wrote_longer (codes " below " ++ cert_text c.in-Cases.below) c.in_err-write_cases-in-Cases.ensures)))

pub print_cert-returns-in_err-write_side-in-Cases : goal.print_cert-returns-in_err-write_side-in-Cases
print_cert-returns-in_err-write_side-in-Cases g t c =
    wrote_same _ (text-Cases c.args.cert.now c.in-Cases.form c.in-Cases.below c.in-Cases.above c.get.result.now c.in-Cases.above c.in-Cases.is c.get.ensures refl)
    (wrote_fails _ c.from_residual-in_err-write_side-in-Cases.ensures.0
    (wrote_longer (codes " above " ++ cert_text c.in-Cases.above) (wrote_both c.in_ok-write_cases-in-Cases.ensures c.in_err-write_side-in-Cases.ensures)))

pub print_cert-returns-in_ok-write_side-in-Cases : goal.print_cert-returns-in_ok-write_side-in-Cases
print_cert-returns-in_ok-write_side-in-Cases g t c =
    wrote_same _ (text-Cases c.args.cert.now c.in-Cases.form c.in-Cases.below c.in-Cases.above c.get.result.now c.get-in-Cases.result.now c.in-Cases.is c.get.ensures c.get-in-Cases.ensures)
    (wrote_both (wrote_both c.in_ok-write_cases-in-Cases.ensures c.in_ok-write_side-in-Cases.ensures) c.write_side-in-Cases.ensures)

pub write_side-returns : goal.write_side-returns
write_side-returns g t c = wrote_both c.in_ok-write_piece.ensures c.print_cert.ensures
