use Rattle.std.proofs.Common.{◌++◌, ◌∙◌, ap, codes}
use Rattle.std.proofs.lemmas.List.{take_all}
use Rattle.std.specs.List.{flat_map}
use Rattle.lang_printer.specs.Canonical.{input_text}
use Rattle.lang_printer.proofs.Files.{inputs-cut}
use Rattle.lang_printer.proofs.Printing.{after_first}
use Rattle.base_io.proofs.Rows.{row_stopped}
use Rattle.base_io.proofs.Writing.{wrote_both, wrote_same}
use Rattle.lang_printer.proofs.printer.write_inputs.Goals as goal

pub returns : goal.returns
returns g c =
    let whole = ap (λ rest. (c.kind_bytes.result.now ++ c.first-item.result.name) ++ flat_map (λ input. codes ", " ++ input_text input) rest) (take_all c.loop-input.input-index (after_first c.args.inputs.now) c.loop-input-test.false) in
    wrote_same _ (whole ∙ inputs-cut c.args.inputs.now c.first-item.result _ c.in-len1-up.len_at_least c.first-item.is c.kind_bytes.ensures) (wrote_both c.in_ok-write_input.ensures c.loop-input.invariant)

pub returns-in_err-write_input-2 : goal.returns-in_err-write_input-2
returns-in_err-write_input-2 g c =
    let says = ap (λ kind. codes ", " ++ (kind ++ c.input-item.result.name)) c.kind_bytes-in-loop-input.ensures in
    let stopped = row_stopped (λ input. codes ", " ++ input_text input) (after_first c.args.inputs.now) c.loop-input.input-index c.input-item.result _ _ c.loop-input-test.true c.input-item.is says c.from_residual-in_err-write_input-2.ensures.0 c.loop-input.invariant c.in_err-write_input-2.ensures in
    wrote_same _ (inputs-cut c.args.inputs.now c.first-item.result _ c.in-len1-up.len_at_least c.first-item.is c.kind_bytes.ensures) (wrote_both c.in_ok-write_input.ensures stopped)
