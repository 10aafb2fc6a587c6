use Rattle.std.proofs.Common.{◌<◌, ◌∙◌, ap, sym, length, arith}
use Rattle.std.specs.List.{flat_map, enumerate_from}
use Rattle.machine_implicit.specs.declared.script.Client.{Client}
use Rattle.report_text.specs.LogText.{woken_name}
use Rattle.base_io.proofs.Rows.{row_went, row_stopped}
use Rattle.base_io.proofs.Writing.{wrote_same}
use Rattle.report_text.proofs.PlanRows.{both}
use Rattle.report_text.proofs.LogRows.{within_enumerated, enumerated_at, enumerated_end}
use Rattle.report_text.proofs.WokenRows.{names_up_to, named}
use Rattle.report_text.proofs.log.write_woken.Goals as goal

pub loop-passed-preserved : goal.loop-passed-preserved
loop-passed-preserved g c =
    let number = c.next_woken-number.result in
    let within : number < length c.args.clients.now = c.if-number-clients.false in
    let found = c.next_woken-number.ensures.woken (omega (arith, within, c.requires)) in
    row_went (λ one. woken_name c.args.woken one.0 one.1) (enumerate_from 0 c.args.clients.now) number (both number c.index-clients-number.result) _
    (within_enumerated c.args.clients.now number within) (enumerated_at c.args.clients.now number c.index-clients-number.result within c.index-clients-number.is)
    (named c.args.woken number c.index-clients-number.result c.bytes.result.now (c.bytes.ensures ∙ ap (λ (one : Client). one.name) (sym c.index-clients-number.is)) found)
    (wrote_same _ (names_up_to c.args.woken c.args.clients.now c.loop-passed.passed number c.next_woken-number.ensures.from c.next_woken-number.ensures.none) c.loop-passed.invariant) c.in_ok-write_pieces.ensures

pub returns-in_err-write_pieces : goal.returns-in_err-write_pieces
returns-in_err-write_pieces g c =
    let number = c.next_woken-number.result in
    let within : number < length c.args.clients.now = c.if-number-clients.false in
    let found = c.next_woken-number.ensures.woken (omega (arith, within, c.requires)) in
    row_stopped (λ one. woken_name c.args.woken one.0 one.1) (enumerate_from 0 c.args.clients.now) number (both number c.index-clients-number.result) _ _
    (within_enumerated c.args.clients.now number within) (enumerated_at c.args.clients.now number c.index-clients-number.result within c.index-clients-number.is)
    (named c.args.woken number c.index-clients-number.result c.bytes.result.now (c.bytes.ensures ∙ ap (λ (one : Client). one.name) (sym c.index-clients-number.is)) found) c.from_residual.ensures.0
    (wrote_same _ (names_up_to c.args.woken c.args.clients.now c.loop-passed.passed number c.next_woken-number.ensures.from c.next_woken-number.ensures.none) c.loop-passed.invariant) c.in_err-write_pieces.ensures

pub returns-then-number-clients : goal.returns-then-number-clients
returns-then-number-clients g c =
    let clients = c.args.clients.now in
    let none = names_up_to c.args.woken clients c.loop-passed.passed c.next_woken-number.result c.next_woken-number.ensures.from c.next_woken-number.ensures.none in
    wrote_same _ (none ∙ ap (flat_map (λ one. woken_name c.args.woken one.0 one.1)) (enumerated_end clients c.next_woken-number.result c.if-number-clients.true)) c.loop-passed.invariant

pub returns : goal.returns
returns g c = wrote_same _ (ap (flat_map (λ one. woken_name c.args.woken one.0 one.1)) (enumerated_end c.args.clients.now c.loop-passed.passed c.loop-passed-test.false)) c.loop-passed.invariant
