use Rattle.std.proofs.Common.{length, rules}
use Rattle.std.proofs.lemmas.List.{length_push}
use Rattle.std.proofs.lemmas.Slice.Zip.{zip_turn, zip_end}
use Rattle.base_io.proofs.Writing.{wrote_same}
use Rattle.report_text.proofs.TurnsRows.{fields_went, fields_stopped, fields_text-end}
use Rattle.report_text.proofs.turns.write_fields.Goals as goal

pub loop-field-preserved : goal.loop-field-preserved
loop-field-preserved g c =
    let turn = zip_turn c.args.fields.now c.args.values.now c.loop-field.yielded c.into_iter-field-iterator.result c.loop-field.field-iterator c.next.new.self c.next.result (search rules) (search rules) c.loop-field.yielded_by (c.in-Some.field, c.in-Some.value) c.in-Some.is c.next.ensures.steps in
    fields_went c.args.fields.now c.args.values.now (length c.loop-field.yielded) _ c.in-Some.field.now c.in-Some.value.now (length_push c.loop-field.yielded (c.in-Some.field, c.in-Some.value)) turn.0 turn.1 (turn.2 c.in-Some.field.now) (turn.3 c.in-Some.value.now) c.loop-field.invariant c.in_ok-write_field.ensures

pub returns-in_err-write_field : goal.returns-in_err-write_field
returns-in_err-write_field g c =
    let turn = zip_turn c.args.fields.now c.args.values.now c.loop-field.yielded c.into_iter-field-iterator.result c.loop-field.field-iterator c.next.new.self c.next.result (search rules) (search rules) c.loop-field.yielded_by (c.in-Some.field, c.in-Some.value) c.in-Some.is c.next.ensures.steps in
    fields_stopped c.args.fields.now c.args.values.now (length c.loop-field.yielded) c.in-Some.field.now c.in-Some.value.now _ turn.0 turn.1 (turn.2 c.in-Some.field.now) (turn.3 c.in-Some.value.now) c.from_residual.ensures.0 c.loop-field.invariant c.in_err-write_field.ensures

pub returns : goal.returns
returns g c =
    let end = zip_end c.args.fields.now c.args.values.now c.loop-field.yielded c.into_iter-field-iterator.result c.loop-field.field-iterator c.next.new.self c.next.result (search rules) (search rules) c.loop-field.yielded_by c.in-None.is c.next.ensures.steps in
    wrote_same _ (fields_text-end _ _ _ end) c.loop-field.invariant
