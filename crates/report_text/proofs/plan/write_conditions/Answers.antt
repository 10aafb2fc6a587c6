use Rattle.std.proofs.Common.{length, ap, refl, rules, arith}
use Rattle.std.specs.List.{flat_map, zip, enumerate_from}
use Rattle.std.proofs.lemmas.List.{length_push}
use Rattle.std.proofs.lemmas.Slice.Zip.{zip_turn, zip_end}
use Rattle.machine_events.specs.PlanText.{condition_text}
use Rattle.base_io.proofs.Rows.{row_stopped}
use Rattle.base_io.proofs.Writing.{wrote_same}
use Rattle.report_text.proofs.PlanRows.{both, within_numbered, numbered_at}
use Rattle.report_text.proofs.PlanRows.{numbered_end, row_turned}
use Rattle.report_text.proofs.plan.write_conditions.Goals as goal

pub loop-condition-preserved : goal.loop-condition-preserved
loop-condition-preserved g c =
    let turn = zip_turn c.args.conditions.now c.args.kinds.now c.loop-condition.yielded c.into_iter-condition-iterator.result c.loop-condition.condition-iterator c.next.new.self c.next.result (search rules) (search rules) c.loop-condition.yielded_by (c.in-Some.condition, c.in-Some.kind) c.in-Some.is c.next.ensures.steps in
    let further = length_push c.loop-condition.yielded (c.in-Some.condition, c.in-Some.kind) in
    record {
      counted = omega (arith, further, c.loop-condition.invariant.counted);
      wrote = row_turned (λ one. condition_text one.0 one.1.0 one.1.1) (enumerate_from 1 (zip c.args.conditions.now c.args.kinds.now)) (length c.loop-condition.yielded) _ (both c.loop-condition.number (both c.in-Some.condition.now c.in-Some.kind.now)) _
          further (within_numbered c.args.conditions.now c.args.kinds.now _ turn.0 turn.1)
          (numbered_at c.args.conditions.now c.args.kinds.now (length c.loop-condition.yielded) c.loop-condition.number c.in-Some.condition.now c.in-Some.kind.now c.loop-condition.invariant.counted turn.0 turn.1 (turn.2 c.in-Some.condition.now) (turn.3 c.in-Some.kind.now))
          refl c.loop-condition.invariant.wrote c.in_ok-write_condition.ensures;
    }

pub returns-in_err-write_condition : goal.returns-in_err-write_condition
returns-in_err-write_condition g c =
    let turn = zip_turn c.args.conditions.now c.args.kinds.now c.loop-condition.yielded c.into_iter-condition-iterator.result c.loop-condition.condition-iterator c.next.new.self c.next.result (search rules) (search rules) c.loop-condition.yielded_by (c.in-Some.condition, c.in-Some.kind) c.in-Some.is c.next.ensures.steps in
    row_stopped (λ one. condition_text one.0 one.1.0 one.1.1) (enumerate_from 1 (zip c.args.conditions.now c.args.kinds.now)) (length c.loop-condition.yielded) (both c.loop-condition.number (both c.in-Some.condition.now c.in-Some.kind.now)) _ _
    (within_numbered c.args.conditions.now c.args.kinds.now _ turn.0 turn.1)
    (numbered_at c.args.conditions.now c.args.kinds.now (length c.loop-condition.yielded) c.loop-condition.number c.in-Some.condition.now c.in-Some.kind.now c.loop-condition.invariant.counted turn.0 turn.1 (turn.2 c.in-Some.condition.now) (turn.3 c.in-Some.kind.now))
    refl c.from_residual.ensures.0 c.loop-condition.invariant.wrote c.in_err-write_condition.ensures

pub returns : goal.returns
returns g c =
    let end = zip_end c.args.conditions.now c.args.kinds.now c.loop-condition.yielded c.into_iter-condition-iterator.result c.loop-condition.condition-iterator c.next.new.self c.next.result (search rules) (search rules) c.loop-condition.yielded_by c.in-None.is c.next.ensures.steps in
    wrote_same _ (ap (flat_map (λ one. condition_text one.0 one.1.0 one.1.1)) (numbered_end c.args.conditions.now c.args.kinds.now _ end)) c.loop-condition.invariant.wrote
