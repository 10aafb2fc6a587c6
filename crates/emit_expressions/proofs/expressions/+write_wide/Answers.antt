use Rattle.std.proofs.Common.{◌++◌, ◌∙◌, codes, ap, refl}
use Rattle.emit_expressions.specs.Expressions.{written}
use Rattle.emit_expressions.specs.inner.Parts.{wide_part, later_addend}
use Rattle.base_io.proofs.Writing.{wrote_both, wrote_fails, wrote_longer, wrote_same}
use Rattle.std.specs.List.{enumerate_from, flat_map}
use Rattle.emit_expressions.specs.Expressions.{addend_by, closed, product_closed}
use Rattle.emit_expressions.specs.inner.Parts.{addend_at, addends_text, factor_at, factors_text}
use Rattle.emit_expressions.proofs.Numbered.{numbered, numbered_done, numbered_stopped, numbered_went}
use Rattle.emit_expressions.proofs.Written.{addend-begins, addend-follows, begun-by, wide_part-open, wide_part-closed, wide-Number, wide-Named, later_factor-of, later_addend-of, wide-Product, wide-Sum}
use Rattle.emit_expressions.specs.Scopes.{seen}
use Rattle.emit_expressions.proofs.expressions.+write_wide.Goals as goal

pub write_wide_at-returns-in_err-write_wide : goal.write_wide_at-returns-in_err-write_wide
write_wide_at-returns-in_err-write_wide g t c =
    wrote_same _ (wide_part-open (seen c.args.scope.now) c.args.asked c.level.result c.args.ending.now c.args.part.now (c.level.ensures (seen c.args.scope.now)) c.if-asked-level.false)
    (wrote_fails _ c.from_residual-in_err-write_wide.ensures.0 (wrote_both c.in_ok-write_piece.ensures (wrote_longer (codes ")") c.in_err-write_wide.ensures)))

pub write_wide_at-returns : goal.write_wide_at-returns
write_wide_at-returns g t c =
    wrote_same _ (wide_part-open (seen c.args.scope.now) c.args.asked c.level.result c.args.ending.now c.args.part.now (c.level.ensures (seen c.args.scope.now)) c.if-asked-level.false)
    (wrote_both c.in_ok-write_piece.ensures (wrote_both c.in_ok-write_wide.ensures c.write_piece-2.ensures))

pub write_wide_after-returns : goal.write_wide_after-returns
write_wide_after-returns g t c = wrote_both c.in_ok-write_piece.ensures c.write_wide_at.ensures

pub write_factors-loop-place-preserved : goal.write_factors-loop-place-preserved
write_factors-loop-place-preserved g t c =
    let scope = seen c.args.scope.now in
    numbered_went (factor_at scope c.args.pieced c.args.ending.now) c.args.factors.now c.loop-place.place c.index-factors-place.result _ c.loop-place-test.true c.index-factors-place.is
    (later_factor-of scope c.begins_at.result _ c.args.ending.now c.index-factors-place.result _ c.begins_at.ensures c.times_bytes.ensures) c.loop-place.invariant c.in_ok-write_wide_after.ensures

pub write_factors-returns-in_err-write_wide_after : goal.write_factors-returns-in_err-write_wide_after
write_factors-returns-in_err-write_wide_after g t c =
    let scope = seen c.args.scope.now in
    wrote_fails _ c.from_residual.ensures.0 (wrote_longer (product_closed c.args.pieced)
    (numbered_stopped (factor_at scope c.args.pieced c.args.ending.now) c.args.factors.now c.loop-place.place c.index-factors-place.result _ _ c.loop-place-test.true c.index-factors-place.is
    (later_factor-of scope c.begins_at.result _ c.args.ending.now c.index-factors-place.result _ c.begins_at.ensures c.times_bytes.ensures) refl c.loop-place.invariant c.in_err-write_wide_after.ensures))

pub write_factors-returns : goal.write_factors-returns
write_factors-returns g t c =
    let scope = seen c.args.scope.now in
    wrote_same _ (ap (λ l. l ++ c.product_closed_bytes.result.now) (numbered_done (factor_at scope c.args.pieced c.args.ending.now) c.args.factors.now c.loop-place.place c.loop-place-test.false) ∙ ap (λ l. flat_map (numbered (factor_at scope c.args.pieced c.args.ending.now)) (enumerate_from 0 c.args.factors.now) ++ l) c.product_closed_bytes.ensures)
    (wrote_both c.loop-place.invariant c.write_piece.ensures)

pub write_addend-returns-then-not-begins : goal.write_addend-returns-then-not-begins
write_addend-returns-then-not-begins g t c =
    let scope = seen c.args.scope.now in
    wrote_same _ (ap (λ sign. sign ++ wide_part scope 5 c.args.ending.now c.args.addend.now.of) c.sign_bytes.ensures ∙ later_addend-of scope c.args.ending.now c.args.addend.now ∙ addend-follows c.args.begins c.args.ending.now (later_addend scope c.args.addend.now) c.if-not-begins.true)
    c.write_wide_after.ensures

pub write_addend-returns : goal.write_addend-returns
write_addend-returns g t c =
    let scope = seen c.args.scope.now in
    wrote_same _ (ap (λ l. codes ")\n            + (" ++ l) (begun-by scope c.args.ending.now c.args.addend.now _ _ c.minus_bytes.ensures c.begun_level.ensures) ∙ addend-begins c.args.begins c.args.ending.now (later_addend scope c.args.addend.now) c.if-not-begins.false)
    (wrote_both c.in_ok-write_piece.ensures c.write_wide_after-2.ensures)

pub write_addend-returns-in_err-write_piece : goal.write_addend-returns-in_err-write_piece
write_addend-returns-in_err-write_piece g t c =
    let later = later_addend (seen c.args.scope.now) c.args.addend.now in
    wrote_same _ (addend-begins c.args.begins c.args.ending.now later c.if-not-begins.false) (wrote_fails _ c.from_residual.ensures.0 (wrote_longer (later.begun c.args.ending.now) c.in_err-write_piece.ensures))

pub write_addends-loop-place-preserved : goal.write_addends-loop-place-preserved
write_addends-loop-place-preserved g t c =
    let scope = seen c.args.scope.now in
    numbered_went (addend_at scope c.args.pieced c.args.ending.now) c.args.addends.now c.loop-place.place c.index-addends-place.result _ c.loop-place-test.true c.index-addends-place.is
    (ap (λ b. addend_by b c.args.ending.now (later_addend scope c.index-addends-place.result)) c.begins_at.ensures) c.loop-place.invariant c.in_ok-write_addend.ensures

pub write_addends-returns-in_err-write_addend : goal.write_addends-returns-in_err-write_addend
write_addends-returns-in_err-write_addend g t c =
    let scope = seen c.args.scope.now in
    wrote_fails _ c.from_residual.ensures.0 (wrote_longer (closed c.args.pieced)
    (numbered_stopped (addend_at scope c.args.pieced c.args.ending.now) c.args.addends.now c.loop-place.place c.index-addends-place.result _ _ c.loop-place-test.true c.index-addends-place.is
    (ap (λ b. addend_by b c.args.ending.now (later_addend scope c.index-addends-place.result)) c.begins_at.ensures) refl c.loop-place.invariant c.in_err-write_addend.ensures))

pub write_addends-returns : goal.write_addends-returns
write_addends-returns g t c =
    let scope = seen c.args.scope.now in
    wrote_same _ (ap (λ l. l ++ c.closed_bytes.result.now) (numbered_done (addend_at scope c.args.pieced c.args.ending.now) c.args.addends.now c.loop-place.place c.loop-place-test.false) ∙ ap (λ l. flat_map (numbered (addend_at scope c.args.pieced c.args.ending.now)) (enumerate_from 0 c.args.addends.now) ++ l) c.closed_bytes.ensures)
    (wrote_both c.loop-place.invariant c.write_piece.ensures)

pub write_wide-returns-in_ok-write_wide_after-in-Product : goal.write_wide-returns-in_ok-write_wide_after-in-Product
write_wide-returns-in_ok-write_wide_after-in-Product g t c =
    let scope = seen c.args.scope.now in
    wrote_same _ (wide-Product scope c.args.ending.now _ _ _ _ _ _ _ _ c.in-Product.is c.get-in-Product.ensures c.items-rest.ensures c.is_pieced-pieced.ensures c.ending_in-ended.ensures c.product_opened_bytes.ensures)
    (wrote_both c.in_ok-write_wide_after-in-Product.ensures c.write_factors.ensures)

pub write_wide-returns-in_err-write_wide_after-in-Product : goal.write_wide-returns-in_err-write_wide_after-in-Product
write_wide-returns-in_err-write_wide_after-in-Product g t c =
    let scope = seen c.args.scope.now in
    wrote_same _ (wide-Product scope c.args.ending.now _ _ _ _ _ _ _ _ c.in-Product.is c.get-in-Product.ensures c.items-rest.ensures c.is_pieced-pieced.ensures c.ending_in-ended.ensures c.product_opened_bytes.ensures)
    (wrote_fails _ c.from_residual.ensures.0 (wrote_longer (factors_text scope c.is_pieced-pieced.result c.ending_in-ended.result.now c.items-rest.result.now) c.in_err-write_wide_after-in-Product.ensures))

pub write_wide-returns-in_ok-write_wide_after-in-Sum : goal.write_wide-returns-in_ok-write_wide_after-in-Sum
write_wide-returns-in_ok-write_wide_after-in-Sum g t c =
    let scope = seen c.args.scope.now in
    wrote_same _ (wide-Sum scope c.args.ending.now _ _ _ _ _ _ _ _ c.in-Sum.is c.get-in-Sum.ensures c.items-rest-in-Sum.ensures c.is_pieced-pieced-in-Sum.ensures c.ending_in-ended-in-Sum.ensures c.opened_bytes.ensures)
    (wrote_both c.in_ok-write_wide_after-in-Sum.ensures c.write_addends.ensures)

pub write_wide-returns-in_err-write_wide_after-in-Sum : goal.write_wide-returns-in_err-write_wide_after-in-Sum
write_wide-returns-in_err-write_wide_after-in-Sum g t c =
    let scope = seen c.args.scope.now in
    wrote_same _ (wide-Sum scope c.args.ending.now _ _ _ _ _ _ _ _ c.in-Sum.is c.get-in-Sum.ensures c.items-rest-in-Sum.ensures c.is_pieced-pieced-in-Sum.ensures c.ending_in-ended-in-Sum.ensures c.opened_bytes.ensures)
    (wrote_fails _ c.from_residual-in_err-write_wide_after-in-Sum.ensures.0 (wrote_longer (addends_text scope c.is_pieced-pieced-in-Sum.result c.ending_in-ended-in-Sum.result.now c.items-rest-in-Sum.result.now) c.in_err-write_wide_after-in-Sum.ensures))

pub write_wide-returns-in-Number : goal.write_wide-returns-in-Number
write_wide-returns-in-Number g t c = wrote_same _ (wide-Number (seen c.args.scope.now) c.args.ending.now _ _ _ c.in-Number.is) c.write_number.ensures

pub write_wide-returns-in-Named : goal.write_wide-returns-in-Named
write_wide-returns-in-Named g t c = wrote_same _ (wide-Named (seen c.args.scope.now) c.args.ending.now _ _ _ c.in-Named.is) c.write_wide_name.ensures

pub write_wide_at-returns-then-asked-level : goal.write_wide_at-returns-then-asked-level
write_wide_at-returns-then-asked-level g t c =
    wrote_same _ (wide_part-closed (seen c.args.scope.now) c.args.asked c.level.result c.args.ending.now c.args.part.now (c.level.ensures (seen c.args.scope.now)) c.if-asked-level.true) c.write_wide.ensures

pub write_wide_at-returns-in_err-write_piece : goal.write_wide_at-returns-in_err-write_piece
write_wide_at-returns-in_err-write_piece g t c =
    wrote_same _ (wide_part-open (seen c.args.scope.now) c.args.asked c.level.result c.args.ending.now c.args.part.now (c.level.ensures (seen c.args.scope.now)) c.if-asked-level.false)
    (wrote_fails _ c.from_residual.ensures.0 (wrote_longer (codes ")") (wrote_longer ((written (seen c.args.scope.now) c.args.part.now).wide c.args.ending.now) c.in_err-write_piece.ensures)))
