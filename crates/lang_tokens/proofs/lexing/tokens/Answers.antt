use Rattle.std.proofs.Common.{length, refl, sym, ap, arith, false-eqb, ◌≢◌}
use Rattle.std.proofs.lemmas.List.{length-drop}
use Rattle.std.proofs.lemmas.Bool.{eqb-true}
use Rattle.lang_tokens.proofs.Cutting.{goes_on, piece_within, piece_some, is_stuck, is_done, one_reading, stuck_is_none}
use Rattle.lang_tokens.proofs.lexing.tokens.Goals as goal

pub split_at-requires : goal.split_at-requires
split_at-requires c = piece_within _ _ _ (sym c.in-Some.ensures)

pub pieces-smaller : goal.pieces-smaller
pieces-smaller c =
    let some = piece_some c.pieces.rest.now c.in-Some.shape c.in-Some.len (sym c.in-Some.ensures) in
    let within = piece_within c.pieces.rest.now c.in-Some.shape c.in-Some.len (sym c.in-Some.ensures) in
    omega (arith, some, within, ap length c.split_at.ensures.back, length-drop c.in-Some.len c.pieces.rest.now)

pub pieces-preserved : goal.pieces-preserved
pieces-preserved c =
    rw (c.in_ok-push_token-in-Some.ensures, c.split_at.ensures.front, c.split_at.ensures.back) (goes_on _ _ _ _ _ _ (sym c.in-Some.ensures) c.pieces.invariant)

pub returns-in-None-clause-stuck : goal.returns-in-None-clause-stuck
returns-in-None-clause-stuck c = (refl, is_stuck _ _ _ _ (let not_zero : length c.pieces.rest.now ≢ 0 = false-eqb _ 0 c.pieces-test.ensures in omega arith) (sym c.in-None.ensures) c.pieces.invariant)

pub returns-in-None-clause-complete : goal.returns-in-None-clause-complete
returns-in-None-clause-complete c = λ spelled are. stuck_is_none _ _ spelled (is_stuck _ _ _ _ (let not_zero : length c.pieces.rest.now ≢ 0 = false-eqb _ 0 c.pieces-test.ensures in omega arith) (sym c.in-None.ensures) c.pieces.invariant) are

pub returns-clause-complete : goal.returns-clause-complete
returns-clause-complete c = λ spelled are. one_reading _ _ spelled (is_done _ _ _ _ (eqb-true _ _ (sym c.pieces-test.ensures)) c.pieces.invariant) are
