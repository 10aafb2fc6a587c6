use Rattle.std.proofs.Common.{◌≤◌, length, arith}
use Rattle.emit_bodies.proofs.BodyTexts.{braced_none, braced_some}
use Rattle.base_io.proofs.Writing.{wrote_same}
use Rattle.emit_bodies.proofs.bodies.write_braced.Goals as goal

pub returns-then-is_empty : goal.returns-then-is_empty
returns-then-is_empty g c =
    let none : length c.args.body.now ≤ 0 = search (arith, c.is_empty.ensures, c.if-is_empty.true) in
    wrote_same _ (braced_none _ _ none) c.write_piece.ensures

pub returns : goal.returns
returns g c =
    let some : 1 ≤ length c.args.body.now = search (arith, c.is_empty.ensures, c.if-is_empty.false) in
    wrote_same _ (braced_some _ _ some) c.write_between.ensures
