use Rattle.lang_rules.specs.Rules.{places_in}
use Rattle.lang_rules.proofs.CountedDown.{slice_get-counted_ok, slice_get-counted_err}
use Rattle.lang_rules.proofs.limits.statement_at.Goals as goal

pub returns-in-Ok : goal.returns-in-Ok
returns-in-Ok c = slice_get-counted_ok (places_in c.args.body.now) c.args.number _ c.in-Ok.ensures

pub returns-in-Err : goal.returns-in-Err
returns-in-Err c = slice_get-counted_err (places_in c.args.body.now) c.args.number _ c.in-Err.ensures
