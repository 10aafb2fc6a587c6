use Rattle.std.proofs.Common.{rules, Ok, Err}
use Rattle.std.proofs.lemmas.Result.{err_from_is_err_and}
use Rattle.std.specs.Fn.{FnReturnsAt}
use Rattle.lang_cursor.specs.Calls.{CallsAtMut}
use Rattle.lang_cursor.proofs.Rounds.{round_goes, round_stops, rounds_end}
use Rattle.lang_cursor.proofs.items.many.Goals as goal

pub returns-in_err-item : goal.returns-in_err-item
returns-in_err-item g c starts read answers reads items =
    let p = err_from_is_err_and c.from_residual.result c.from_residual.ensures.1 in
    let asked : FnReturnsAt g.S.Fn c.args.begins c.items.input c.begins.result = search rules in
    let call : CallsAtMut g.F.Fn c.args.item c.items.input (Err c.in_err-item.field-0.0) c.item.new.arg2 = search rules in
    rw (p.1, p.2) (round_stops c.in_err-item.field-0.0 starts read items _ c.items.out.items c.items.input _ (answers _ _ asked) c.items-test.true (reads _ _ _ call) (c.items.invariant starts read answers reads items))

pub items-smaller : goal.items-smaller
items-smaller g c =
    let call : CallsAtMut g.F.Fn c.args.item c.items.input (Ok c.in_ok-item.item) c.item.new.arg2 = search rules in
    c.requires.shorter c.items.input c.in_ok-item.item c.item.new.arg2 call

pub items-preserved : goal.items-preserved
items-preserved g c starts read answers reads items =
    let asked : FnReturnsAt g.S.Fn c.args.begins c.items.input c.begins.result = search rules in
    let call : CallsAtMut g.F.Fn c.args.item c.items.input (Ok c.in_ok-item.item) c.item.new.arg2 = search rules in
    rw c.in_ok-push.ensures.items (round_goes starts read items _ c.items.out.items c.items.input _ c.in_ok-item.item _ (answers _ _ asked) c.items-test.true (reads _ _ _ call) (c.items.invariant starts read answers reads items))

pub returns : goal.returns
returns g c starts read answers reads items =
    let asked : FnReturnsAt g.S.Fn c.args.begins c.items.input c.begins.result = search rules in
    rw c.of.ensures (rounds_end starts read _ c.items.out.items c.items.input _ (answers _ _ asked) c.items-test.false (c.items.invariant starts read answers reads items))
