use Rattle.std.proofs.Common.{arith, ap, sym, ◌∙◌, replicate}
use Rattle.lang_script.specs.Scripts.{joined}
use Rattle.lang_script.proofs.Counts.{copies_of_none, copies_turn}
use Rattle.lang_script.proofs.making.copies.Goals as goal

pub returns-then-is_empty : goal.returns-then-is_empty
returns-then-is_empty c =
    c.new-made.ensures.items ∙ sym (copies_of_none c.args.times c.args.calls.items c.as_slice.result.now c.as_slice.ensures.value (sym c.is_empty.ensures ∙ c.if-is_empty.true))

pub loop-copy-preserved : goal.loop-copy-preserved
loop-copy-preserved c =
    copies_turn c.loop-copy._copy c.args.calls.items c.loop-copy.made.items c.deref.result.now _ c.loop-copy.invariant c.deref.ensures.value c.in_ok-push_copy.ensures

pub returns : goal.returns
returns c =
    c.loop-copy.invariant ∙ ap (λ n. joined (replicate n c.args.calls.items)) (omega (arith, c.loop-copy.auto._copy-end, c.loop-copy-test.false))
