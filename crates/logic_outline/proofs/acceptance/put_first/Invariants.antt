use Rattle.std.proofs.Common.{◌≡◌, ◌≤◌, ◌+◌, length, drop, map}
use Rattle.logic_cert.specs.inner.Branches.{stack_of, weight, weight_of}
use Rattle.logic_cert.specs.inner.Deciding.{before, in_order}
use Rattle.logic_outline.proofs.acceptance.put_first.Given as goal

abbrev pub invariant-loop-left : goal.invariant-loop-left
invariant-loop-left l = record {
  order : stack_of l.todo.items ≡ in_order (map before (drop l.left l.parts)) (stack_of l.fn.todo.items);
  weighs : weight_of l.todo.items ≡ weight (drop l.left l.parts) + weight_of l.fn.todo.items;
  within : l.left ≤ length l.parts;
}

abbrev pub decreases-loop-left : goal.decreases-loop-left
decreases-loop-left l = l.left
