use Rattle.std.proofs.Common.{◌≡◌, ◌++◌, take}
use Rattle.lang_script.proofs.making.push_copy.Given as goal

abbrev pub invariant-loop-call : goal.invariant-loop-call
invariant-loop-call l = l.made.items ≡ l.initial.made.items ++ take l.call-index l.calls
