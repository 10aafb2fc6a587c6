use Rattle.std.proofs.Common.{◌≡◌, take, map}
use Rattle.logic_cert.specs.Refutes.{row_of}
use Rattle.logic_cert.proofs.rows.rows_of.Given as goal

abbrev pub invariant-loop-literal : goal.invariant-loop-literal
invariant-loop-literal l = l.rows.items ≡ map row_of (take l.literal-index l.literals)
