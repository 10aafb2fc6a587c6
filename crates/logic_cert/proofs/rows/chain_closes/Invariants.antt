use Rattle.std.proofs.Common.{◌≡◌, drop, map}
use Rattle.logic_cert.specs.Refutes.{chain_closes, row_of}
use Rattle.logic_cert.proofs.rows.chain_closes.Given as goal

abbrev pub invariant-loop-i : goal.invariant-loop-i
invariant-loop-i l = chain_closes l.combines (map row_of l.literals) ≡ chain_closes (drop l.i l.combines) l.rows.items
