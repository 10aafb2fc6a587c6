use Rattle.std.proofs.Common.{◌≡◌, take}
use Rattle.logic_solve.specs.Solutions.{valuation_of}
use Rattle.plan_why.specs.inner.Running.{body_change}
use Rattle.plan_why.proofs.running.+run.Given as goal

abbrev pub invariant-after_body-loop-statement : goal.invariant-after_body-loop-statement
invariant-after_body-loop-statement l = valuation_of l.now ≡ body_change (take l.statement-index l.body) (valuation_of l.at)
