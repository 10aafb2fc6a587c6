use Rattle.std.proofs.Common.{arith}
use Rattle.std.proofs.Math.Seq.{take-set-lt}
use Rattle.std.proofs.lemmas.Grind.{common_steps}
use Rattle.machine_implicit.proofs.locals.Locals.set.Goals as goal

pub returns : goal.returns
returns c = grind (arith, common_steps, take-set-lt c.self.inside.len c.self.inside.values c.args.place c.args.value (grind (arith, common_steps)))
