use Rattle.std.proofs.Common.{rules}
use Rattle.threads_desk.proofs.Keeping.{answers}
use Rattle.threads_desk.proofs.cell.Cell.answer.Goals as goal

pub store-requires : goal.store-requires
store-requires g c = let t = c.requires.task in (search rules, search rules, answers _ _ _ _ _ _ t.0 c.args.told (search rules) (search rules) (search rules))
