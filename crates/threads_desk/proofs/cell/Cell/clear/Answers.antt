use Rattle.std.proofs.Common.{rules}
use Rattle.threads_desk.proofs.Keeping.{leaves}
use Rattle.threads_desk.proofs.cell.Cell.clear.Goals as goal

pub store-requires : goal.store-requires
store-requires g c = (search rules, search rules, leaves _ _ _ _ _ _ (search rules) (search rules))
