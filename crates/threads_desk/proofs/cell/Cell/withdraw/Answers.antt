use Rattle.std.proofs.Common.{rules}
use Rattle.threads_desk.proofs.Keeping.{withdraws}
use Rattle.threads_desk.proofs.cell.Cell.withdraw.Goals as goal

pub compare_exchange-found-requires : goal.compare_exchange-found-requires
compare_exchange-found-requires g c = let m = c.requires.mail in (search rules, search rules, withdraws _ _ _ _ _ _ m.0 (search rules))
