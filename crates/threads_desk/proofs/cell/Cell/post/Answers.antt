use Rattle.std.proofs.Common.{rules}
use Rattle.threads_desk.proofs.Keeping.{begins, comes, writes}
use Rattle.threads_desk.proofs.cell.Cell.post.Goals as goal

pub load_new_seat-found-requires : goal.load_new_seat-found-requires
load_new_seat-found-requires g c = (search rules, comes _ _ _ _)

pub compare_exchange-found-requires : goal.compare_exchange-found-requires
compare_exchange-found-requires g c = (search rules, search rules, begins _ _ _ _ _ _ (search rules))

pub store-requires : goal.store-requires
store-requires g c = (search rules, search rules, writes _ _ _ _ _ _ c.args.asked (search rules) (search rules) (search rules))
