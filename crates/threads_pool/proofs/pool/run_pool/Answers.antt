use Rattle.std.proofs.Common.{rules, ◌≡◌, length, drop}
use Rattle.threads_pool.proofs.Closing.{finished_written}
use Rattle.threads_pool.proofs.pool.run_pool.Goals as goal

pub dismiss-requires-clause-own : goal.dismiss-requires-clause-own
dismiss-requires-clause-own g c =
    let many : length c.work_all.new.crew ≡ c.hire.new.crew.len = search rules in
    finished_written _ c.hire.new.crew.len c.work_all.new.crew (drop (length c.work_all.new.crew) c.hire.new.crew.items) many c.work_all.ensures.own
