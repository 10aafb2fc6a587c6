use Rattle.std.proofs.Common.{rules, ◌≡◌, length, drop}
use Rattle.threads_call.proofs.Hiring.{called_written}
use Rattle.threads_call.proofs.callers.run_callers.Goals as goal

pub dismiss-requires-clause-own : goal.dismiss-requires-clause-own
dismiss-requires-clause-own g c =
    let many : length c.call_in_threads.new.crew ≡ c.gather.new.crew.len = search rules in
    called_written _ c.gather.new.crew.len c.call_in_threads.new.crew (drop (length c.call_in_threads.new.crew) c.gather.new.crew.items) many c.call_in_threads.ensures.own
