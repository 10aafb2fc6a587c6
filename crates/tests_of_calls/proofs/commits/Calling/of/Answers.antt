use Rattle.std.proofs.Common.{rules, ◌≡◌, ◌++◌, ◌∷◌, [], length, subst, sym}
use Rattle.std.specs.List.{All}
use Rattle.threads_lock.specs.declared.view.Knowledge.{Knowledge}
use Rattle.threads_lock.specs.Passes.{PassView, newly_known}
use Rattle.tests_of_calls.proofs.Parting.{all_parted}
use Rattle.tests_of_calls.proofs.commits.Calling.of.Goals as goal

pub invariant_of-result : goal.invariant_of-result
invariant_of-result c =
    let made = c.in_ok-monitor in
    let free = c.in_ok-free.free in
    let caller = c.in-Some.caller in
    let last : made.callers.items ≡ c.pop.new.self.items ++ caller ∷ [] = search rules in
    let own = all_parted (λ (pass : PassView). pass.lock ≡ made.monitor.lock) c.pop.new.self.items caller
    (subst (All (λ (pass : PassView). pass.lock ≡ made.monitor.lock)) last made.ensures.lock) in
    let known = all_parted (λ (pass : PassView). pass.known ≡ newly_known free) c.pop.new.self.items caller
    (subst (All (λ (pass : PassView). pass.known ≡ newly_known free)) last made.ensures.known) in
    record {
      own = own.1;
      counted = subst (λ (known : Knowledge). c.clients_of-clients.result ≡ length known.front.system.clients) (sym known.1) c.clients_of-clients.ensures;
    }
