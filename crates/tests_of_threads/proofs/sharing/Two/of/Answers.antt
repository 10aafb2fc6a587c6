use Rattle.std.proofs.Common.{rules, ◌≡◌, ◌<◌, ◌++◌, ◌∷◌, [], length, subst, sym}
use Rattle.threads_lock.specs.declared.view.Knowledge.{Knowledge}
use Rattle.threads_lock.specs.Passes.{PassView, newly_known}
use Rattle.tests_of_threads.proofs.Parting.{both_parted}
use Rattle.tests_of_threads.proofs.sharing.Two.of.Goals as goal

pub invariant_of-result : goal.invariant_of-result
invariant_of-result c =
    let made = c.in_ok-shared in
    let last : made.passes.items ≡ c.pop.new.self.items ++ c.unwrap-second.result ∷ [] = search rules in
    let next : c.pop.new.self.items ≡ c.pop-2.new.self.items ++ c.unwrap-first.result ∷ [] = search rules in
    let some : 0 < length c.args.free.system.clients = search rules in
    let own =
    both_parted (λ (pass : PassView). pass.lock ≡ made.shared.lock) made.passes.items c.pop.new.self.items c.pop-2.new.self.items
    c.unwrap-first.result c.unwrap-second.result last next made.ensures.lock in
    let known =
    both_parted (λ (pass : PassView). pass.known ≡ newly_known c.args.free) made.passes.items c.pop.new.self.items c.pop-2.new.self.items
    c.unwrap-first.result c.unwrap-second.result last next made.ensures.known in
    record {
      passes = made.ensures.monitor.1;
      first_own = own.0;
      second_own = own.1;
      first_client = subst (λ (known : Knowledge). 0 < length known.front.system.clients) (sym known.0) some;
      second_client = subst (λ (known : Knowledge). 0 < length known.front.system.clients) (sym known.1) some;
    }
