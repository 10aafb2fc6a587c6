use Rattle.std.proofs.Common.{◌≡◌, ◌++◌, [], ◌∷◌, rules, ap, sym, ◌∙◌, subst}
use Rattle.crossbeam_queue.specs.Passes.{view}
use Rattle.threads_queue.specs.Tickets.{IsEachOnce, QueuePassView, QueueView, tickets_of}
use Rattle.threads_queue.proofs.Closing.{closes}
use Rattle.threads_queue.proofs.queue.ReadyQueue.close.Goals as goal

pub returns : goal.returns
returns c =
    let parted : c.args.passes.items ≡ c.pop.new.self.items ++ c.unwrap-last.result ∷ [] = search rules in
    let own : c.unwrap-last.result.queue ≡ c.args.self = search rules in
    let same : c.unwrap-last.result.tickets ≡ (view c.into_place-place.result).tickets = ap (λ (p : QueuePassView). p.tickets) c.into_place-place.ensures.pass in
    let of_pass : c.unwrap-last.result.queue.clients ≡ (view c.into_place-place.result).clients = ap (λ (p : QueuePassView). p.queue.clients) c.into_place-place.ensures.pass in
    let of_queue = sym of_pass ∙ ap (λ (q : QueueView). q.clients) own in
    let all = c.learn.ensures.all in record {
      once = (
        all.0,
        subst (λ ps. IsEachOnce c.args.self.clients (all.0 ++ tickets_of ps)) (sym parted)
            (closes c.args.self.clients (view c.into_place-place.result) (view c.gather.new.place) c.pop.new.self.items c.unwrap-last.result all.0 same of_queue c.gather.ensures.gathered all.1),
      );
    }
