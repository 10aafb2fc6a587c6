use Rattle.std.proofs.Common.{◌≡◌, ◌++◌, [], ◌∷◌, All, length, rules, ap, sym, ◌∙◌, subst}
use Rattle.std.proofs.lemmas.List.Elements.{All-weaker}
use Rattle.machine_explicit.specs.Sections.{FreeMachine}
use Rattle.threads_lock.specs.Passes.{PassView, SharedView}
use Rattle.threads_lock.specs.Closing.{AreInOrder, Covers, HaveOneEach, receipts_of}
use Rattle.threads_lock.proofs.Gathering.{closes_all, all_parted}
use Rattle.threads_lock.proofs.shared.SharedMonitor.close.Goals as goal

pub gather-requires-clause-own : goal.gather-requires-clause-own
gather-requires-clause-own c =
    let parted : c.args.passes.items ≡ c.pop.new.self.items ++ c.unwrap-whole.result ∷ [] = search rules in
    let lock : c.self.inside.lock.board.shared.table_id ≡ c.args.self.lock = ap (λ (v : SharedView). v.lock) c.self.view_is in
    let own = all_parted (λ (p : PassView). p.lock ≡ c.args.self.lock) _ _ (subst (All (λ (p : PassView). p.lock ≡ c.args.self.lock)) parted c.requires.own) in
    c.into_seat-seat.ensures.lock ∙ (own.1 ∙ sym lock)

pub gather-requires-clause-its : goal.gather-requires-clause-its
gather-requires-clause-its c =
    let parted : c.args.passes.items ≡ c.pop.new.self.items ++ c.unwrap-whole.result ∷ [] = search rules in
    let lock : c.self.inside.lock.board.shared.table_id ≡ c.args.self.lock = ap (λ (v : SharedView). v.lock) c.self.view_is in
    let own = all_parted (λ (p : PassView). p.lock ≡ c.args.self.lock) _ _ (subst (All (λ (p : PassView). p.lock ≡ c.args.self.lock)) parted c.requires.own) in
    All-weaker (λ (p : PassView). p.lock ≡ c.args.self.lock) (λ (p : PassView). p.lock ≡ c.self.inside.lock.board.shared.table_id) (λ p is. is ∙ sym lock) c.pop.new.self.items own.0

pub close-requires-clause-own : goal.close-requires-clause-own
close-requires-clause-own c =
    let parted : c.args.passes.items ≡ c.pop.new.self.items ++ c.unwrap-whole.result ∷ [] = search rules in
    let lock : c.self.inside.lock.board.shared.table_id ≡ c.args.self.lock = ap (λ (v : SharedView). v.lock) c.self.view_is in
    let own = all_parted (λ (p : PassView). p.lock ≡ c.args.self.lock) _ _ (subst (All (λ (p : PassView). p.lock ≡ c.args.self.lock)) parted c.requires.own) in
    c.gather.ensures.own ∙ (c.into_seat-seat.ensures.lock ∙ (own.1 ∙ sym lock))

pub returns-clause-covers : goal.returns-clause-covers
returns-clause-covers c =
    let parted : c.args.passes.items ≡ c.pop.new.self.items ++ c.unwrap-whole.result ∷ [] = search rules in
    let e = closes_all _ c.close.result c.into_seat-seat.result.me c.gather.new.seat.me c.pop.new.self.items c.unwrap-whole.result c.into_seat-seat.ensures.known c.gather.ensures.gathered c.close.ensures in
    subst (All (λ (p : PassView). Covers c.close.result p.known)) (sym parted) e.covers

pub returns-clause-once : goal.returns-clause-once
returns-clause-once c =
    let parted : c.args.passes.items ≡ c.pop.new.self.items ++ c.unwrap-whole.result ∷ [] = search rules in
    let start : c.self.inside.lock.board.shared.key.start.value ≡ c.args.self.start = ap (λ (v : SharedView). v.start) c.self.view_is in
    let e = closes_all _ c.close.result c.into_seat-seat.result.me c.gather.new.seat.me c.pop.new.self.items c.unwrap-whole.result c.into_seat-seat.ensures.known c.gather.ensures.gathered c.close.ensures in
    subst (λ (s : FreeMachine). HaveOneEach (length s.log) c.close.result.log (receipts_of c.args.passes.items)) start (subst (λ ps. HaveOneEach (length c.self.inside.lock.board.shared.key.start.value.log) c.close.result.log (receipts_of ps)) (sym parted) e.once)

pub returns-clause-order : goal.returns-clause-order
returns-clause-order c =
    let parted : c.args.passes.items ≡ c.pop.new.self.items ++ c.unwrap-whole.result ∷ [] = search rules in
    let e = closes_all _ c.close.result c.into_seat-seat.result.me c.gather.new.seat.me c.pop.new.self.items c.unwrap-whole.result c.into_seat-seat.ensures.known c.gather.ensures.gathered c.close.ensures in
    subst (λ ps. AreInOrder (receipts_of ps)) (sym parted) e.order
