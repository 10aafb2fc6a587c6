-- A seat takes in pass after pass.
use Rattle.std.proofs.Common.{◌≡◌, ℕ, zero, suc, ◌+◌, ◌<◌, ◌↔◌, List, [], ◌∷◌, ◌++◌, length, get_or, map, Some, refl, sym, ap, ◌∙◌, subst, arith, length-append, ⊎_elim}
use Rattle.std.specs.Prelude.{Option, slice_get}
use Rattle.std.specs.List.{All, Contains}
use Rattle.std.proofs.lemmas.List.{append-nil}
use Rattle.std.proofs.lemmas.List.Elements.{All-nil, All-cons, All-push, All-append, All-head, All-tail, All-weaker, All-contains}
use Rattle.std.proofs.lemmas.List.Concat.{flat_map-append}
use mathlib.Core.Logic.{dite}
use native.Mathlib.Decide.{dec_le, ℕ_discrete}
use Rattle.atomic_table.specs.Table.{Me}
use Rattle.machine_events.specs.declared.log.Entry.{Entry}
use Rattle.machine_explicit.specs.Sections.{FreeMachine}
use Rattle.threads_lock.specs.declared.receipt.Receipt.{Receipt}
use Rattle.threads_lock.specs.declared.view.Knowledge.{Knowledge}
use Rattle.threads_lock.specs.declared.view.View.{View}
use Rattle.threads_lock.specs.Growth.{Follows}
use Rattle.threads_lock.specs.Passes.{PassView, StandsIn}
use Rattle.threads_lock.specs.Closing.{Covers, receipts_of, times, HaveOneEach, AreInOrder}
use Rattle.threads_lock.specs.inner.Queueing.{Agrees, IsHistory, IsIdle, together}
use Rattle.threads_lock.specs.inner.Ends.{AgreesWithAll, EndsWith}
use Rattle.threads_lock.specs.inner.Gathered.{Gathered}
use Rattle.threads_lock.proofs.Receipts.{times_append, turn_place, turn_order, times_before, times_after, times_once}
use Rattle.threads_lock.proofs.Merging.{times_merged}
use Rattle.threads_lock.proofs.Knowing.{agrees_apart}

pub gathered_none : (me : Me FreeMachine View) → IsIdle me → Gathered me me []
gathered_none me idle = record {
  idle = idle;
  parts = omega arith;
  receipts = λ k. let z : times k (receipts_of []) ≡ 0 = refl in omega arith;
  agrees = λ history top a. (a, All-nil _);
}

pub receipts_push : (k : ℕ) (ps : List PassView) (p : PassView) → times k (receipts_of (ps ++ p ∷ [])) ≡ times k (receipts_of ps) + times k p.known.receipts
receipts_push k ps p =
    ap (times k) (flat_map-append (λ (p : PassView). p.known.receipts) ps (p ∷ []))
    ∙ (times_append k (receipts_of ps) (p.known.receipts ++ []) ∙ ap (λ rs. times k (receipts_of ps) + times k rs) (append-nil p.known.receipts))

-- the seat of one more pass is joined into it
pub gathered_more : (me now next other : Me FreeMachine View) (ps : List PassView) (p : PassView) → Gathered me now ps → other.0.parts ≡ 1 → other.0.known ≡ p.known → next ≡ (together now.0 other.0, []) → Gathered me next (ps ++ p ∷ [])
gathered_more me now next other ps p g one same next_is = subst (λ n. Gathered me n (ps ++ p ∷ [])) (sym next_is) record {
  idle = (g.idle.0, refl);
  parts = (let a = g.parts in let b = length-append ps (p ∷ []) in omega arith);
  receipts = λ k.
      let a = times_merged k now.0.known.receipts other.0.known.receipts in
      let b = ap (λ (l : Knowledge). times k l.receipts) same in
      let c = receipts_push k ps p in
      let d = g.receipts k in
      omega arith;
  agrees = λ history top a.
      let both = agrees_apart history top now.0.known other.0.known a in
      let before = g.agrees history top both.0 in
      (before.0, All-push (λ (q : PassView). Agrees history top q.known) ps p before.1 (subst (Agrees history top) same both.1));
}

-- ---- what is so at the end

-- each receipt of the history stands in the log
history_stands : (start : FreeMachine) (history : List Receipt) (limit : ℕ) (top : FreeMachine) (r : Receipt) → IsHistory start history limit top → Contains history r → StandsIn top.log r
history_stands start history limit top r h has =
    let at : get_or history has.0 r ≡ r = has.2 in
    let place : r.place ≡ length start.log + has.0 = ap (λ (q : Receipt). q.place) (sym at) ∙ turn_place (length start.log) 0 history limit h.in_turn has.0 r has.1 in
    let one : slice_get (map (λ (q : Receipt). q.entry) history) has.0 ≡ Some r.entry = get_mapped history has.0 r has.1 at in
    subst (λ n. slice_get top.log n ≡ Some r.entry) (sym place) (subst (λ l. slice_get l (length start.log + has.0) ≡ Some r.entry) (sym h.log) (get_after start.log (map (λ (q : Receipt). q.entry) history) has.0 (Some r.entry) one))
  where
    get_after : (xs ys : List Entry) (k : ℕ) (o : Option Entry) → slice_get ys k ≡ o → slice_get (xs ++ ys) (length xs + k) ≡ o
    get_after [] ys k o e = let n : 0 + k ≡ k = omega arith in ap (slice_get ys) n ∙ e
    get_after (x ∷ xs) ys k o e = let n : length (x ∷ xs) + k ≡ suc (length xs + k) = omega arith in ap (slice_get (x ∷ (xs ++ ys))) n ∙ get_after xs ys k o e

    get_mapped : (rs : List Receipt) (k : ℕ) (r : Receipt) → k < length rs → get_or rs k r ≡ r → slice_get (map (λ (q : Receipt). q.entry) rs) k ≡ Some r.entry
    get_mapped [] k r lt at = absurd (omega arith)
    get_mapped (q ∷ rs) zero r lt at = ap (λ (z : Receipt). Some z.entry) at
    get_mapped (q ∷ rs) (suc k) r lt at = get_mapped rs k r (omega arith) at

covers_one : (start : FreeMachine) (history : List Receipt) (limit : ℕ) (top : FreeMachine) (k : Knowledge) → IsHistory start history limit top → Agrees history top k → Covers top k
covers_one start history limit top k h a = record {
  front = a.front;
  seen = a.seen;
  stand = All-weaker (Contains history) (StandsIn top.log) (λ r has. history_stands start history limit top r h has) k.receipts a.receipts;
}

all_receipts : (P : Receipt → Type 0) (ps : List PassView) → All (λ (p : PassView). All P p.known.receipts) ps → All P (receipts_of ps)
all_receipts P [] all = All-nil P
all_receipts P (p ∷ ps) all =
    All-append P p.known.receipts (receipts_of ps) (All-head (λ (p : PassView). All P p.known.receipts) p ps all) (all_receipts P ps (All-tail (λ (p : PassView). All P p.known.receipts) p ps all))

-- two receipts of a history are in order
history_order : (start : FreeMachine) (history : List Receipt) (limit : ℕ) (top : FreeMachine) (r q : Receipt) → IsHistory start history limit top → Contains history r → Contains history q → (r.ticket < q.ticket) ↔ (r.place < q.place)
history_order start history limit top r q h has has' =
    let turn = h.in_turn in let n = length start.log in
    let at : get_or history has.0 r ≡ r = has.2 in let at' : get_or history has'.0 q ≡ q = has'.2 in
    let place : r.place ≡ n + has.0 = ap (λ (z : Receipt). z.place) (sym at) ∙ turn_place n 0 history limit turn has.0 r has.1 in
    let place' : q.place ≡ n + has'.0 = ap (λ (z : Receipt). z.place) (sym at') ∙ turn_place n 0 history limit turn has'.0 q has'.1 in
    let same : (get_or history has.0 r).ticket ≡ r.ticket = ap (λ (z : Receipt). z.ticket) at in
    let same' : (get_or history has'.0 q).ticket ≡ q.ticket = ap (λ (z : Receipt). z.ticket) at' in
    let forth : has.0 < has'.0 → r.ticket < q.ticket = λ lt. let o = turn_order n 0 history limit turn has.0 has'.0 r q lt has'.1 in omega arith in
    let back : has'.0 < has.0 → q.ticket < r.ticket = λ lt. let o = turn_order n 0 history limit turn has'.0 has.0 q r lt has.1 in omega arith in
    let equal : has.0 ≡ has'.0 → r.ticket ≡ q.ticket = λ e. sym same ∙ (ap (λ k. (get_or history k r).ticket) e ∙ (other_default has'.0 r q has'.1 ∙ same')) in (
      (λ lt. dite (dec_le has'.0 has.0)
          (λ ge. dite (ℕ_discrete has'.0 has.0)
          (λ e. let t = equal (sym e) in absurd (omega arith))
          (λ apart. let t = back (omega arith) in absurd (omega arith)))
          (λ below. omega arith)),
      (λ lt. forth (omega arith)),
    )
  where
    other_default : (k : ℕ) (d e : Receipt) → k < length history → (get_or history k d).ticket ≡ (get_or history k e).ticket
    other_default k d e lt = ap (λ (z : Receipt). z.ticket) (defaults history k d e lt)
      where
        defaults : (rs : List Receipt) (k : ℕ) (d e : Receipt) → k < length rs → get_or rs k d ≡ get_or rs k e
        defaults [] k d e lt = absurd (omega arith)
        defaults (x ∷ rs) zero d e lt = refl
        defaults (x ∷ rs) (suc k) d e lt = defaults rs k d e (omega arith)

-- once a seat that began as a pass has taken in all others
pub record Closes (start : FreeMachine) (top : FreeMachine) (ps : List PassView) : Type 0 where
  pub follows : Follows start top
  pub covers : All (λ (p : PassView). Covers top p.known) ps
  pub once : HaveOneEach (length start.log) top.log (receipts_of ps)
  pub order : AreInOrder (receipts_of ps)

pub closes_all : (start top : FreeMachine) (me next : Me FreeMachine View) (ps : List PassView) (p : PassView) → me.0.known ≡ p.known → Gathered me next ps → EndsWith start next.0.known top → Closes start top (ps ++ p ∷ [])
closes_all start top me next ps p same g ends =
    let h = ends.made in
    let agree = g.agrees ends.history top ends.agrees in
    let all : AgreesWithAll ends.history top (ps ++ p ∷ []) = All-push (λ (q : PassView). Agrees ends.history top q.known) ps p agree.1 (subst (Agrees ends.history top) same agree.0) in
    let inside = all_receipts (Contains ends.history) (ps ++ p ∷ []) (All-weaker (λ (q : PassView). Agrees ends.history top q.known) (λ (q : PassView). All (Contains ends.history) q.known.receipts) (λ q a. a.receipts) (ps ++ p ∷ []) all) in
    let count : (k : ℕ) → times k (receipts_of (ps ++ p ∷ [])) ≡ times k ends.history = λ k.
    let a = receipts_push k ps p in let b = g.receipts k in let c = ends.receipts k in let d = ap (λ (l : Knowledge). times k l.receipts) same in omega arith in
    let long : length top.log ≡ length start.log + length ends.history = ap length h.log ∙ (length-append start.log (map (λ (q : Receipt). q.entry) ends.history) ∙ ap (λ n. length start.log + n) (mapped ends.history)) in record {
      follows = h.follows;
      covers = All-weaker (λ (q : PassView). Agrees ends.history top q.known) (λ (q : PassView). Covers top q.known) (λ q a. covers_one start ends.history ends.limit top q.known h a) (ps ++ p ∷ []) all;
      once = record {
        once = λ k ge lt. count k ∙ times_once (length start.log) 0 ends.history ends.limit h.in_turn k ge (omega arith);
        no_other = λ k which. count k ∙ ⊎_elim (λ lt. times_before (length start.log) 0 ends.history ends.limit h.in_turn k lt) (λ ge. times_after (length start.log) 0 ends.history ends.limit h.in_turn k (omega arith)) which;
      };
      order = λ r q has has'. history_order start ends.history ends.limit top r q h (All-contains (Contains ends.history) (receipts_of (ps ++ p ∷ [])) r inside has) (All-contains (Contains ends.history) (receipts_of (ps ++ p ∷ [])) q inside has');
    }
  where
    mapped : (rs : List Receipt) → length (map (λ (q : Receipt). q.entry) rs) ≡ length rs
    mapped [] = refl
    mapped (x ∷ rs) = let h = mapped rs in omega arith

pub all_parted : (P : PassView → Type 0) (ps : List PassView) (p : PassView) → All P (ps ++ p ∷ []) → All P ps × P p
all_parted P [] p all = (All-nil P, All-head P p [] all)
all_parted P (q ∷ ps) p all = let more = all_parted P ps p (All-tail P q (ps ++ p ∷ []) all) in (All-cons P q ps (All-head P q (ps ++ p ∷ []) all) more.0, more.1)
