-- Views in a list.
use Rattle.std.proofs.Common.{◌≡◌, ◌≢◌, ◌⊎◌, ℕ, zero, suc, ◌+◌, ◌<◌, ◌≤◌, List, [], ◌∷◌, ◌++◌, length, set, Bool, true, false, true≢false, refl, sym, ap, ◌∙◌, subst, inl, inr, ⊎_elim, arith}
use mathlib.Core.Option.{Option, some, some-injective, some-ne-none}
use mathlib.Core.Logic.{dite}
use native.Mathlib.Decide.{ℕ_discrete}
use lib.ListN.{get_elem?}
use Rattle.atomic_table.proofs.Lists.{at_set, set_else, set_here}
use Rattle.machine_explicit.specs.Sections.{FreeMachine}
use Rattle.threads_lock.specs.declared.view.SeatState.{SeatState}
use Rattle.threads_lock.specs.declared.view.SeatState.TheVariants.{Idle, Waiting, Holding, Leaving}
use Rattle.threads_lock.specs.declared.view.View.{View}
use Rattle.threads_lock.specs.inner.Queueing.{total, ticket_of, holds, queued, limit_of, AreApart, IsHad, IsQueue, IsFree, IsTaken}

-- ---- sums over views

pub within : (vs : List View) (id : ℕ) (v : View) → get_elem? vs id ≡ some v → id < length vs
within [] id v e = absurd (some-ne-none v (sym e))
within (x ∷ xs) zero v e = omega arith
within (x ∷ xs) (suc i) v e = let h = within xs i v e in omega arith

pub total_set : (f : View → ℕ) (vs : List View) (id : ℕ) (v w : View) → get_elem? vs id ≡ some v → total f (set vs id w) + f v ≡ total f vs + f w
total_set f [] id v w e = absurd (some-ne-none v (sym e))
total_set f (x ∷ xs) zero v w e = let same : f x ≡ f v = ap f (some-injective x v e) in omega arith
total_set f (x ∷ xs) (suc i) v w e = let h = total_set f xs i v w e in omega arith

pub total_same : (f : View → ℕ) (vs : List View) (id : ℕ) (v w : View) → get_elem? vs id ≡ some v → f w ≡ f v → total f (set vs id w) ≡ total f vs
total_same f vs id v w at same = let h = total_set f vs id v w at in omega arith

pub total_snoc : (f : View → ℕ) (vs : List View) (v : View) → total f (vs ++ v ∷ []) ≡ total f vs + f v
total_snoc f [] v = omega arith
total_snoc f (x ∷ xs) v = let h = total_snoc f xs v in omega arith

total_one : (f : View → ℕ) (vs : List View) (id : ℕ) (v : View) → get_elem? vs id ≡ some v → f v ≤ total f vs
total_one f [] id v e = absurd (some-ne-none v (sym e))
total_one f (x ∷ xs) zero v e = let same : f x ≡ f v = ap f (some-injective x v e) in omega arith
total_one f (x ∷ xs) (suc i) v e = let h = total_one f xs i v e in omega arith

pub total_two : (f : View → ℕ) (vs : List View) (id other : ℕ) (v w : View) → get_elem? vs id ≡ some v → get_elem? vs other ≡ some w → id ≢ other → f v + f w ≤ total f vs
total_two f [] id other v w e g apart = absurd (some-ne-none v (sym e))
total_two f (x ∷ xs) zero zero v w e g apart = absurd (apart refl)
total_two f (x ∷ xs) zero (suc j) v w e g apart = let same : f x ≡ f v = ap f (some-injective x v e) in let h = total_one f xs j w g in omega arith
total_two f (x ∷ xs) (suc i) zero v w e g apart = let same : f x ≡ f w = ap f (some-injective x w g) in let h = total_one f xs i v e in omega arith
total_two f (x ∷ xs) (suc i) (suc j) v w e g apart = let h = total_two f xs i j v w e g (λ s. apart (ap suc s)) in omega arith

total_none : (f : View → ℕ) (vs : List View) → ((j : ℕ) (u : View) → get_elem? vs j ≡ some u → f u ≡ 0) → total f vs ≡ 0
total_none f [] none_has = refl
total_none f (x ∷ xs) none_has = let h = total_none f xs (λ j u e. none_has (suc j) u e) in let here = none_has 0 x refl in omega arith

pub total_only : (f : View → ℕ) (vs : List View) (id : ℕ) (v : View) → get_elem? vs id ≡ some v → ((j : ℕ) (u : View) → j ≢ id → get_elem? vs j ≡ some u → f u ≡ 0) → total f vs ≡ f v
total_only f [] id v e others = absurd (some-ne-none v (sym e))
total_only f (x ∷ xs) zero v e others = let same : f x ≡ f v = ap f (some-injective x v e) in let h = total_none f xs (λ j u at. others (suc j) u (λ s. omega arith) at) in omega arith
total_only f (x ∷ xs) (suc i) v e others = let h = total_only f xs i v e (λ j u far at. others (suc j) u (λ s. far (omega arith)) at) in let here = others 0 x (λ s. omega arith) refl in omega arith

pub total_le : (f g : View → ℕ) (vs : List View) → ((j : ℕ) (v : View) → get_elem? vs j ≡ some v → f v ≤ g v) → total f vs ≤ total g vs
total_le f g [] le = omega arith
total_le f g (x ∷ xs) le = let h = total_le f g xs (λ j v e. le (suc j) v e) in let here = le 0 x refl in omega arith

-- what holds of the view that was set and of all others holds of each
pub each_set : (P : ℕ → View → Type 0) (vs : List View) (id : ℕ) (w : View) → P id w → ((j : ℕ) (u : View) → j ≢ id → get_elem? vs j ≡ some u → P j u)
    → (j : ℕ) (u : View) → get_elem? (set vs id w) j ≡ some u → P j u
each_set P vs id w mine others j u e =
    ⊎_elim
    (λ (x : (j ≡ id) × (w ≡ u)). subst (λ (y : ℕ × View). P y.0 y.1) (λ i. (sym x.0 i, x.1 i)) mine)
    (λ (x : (j ≢ id) × (get_elem? vs j ≡ some u)). others j u x.0 x.1)
    (at_set vs id j w u e)

-- ---- states of seats

pub not_true : (b : Bool) → (b ≡ true → ⊥) → b ≡ false
not_true true n = absurd (n refl)
not_true false n = refl

pub both_not : (b : Bool) → b ≡ true → b ≡ false → ⊥
both_not b t f = true≢false (sym t ∙ f)

pub holder_has : (state : SeatState) → holds state ≡ true → (t : ℕ) × (ticket_of state ≡ some t)
holder_has Idle h = absurd (both_not false h refl)
holder_has (Waiting t) h = absurd (both_not false h refl)
holder_has (Holding t) h = (t, refl)
holder_has (Leaving t) h = (t, refl)

pub queued_le : (state : SeatState) → queued state ≤ 1
queued_le Idle = omega arith
queued_le (Waiting t) = omega arith
queued_le (Holding t) = omega arith
queued_le (Leaving t) = omega arith

-- whoever has the turn is in the queue, and its receipts are below the next ticket
pub holder_queued : (state : SeatState) (t : ℕ) → holds state ≡ true → ticket_of state ≡ some t → (queued state ≡ 1) × (limit_of state ≤ t + 1)
holder_queued Idle t h has = absurd (both_not false h refl)
holder_queued (Waiting r) t h has = absurd (both_not false h refl)
holder_queued (Holding r) t h has = let same : r ≡ t = some-injective r t has in (refl, omega arith)
holder_queued (Leaving r) t h has = let same : r ≡ t = some-injective r t has in (refl, omega arith)

pub idle_has : (state : SeatState) (t : ℕ) → state ≡ Idle → ticket_of state ≡ some t → ⊥
idle_has state t idle has = some-ne-none t (sym has ∙ ap ticket_of idle)

abbrev number_of : SeatState → ℕ
number_of Idle = 0
number_of (Waiting t) = t
number_of (Holding t) = t
number_of (Leaving t) = t

pub same_waiting : (t r : ℕ) → Waiting t ≡ Waiting r → t ≡ r
same_waiting t r e = ap number_of e

pub same_holding : (t r : ℕ) → Holding t ≡ Holding r → t ≡ r
same_holding t r e = ap number_of e

-- ---- tickets

-- a view that has a ticket is no view that is idle
pub apart_from : (vs : List View) (id : ℕ) (v : View) → v.state ≡ Idle → get_elem? vs id ≡ some v → (j : ℕ) (e : View) (t : ℕ) → get_elem? vs j ≡ some e → ticket_of e.state ≡ some t → j ≢ id
apart_from vs id v idle at j e t p has same = idle_has e.state t (ap (λ (y : View). y.state) (some-injective e v (sym p ∙ (ap (get_elem? vs) same ∙ at))) ∙ idle) has

-- where each view with a ticket was there before
abbrev pub Within : List View → List View → Type 0
Within vs was = (j : ℕ) (u : View) (t : ℕ) → get_elem? vs j ≡ some u → ticket_of u.state ≡ some t → get_elem? was j ≡ some u

apart_stays : (vs was : List View) → Within vs was → AreApart was → AreApart vs
apart_stays vs was back apart i j u v t p q a b = apart i j u v t (back i u t p a) (back j v t q b) a b

-- views with the same tickets are the same queue
pub queue_stays : (served drawn : ℕ) (vs was : List View) → Within vs was → Within was vs → total (λ v. queued v.state) vs ≡ total (λ v. queued v.state) was → IsQueue served drawn was → IsQueue served drawn vs
queue_stays served drawn vs was back on same q = record {
  out = ap (λ n. served + n) same ∙ q.out;
  apart = apart_stays vs was back q.apart;
  had = λ t ge lt. let h = q.had t ge lt in (h.0, h.1, on h.0 h.1 t h.2 h.3, h.3);
}

pub lock_stays : (served limit : ℕ) (top : FreeMachine) (homes : List (Option FreeMachine)) (vs was : List View) → Within vs was → Within was vs
    → IsFree served limit top homes was ⊎ IsTaken served limit top homes was → IsFree served limit top homes vs ⊎ IsTaken served limit top homes vs
lock_stays served limit top homes vs was back on lock = ⊎_elim
    (λ (f : IsFree served limit top homes was). inl record {
      home = f.home;
      none_holds = λ j u e. not_true (holds u.state) (λ h. let has = holder_has u.state h in both_not (holds u.state) h (f.none_holds j u (back j u has.0 e has.1)));
      bound = f.bound;
    })
    (λ (t : IsTaken served limit top homes was). inr record {
      away = t.away;
      holder = t.holder;
      its_view = t.its_view;
      holder_is = on t.holder t.its_view served t.holder_is t.ticket;
      turn = t.turn;
      ticket = t.ticket;
      front = t.front;
      bound = t.bound;
      only = λ j u e h. let has = holder_has u.state h in t.only j u (back j u has.0 e has.1) h;
    })
    lock

-- a view is set, and no other has its ticket
pub apart_set : (vs : List View) (id : ℕ) (w : View) → AreApart vs
    → ((j : ℕ) (u : View) (t : ℕ) → j ≢ id → get_elem? vs j ≡ some u → ticket_of u.state ≡ some t → ticket_of w.state ≡ some t → ⊥)
    → AreApart (set vs id w)
apart_set vs id w apart alone i j u v t p q a b = ⊎_elim
    (λ (x : (i ≡ id) × (w ≡ u)). ⊎_elim
    (λ (y : (j ≡ id) × (w ≡ v)). x.0 ∙ sym y.0)
    (λ (y : (j ≢ id) × (get_elem? vs j ≡ some v)). absurd (alone j v t y.0 y.1 b (subst (λ (z : View). ticket_of z.state ≡ some t) (sym x.1) a)))
    (at_set vs id j w v q))
    (λ (x : (i ≢ id) × (get_elem? vs i ≡ some u)). ⊎_elim
    (λ (y : (j ≡ id) × (w ≡ v)). absurd (alone i u t x.0 x.1 a (subst (λ (z : View). ticket_of z.state ≡ some t) (sym y.1) b)))
    (λ (y : (j ≢ id) × (get_elem? vs j ≡ some v)). apart i j u v t x.1 y.1 a b)
    (at_set vs id j w v q))
    (at_set vs id i w u p)

-- a view with the ticket is another than the one that is set, or has it still
pub had_set : (vs : List View) (id : ℕ) (v w : View) (t : ℕ) → get_elem? vs id ≡ some v → (ticket_of v.state ≡ some t → ticket_of w.state ≡ some t) → IsHad vs t → IsHad (set vs id w) t
had_set vs id v w t at keeps had = ⊎_elim
    (λ (same : had.0 ≡ id).
    let one : had.1 ≡ v = some-injective had.1 v (sym had.2 ∙ (ap (get_elem? vs) same ∙ at)) in
    (id, w, set_here vs id w (within vs id v at), keeps (ap (λ (z : View). ticket_of z.state) (sym one) ∙ had.3)))
    (λ (other : had.0 ≢ id). (had.0, had.1, set_else vs id had.0 w other ∙ had.2, had.3))
    (which had.0 id)
  where
    which : (i j : ℕ) → (i ≡ j) ⊎ (i ≢ j)
    which i j = dite (ℕ_discrete i j) (λ same. inl same) (λ other. inr other)

-- a view gets another of the same ticket
pub queue_same : (served drawn : ℕ) (vs : List View) (id : ℕ) (v w : View) → get_elem? vs id ≡ some v → queued w.state ≡ queued v.state → ticket_of w.state ≡ ticket_of v.state → IsQueue served drawn vs → IsQueue served drawn (set vs id w)
queue_same served drawn vs id v w at same ticket q = record {
  out = ap (λ n. served + n) (total_same (λ v. queued v.state) vs id v w at same) ∙ q.out;
  apart = apart_set vs id w q.apart (λ j u t far e a b. far (q.apart j id u v t e at a (sym ticket ∙ b)));
  had = λ t ge lt. had_set vs id v w t at (λ has. ticket ∙ has) (q.had t ge lt);
}

-- a view that hasn't the turn is set to another that hasn't
pub lock_set : (served limit : ℕ) (top : FreeMachine) (homes : List (Option FreeMachine)) (vs : List View) (id : ℕ) (v w : View) → get_elem? vs id ≡ some v → holds v.state ≡ false → holds w.state ≡ false
    → IsFree served limit top homes vs ⊎ IsTaken served limit top homes vs → IsFree served limit top homes (set vs id w) ⊎ IsTaken served limit top homes (set vs id w)
lock_set served limit top homes vs id v w at not not' lock = ⊎_elim
    (λ (f : IsFree served limit top homes vs). inl record { home = f.home; none_holds = each_set (λ j u. holds u.state ≡ false) vs id w not' (λ j u _ e. f.none_holds j u e); bound = f.bound })
    (λ (t : IsTaken served limit top homes vs).
    let apart : t.holder ≢ id = λ same. both_not (holds v.state) (ap (λ (u : View). holds u.state) (some-injective v t.its_view (sym at ∙ (ap (get_elem? vs) (sym same) ∙ t.holder_is))) ∙ t.turn) not in
    inr record {
      away = t.away;
      holder = t.holder;
      its_view = t.its_view;
      holder_is = set_else vs id t.holder w apart ∙ t.holder_is;
      turn = t.turn;
      ticket = t.ticket;
      front = t.front;
      bound = t.bound;
      only = each_set (λ j u. holds u.state ≡ true → j ≡ t.holder) vs id w (λ yes. absurd (both_not (holds w.state) yes not')) (λ j u _ e. t.only j u e);
    })
    lock

-- the view that has the turn is the holder's
pub its_turn : (served limit : ℕ) (top : FreeMachine) (homes : List (Option FreeMachine)) (vs : List View) (id : ℕ) (v : View) → get_elem? vs id ≡ some v → holds v.state ≡ true
    → (t : IsTaken served limit top homes vs) → (id ≡ t.holder) × (v ≡ t.its_view)
its_turn served limit top homes vs id v at turn t =
    let same = t.only id v at turn in
    (same, some-injective v t.its_view (sym at ∙ (ap (get_elem? vs) same ∙ t.holder_is)))
