-- How seats begin, are cut, joined, and end.
use Rattle.std.proofs.Common.{◌≡◌, ◌≢◌, ℕ, zero, suc, ◌+◌, ◌^◌, ◌<◌, ◌≤◌, List, [], ◌∷◌, ◌++◌, length, set, false, refl, sym, ap, ◌∙◌, subst, inl, ⊎_elim, arith}
use Rattle.std.proofs.lemmas.List.{append-nil}
use Rattle.std.proofs.lemmas.List.Elements.{All-nil}
use mathlib.Core.Logic.{dite}
use mathlib.Core.Option.{none, some, some-injective, some-ne-none}
use native.Mathlib.Decide.{dec_le}
use lib.ListN.{get_elem?}
use Rattle.atomic_table.specs.Table.{step, Enters, Splits, Joins, opening, Final, Seen}
use Rattle.atomic_table.proofs.Lists.{at_snoc, at_longer, set_else}
use Rattle.machine_explicit.specs.Sections.{FreeMachine, HoldsAlways}
use Rattle.threads_lock.specs.declared.receipt.Receipt.{Receipt}
use Rattle.threads_lock.specs.declared.view.SeatState.TheVariants.{Idle}
use Rattle.threads_lock.specs.declared.view.View.{View}
use Rattle.threads_lock.specs.declared.view.Terms.{Terms}
use Rattle.threads_lock.specs.Growth.{Follows}
use Rattle.threads_lock.specs.Passes.{IsKnown, newly_known}
use Rattle.threads_lock.specs.Closing.{times}
use Rattle.threads_lock.specs.inner.Queueing.{ticket_of, holds, queued, total, AreInTurn, Agrees, Fits, AreApart, IsFree, IsTaken, Kept, merged, one_less, one_part, together, spent, newcomer}
use Rattle.threads_lock.specs.inner.Ends.{EndsWith}
use Rattle.threads_lock.specs.inner.Steps.{Came}
use Rattle.threads_lock.proofs.Growing.{follows_same}
use Rattle.threads_lock.proofs.Receipts.{times_before, times_after, times_once}
use Rattle.threads_lock.proofs.Merging.{times_merged}
use Rattle.threads_lock.proofs.Knowing.{known_joined, agrees_joined}
use Rattle.threads_lock.proofs.Views.{total_set, total_same, total_snoc, total_two, total_only, each_set, both_not, idle_has, apart_from, Within, queue_stays, lock_stays}
use Rattle.threads_lock.proofs.Stepping.{St, parts, in_queue, claim, fits_live}

-- ---- how it begins

pub known_newly : (x : FreeMachine) → HoldsAlways x → IsKnown (newly_known x)
known_newly x always = record { always = always; seen = omega arith; stand = All-nil _; rising = tt }

agrees_newly : (x : FreeMachine) → Agrees [] x (newly_known x)
agrees_newly x = record { front = follows_same x; seen = omega arith; joined = All-nil _; receipts = All-nil _ }

module _ (key : Terms) where
  pub opens : (x : FreeMachine) → key.start.value ≡ x → HoldsAlways x → 0 < key.passes → key.passes < 2 ^ 32 → (n : ℕ) → n ≡ length x.log → Kept key (opening (0 ∷ 0 ∷ n ∷ []) (x ∷ []) (newcomer key))
  opens x same always some_pass few n count = record {
    top = x;
    history = [];
    limit = 0;
    served = 0;
    drawn = 0;
    words = ap (λ z. 0 ∷ 0 ∷ z ∷ []) count;
    few = few;
    whole = omega arith;
    made = record { follows = subst (Follows key.start.value) same (follows_same key.start.value); log = ap (λ (z : FreeMachine). z.log) (sym same) ∙ sym (append-nil key.start.value.log); in_turn = omega arith; always = always };
    receipts = λ place. refl;
    each = one;
    queue = record { out = refl; apart = alone; had = λ t ge lt. absurd (omega arith) };
    lock = inl record { home = refl; none_holds = none_has; bound = omega arith };
  }
    where
      fits : Fits 0 0 [] x (newcomer key)
      fits = fits_live 0 0 [] x (newcomer key) some_pass (subst (λ z. IsKnown (newly_known z)) (sym same) (known_newly x always)) (subst (λ z. Agrees [] x (newly_known z)) (sym same) (agrees_newly x)) (λ t has. absurd (some-ne-none t (sym has)))

      one : (j : ℕ) (v : View) → get_elem? (newcomer key ∷ []) j ≡ some v → Fits 0 0 [] x v
      one zero v e = subst (Fits 0 0 [] x) (some-injective _ _ e) fits
      one (suc j) v e = absurd (some-ne-none v (sym e))

      none_has : (j : ℕ) (v : View) → get_elem? (newcomer key ∷ []) j ≡ some v → holds v.state ≡ false
      none_has zero v e = ap (λ (u : View). holds u.state) (sym (some-injective _ _ e))
      none_has (suc j) v e = absurd (some-ne-none v (sym e))

      alone : AreApart (newcomer key ∷ [])
      alone zero zero u v t p q a b = refl
      alone zero (suc j) u v t p q a b = absurd (some-ne-none v (sym q))
      alone (suc i) j u v t p q a b = absurd (some-ne-none u (sym p))

  -- ---- a seat is cut in two

  pub splits : (id : ℕ) (v : View) → v.state ≡ Idle → 1 < v.parts → Splits (Kept key) id v (one_less v) (one_part v)
  splits id v idle two s r at =
      let w : View = one_less v in let u : View = one_part v in let f = r.each id v at in let k = f.known (omega arith) in let vs : List View = set s.views id w in
      let back : Within (vs ++ u ∷ []) s.views = λ j e t p has. ⊎_elim
      (λ q. each_set (λ j y. ticket_of y.state ≡ some t → get_elem? s.views j ≡ some y) s.views id w (λ yes. absurd (idle_has v.state t idle yes)) (λ j y _ q _. q) j e q has)
      (λ (same : u ≡ e). absurd (idle_has e.state t (ap (λ (y : View). y.state) (sym same)) has)) (at_snoc vs u e j p) in
      let on : Within s.views (vs ++ u ∷ []) = λ j e t p has. at_longer vs (u ∷ []) j e (set_else s.views id j w (apart_from s.views id v idle at j e t p has) ∙ p) in record {
        top = r.top;
        history = r.history;
        limit = r.limit;
        served = r.served;
        drawn = r.drawn;
        words = r.words;
        few = r.few;
        whole = (let p = total_set parts s.views id v w at in let q = r.whole in let z = total_snoc parts vs u in omega arith);
        made = r.made;
        receipts = λ place. let p = total_same (claim place) s.views id v w at refl in let q = r.receipts place in let z = total_snoc (claim place) vs u in omega arith;
        each = λ j e p. ⊎_elim
            (each_set (λ j y. Fits r.served r.drawn r.history r.top y) s.views id w (fits_live r.served r.drawn r.history r.top w (omega arith) k.0 k.1 f.ticket) (λ j y _ h. r.each j y h) j e)
            (λ (same : u ≡ e). subst (Fits r.served r.drawn r.history r.top) same (fits_live r.served r.drawn r.history r.top u (omega arith)
            (record { always = k.0.always; seen = k.0.seen; stand = All-nil _; rising = tt })
            (record { front = k.1.front; seen = k.1.seen; joined = All-nil _; receipts = All-nil _ })
            (λ t has. absurd (some-ne-none t (sym has)))))
            (at_snoc vs u e j p);
        queue = queue_stays r.served r.drawn (vs ++ u ∷ []) s.views back on (let p = total_same in_queue s.views id v w at refl in let z = total_snoc in_queue vs u in omega arith) r.queue;
        lock = lock_stays r.served r.limit r.top s.homes (vs ++ u ∷ []) s.views back on r.lock;
      }

  -- ---- a seat comes that has no part

  pub spares : (slots : ℕ) → Enters (Kept key) slots 1 (λ n w. Came (step slots 1 0 0 none) (newcomer key, []) n (w, []))
  spares slots s r _ _ =
      let u : View = spent in let vs : List View = s.views in
      let back : Within (vs ++ u ∷ []) vs = λ j e t p has. ⊎_elim (λ q. q) (λ (same : u ≡ e). absurd (idle_has e.state t (ap (λ (y : View). y.state) (sym same)) has)) (at_snoc vs u e j p) in
      let on : Within vs (vs ++ u ∷ []) = λ j e t p has. at_longer vs (u ∷ []) j e p in (
        u,
        record {
          top = r.top;
          history = r.history;
          limit = r.limit;
          served = r.served;
          drawn = r.drawn;
          words = r.words;
          few = r.few;
          whole = (let q = r.whole in let z = total_snoc parts vs u in omega arith);
          made = r.made;
          receipts = λ place. let q = r.receipts place in let z = total_snoc (claim place) vs u in omega arith;
          each = λ j e p. ⊎_elim
              (r.each j e)
              (λ (same : u ≡ e). subst (Fits r.served r.drawn r.history r.top) same (record { known = λ p. absurd (omega arith); joined = λ _. refl; ticket = λ t has. absurd (some-ne-none t (sym has)) }))
              (at_snoc vs u e j p);
          queue = queue_stays r.served r.drawn (vs ++ u ∷ []) vs back on (let z = total_snoc in_queue vs u in omega arith) r.queue;
          lock = lock_stays r.served r.limit r.top s.homes (vs ++ u ∷ []) vs back on r.lock;
        },
        tt,
      )

  -- ---- two seats become one

  times_most : (r : List Receipt) (start limit : ℕ) → AreInTurn start 0 r limit → (k : ℕ) → times k r ≤ 1
  times_most r start limit turn k = dite (dec_le start k)
      (λ ge. dite (dec_le (start + length r) k)
      (λ past. let z = times_after start 0 r limit turn k past in omega arith)
      (λ not. let z = times_once start 0 r limit turn k ge (omega arith) in omega arith))
      (λ not. let z = times_before start 0 r limit turn k (omega arith) in omega arith)

  pub joins : (id : ℕ) (v : View) (other : ℕ) (w : View) → v.state ≡ Idle → w.state ≡ Idle → 0 < v.parts → 0 < w.parts → Joins (Kept key) id v other w (together v w) spent
  joins id v other w idle idle' live live' s r at apart there =
      let b : View = together v w in let vs : List View = set s.views id b in let f = r.each id v at in
      let there' : get_elem? s.views other ≡ some w = sym (set_else s.views id other b apart) ∙ there in let g = r.each other w there' in
      let kv = f.known live in let kw = g.known live' in
      let back : Within (set vs other spent) s.views = λ j e t. each_set (λ j y. ticket_of y.state ≡ some t → get_elem? s.views j ≡ some y) vs other spent (λ yes. absurd (some-ne-none t (sym yes)))
      (λ j y _ q. each_set (λ j y. ticket_of y.state ≡ some t → get_elem? s.views j ≡ some y) s.views id b (λ yes. absurd (idle_has v.state t idle yes)) (λ j y _ q _. q) j y q) j e in
      let on : Within s.views (set vs other spent) = λ j e t p has. set_else vs other j spent (apart_from s.views other w idle' there' j e t p has) ∙ (set_else s.views id j b (apart_from s.views id v idle at j e t p has) ∙ p) in
      let counts : (place : ℕ) → total (claim place) (set vs other spent) ≡ total (claim place) s.views = λ place.
      let p = total_set (claim place) s.views id v b at in let z = total_set (claim place) vs other w spent there in let n = times_merged place v.known.receipts w.known.receipts in let nothing : claim place spent ≡ 0 = refl in omega arith in
      let most : (place : ℕ) → times place (merged v.known.receipts w.known.receipts) ≤ 1 = λ place.
      let two = total_two (claim place) s.views id other v w at there' (λ same. apart (sym same)) in let n = times_merged place v.known.receipts w.known.receipts in let q = r.receipts place in
      let one = times_most r.history (length key.start.value.log) r.limit r.made.in_turn place in omega arith in record {
        top = r.top;
        history = r.history;
        limit = r.limit;
        served = r.served;
        drawn = r.drawn;
        words = r.words;
        few = r.few;
        whole = (let p = total_set parts s.views id v b at in let q = r.whole in let z = total_set parts vs other w spent there in omega arith);
        made = r.made;
        receipts = λ place. counts place ∙ r.receipts place;
        each = each_set (λ j y. Fits r.served r.drawn r.history r.top y) vs other spent
            (record { known = λ p. absurd (omega arith); joined = λ _. refl; ticket = λ t has. absurd (some-ne-none t (sym has)) })
            (λ j y _ e. each_set (λ j y. Fits r.served r.drawn r.history r.top y) s.views id b
            (fits_live r.served r.drawn r.history r.top b (omega arith) (known_joined r.history r.top v.known w.known kv.0 kw.0 kv.1 kw.1 most) (agrees_joined r.history r.top v.known w.known kv.1 kw.1) f.ticket) (λ j y _ h. r.each j y h) j y e);
        queue = queue_stays r.served r.drawn (set vs other spent) s.views back on
            (let p = total_same in_queue s.views id v b at refl in let z = total_set in_queue vs other w spent there in let i : queued w.state ≡ 0 = ap queued idle' in omega arith) r.queue;
        lock = lock_stays r.served r.limit r.top s.homes (set vs other spent) s.views back on r.lock;
      }

  -- ---- one view has all parts and no ticket

  pub closes : (id : ℕ) (v : View) (ws : List ℕ) (xs : List FreeMachine) (x : FreeMachine) → v.state ≡ Idle → v.parts ≡ key.passes → 0 < key.passes → get_elem? xs 0 ≡ some x → Final (Seen (Kept key) id v) ws xs → EndsWith key.start.value v.known x
  closes id v ws xs x idle all some_pass last final =
      let s : St = final.0 in let r : Kept key s = final.1.0 in let at : get_elem? s.views id ≡ some v = final.1.1 in let vals = final.4 in let f = r.each id v at in
      let empty : (j : ℕ) (u : View) → j ≢ id → get_elem? s.views j ≡ some u → u ≡ spent = λ j u far at'.
      let two = total_two parts s.views id j v u at at' (λ e. far (sym e)) in let q = r.whole in (r.each j u at').joined (omega arith) in
      let alone : (k : ℕ) → total (claim k) s.views ≡ claim k v = λ k. total_only (claim k) s.views id v at (λ j u far at'. ap (claim k) (empty j u far at')) in ⊎_elim
      (λ (free : IsFree r.served r.limit r.top s.homes s.views).
      let same : r.top ≡ x = some-injective r.top x (sym (vals 0 r.top (ap (λ h. get_elem? h 0) free.home)) ∙ last) in
      subst (EndsWith key.start.value v.known) same (record { history = r.history; limit = r.limit; made = r.made; agrees = (f.known (omega arith)).1; receipts = λ k. sym (alone k) ∙ r.receipts k }))
      (λ (t : IsTaken r.served r.limit r.top s.homes s.views).
      let far : t.holder ≢ id = apart_from s.views id v idle at t.holder t.its_view r.served t.holder_is t.ticket in
      absurd (both_not (holds t.its_view.state) t.turn (ap (λ (u : View). holds u.state) (empty t.holder t.its_view far t.holder_is))))
      r.lock

-- the table as it is made
pub opens_with : (key : Terms) (xs : List FreeMachine) (x : FreeMachine) → xs ≡ x ∷ [] → key.start.value ≡ x → HoldsAlways x → 0 < key.passes → key.passes < 2 ^ 32 → (n : ℕ) → n ≡ length x.log → Kept key (opening (0 ∷ 0 ∷ n ∷ []) xs (newcomer key))
opens_with key xs x same start always some_pass few n count = subst (λ l. Kept key (opening (0 ∷ 0 ∷ n ∷ []) l (newcomer key))) (sym same) (opens key x start always some_pass few n count)
