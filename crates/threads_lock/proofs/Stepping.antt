-- Each step keeps the rule.
use Rattle.std.proofs.Common.{◌≡◌, ◌≢◌, ◌⊎◌, ℕ, ◌+◌, ◌%◌, ◌^◌, ◌<◌, ◌≤◌, List, [], ◌∷◌, ◌++◌, length, get_or, set, map, true, false, refl, sym, ap, ◌∙◌, subst, inl, inr, ⊎_elim, arith, length-append}
use Rattle.std.proofs.Math.Nat.{mod-add-mod}
use Rattle.std.proofs.lemmas.List.{append_assoc}
use mathlib.Core.Logic.{dite}
use mathlib.Core.Option.{Option, some, none, some-injective, some-ne-none}
use native.Mathlib.Decide.{ℕ_discrete}
use lib.ListN.{get_elem?}
use lib.Seq.{set-get_or}
use Rattle.atomic_table.specs.Table.{State, Me, step, keeps, takes, gives, rest, put_back, stepped, Allows}
use Rattle.atomic_table.proofs.Lists.{set_again, set_here, one_turn}
use Rattle.machine_events.specs.declared.log.Entry.{Entry}
use Rattle.machine_explicit.specs.Sections.{FreeMachine, HoldsAlways}
use Rattle.threads_lock.specs.declared.receipt.Receipt.{Receipt}
use Rattle.threads_lock.specs.declared.view.SeatState.TheVariants.{Idle, Waiting, Holding}
use Rattle.threads_lock.specs.declared.view.View.{View}
use Rattle.threads_lock.specs.declared.view.Terms.{Terms}
use Rattle.threads_lock.specs.Growth.{Follows}
use Rattle.threads_lock.specs.Passes.{IsKnown, observed}
use Rattle.threads_lock.specs.Closing.{times}
use Rattle.threads_lock.specs.inner.Queueing.{view, ticket_of, holds, queued, limit_of, IsHistory, Agrees, Fits, IsQueue, IsFree, IsTaken, Kept}
use Rattle.threads_lock.specs.inner.Steps.{in_state, Drew, has_at, HasTurn, Called, receipt_at, told, Published, Released, Observed}
use Rattle.threads_lock.proofs.Growing.{follows_on, last_same}
use Rattle.threads_lock.proofs.Receipts.{times_push, turn_push}
use Rattle.threads_lock.proofs.Knowing.{known_looked, known_observed, known_receipted, agrees_same, agrees_on, agrees_receipted}
use Rattle.threads_lock.proofs.Views.{within, total_set, total_same, total_le, each_set, not_true, both_not, queued_le, holder_queued, idle_has, same_waiting, same_holding, apart_set, had_set, queue_same, lock_set, its_turn}

abbrev pub St : Type 0
St = State FreeMachine View

abbrev pub M : Type 0
M = Me FreeMachine View

abbrev pub words_of : ℕ → ℕ → ℕ → List ℕ
words_of drawn served count = drawn % 2 ^ 64 ∷ served % 2 ^ 64 ∷ count ∷ []

abbrev pub parts : View → ℕ
parts v = v.parts

abbrev pub in_queue : View → ℕ
in_queue v = queued v.state

abbrev pub claim : ℕ → View → ℕ
claim place v = times place v.known.receipts

-- whoever has a ticket has parts
live_ticket : (served drawn : ℕ) (history : List Receipt) (top : FreeMachine) (v : View) (t : ℕ) → Fits served drawn history top v → ticket_of v.state ≡ some t → 0 < v.parts
live_ticket served drawn history top v t f has = dite (ℕ_discrete v.parts 0)
    (λ none_left. absurd (some-ne-none t (sym has ∙ ap (λ (u : View). ticket_of u.state) (f.joined none_left))))
    (λ some_left. omega arith)

queued_parts : (served drawn : ℕ) (history : List Receipt) (top : FreeMachine) (v : View) → Fits served drawn history top v → queued v.state ≤ v.parts
queued_parts served drawn history top v f = dite (ℕ_discrete v.parts 0)
    (λ none_left. let z : queued v.state ≡ 0 = ap (λ (u : View). queued u.state) (f.joined none_left) in omega arith)
    (λ some_left. let q = queued_le v.state in omega arith)

-- what fits still fits where the same tickets are out
fits_same : (served drawn served' drawn' : ℕ) (history : List Receipt) (top : FreeMachine) (v : View) → Fits served drawn history top v
    → ((t : ℕ) → ticket_of v.state ≡ some t → (served' ≤ t) × (t < drawn')) → Fits served' drawn' history top v
fits_same served drawn served' drawn' history top v f tickets = record { known = f.known; joined = f.joined; ticket = tickets }

-- one view that is live is set to another that is
pub fits_live : (served drawn : ℕ) (history : List Receipt) (top : FreeMachine) (v : View) → 0 < v.parts → IsKnown v.known → Agrees history top v.known
    → ((t : ℕ) → ticket_of v.state ≡ some t → (served ≤ t) × (t < drawn)) → Fits served drawn history top v
fits_live served drawn history top v live known agrees tickets = record { known = λ _. (known, agrees); joined = λ none_left. absurd (omega arith); ticket = tickets }

module _ (key : Terms) where
  -- the ticket whose number the word tells is the one that is served
  in_turn : (s : St) (r : Kept key s) (id : ℕ) (v : View) (t : ℕ) → get_elem? s.views id ≡ some v → ticket_of v.state ≡ some t → get_or s.words 1 0 ≡ t % 2 ^ 64 → r.served ≡ t
  in_turn s r id v t at has is =
      let b = (r.each id v at).ticket t has in let few = r.few in let q = r.queue.out in let p = r.whole in
      let le = total_le in_queue parts s.views (λ j u e. queued_parts r.served r.drawn r.history r.top u (r.each j u e)) in
      let word : get_or s.words 1 0 ≡ r.served % 2 ^ 64 = ap (λ ws. get_or ws 1 0) r.words in
      one_turn r.served t (2 ^ 64) b.0 (omega arith) (sym word ∙ is)

  -- a step with no section: the view that is set has the same parts and receipts
  pub quiet : (s : St) (r : Kept key s) (id : ℕ) (v w : View) (words : List ℕ) (homes : List (Option FreeMachine)) (served drawn : ℕ) → get_elem? s.views id ≡ some v
      → words ≡ words_of drawn served (length r.top.log) → w.parts ≡ v.parts → w.known.receipts ≡ v.known.receipts
      → Fits served drawn r.history r.top w
      → ((j : ℕ) (u : View) → j ≢ id → get_elem? s.views j ≡ some u → Fits served drawn r.history r.top u)
      → IsQueue served drawn (set s.views id w)
      → IsFree served r.limit r.top homes (set s.views id w) ⊎ IsTaken served r.limit r.top homes (set s.views id w)
      → Kept key (record { words = words; homes = homes; views = set s.views id w })
  quiet s r id v w words homes served drawn at is same_parts same_receipts mine others queue lock = record {
    top = r.top;
    history = r.history;
    limit = r.limit;
    served = served;
    drawn = drawn;
    words = is;
    few = r.few;
    whole = total_same parts s.views id v w at same_parts ∙ r.whole;
    made = r.made;
    receipts = λ place. total_same (claim place) s.views id v w at (ap (times place) same_receipts) ∙ r.receipts place;
    each = each_set (λ j u. Fits served drawn r.history r.top u) s.views id w mine others;
    queue = queue;
    lock = lock;
  }

  -- ---- a ticket is drawn

  pub draws : (slots id : ℕ) (m : M) → m.0.state ≡ Idle → 0 < m.0.parts → Allows (Kept key) slots id m 0 (λ x. (x + 1) % 2 ^ 64) (Drew (step slots 0 1 0 none) m)
  draws slots id m idle live s r _ at _ =
      let v : View = m.0 in let w : View = in_state (Waiting r.drawn) v in let f = r.each id v at in (
        w,
        keeps,
        tt,
        quiet s r id v w (set s.words 0 ((get_or s.words 0 0 + 1) % 2 ^ 64)) s.homes r.served (r.drawn + 1) at
            (ap (λ ws. set ws 0 ((get_or ws 0 0 + 1) % 2 ^ 64)) r.words ∙ ap (λ n. n ∷ r.served % 2 ^ 64 ∷ length r.top.log ∷ []) (mod-add-mod r.drawn (2 ^ 64) 1))
            refl
            refl
            (fits_live r.served (r.drawn + 1) r.history r.top w live (f.known live).0 (f.known live).1 (λ t has. let same : r.drawn ≡ t = some-injective r.drawn t has in let q = r.queue.out in (omega arith, omega arith)))
            (λ j u far e. fits_same r.served r.drawn r.served (r.drawn + 1) r.history r.top u (r.each j u e) (λ t has. let h = (r.each j u e).ticket t has in (h.0, omega arith)))
            (queue_drawn s r id v at idle)
            (lock_set r.served r.limit r.top s.homes s.views id v w at (ap holds idle) refl r.lock),
        (r.drawn, ap (λ ws. get_or ws 0 0) r.words, refl),
      )
    where
      queue_drawn : (s : St) (r : Kept key s) (id : ℕ) (v : View) → get_elem? s.views id ≡ some v → v.state ≡ Idle → IsQueue r.served (r.drawn + 1) (set s.views id (in_state (Waiting r.drawn) v))
      queue_drawn s r id v at idle = let w : View = in_state (Waiting r.drawn) v in record {
        out = (let p = total_set in_queue s.views id v w at in let z : queued v.state ≡ 0 = ap queued idle in let q = r.queue.out in omega arith);
        apart = apart_set s.views id w r.queue.apart (λ j u t _ e a b. let same : r.drawn ≡ t = some-injective r.drawn t b in let h = (r.each j u e).ticket t a in absurd (omega arith));
        had = λ t ge lt. dite (ℕ_discrete r.drawn t)
            (λ same. (id, w, set_here s.views id w (within s.views id v at), ap some same))
            (λ other. had_set s.views id v w t at (λ has. absurd (idle_has v.state t idle has)) (r.queue.had t ge (omega arith)));
      }

  -- ---- the ticket that is served is read

  takes_turn : (s : St) (r : Kept key s) (id : ℕ) (v : View) (t : ℕ) → get_elem? s.views id ≡ some v → v.state ≡ Waiting t → 0 < v.parts → r.served ≡ t → IsFree r.served r.limit r.top s.homes s.views
      → Kept key (record { words = set s.words 1 (get_or s.words 1 0); homes = set s.homes 0 none; views = set s.views id (has_at t r.top v) })
  takes_turn s r id v t at waits live now free =
      let w : View = has_at t r.top v in let f = r.each id v at in let k = f.known live in let has = ap ticket_of waits in
      quiet s r id v w (set s.words 1 (get_or s.words 1 0)) (set s.homes 0 none) r.served r.drawn at
      (set-get_or s.words 1 0 ∙ r.words)
      refl
      refl
      (fits_live r.served r.drawn r.history r.top w live (known_looked v.known r.top k.0 k.1.front r.made.always) (agrees_same r.history r.top v.known k.1 k.1.receipts) (λ n its. f.ticket n (has ∙ its)))
      (λ j u far e. r.each j u e)
      (queue_same r.served r.drawn s.views id v w at (sym (ap queued waits)) (sym has) r.queue)
      (inr record {
        away = ap (λ h. set h 0 none) free.home;
        holder = id;
        its_view = w;
        holder_is = set_here s.views id w (within s.views id v at);
        turn = refl;
        ticket = ap some (sym now);
        front = refl;
        bound = (let b = free.bound in omega arith);
        only = each_set (λ j u. holds u.state ≡ true → j ≡ id) s.views id w (λ _. refl) (λ j u _ e h. absurd (both_not (holds u.state) h (free.none_holds j u e)));
      })

  -- who is served has the lock, so a view that waits for this ticket is no other
  not_taken : (s : St) (r : Kept key s) (id : ℕ) (v : View) (t : ℕ) → get_elem? s.views id ≡ some v → v.state ≡ Waiting t → r.served ≡ t → IsTaken r.served r.limit r.top s.homes s.views → ⊥
  not_taken s r id v t at waits now k =
      let same : k.holder ≡ id = r.queue.apart k.holder id k.its_view v t k.holder_is at (k.ticket ∙ ap some now) (ap ticket_of waits) in
      let one : k.its_view ≡ v = some-injective k.its_view v (sym k.holder_is ∙ (ap (get_elem? s.views) same ∙ at)) in
      both_not (holds v.state) (ap (λ (u : View). holds u.state) (sym one) ∙ k.turn) (ap holds waits)

  pub unmoved : (s : St) (i id : ℕ) (m : M) → get_elem? s.views id ≡ some m.0 → Kept key s → Kept key (stepped s i (get_or s.words i 0) id m.1 m.0 keeps)
  unmoved s i id m at r = subst (λ (z : List ℕ × List View). Kept key (record { words = z.0; homes = s.homes; views = z.1 })) (λ k. (sym (set-get_or s.words i 0) k, sym (set_again s.views id m.0 at) k)) r

  -- what is told to a view that waits for one ticket is told of no other
  abbrev Tells : M → ℕ → M → ℕ → Type 0
  Tells m x n t = (x ≡ t % 2 ^ 64 → HasTurn t m n) × (x ≢ t % 2 ^ 64 → n ≡ m)

  pub calls : (slots id : ℕ) (m : M) (t : ℕ) → m.0.state ≡ Waiting t → 0 < m.0.parts → Allows (Kept key) slots id m 1 (λ x. x) (Called (step slots 1 0 0 none) m)
  calls slots id m t waits live s r _ at _ = let v : View = m.0 in let x : ℕ = get_or s.words 1 0 in dite (ℕ_discrete x (t % 2 ^ 64))
      (λ is. let now : r.served ≡ t = in_turn s r id v t at (ap ticket_of waits) is in ⊎_elim
      (λ (free : IsFree r.served r.limit r.top s.homes s.views).
      let w : View = has_at t r.top v in let n : M = (w, (0, r.top) ∷ m.1) in let a = ((r.each id v at).known live).1 in (
        w,
        takes 0 r.top,
        ap (λ h. get_elem? h 0) free.home,
        takes_turn s r id v t at waits live now free,
        λ t' waits'. subst (Tells m x n) (same_waiting t t' (sym waits ∙ waits'))
            ((λ _. record { top = r.top; now = refl; reaches = record { front = a.front; seen = a.seen; always = r.made.always }; always = r.made.always }), λ no. absurd (no is)),
      ))
      (λ (k : IsTaken r.served r.limit r.top s.homes s.views). absurd (not_taken s r id v t at waits now k))
      r.lock)
      (λ no. (
        v,
        keeps,
        tt,
        unmoved s 1 id m at r,
        λ t' waits'. ((λ is. absurd (no (is ∙ ap (λ z. z % 2 ^ 64) (sym (same_waiting t t' (sym waits ∙ waits')))))), λ _. refl),
      ))

  -- ---- the log's length is stored

  abbrev entry_of : Receipt → Entry
  entry_of r = r.entry

  history_on : (start : FreeMachine) (history : List Receipt) (limit : ℕ) (top y : FreeMachine) (r : Receipt) → IsHistory start history limit top → Follows top y → HoldsAlways y → y.log ≡ top.log ++ r.entry ∷ [] → r.place ≡ length top.log → limit ≤ r.ticket
      → IsHistory start (history ++ r ∷ []) (r.ticket + 1) y
  history_on start history limit top y r h grew always grown at bound = record {
    follows = follows_on start top y h.follows grew;
    log = grown ∙ (ap (λ l. l ++ r.entry ∷ []) h.log ∙ (append_assoc start.log (map entry_of history) (r.entry ∷ []) ∙ ap (λ l. start.log ++ l) (sym (map_push history r))));
    in_turn = turn_push (length start.log) 0 history limit r h.in_turn (let a = ap length h.log in let b = length-append start.log (map entry_of history) in let c = map_length history in omega arith) bound;
    always = always;
  }
    where
      map_push : (rs : List Receipt) (r : Receipt) → map entry_of (rs ++ r ∷ []) ≡ map entry_of rs ++ r.entry ∷ []
      map_push [] r = refl
      map_push (x ∷ rs) r = ap (λ l. x.entry ∷ l) (map_push rs r)

      map_length : (rs : List Receipt) → length (map entry_of rs) ≡ length rs
      map_length [] = refl
      map_length (x ∷ rs) = let h = map_length rs in omega arith

  publish_at : (s : St) (r : Kept key s) (id : ℕ) (v : View) (t : ℕ) (y : FreeMachine) (e : Entry) (n : ℕ) → get_elem? s.views id ≡ some v → v.state ≡ Holding t → y.log ≡ v.known.front.log ++ e ∷ []
      → Follows v.known.front y → HoldsAlways y → n ≡ length y.log → IsTaken r.served r.limit r.top s.homes s.views
      → Kept key (record { words = set s.words 2 n; homes = s.homes; views = set s.views id (told t v y e) })
  publish_at s r id v t y e n at state grown grew always count k =
      let w : View = told t v y e in let f = r.each id v at in let q : Receipt = receipt_at t v e in
      let turn = its_turn r.served r.limit r.top s.homes s.views id v at (ap holds state) k in
      let front : v.known.front ≡ r.top = ap (λ (u : View). u.known.front) turn.1 ∙ k.front in
      let on : Follows r.top y = subst (λ z. Follows z y) front grew in
      let has : some t ≡ some r.served = sym (ap ticket_of state) ∙ (ap (λ (u : View). ticket_of u.state) turn.1 ∙ k.ticket) in
      let now : t ≡ r.served = some-injective t r.served has in
      let below : r.limit ≤ t = subst (λ state. r.limit ≤ limit_of state) (ap (λ (u : View). u.state) (sym turn.1) ∙ state) k.bound in
      let live = live_ticket r.served r.drawn r.history r.top v t f (ap ticket_of state) in let known = f.known live in record {
        top = y;
        history = r.history ++ q ∷ [];
        limit = t + 1;
        served = r.served;
        drawn = r.drawn;
        words = ap (λ ws. set ws 2 n) r.words ∙ ap (λ z. r.drawn % 2 ^ 64 ∷ r.served % 2 ^ 64 ∷ z ∷ []) count;
        few = r.few;
        whole = total_same parts s.views id v w at refl ∙ r.whole;
        made = history_on key.start.value r.history r.limit r.top y q r.made on always (grown ∙ ap (λ (z : FreeMachine). z.log ++ e ∷ []) front) (ap (λ (z : FreeMachine). length z.log) front) below;
        receipts = λ place. let a = total_set (claim place) s.views id v w at in let b = times_push place v.known.receipts q in let c = times_push place r.history q in let d = r.receipts place in omega arith;
        each = each_set (λ j u. Fits r.served r.drawn (r.history ++ q ∷ []) y u) s.views id w
            (fits_live r.served r.drawn (r.history ++ q ∷ []) y w live (known_receipted v.known y q known.0 grew always grown refl) (agrees_receipted r.history q r.top y v.known on known.1) (λ n its. f.ticket n (ap ticket_of state ∙ its)))
            (λ j u _ at'. let g = r.each j u at' in record { known = λ some_left. let h = g.known some_left in (h.0, agrees_on r.history q r.top y u.known on h.1); joined = g.joined; ticket = g.ticket });
        queue = queue_same r.served r.drawn s.views id v w at (sym (ap queued state)) (sym (ap ticket_of state)) r.queue;
        lock = inr record {
          away = k.away;
          holder = id;
          its_view = w;
          holder_is = set_here s.views id w (within s.views id v at);
          turn = refl;
          ticket = ap some now;
          front = refl;
          bound = omega arith;
          only = each_set (λ j u. holds u.state ≡ true → j ≡ id) s.views id w (λ _. refl) (λ j u far at' h. absurd (far (k.only j u at' h ∙ sym turn.0)));
        };
      }

  abbrev first_of : FreeMachine → List (ℕ × FreeMachine) → FreeMachine
  first_of d [] = d
  first_of d (c ∷ cs) = c.1

  pub publishes : (slots id : ℕ) (m : M) (t : ℕ) (y : FreeMachine) (e : Entry) (n : ℕ) → m.0.state ≡ Holding t → m.1 ≡ (0, y) ∷ [] → y.log ≡ m.0.known.front.log ++ e ∷ [] → Follows m.0.known.front y → HoldsAlways y → n ≡ length y.log
      → Allows (Kept key) slots id m 2 (λ _. n) (λ _. Published (step slots 2 n 0 none) m n)
  publishes slots id m t y e n state carries grown grew always count s r _ at _ = ⊎_elim
      (λ (f : IsFree r.served r.limit r.top s.homes s.views). absurd (both_not (holds m.0.state) (ap holds state) (f.none_holds id m.0 at)))
      (λ (k : IsTaken r.served r.limit r.top s.homes s.views). (
        told t m.0 y e,
        keeps,
        tt,
        publish_at s r id m.0 t y e n at state grown grew always count k,
        λ t' y' e' state' carries' grown'.
            let one : y ≡ y' = ap (first_of y) (sym carries ∙ carries') in
            let same : e ≡ e' = last_same m.0.known.front.log e e' (sym grown ∙ (ap (λ (z : FreeMachine). z.log) one ∙ grown')) in
            let its : t ≡ t' = same_holding t t' (sym state ∙ state') in
            λ i. (told (its i) m.0 (one i) (same i), m.1),
      ))
      r.lock

  -- ---- the monitor is given back

  release_at : (s : St) (r : Kept key s) (id : ℕ) (m : M) → get_elem? s.views id ≡ some m.0 → holds m.0.state ≡ true → m.1 ≡ (0, m.0.known.front) ∷ [] → IsTaken r.served r.limit r.top s.homes s.views
      → Kept key (stepped s 1 ((get_or s.words 1 0 + 1) % 2 ^ 64) id m.1 (in_state Idle m.0) gives)
  release_at s r id m at holding carries k =
      let v : View = m.0 in let w : View = in_state Idle v in let f = r.each id v at in
      let turn = its_turn r.served r.limit r.top s.homes s.views id v at holding k in
      let front : v.known.front ≡ r.top = ap (λ (u : View). u.known.front) turn.1 ∙ k.front in
      let has : ticket_of v.state ≡ some r.served = ap (λ (u : View). ticket_of u.state) turn.1 ∙ k.ticket in
      let live = live_ticket r.served r.drawn r.history r.top v r.served f has in let known = f.known live in
      let mine = holder_queued v.state r.served holding has in
      let below : r.limit ≤ limit_of v.state = subst (λ (u : View). r.limit ≤ limit_of u.state) (sym turn.1) k.bound in
      let other : (j : ℕ) (u : View) (t : ℕ) → j ≢ id → get_elem? s.views j ≡ some u → ticket_of u.state ≡ some t → t ≢ r.served = λ j u t far at' its same. far (r.queue.apart j id u v t at' at its (has ∙ ap some (sym same))) in
      quiet s r id v w (set s.words 1 ((get_or s.words 1 0 + 1) % 2 ^ 64)) (put_back s.homes m.1) (r.served + 1) r.drawn at
      (ap (λ ws. set ws 1 ((get_or ws 1 0 + 1) % 2 ^ 64)) r.words ∙ ap (λ n. r.drawn % 2 ^ 64 ∷ n ∷ length r.top.log ∷ []) (mod-add-mod r.served (2 ^ 64) 1))
      refl
      refl
      (fits_live (r.served + 1) r.drawn r.history r.top w live known.0 known.1 (λ t its. absurd (some-ne-none t (sym its))))
      (λ j u far at'. fits_same r.served r.drawn (r.served + 1) r.drawn r.history r.top u (r.each j u at') (λ t its. let h = (r.each j u at').ticket t its in let o = other j u t far at' its in (omega arith, h.1)))
      (record {
        out = (let p = total_set in_queue s.views id v w at in let q = r.queue.out in let z = mine.0 in omega arith);
        apart = apart_set s.views id w r.queue.apart (λ j u t far at' a b. absurd (some-ne-none t (sym b)));
        had = λ t ge lt. had_set s.views id v w t at (λ its. let same : r.served ≡ t = some-injective r.served t (sym has ∙ its) in absurd (omega arith)) (r.queue.had t (omega arith) lt);
      })
      (inl record {
        home = ap (put_back s.homes) carries ∙ (ap (λ h. set h 0 (some v.known.front)) k.away ∙ ap (λ z. some z ∷ []) front);
        none_holds = each_set (λ j u. holds u.state ≡ false) s.views id w refl (λ j u far at'. not_true (holds u.state) (λ h. far (k.only j u at' h ∙ sym turn.0)));
        bound = (let b = mine.1 in omega arith);
      })

  pub releases : (slots id : ℕ) (m : M) → holds m.0.state ≡ true → m.1 ≡ (0, m.0.known.front) ∷ [] → Allows (Kept key) slots id m 1 (λ x. (x + 1) % 2 ^ 64) (Released (step slots 1 1 0 none) m)
  releases slots id m holding carries s r _ at _ = ⊎_elim
      (λ (f : IsFree r.served r.limit r.top s.homes s.views). absurd (both_not (holds m.0.state) holding (f.none_holds id m.0 at)))
      (λ (k : IsTaken r.served r.limit r.top s.homes s.views). (in_state Idle m.0, gives, tt, release_at s r id m at holding carries k, ap (λ c. (in_state Idle m.0, rest c)) carries))
      r.lock

  -- ---- the log's length is read

  pub observes : (slots id : ℕ) (m : M) → m.0.state ≡ Idle → 0 < m.0.parts → Allows (Kept key) slots id m 2 (λ x. x) (Observed (step slots 2 0 0 none) m)
  observes slots id m idle live s r _ at _ =
      let v : View = m.0 in let x : ℕ = get_or s.words 2 0 in let w : View = view v.state v.parts (observed v.known x) in let f = r.each id v at in
      let k = f.known live in let count : x ≡ length r.top.log = ap (λ ws. get_or ws 2 0) r.words in let le = k.1.seen in (
        w,
        keeps,
        tt,
        quiet s r id v w (set s.words 2 x) s.homes r.served r.drawn at (set-get_or s.words 2 0 ∙ r.words) refl refl
            (fits_live r.served r.drawn r.history r.top w live (known_observed v.known x k.0 (omega arith)) (record { front = k.1.front; seen = omega arith; joined = k.1.joined; receipts = k.1.receipts }) f.ticket)
            (λ j u _ e. r.each j u e)
            (queue_same r.served r.drawn s.views id v w at refl refl r.queue)
            (lock_set r.served r.limit r.top s.homes s.views id v w at (ap holds idle) (ap holds idle) r.lock),
        record { now = refl; seen = omega arith },
      )
