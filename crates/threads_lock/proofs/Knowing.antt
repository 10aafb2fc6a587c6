-- What is known stays so, and grows.
use Rattle.std.proofs.Common.{◌≡◌, ℕ, ◌<◌, ◌≤◌, max, List, [], ◌∷◌, ◌++◌, length, Some, Bool, true, false, refl, sym, subst, arith, if◌then◌else◌}
use Rattle.std.specs.Prelude.{slice_get, nat_lt}
use Rattle.std.specs.List.{All, Contains}
use Rattle.std.proofs.lemmas.Option.{slice_get_within}
use Rattle.std.proofs.lemmas.List.Elements.{All-nil, All-cons, All-push, All-append, All-head, All-tail, All-weaker, Contains-append_left, Contains-append_right}
use Rattle.machine_events.specs.declared.log.Entry.{Entry}
use Rattle.machine_explicit.specs.Sections.{FreeMachine, HoldsAlways}
use Rattle.threads_lock.specs.declared.receipt.Receipt.{Receipt}
use Rattle.threads_lock.specs.declared.view.Knowledge.{Knowledge}
use Rattle.threads_lock.specs.Growth.{IsFront, Follows}
use Rattle.threads_lock.specs.Passes.{StandsIn, IsKnown, looked, observed, receipted}
use Rattle.threads_lock.specs.Closing.{times}
use Rattle.threads_lock.specs.inner.Queueing.{Agrees, joined, longer, merged}
use Rattle.threads_lock.proofs.Growing.{follows_same, follows_on, front_same, front_between, front_length, stands_on, last_stands}
use Rattle.threads_lock.proofs.Merging.{all_merged, all_unmerged, rising_merged, rising_push}

-- ---- the rule of what is known

pub all_stand_on : (log now : List Entry) (rs : List Receipt) → IsFront log now → All (StandsIn log) rs → All (StandsIn now) rs
all_stand_on log now rs f all = All-weaker (StandsIn log) (StandsIn now) (λ r is. stands_on log now r.place r.entry f is) rs all

pub known_looked : (k : Knowledge) (found : FreeMachine) → IsKnown k → Follows k.front found → HoldsAlways found → IsKnown (looked k found)
known_looked k found known follows always = record {
  always = always;
  seen = omega arith;
  stand = all_stand_on k.front.log found.log k.receipts follows.log known.stand;
  rising = known.rising;
}

pub known_observed : (k : Knowledge) (count : ℕ) → IsKnown k → k.seen ≤ count → IsKnown (observed k count)
known_observed k count known le = record { always = known.always; seen = (let h = known.seen in omega arith); stand = known.stand; rising = known.rising }

pub known_receipted : (k : Knowledge) (next : FreeMachine) (r : Receipt) → IsKnown k → Follows k.front next → HoldsAlways next → next.log ≡ k.front.log ++ r.entry ∷ [] → r.place ≡ length k.front.log
    → IsKnown (receipted k next r)
known_receipted k next r known follows always grown at = record {
  always = always;
  seen = omega arith;
  stand = All-push (StandsIn next.log) k.receipts r (all_stand_on k.front.log next.log k.receipts follows.log known.stand) stands;
  rising = rising_push k.receipts r known.rising (All-weaker (StandsIn k.front.log) (λ other. other.place < r.place) (λ other is. let h = slice_get_within k.front.log other.place other.entry is in omega arith) k.receipts known.stand);
}
  where
    stands : StandsIn next.log r
    stands = subst (λ n. slice_get next.log n ≡ Some r.entry) (sym at) (subst (λ l. slice_get l (length k.front.log) ≡ Some r.entry) (sym grown) (last_stands k.front.log r.entry))

-- ---- what is so stays so

pub agrees_same : (history : List Receipt) (top : FreeMachine) (k : Knowledge) → Agrees history top k → (receipts : All (Contains history) k.receipts) → Agrees history top (looked k top)
agrees_same history top k a receipts = record { front = follows_same top; seen = omega arith; joined = a.joined; receipts = receipts }

contains_more : (history : List Receipt) (r : Receipt) (rs : List Receipt) → All (Contains history) rs → All (Contains (history ++ r ∷ [])) rs
contains_more history r rs all = All-weaker (Contains history) (Contains (history ++ r ∷ [])) (λ q has. Contains-append_left history (r ∷ []) q has) rs all

pub agrees_on : (history : List Receipt) (r : Receipt) (top x : FreeMachine) (k : Knowledge) → Follows top x → Agrees history top k → Agrees (history ++ r ∷ []) x k
agrees_on history r top x k grew a = record {
  front = follows_on k.front top x a.front grew;
  seen = (let h = a.seen in let le = front_length top.log x.log grew.log in omega arith);
  joined = All-weaker (λ front. Follows front top) (λ front. Follows front x) (λ front f. follows_on front top x f grew) k.joined_fronts a.joined;
  receipts = contains_more history r k.receipts a.receipts;
}

pub agrees_receipted : (history : List Receipt) (r : Receipt) (top x : FreeMachine) (k : Knowledge) → Follows top x → Agrees history top k → Agrees (history ++ r ∷ []) x (receipted k x r)
agrees_receipted history r top x k grew a = record {
  front = follows_same x;
  seen = omega arith;
  joined = (agrees_on history r top x k grew a).joined;
  receipts = All-push (Contains (history ++ r ∷ [])) k.receipts r (contains_more history r k.receipts a.receipts) (last_contained history r);
}
  where
    last_contained : (rs : List Receipt) (q : Receipt) → Contains (rs ++ q ∷ []) q
    last_contained rs q = Contains-append_right rs (q ∷ []) q (0, omega arith, refl)

-- ---- two seats together

module _ (v w top : FreeMachine) (f : Follows v top) (g : Follows w top) where
  abbrev either : Bool → FreeMachine
  either b = if b then w else v

  -- both fronts are fronts of the longer one, which is one of them
  record IsLonger (x : FreeMachine) : Type 1 where
    pub first : IsFront v.log x.log
    pub second : IsFront w.log x.log
    pub same : (P : FreeMachine → Type 0) → P v → P w → P x

  is_longer : IsLonger (longer v w)
  is_longer = which (nat_lt (length v.log) (length w.log)) refl
    where
      which : (b : Bool) → nat_lt (length v.log) (length w.log) ≡ b → IsLonger (either b)
      which true is = record { first = front_between v.log w.log top.log f.log g.log (grind arith); second = front_same w.log; same = λ P p q. q }
      which false is = record { first = front_same v.log; second = front_between w.log v.log top.log g.log f.log (grind arith); same = λ P p q. p }

pub known_joined : (history : List Receipt) (top : FreeMachine) (k l : Knowledge) → IsKnown k → IsKnown l → Agrees history top k → Agrees history top l → ((place : ℕ) → times place (merged k.receipts l.receipts) ≤ 1)
    → IsKnown (joined k l)
known_joined history top k l known other a b once = record {
  always = h.same HoldsAlways known.always other.always;
  seen = h.same (λ x. length x.log ≤ max k.seen l.seen) (let e = known.seen in grind arith) (let e = other.seen in grind arith);
  stand = all_merged (StandsIn (longer k.front l.front).log) k.receipts l.receipts
      (all_stand_on k.front.log (longer k.front l.front).log k.receipts h.first known.stand)
      (all_stand_on l.front.log (longer k.front l.front).log l.receipts h.second other.stand);
  rising = rising_merged k.receipts l.receipts known.rising other.rising once;
}
  where
    h : IsLonger k.front l.front top a.front b.front (longer k.front l.front)
    h = is_longer k.front l.front top a.front b.front

pub agrees_joined : (history : List Receipt) (top : FreeMachine) (k l : Knowledge) → Agrees history top k → Agrees history top l → Agrees history top (joined k l)
agrees_joined history top k l a b = record {
  front = (is_longer k.front l.front top a.front b.front).same (λ x. Follows x top) a.front b.front;
  seen = (let e = a.seen in let f = b.seen in grind arith);
  joined = All-cons Grows k.front (l.front ∷ (k.joined_fronts ++ l.joined_fronts)) a.front
      (All-cons Grows l.front (k.joined_fronts ++ l.joined_fronts) b.front (All-append Grows k.joined_fronts l.joined_fronts a.joined b.joined));
  receipts = all_merged (Contains history) k.receipts l.receipts a.receipts b.receipts;
}
  where
    Grows : FreeMachine → Type 0
    Grows front = Follows front top

all_left : (P : FreeMachine → Type 0) (xs ys : List FreeMachine) → All P (xs ++ ys) → All P xs
all_left P [] ys all = All-nil P
all_left P (x ∷ xs) ys all = All-cons P x xs (All-head P x (xs ++ ys) all) (all_left P xs ys (All-tail P x (xs ++ ys) all))

all_right : (P : FreeMachine → Type 0) (xs ys : List FreeMachine) → All P (xs ++ ys) → All P ys
all_right P [] ys all = all
all_right P (x ∷ xs) ys all = all_right P xs ys (All-tail P x (xs ++ ys) all)

-- what two seats know together is so for each
pub agrees_apart : (history : List Receipt) (top : FreeMachine) (k l : Knowledge) → Agrees history top (joined k l) → Agrees history top k × Agrees history top l
agrees_apart history top k l a =
    let fronts = a.joined in
    let more = All-tail Grows k.front (l.front ∷ (k.joined_fronts ++ l.joined_fronts)) fronts in
    let olds = All-tail Grows l.front (k.joined_fronts ++ l.joined_fronts) more in
    let receipts = all_unmerged (Contains history) k.receipts l.receipts a.receipts in
    let seen : max k.seen l.seen ≤ length top.log = a.seen in (
      record { front = All-head Grows k.front (l.front ∷ (k.joined_fronts ++ l.joined_fronts)) fronts; seen = grind arith; joined = all_left Grows k.joined_fronts l.joined_fronts olds; receipts = receipts.0 },
      record { front = All-head Grows l.front (k.joined_fronts ++ l.joined_fronts) more; seen = grind arith; joined = all_right Grows k.joined_fronts l.joined_fronts olds; receipts = receipts.1 },
    )
  where
    Grows : FreeMachine → Type 0
    Grows front = Follows front top
