-- A monitor that follows one that follows a third follows that one.
use Rattle.std.proofs.Common.{◌≡◌, ℕ, zero, suc, ◌≤◌, List, [], ◌∷◌, ◌++◌, length, drop, Some, refl, sym, ap, ◌∙◌, subst, arith, length-append}
use Rattle.std.specs.Prelude.{slice_get}
use Rattle.std.proofs.lemmas.List.{append_assoc, append-nil}
use Rattle.machine_events.specs.declared.log.Entry.{Entry}
use Rattle.machine_events.specs.Logs.{IsClosed}
use Rattle.machine_explicit.specs.Sections.{FreeMachine}
use Rattle.threads_lock.specs.Growth.{IsFront, Follows}

pub front_same : (xs : List Entry) → IsFront xs xs
front_same xs = ([], sym (append-nil xs))

pub follows_same : (x : FreeMachine) → Follows x x
follows_same x = record { system = refl; extra = refl; log = front_same x.log; spurious = refl; closed = λ _. refl }

pub follows_on : (x y z : FreeMachine) → Follows x y → Follows y z → Follows x z
follows_on x y z f g = record {
  system = g.system ∙ f.system;
  extra = g.extra ∙ f.extra;
  log = (f.log.0 ++ g.log.0, g.log.1 ∙ (ap (λ l. l ++ g.log.0) f.log.1 ∙ append_assoc x.log f.log.0 g.log.0));
  spurious = g.spurious ∙ f.spurious;
  closed = λ is. let same = f.closed is in g.closed (subst (λ (m : FreeMachine). IsClosed m.system m.now) (sym same) is) ∙ same;
}

pub front_length : (xs ys : List Entry) → IsFront xs ys → length xs ≤ length ys
front_length xs ys f = let h = length-append xs f.0 in let e = ap length f.1 in omega arith

-- of two fronts of one list the shorter is a front of the longer
split_heads : (xs ys bs cs : List Entry) → xs ++ bs ≡ ys ++ cs → length xs ≤ length ys → IsFront xs ys
split_heads [] ys bs cs e le = (ys, refl)
split_heads (x ∷ xs) [] bs cs e le = absurd (omega arith)
split_heads (x ∷ xs) (y ∷ ys) bs cs e le =
    let tails : xs ++ bs ≡ ys ++ cs = ap (drop 1) e in
    let h = split_heads xs ys bs cs tails (omega arith) in
    let heads : x ≡ y = first_same x y (xs ++ bs) (ys ++ cs) e in
    (h.0, ap (λ l. y ∷ l) h.1 ∙ ap (λ one. one ∷ xs ++ h.0) (sym heads))
  where
    first_same : (x y : Entry) (xs ys : List Entry) → x ∷ xs ≡ y ∷ ys → x ≡ y
    first_same x y xs ys e = cc

pub front_between : (xs ys top : List Entry) → IsFront xs top → IsFront ys top → length xs ≤ length ys → IsFront xs ys
front_between xs ys top f g le = split_heads xs ys f.0 g.0 (sym f.1 ∙ g.1) le

get_front : (xs ys : List Entry) (k : ℕ) (p : Entry) → slice_get xs k ≡ Some p → slice_get (xs ++ ys) k ≡ Some p
get_front [] ys k p e = absurd (cc)
get_front (x ∷ xs) ys zero p e = e
get_front (x ∷ xs) ys (suc k) p e = get_front xs ys k p e

-- what stands in the log stands in the longer one
pub stands_on : (log now : List Entry) (k : ℕ) (p : Entry) → IsFront log now → slice_get log k ≡ Some p → slice_get now k ≡ Some p
stands_on log now k p f is = subst (λ l. slice_get l k ≡ Some p) (sym f.1) (get_front log f.0 k p is)

pub last_stands : (log : List Entry) (p : Entry) → slice_get (log ++ p ∷ []) (length log) ≡ Some p
last_stands [] p = refl
last_stands (x ∷ log) p = last_stands log p

pub last_same : (log : List Entry) (p q : Entry) → log ++ p ∷ [] ≡ log ++ q ∷ [] → p ≡ q
last_same log p q same = some_same p q (sym (last_stands log p) ∙ (ap (λ l. slice_get l (length log)) same ∙ last_stands log q))
  where
    some_same : (a b : Entry) → Some a ≡ Some b → a ≡ b
    some_same a b p = cc
