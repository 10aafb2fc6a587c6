-- After a history there is one situation.
use Rattle.std.proofs.Common.{◌≡◌, ℕ, zero, suc, ◌+◌, true, List, [], ◌∷◌, ◌++◌, Option, Some, length, refl, sym, ap, subst, ◌∙◌, arith, ◌⊎◌, inl, inr, length-append}
use Rattle.std.specs.Prelude.{slice_get, IsSomeAnd}
use Rattle.std.proofs.lemmas.Bool.{or_left}
use Rattle.lang_monitor.specs.MonitorParts.{MonitorParts}
use Rattle.machine_implicit.specs.declared.commit.Commit.{Commit}
use Rattle.machine_implicit.specs.declared.script.Client.{Client}
use Rattle.machine_implicit.specs.declared.place.Place.{Place}
use Rattle.machine_implicit.specs.Places.{guard_at, tries_at, may_step}
use Rattle.machine_implicit.specs.Runs.{Situation, start_at, IsRun, IsNextCommit, Ends}
use Rattle.machine_implicit.specs.Runs.IsRunBy.{begun, stepped}
use Rattle.machine_implicit.proofs.OneRun.{follows_once}

-- one more at the end
same_last : (xs ys : List Commit) (x y : Commit) → xs ++ x ∷ [] ≡ ys ++ y ∷ [] → (xs ≡ ys) × (x ≡ y)
same_last [] [] x y same = (refl, cc same)
same_last [] (first ∷ []) x y same = absurd (cc same)
same_last [] (first ∷ next ∷ ys) x y same = absurd (cc same)
same_last (first ∷ []) [] x y same = absurd (cc same)
same_last (first ∷ next ∷ xs) [] x y same = absurd (cc same)
same_last (first ∷ xs) (other ∷ ys) x y same =
    let heads : first ≡ other = cc same in
    let tails : xs ++ x ∷ [] ≡ ys ++ y ∷ [] = cc same in
    let rest = same_last xs ys x y tails in
    (ap (λ (one : Commit). one ∷ xs) heads ∙ ap (λ (list : List Commit). other ∷ list) rest.0, rest.1)

record LastOf (monitor : MonitorParts) (clients : List Client) (history : List Commit) (now : Situation) : Type 0 where
  before : List Commit
  from : Situation
  commit : Commit
  run : IsRun monitor clients before from
  follows : IsNextCommit monitor clients from commit now
  is : history ≡ before ++ commit ∷ []

last_of : {monitor : MonitorParts} {clients : List Client} {history : List Commit} {now : Situation} → IsRun monitor clients history now
    → ((history ≡ []) × (now ≡ start_at monitor clients)) ⊎ LastOf monitor clients history now
last_of begun = inl (refl, refl)
last_of (stepped before from commit next run may follows) = inr (record { before = before; from = from; commit = commit; run = run; follows = follows; is = refl })

longer : (history before : List Commit) (commit : Commit) → history ≡ before ++ commit ∷ [] → length history ≡ length before + 1
longer history before commit is = let whole = ap (λ (list : List Commit). length list) is ∙ length-append before (commit ∷ []) in omega arith

abbrev Ending : MonitorParts → List Client → List Commit → Situation → Type 0
Ending monitor clients history now = ((history ≡ []) × (now ≡ start_at monitor clients)) ⊎ LastOf monitor clients history now

of_none : (monitor : MonitorParts) (clients : List Client) (history : List Commit) (now : Situation) → Ending monitor clients history now → length history ≡ 0 → now ≡ start_at monitor clients
of_none monitor clients history now (inl empty) long = empty.1
of_none monitor clients history now (inr last) long = let more = longer history last.before last.commit last.is in absurd (omega arith)

of_some : (monitor : MonitorParts) (clients : List Client) (history : List Commit) (now : Situation) (count : ℕ) → Ending monitor clients history now → length history ≡ suc count → LastOf monitor clients history now
of_some monitor clients history now count (inl empty) long = let none = ap (λ (list : List Commit). length list) empty.0 in absurd (omega arith)
of_some monitor clients history now count (inr last) long = last

by_length : (monitor : MonitorParts) (clients : List Client) (count : ℕ) (history : List Commit) (one other : Situation) → length history ≡ count
    → IsRun monitor clients history one → IsRun monitor clients history other → one ≡ other
by_length monitor clients zero history one other long first second =
    of_none monitor clients history one (last_of first) long ∙ sym (of_none monitor clients history other (last_of second) long)
by_length monitor clients (suc count) history one other long first second =
    let last = of_some monitor clients history one count (last_of first) long in
    let also = of_some monitor clients history other count (last_of second) long in
    let more = longer history last.before last.commit last.is in
    let same = same_last last.before also.before last.commit also.commit (sym last.is ∙ also.is) in
    let from : last.from ≡ also.from =
    by_length monitor clients count last.before last.from also.from (omega arith) last.run (subst (λ (list : List Commit). IsRun monitor clients list also.from) (sym same.0) also.run) in
    let follows = subst (λ (now : Situation). IsNextCommit monitor clients now also.commit other) (sym from) also.follows in
    (follows_once monitor clients last.from one other last.commit also.commit (ap (λ (commit : Commit). commit.client) same.1) last.follows follows).situations

pub one_situation : (monitor : MonitorParts) (clients : List Client) (history : List Commit) (one other : Situation)
    → IsRun monitor clients history one → IsRun monitor clients history other → one ≡ other
one_situation monitor clients history one other first second = by_length monitor clients (length history) history one other refl first second

pub ends_hold_no_guard : (monitor : MonitorParts) (clients : List Client) (now : Situation) (client : ℕ) (place : Place)
    → Ends monitor clients now → slice_get now.places client ≡ Some place → guard_at monitor clients now.state client place ≡ true → ⊥
ends_hold_no_guard monitor clients now client place ends at holds =
    ends client (subst (λ (found : Option Place). IsSomeAnd found (λ place. may_step monitor clients now.state client place ≡ true)) (sym at)
    (or_left (guard_at monitor clients now.state client place) (tries_at clients client place) holds))
