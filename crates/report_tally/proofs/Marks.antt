-- Which conditions are counted shows by the claims that are left out.
use Rattle.std.proofs.Common.{◌≡◌, ◌==◌, ℕ, zero, suc, ◌+◌, ◌-◌, ◌<◌, ◌≤◌, Bool, true, false, not, cond, ◌||◌, List, [], ◌∷◌, map, length, Option, Some, None, inl, inr, eqb-true, refl, sym, ap, ◌∙◌, arith}
use Rattle.std.specs.Prelude.{All, IsSomeAnd, is_some, slice_get, unwrap_or}
use Rattle.std.specs.List.{filter, enumerate_from, list_any}
use Rattle.std.proofs.lemmas.Bool.{true≢false, cases_Bool, eq-eqb}
use Rattle.std.proofs.lemmas.List.{length-map}
use Rattle.std.proofs.lemmas.Option.{slice_get_within, same_Some, none-some}
use Rattle.std.proofs.lemmas.List.Elements.{All-nil, All-cons}
use Rattle.lang_monitor.specs.declared.claim.Claim.{Claim}
use Rattle.lang_monitor.specs.declared.claim.Claim.TheVariants as claims
use Rattle.lang_monitor.specs.MonitorParts.{MonitorParts, IsMonitor}
use Rattle.machine_events.specs.declared.plan.CondKind.{CondKind}
use Rattle.machine_events.specs.declared.plan.CondKind.TheVariants as kinds
use Rattle.machine_events.specs.declared.plan.Plan.{Plan}
use Rattle.plan_claims.specs.Backing.{backed_claims}
use Rattle.plan_claims.proofs.Backed.{of_signal}
use Rattle.plan_counted.proofs.Table.{length_numbered, none_numbered, numbered_at}
use Rattle.report_verdict.specs.Reports.{IsPlanOf}
use Rattle.report_tally.specs.CountedReports.{AreCounted, is_counted, is_owed, owed_claims}
use Rattle.report_tally.specs.inner.Lines.{AreSignals, first_row_if, is_left_out, is_one_at, is_signal, left_out}

-- ---- a list that says of each element of another one what it should

numbered_is : {X Y : Type 0} (f : ℕ → X → Y) (first : ℕ) (xs : List X) (ys : List Y) → length ys ≡ length xs
    → ((k : ℕ) (x : X) (y : Y) → slice_get xs k ≡ Some x → slice_get ys k ≡ Some y → f (first + k) x ≡ y)
    → map (λ one. f one.0 one.1) (enumerate_from first xs) ≡ ys
numbered_is f first [] [] many each = refl
numbered_is f first [] (y ∷ ys) many each = absurd (omega (arith, many))
numbered_is f first (x ∷ xs) [] many each = absurd (omega (arith, many))
numbered_is f first (x ∷ xs) (y ∷ ys) many each =
    let start : first ≡ first + 0 = omega arith in
    let here : f first x ≡ y = ap (λ (n : ℕ). f n x) start ∙ each 0 x y refl refl in
    let later = numbered_is f (first + 1) xs ys (omega (arith, many)) (λ k a b at there.
    let far : first + 1 + k ≡ first + suc k = omega arith in
    ap (λ (n : ℕ). f n a) far ∙ each (suc k) a b at there) in
    λ i. here i ∷ later i

-- ---- whether a claim is left that one waiter is enough

none_one : (counted : List (Option ℕ)) (number : ℕ) (all : List Claim) → is_counted counted number ≡ true
    → list_any (is_one_at number) (filter (is_owed counted) all) ≡ false
none_one counted number [] is = refl
none_one counted number (claim ∷ all) is = by_owed (is_owed counted claim) refl (none_one counted number all is)
  where
    other : (claim : Claim) → is_owed counted claim ≡ true → is_one_at number claim ≡ false
    other (claims.Keeps candidate block) owed = refl
    other (claims.NoNote block condition) owed = refl
    other (claims.NoTest block condition) owed = refl
    other (claims.One condition block) owed = elim (cases_Bool (condition == number)) [
      | inl same ↦ absurd (true≢false (sym owed ∙ ap not (ap (is_counted counted) (eqb-true condition number same) ∙ is)))
      | inr differs ↦ differs
    ]

    by_owed : (owed : Bool) → is_owed counted claim ≡ owed → list_any (is_one_at number) (filter (is_owed counted) all) ≡ false
        → list_any (is_one_at number) (cond owed (claim ∷ filter (is_owed counted) all) (filter (is_owed counted) all)) ≡ false
    by_owed true owed rest = ap (λ (held : Bool). held || list_any (is_one_at number) (filter (is_owed counted) all)) (other claim owed) ∙ rest
    by_owed false owed rest = rest

-- no claim is owed that one waiter is enough at the condition
abbrev IsNoOne : List (Option ℕ) → ℕ → Claim → Type 0
IsNoOne counted number claim = is_one_at number claim ≡ true → is_owed counted claim ≡ true → ⊥

none_of_all : (counted : List (Option ℕ)) (number : ℕ) (all : List Claim)
    → list_any (is_one_at number) (filter (is_owed counted) all) ≡ false → All (IsNoOne counted number) all
none_of_all counted number [] none = All-nil (IsNoOne counted number)
none_of_all counted number (claim ∷ all) none = by_owed (is_owed counted claim) refl none (none_of_all counted number all)
  where
    rest : List Claim
    rest = filter (is_owed counted) all

    -- and none of those after it
    Later : Type 0
    Later = list_any (is_one_at number) rest ≡ false → All (IsNoOne counted number) all

    by_one : (one : Bool) → is_one_at number claim ≡ one → (one || list_any (is_one_at number) rest) ≡ false → Later
        → All (IsNoOne counted number) (claim ∷ all)
    by_one true is_one none later = absurd (true≢false none)
    by_one false is_one none later = All-cons (IsNoOne counted number) claim all (λ one owed. true≢false (sym one ∙ is_one)) (later none)

    by_owed : (owed : Bool) → is_owed counted claim ≡ owed → list_any (is_one_at number) (cond owed (claim ∷ rest) rest) ≡ false → Later
        → All (IsNoOne counted number) (claim ∷ all)
    by_owed true is none later = by_one (is_one_at number claim) refl none later
    by_owed false is none later = All-cons (IsNoOne counted number) claim all (λ one owed. true≢false (sym owed ∙ is)) (later none)

some_one : (monitor : MonitorParts) (plan : Plan) (counted : List (Option ℕ)) (number : ℕ) → IsMonitor monitor
    → slice_get plan.kinds (number - 1) ≡ Some kinds.Signal → 1 ≤ number → number ≤ length monitor.conditions
    → is_counted counted number ≡ false
    → list_any (is_one_at number) (owed_claims monitor plan counted) ≡ true
some_one monitor plan counted number rule kind first last is = elim (cases_Bool (list_any (is_one_at number) (owed_claims monitor plan counted))) [
  | inl some ↦ some
  | inr none ↦
      let block = rule.in_order number first last in
      absurd (of_signal (IsNoOne counted number) monitor plan block.index number (none_of_all counted number (backed_claims monitor plan) none) kind first block.has
      (within_blocks monitor block.index (λ held. held.condition ≡ number) block.has) (eq-eqb number number refl) (ap not is))
]
  where
    within_blocks : (monitor : MonitorParts) (index : ℕ) (P : _ → Type 0) → IsSomeAnd (slice_get monitor.blocks index) P → index < length monitor.blocks
    within_blocks monitor index P some = by_found (slice_get monitor.blocks index) refl some
      where
        by_found : (found : _) → slice_get monitor.blocks index ≡ found → IsSomeAnd found P → index < length monitor.blocks
        by_found None is some = absurd some
        by_found (Some block) is some = slice_get_within monitor.blocks index block is

-- ---- conditions

-- whether one is counted, as its mark says
pub mark_is : (counted : List (Option ℕ)) (k : ℕ) → is_some (unwrap_or (slice_get counted k) None) ≡ unwrap_or (slice_get (map is_some counted) k) false
mark_is [] k = refl
mark_is (row ∷ counted) zero = refl
mark_is (row ∷ counted) (suc k) = mark_is counted k

is_at : (counted : List (Option ℕ)) (k : ℕ) (b : Bool) → slice_get (map is_some counted) k ≡ Some b → is_counted counted (1 + k) ≡ b
is_at counted k b there =
    let here : 1 + k - 1 ≡ k = omega arith in
    ap (λ (place : ℕ). is_some (unwrap_or (slice_get counted place) None)) here ∙ mark_is counted k ∙ ap (λ (o : Option Bool). unwrap_or o false) there

-- the row of one that is counted
pub row_there : (counted : List (Option ℕ)) (k : ℕ) → slice_get (map is_some counted) k ≡ Some true → (row : ℕ) × (slice_get counted k ≡ Some (Some row))
row_there [] k there = absurd (none-some true there)
row_there (None ∷ counted) zero there = absurd (true≢false (sym (same_Some false true there)))
row_there (Some row ∷ counted) zero there = (row, refl)
row_there (row ∷ counted) (suc k) there = row_there counted k there

-- marks of those that are left out
marked_if : (counts : Bool) → is_some (first_row_if counts) ≡ counts
marked_if true = refl
marked_if false = refl

marks_left : (found : List Claim) (first : ℕ) (all_kinds : List CondKind)
    → map is_some (map (λ one. first_row_if (is_left_out found one.0 one.1)) (enumerate_from first all_kinds))
    ≡ map (λ one. is_left_out found one.0 one.1) (enumerate_from first all_kinds)
marks_left found first [] = refl
marks_left found first (kind ∷ all_kinds) =
    let here = marked_if (is_left_out found first kind) in
    let later = marks_left found (first + 1) all_kinds in
    λ i. here i ∷ later i

pub marks_are : (monitor : MonitorParts) (plan : Plan) (counted : List (Option ℕ)) (found : List Claim) → IsMonitor monitor
    → IsPlanOf monitor plan → AreCounted monitor plan counted → found ≡ owed_claims monitor plan counted
    → map is_some (left_out found plan.kinds) ≡ map is_some counted
marks_are monitor plan counted found rule is are same =
    ap (λ (some : List Claim). map is_some (left_out some plan.kinds)) same
    ∙ marks_left (owed_claims monitor plan counted) 1 plan.kinds
    ∙ numbered_is (is_left_out (owed_claims monitor plan counted)) 1 plan.kinds (map is_some counted) (length-map counted is_some ∙ are.many) each
  where
    by_mark : (k : ℕ) (mark : Bool) → slice_get plan.kinds k ≡ Some kinds.Signal → slice_get (map is_some counted) k ≡ Some mark
        → not (list_any (is_one_at (1 + k)) (owed_claims monitor plan counted)) ≡ mark
    by_mark k true there marked = ap not (none_one counted (1 + k) (backed_claims monitor plan) (is_at counted k true marked))
    by_mark k false there marked =
        ap not (some_one monitor plan counted (1 + k) rule (ap (slice_get plan.kinds) {x = 1 + k - 1} {y = k} (omega arith) ∙ there) (omega arith)
        (omega (arith, slice_get_within plan.kinds k kinds.Signal there, is.kinds)) (is_at counted k false marked))

    signal : Option CondKind → Bool
    signal None = false
    signal (Some kind) = is_signal kind

    each : (k : ℕ) (kind : CondKind) (mark : Bool) → slice_get plan.kinds k ≡ Some kind → slice_get (map is_some counted) k ≡ Some mark
        → is_left_out (owed_claims monitor plan counted) (1 + k) kind ≡ mark
    each k kinds.Signal mark there marked = by_mark k mark there marked
    each k kinds.Broadcast true there marked =
        let row = row_there counted k marked in
        let here : 1 + k - 1 ≡ k = omega arith in
        absurd (true≢false (ap signal (sym (are.each k row.0 row.1).kind ∙ ap (slice_get plan.kinds) here ∙ there)))
    each k kinds.Broadcast false there marked = refl

-- what is left out is of kind signal
pub left_out_signals : (plan : Plan) (found : List Claim) → AreSignals plan (left_out found plan.kinds)
left_out_signals plan found = record {
  many = length_numbered f 1 plan.kinds;
  signals = λ place row there counts. by_kind place (slice_get plan.kinds place) row refl there counts;
}
  where
    f : ℕ × CondKind → Option ℕ
    f one = first_row_if (is_left_out found one.0 one.1)

    by_kind : (place : ℕ) (kind : Option CondKind) (row : Option ℕ) → slice_get plan.kinds place ≡ kind → slice_get (left_out found plan.kinds) place ≡ Some row
        → is_some row ≡ true → slice_get plan.kinds place ≡ Some kinds.Signal
    by_kind place None row is there counts = absurd (none-some row (sym (none_numbered f 1 plan.kinds place is) ∙ there))
    by_kind place (Some kinds.Signal) row is there counts = is
    by_kind place (Some kinds.Broadcast) row is there counts =
        absurd (true≢false (sym counts ∙ ap is_some (sym (same_Some None row (sym (numbered_at f 1 plan.kinds place kinds.Broadcast is) ∙ there)))))
