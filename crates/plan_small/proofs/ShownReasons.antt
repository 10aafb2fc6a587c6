-- Each thing of an exact plan is needed, so a reason that leaves it undecided would spare it.
use Rattle.std.proofs.Common.{◌≡◌, inl, inr, ℕ, zero, suc, ◌+◌, ◌-◌, ◌<◌, ◌≤◌, ◌==◌, Bool, true, false, not, List, [], ◌∷◌, ◌++◌, map, length, Option, Some, None, refl, sym, ap, subst, ◌∙◌, arith}
use Rattle.std.specs.Prelude.{All, IsSomeAnd, slice_get, unwrap_or, ◌↔◌, if◌then◌else◌}
use Rattle.std.specs.List.{Contains, enumerate_from, filter, flat_map}
use Rattle.std.specs.Option.{option_map_or}
use Rattle.std.proofs.lemmas.Bool.{eq-eqb}
use Rattle.std.proofs.lemmas.List.Elements.{All-contains, Contains-append_cases}
use Rattle.std.proofs.lemmas.List.Folds.{list_any-from_Any}
use Rattle.std.proofs.lemmas.Option.{slice_get_within}
use Rattle.lang_base.proofs.Members.{contains_head, contains_tail, first_or_later, from_flat_map, from_map, in_map, each_is, none_in, only_in}
use Rattle.lang_monitor.specs.declared.claim.Claim.{Claim}
use Rattle.lang_monitor.specs.declared.monitor.Block.{Block}
use Rattle.lang_monitor.specs.declared.monitor.Condition.{Condition}
use Rattle.lang_monitor.specs.Candidates.{candidates_of}
use Rattle.lang_monitor.specs.Inputs.{reads_inputs}
use Rattle.lang_monitor.specs.MonitorParts.{MonitorParts}
use Rattle.lang_monitor.specs.Triples.{OneEnough}
use Rattle.machine_events.specs.declared.plan.CondKind.{CondKind}
use Rattle.machine_events.specs.declared.plan.CondKind.TheVariants as kinds
use Rattle.machine_events.specs.declared.plan.Note.{Note}
use Rattle.machine_events.specs.declared.plan.Plan.{Plan}
use Rattle.machine_events.specs.Plans.{FitsNote, FitsNotes, FitsPlan, condition_kind, has_note, notes_at}
use Rattle.logic_wp.specs.PlainClaims.{IsClaimOf, IsConditionNumber, ReadsNone, WaitsAt, is_plain}
use Rattle.logic_wp.proofs.FewerKept.{fewer_no_harder}
use Rattle.plan_place.specs.Exact.{IsExact, NeedsTest}
use Rattle.plan_why.specs.declared.reason.Answer.{Answer}
use Rattle.plan_why.specs.declared.reason.Answer.TheVariants.{Shown, Undecided}
use Rattle.plan_why.specs.declared.reason.Reason.{Reason}
use Rattle.plan_why.specs.declared.reason.Thing.{Thing}
use Rattle.plan_why.specs.declared.reason.Thing.TheVariants as things
use Rattle.plan_why.specs.Reasons.{IsAnswered, IsReason, IsUndecided}
use Rattle.plan_why.specs.Things.{IsBlockOf, broadcast_of_condition, claim_of, notes_of_block, reads_none, sparing_query, tests_of_block, things_of}
use Rattle.plan_small.specs.Plain.{IsPlainClaim}
use Rattle.plan_small.specs.Shown.{AreShown, IsShownAnswer}

-- ---- lists

-- an element with its number
numbered_at : {X : Type 0} (n : ℕ) (xs : List X) (one : ℕ × X) → Contains (enumerate_from n xs) one → (n ≤ one.0) × (slice_get xs (one.0 - n) ≡ Some one.1)
numbered_at n [] one within = none_in one within
numbered_at n (x ∷ xs) one within = elim (first_or_later (n, x) one (enumerate_from (n + 1) xs) within) [
  | inl is ↦ subst (λ (some : ℕ × _). (n ≤ some.0) × (slice_get (x ∷ xs) (some.0 - n) ≡ Some some.1)) is (here n x xs)
  | inr more ↦ let later = numbered_at (n + 1) xs one more in
      let low = later.0 in
      let step : one.0 - n ≡ suc (one.0 - (n + 1)) = omega (arith, low) in
      (omega (arith, low), ap (slice_get (x ∷ xs)) step ∙ later.1)
]
  where
    here : {X : Type 0} (n : ℕ) (x : X) (xs : List X) → (n ≤ n) × (slice_get (x ∷ xs) (n - n) ≡ Some x)
    here n x xs =
        let none : n - n ≡ 0 = omega arith in
        (omega arith, ap (slice_get (x ∷ xs)) none)

there_is : {X : Type 0} (xs : List X) (i : ℕ) (P : X → Type 0) → i < length xs → ((x : X) → P x) → IsSomeAnd (slice_get xs i) P
there_is [] i P low each = absurd (omega (arith, low))
there_is (x ∷ xs) zero P low each = each x
there_is (x ∷ xs) (suc i) P low each = there_is xs i P (omega (arith, low)) each

some_weaker : {X : Type 0} (found : Option X) (P Q : X → Type 0) → ((x : X) → P x → Q x) → IsSomeAnd found P → IsSomeAnd found Q
some_weaker None P Q weaker is = absurd is
some_weaker (Some x) P Q weaker is = weaker x is

kept_first : {X : Type 0} (p : X → Bool) (first : X) (xs : List X) (x : X) (test : Bool) → p first ≡ test → (Contains (filter p xs) x → Contains xs x × (p x ≡ true))
    → Contains (if test then first ∷ filter p xs else filter p xs) x → Contains (first ∷ xs) x × (p x ≡ true)
kept_first p first xs x true is later some = elim (first_or_later first x (filter p xs) some) [
  | inl same ↦ subst (λ one. Contains (first ∷ xs) one × (p one ≡ true)) same (contains_head first xs, is)
  | inr more ↦ (contains_tail first x xs (later more).0, (later more).1)
]
kept_first p first xs x false is later some = (contains_tail first x xs (later some).0, (later some).1)

kept_in : {X : Type 0} (p : X → Bool) (xs : List X) (x : X) → Contains (filter p xs) x → Contains xs x × (p x ≡ true)
kept_in p [] x within = none_in x within
kept_in p (first ∷ xs) x within = kept_first p first xs x (p first) refl (kept_in p xs x) within

pub contained : {X : Type 0} (xs : List X) (i : ℕ) (x : X) → slice_get xs i ≡ Some x → Contains xs x
contained [] i x e = absurd cc
contained (first ∷ xs) zero x e = let same : first ≡ x = cc in subst (Contains (first ∷ xs)) same (contains_head first xs)
contained (first ∷ xs) (suc i) x e = contains_tail first x xs (contained xs i x e)

-- ---- notes

has_one : (notes : List Note) (note : Note) → Contains notes note → has_note notes note.condition ≡ true
has_one notes note (k, less, is) =
    list_any-from_Any (λ (one : Note). one.condition == note.condition) notes (k, note, less, is, eq-eqb note.condition note.condition refl)

some_number : (conditions : List Condition) (number : ℕ) (P : Condition → Type 0) → (found : Option Condition) → slice_get conditions (number - 1) ≡ found → IsSomeAnd found P → number - 1 < length conditions
some_number conditions number P None is there = absurd there
some_number conditions number P (Some condition) is there = slice_get_within conditions (number - 1) condition is

number_of_note : (monitor : MonitorParts) (note : Note) → FitsNote monitor note → IsConditionNumber monitor note.condition
number_of_note monitor note fits =
    let low = fits.0 in
    let within =
    some_number monitor.conditions note.condition (λ which. note.tested ≡ true → reads_inputs which.guard ≡ false) (slice_get monitor.conditions (note.condition - 1)) refl fits.1 in
    (low, omega (arith, low, within))

pub number_of_kind : (monitor : MonitorParts) (condition : ℕ) → ReadsNone monitor condition → IsConditionNumber monitor condition
number_of_kind monitor condition reads =
    let low = reads.0 in
    let within = some_number monitor.conditions condition (λ held. held.reads_inputs ≡ false) (slice_get monitor.conditions (condition - 1)) refl reads.1 in
    (low, omega (arith, low, within))

reads_none_told : (monitor : MonitorParts) (condition : ℕ) → 1 ≤ condition → reads_none monitor condition ≡ true → ReadsNone monitor condition
reads_none_told monitor condition low told = (low, found (slice_get monitor.conditions (condition - 1)) told)
  where
    turned : (reads : Bool) → not reads ≡ true → reads ≡ false
    turned true e = absurd cc
    turned false e = refl

    found : (some : Option Condition) → option_map_or (λ held. not held.reads_inputs) some false ≡ true → IsSomeAnd some (λ held. held.reads_inputs ≡ false)
    found None e = absurd cc
    found (Some held) e = turned held.reads_inputs e

-- ---- things

-- each claim that is asked of the monitor is plain
abbrev pub ArePlain : MonitorParts → Type 0
ArePlain monitor = (claim : Claim) → IsClaimOf monitor claim → IsPlainClaim monitor claim

module _ (monitor : MonitorParts) (plan : Plan) (plain : ArePlain monitor) (fits : FitsPlan monitor plan) (exact : IsExact monitor plan) where
  -- leaving it undecided would spare it
  abbrev Needed : Thing → Type 0
  Needed thing = IsUndecided monitor plan thing → ⊥

  plain_under : (thing : Thing) (block : ℕ) → IsClaimOf monitor (claim_of thing block) → is_plain monitor (sparing_query monitor plan thing block) ≡ true
  plain_under thing block is = fewer_no_harder monitor (claim_of thing block) plan.kept (candidates_of monitor) fits.kept (plain (claim_of thing block) is)

  own_block : (block condition : ℕ) → block < length monitor.blocks → IsBlockOf monitor (things.Note block condition) block
  own_block block condition low = there_is monitor.blocks block (λ (held : Block). (block == block) ≡ true) low (λ held. eq-eqb block block refl)

  note_needed : (block condition : ℕ) → block < length monitor.blocks → IsConditionNumber monitor condition → has_note (notes_at plan block) condition ≡ true → Needed (things.Note block condition)
  note_needed block condition low number has undecided =
      (exact.noted block condition low number).0 has (undecided block (own_block block condition low) (plain_under (things.Note block condition) block (low, number)))

  test_needed : (block : ℕ) (note : Note) → block < length monitor.blocks → NeedsTest monitor plan block note → Needed (things.Test block note.condition)
  test_needed block note low needs undecided =
      needs.needed (undecided block (own_block block note.condition low) (plain_under (things.Test block note.condition) block (low, needs.reads_none)))

  broadcast_needed : (condition : ℕ) → ReadsNone monitor condition → condition_kind plan condition ≡ Some kinds.Broadcast → Needed (things.Broadcast condition)
  broadcast_needed condition reads kind undecided = never (sym kind ∙ signal)
    where
      about : (block : ℕ) → WaitsAt monitor block condition → IsBlockOf monitor (things.Broadcast condition) block
      about block = some_weaker (slice_get monitor.blocks block) (λ held. held.condition ≡ condition) (λ held. (condition == held.condition) ≡ true) (λ held is. eq-eqb condition held.condition (sym is))

      enough : (block : ℕ) → WaitsAt monitor block condition → OneEnough monitor plan.kept condition block
      enough block waits = undecided block (about block waits) (plain_under (things.Broadcast condition) block (reads, waits))

      signal : condition_kind plan condition ≡ Some kinds.Signal
      signal = (exact.signals condition (number_of_kind monitor condition reads)).1 (record { reads_none = reads; enough = enough })

      never : Some kinds.Broadcast ≡ Some kinds.Signal → ⊥
      never e = cc

  -- the notes of a numbered block are those that the plan has at it
  block_notes : (one : ℕ × List Note) → Contains (enumerate_from 0 plan.notes) one → (one.0 < length monitor.blocks) × (notes_at plan one.0 ≡ one.1)
  block_notes one within =
      let at = numbered_at 0 plan.notes one within in
      let none : one.0 - 0 ≡ one.0 = omega arith in
      let there : slice_get plan.notes one.0 ≡ Some one.1 = ap (slice_get plan.notes) (sym none) ∙ at.1 in
      let low = slice_get_within plan.notes one.0 one.1 there in
      (omega (arith, low, fits.notes), ap (λ (found : Option (List Note)). unwrap_or found []) there)

  fitting : (one : ℕ × List Note) → Contains (enumerate_from 0 plan.notes) one → (note : Note) → Contains one.1 note → FitsNote monitor note
  fitting one within note there =
      let at = numbered_at 0 plan.notes one within in
      All-contains (FitsNote monitor) one.1 note (All-contains (FitsNotes monitor) plan.notes one.1 fits.each (contained plan.notes (one.0 - 0) one.1 at.1)).each there

  needed_notes : (thing : Thing) → Contains (flat_map (λ one. notes_of_block one.0 one.1) (enumerate_from 0 plan.notes)) thing → Needed thing
  needed_notes thing within =
      let source = from_flat_map (λ one. notes_of_block one.0 one.1) (enumerate_from 0 plan.notes) thing within in
      let image = from_map (λ note. things.Note source.from.0 note.condition) source.from.1 thing source.within in
      let at = block_notes source.from source.one in
      subst Needed image.is (note_needed source.from.0 image.from.condition at.0 (number_of_note monitor image.from (fitting source.from source.one image.from image.one))
      (subst (λ (notes : List Note). has_note notes image.from.condition ≡ true) (sym at.1) (has_one source.from.1 image.from image.one)))

  needed_tests : (thing : Thing) → Contains (flat_map (λ one. tests_of_block one.0 one.1) (enumerate_from 0 plan.notes)) thing → Needed thing
  needed_tests thing within =
      let source = from_flat_map (λ one. tests_of_block one.0 one.1) (enumerate_from 0 plan.notes) thing within in
      let image = from_map (λ note. things.Test source.from.0 note.condition) (filter (λ note. note.tested) source.from.1) thing source.within in
      let kept = kept_in (λ (note : Note). note.tested) source.from.1 image.from image.one in
      let at = block_notes source.from source.one in
      let there : Contains (notes_at plan source.from.0) image.from = subst (λ (notes : List Note). Contains notes image.from) (sym at.1) kept.0 in
      let exactly =
      All-contains (λ note. (note.tested ≡ true) ↔ NeedsTest monitor plan source.from.0 note) (notes_at plan source.from.0) image.from (exact.tested source.from.0) there in
      subst Needed image.is (test_needed source.from.0 image.from at.0 (exactly.0 kept.1))

  broadcast_at : (condition : ℕ) (kind : CondKind) (thing : Thing) → 1 ≤ condition → condition_kind plan condition ≡ Some kind → Contains (broadcast_of_condition monitor condition kind) thing → Needed thing
  broadcast_at condition kinds.Signal thing low is within = none_in thing within
  broadcast_at condition kinds.Broadcast thing low is within = by_test (reads_none monitor condition) refl within
    where
      by_test : (test : Bool) → reads_none monitor condition ≡ test → Contains (if test then things.Broadcast condition ∷ [] else []) thing → Needed thing
      by_test true told some = subst Needed (only_in (things.Broadcast condition) thing some) (broadcast_needed condition (reads_none_told monitor condition low told) is)
      by_test false told none = none_in thing none

  needed_broadcasts : (thing : Thing) → Contains (flat_map (λ one. broadcast_of_condition monitor one.0 one.1) (enumerate_from 1 plan.kinds)) thing → Needed thing
  needed_broadcasts thing within =
      let source = from_flat_map (λ one. broadcast_of_condition monitor one.0 one.1) (enumerate_from 1 plan.kinds) thing within in
      let at = numbered_at 1 plan.kinds source.from source.one in
      broadcast_at source.from.0 source.from.1 thing at.0 at.1 source.within

  needed : (thing : Thing) → Contains (things_of monitor plan) thing → Needed thing
  needed thing within = elim (Contains-append_cases (flat_map (λ one. notes_of_block one.0 one.1) (enumerate_from 0 plan.notes))
      (flat_map (λ one. broadcast_of_condition monitor one.0 one.1) (enumerate_from 1 plan.kinds) ++ flat_map (λ one. tests_of_block one.0 one.1) (enumerate_from 0 plan.notes)) thing within) [
        | inl note ↦ needed_notes thing note
        | inr more ↦ elim (Contains-append_cases (flat_map (λ one. broadcast_of_condition monitor one.0 one.1) (enumerate_from 1 plan.kinds))
            (flat_map (λ one. tests_of_block one.0 one.1) (enumerate_from 0 plan.notes)) thing more) [
              | inl broadcast ↦ needed_broadcasts thing broadcast
              | inr test ↦ needed_tests thing test
            ]
      ]

  answered : (thing : Thing) (answer : Answer) → IsAnswered monitor plan thing answer → Needed thing → IsShownAnswer answer
  answered thing (Shown block before after) is never = tt
  answered thing Undecided is never = never is

-- ---- reasons

pub reasons_shown : (monitor : MonitorParts) (plan : Plan) (reasons : List Reason) → ArePlain monitor → FitsPlan monitor plan → IsExact monitor plan
    → map (λ reason. reason.thing) reasons ≡ things_of monitor plan → All (IsReason monitor plan) reasons → AreShown reasons
reasons_shown monitor plan reasons plain fits exact same right = each_is (λ (reason : Reason). IsShownAnswer reason.answer) reasons shown
  where
    shown : (reason : Reason) → Contains reasons reason → IsShownAnswer reason.answer
    shown reason there =
        answered monitor plan plain fits exact reason.thing reason.answer (All-contains (IsReason monitor plan) reasons reason right there)
        (needed monitor plan plain fits exact reason.thing
        (subst (λ (list : List Thing). Contains list reason.thing) same (in_map (λ (one : Reason). one.thing) reasons reason there)))
