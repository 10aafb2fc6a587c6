-- Where no question may stay open a plan that is counted is so exactly.
use Rattle.std.proofs.Common.{◌≡◌, ◌==◌, ◌↔◌, inl, inr, ℕ, ◌+◌, ◌<◌, ◌≤◌, Bool, true, false, Option, Some, None, length, count_by, refl, sym, subst, ◌∙◌, arith}
use Rattle.std.specs.Prelude.{slice_get, IsSomeAnd}
use Rattle.std.specs.Option.{option_map_or}
use Rattle.std.proofs.lemmas.Bool.{true≢false, eq-eqb}
use Rattle.std.proofs.lemmas.Option.{slice_get_within}
use Rattle.lang_monitor.specs.declared.monitor.Block.{Block}
use Rattle.lang_monitor.specs.MonitorParts.{MonitorParts}
use Rattle.machine_events.specs.declared.plan.CondKind.{CondKind}
use Rattle.machine_events.specs.declared.plan.CondKind.TheVariants as kinds
use Rattle.machine_events.specs.declared.plan.Note.{Note}
use Rattle.machine_events.specs.declared.plan.Plan.{Plan}
use Rattle.machine_events.specs.Plans.{condition_kind, notes_at}
use Rattle.machine_events.proofs.Facing.{is_some_and}
use Rattle.logic_wp.specs.PlainClaims.{WaitsAt}
use Rattle.plan_claims.specs.Backing.{block_numbers, waits_at}
use Rattle.plan_place.specs.Relayed.{note_on}
use Rattle.plan_count.specs.declared.question.Question.TheVariants as questions
use Rattle.plan_count.specs.Questions.{MayBeAsked}
use Rattle.plan_counted.specs.Counted.{HasNoFewer, IsBarred, IsMadeSignal, IsNoted, IsTold, IsUnnoted, WantsBroadcast, broadcasts_on, is_for_all}
use Rattle.plan_counted.specs.Exact.{CountedIsExact, CountsBy, HasNoOpenQuestion, IsExactlyTold, IsExactlyToldBy, IsExactlyToldByBest, IsOneEnough}
use Rattle.plan_counted.proofs.Best.{counted_more}

waits_to : (monitor : MonitorParts) (condition block : ℕ) → WaitsAt monitor block condition → waits_at monitor condition block ≡ true
waits_to monitor condition block = by_found (slice_get monitor.blocks block)
  where
    by_found : (found : Option Block) → IsSomeAnd found (λ held. held.condition ≡ condition) → option_map_or (λ held. held.condition == condition) found false ≡ true
    by_found None some = absurd some
    by_found (Some held) is = eq-eqb held.condition condition is

within_blocks : (monitor : MonitorParts) (condition block : ℕ) → WaitsAt monitor block condition → block < length monitor.blocks
within_blocks monitor condition block waits =
    let found = is_some_and (slice_get monitor.blocks block) (λ (held : Block). held.condition ≡ condition) waits in
    slice_get_within monitor.blocks block found.0 found.1

two_kinds : (o : Option CondKind) → o ≡ Some kinds.Broadcast → o ≡ Some kinds.Signal → ⊥
two_kinds o is also = cc

-- a block of a counted condition has no note on it
own : (monitor : MonitorParts) (placed counted : Plan) (condition : ℕ) (made : IsMadeSignal monitor placed counted condition)
    → (block : ℕ) → WaitsAt monitor block condition → IsUnnoted monitor placed condition made.row block
own monitor placed counted condition made block waits =
    by_found (note_on (notes_at counted block) condition) (made.told block (within_blocks monitor condition block waits))
  where
    by_found : (found : Option Note) → IsTold monitor placed condition made.row block found → IsUnnoted monitor placed condition made.row block
    by_found None told = told
    by_found (Some note) told = absurd (true≢false (sym (waits_to monitor condition block waits) ∙ told.other))

-- a condition that is made one of kind signal may be counted by its row
counts_by : (monitor : MonitorParts) (placed counted : Plan) (condition : ℕ) (made : IsMadeSignal monitor placed counted condition)
    → CountsBy monitor placed condition made.row
counts_by monitor placed counted condition made = record {
  tried = made.tried;
  may = record {
    reads_none = made.reads_none;
    unnoted = λ block waits. (own monitor placed counted condition made block waits).none;
    counts = λ block waits. (own monitor placed counted condition made block waits).counts;
  };
}

-- no row is barred by which the condition may be counted
none_barred : (monitor : MonitorParts) (placed : Plan) (condition row : ℕ) → HasNoOpenQuestion monitor placed.kept
    → CountsBy monitor placed condition row → IsBarred monitor placed condition row → ⊥
none_barred monitor placed condition row none counts barred =
    let open_block = barred counts.may in
    none (questions.Counts condition row open_block.block)
    (record {
      is_block = within_blocks monitor condition open_block.block open_block.waits;
      reads_none = counts.may.reads_none;
      has_row = counts.tried.has;
    }) open_block.may

exactly_told : (monitor : MonitorParts) (placed counted : Plan) (condition block : ℕ) → HasNoOpenQuestion monitor placed.kept
    → (made : IsMadeSignal monitor placed counted condition) → block < length monitor.blocks → IsExactlyTold monitor placed counted condition made.row block
exactly_told monitor placed counted condition block none made within = record {
  unnoted = (
    λ is. subst (IsTold monitor placed condition made.row block) is (made.told block within),
    λ unnoted. by_found unnoted (note_on (notes_at counted block) condition) (made.told block within),
  );
  signals = λ note is. by_note note (subst (IsTold monitor placed condition made.row block) is (made.told block within));
}
  where
    may : MayBeAsked monitor condition made.row block
    may = record { is_block = within; reads_none = made.reads_none; has_row = made.tried.has }

    by_found : IsUnnoted monitor placed condition made.row block → (found : Option Note) → IsTold monitor placed condition made.row block found → found ≡ None
    by_found unnoted None told = refl
    by_found unnoted (Some note) told =
        absurd (none (questions.Counts condition made.row block) may (told.needed unnoted.none unnoted.counts))

    by_note : (note : Note) → IsNoted monitor placed condition made.row block note
        → (note.all ≡ false) ↔ IsOneEnough monitor placed condition made.row block
    by_note note told = (
      λ one. record { gives = told.gives one; first = told.first one },
      λ enough. by_all note.all refl enough,
    )
      where
        by_all : (all : Bool) → note.all ≡ all → IsOneEnough monitor placed condition made.row block → all ≡ false
        by_all false is enough = refl
        by_all true is enough = elim (told.all is enough.gives enough.first) [
          | inl open_gives ↦ absurd (none (questions.Gives condition made.row block) may open_gives)
          | inr open_first ↦ absurd (none (questions.First condition made.row block) may open_first)
        ]

-- where a block wants a broadcast by a row, a plan that has exactly what is needed by it has one
wanted_given : (monitor : MonitorParts) (placed plan : Plan) (condition row block : ℕ) → HasNoOpenQuestion monitor placed.kept
    → IsExactlyToldBy monitor placed plan condition row → block < length monitor.blocks → WantsBroadcast monitor placed condition row block
    → is_for_all (note_on (notes_at plan block) condition) ≡ true
wanted_given monitor placed plan condition row block none exactly within wants = by_note (note_on (notes_at plan block) condition) refl
  where
    may : MayBeAsked monitor condition row block
    may = record { is_block = within; reads_none = exactly.counts.may.reads_none; has_row = exactly.counts.tried.has }

    by_all : (note : Note) → note_on (notes_at plan block) condition ≡ Some note → (all : Bool) → note.all ≡ all → all ≡ true
    by_all note there true is = refl
    by_all note there false is =
        let enough = ((exactly.told block within).signals note there).0 is in
        elim (wants.all enough.gives enough.first) [
          | inl open_gives ↦ absurd (none (questions.Gives condition row block) may open_gives)
          | inr open_first ↦ absurd (none (questions.First condition row block) may open_first)
        ]

    by_note : (found : Option Note) → note_on (notes_at plan block) condition ≡ found → is_for_all found ≡ true
    by_note None there =
        let unnoted = (exactly.told block within).unnoted.0 there in
        absurd (none (questions.Counts condition row block) may (wants.noted unnoted.none unnoted.counts))
    by_note (Some note) there = by_all note there note.all refl

-- by no row by which the condition may be counted are there fewer
no_fewer : (monitor : MonitorParts) (placed plan : Plan) (condition row many : ℕ) → HasNoOpenQuestion monitor placed.kept
    → IsExactlyToldBy monitor placed plan condition row → HasNoFewer monitor placed condition row many → many ≤ broadcasts_on monitor plan condition
no_fewer monitor placed plan condition row many none exactly (inl barred) = absurd (none_barred monitor placed condition row none exactly.counts barred)
no_fewer monitor placed plan condition row many none exactly (inr wants) =
    let enough = wants.enough in
    let more = counted_more wants.want (λ block. is_for_all (note_on (notes_at plan block) condition)) 0 (length monitor.blocks)
    (λ block low high is.
    let within : block < length monitor.blocks = omega (arith, high) in
    wanted_given monitor placed plan condition row block none exactly within (wants.each block within is)) in
    at_most many (count_by wants.want (block_numbers monitor)) (broadcasts_on monitor plan condition) enough more
  where
    at_most : (a b c : ℕ) → a ≤ b → b ≤ c → a ≤ c
    at_most a b c one other = omega (arith, one, other)

by_best : (monitor : MonitorParts) (placed counted : Plan) (condition : ℕ) → HasNoOpenQuestion monitor placed.kept
    → IsMadeSignal monitor placed counted condition → IsExactlyToldByBest monitor placed counted condition
by_best monitor placed counted condition none made = record {
  row = made.row;
  exactly = record {
    counts = counts_by monitor placed counted condition made;
    told = λ block within. exactly_told monitor placed counted condition block none made within;
  };
  fewest = λ other plan exactly. no_fewer monitor placed plan condition other (broadcasts_on monitor counted condition) none exactly
      (made.fewest other exactly.counts.tried);
  first = λ earlier plan less exactly. more (broadcasts_on monitor counted condition) (broadcasts_on monitor plan condition)
      (no_fewer monitor placed plan condition earlier (broadcasts_on monitor counted condition + 1) none exactly
      (made.first earlier exactly.counts.tried.has.first less));
}
  where
    more : (a b : ℕ) → a + 1 ≤ b → a < b
    more a b less = omega (arith, less)

pub counted_exact : CountedIsExact
counted_exact monitor placed counted from none = record {
  made_signal = λ condition is kind. (
    λ signal. elim (from.each condition is) [
      | inl left ↦ absurd (two_kinds (condition_kind counted condition) (left.kind ∙ kind) signal)
      | inr made ↦ (made.row, counts_by monitor placed counted condition made)
    ],
    λ may. elim (from.each condition is) [
      | inl left ↦ absurd (none_barred monitor placed condition may.0 none may.1 (left.uncounted kind may.0 may.1.tried))
      | inr made ↦ made.kind
    ],
  );
  told = λ condition is kind signal. elim (from.each condition is) [
    | inl left ↦ absurd (two_kinds (condition_kind counted condition) (left.kind ∙ kind) signal)
    | inr made ↦ by_best monitor placed counted condition none made
  ];
}
