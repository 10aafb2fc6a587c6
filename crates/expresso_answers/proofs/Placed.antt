-- Plans that are asked for.
use Rattle.std.proofs.Common.{◌≡◌, Bool, true, false, List, All, Option, refl, sym, subst, ◌∙◌, true≢false}
use Rattle.lang_monitor.specs.MonitorParts.{MonitorParts}
use Rattle.machine_events.specs.declared.plan.Plan.{Plan}
use Rattle.machine_events.specs.Plans.{FitsPlan, has_note, notes_at}
use Rattle.machine_events.specs.Counts.{IsLawfulByCounting}
use Rattle.plan_claims.specs.declared.placed.PlacedPlan.{PlacedPlan}
use Rattle.plan_claims.specs.Backing.{AreProofs, backed_claims}
use Rattle.logic_outline.specs.Outlines.{HasTypedNumbers}
use Rattle.report_tally.specs.CountedTexts.{HasTypedColumn}
use Rattle.plan_counted.specs.declared.counted.CountedPlan.{CountedPlan}
use Rattle.plan_place.specs.Relayed.{RelayedPlansAreLawful, RelayedPlansFit, RelayedPlansOmitNoMore, relay_of}
use Rattle.front_command.specs.declared.plan_choice.PlanChoice.{PlanChoice}
use Rattle.front_command.specs.declared.plan_choice.PlanChoice.TheVariants.{Placed, Relayed, Counted, CountedAndRelayed}
use Rattle.plan_counted.specs.declared.counted.Column.{Column}
use Rattle.plan_counted.specs.Counted.{AreBacked, IsCountedFrom, counted_of}
use Rattle.plan_counted.specs.CountedAndRelayed.{CountsBroadcasts, IsCountedAndRelayed, OmitsNoMore, counted_and_relayed}
use Rattle.plan_counted.specs.Exact.{HasNoOpenQuestion, IsExactlyCounted}
use Rattle.expresso_answers.specs.Placements.{IsChosen, IsCountTable, IsCounting, IsPlacement}

-- what is false and follows from another, leaves that false
false_before : (one other : Bool) → (one ≡ true → other ≡ true) → other ≡ false → one ≡ false
false_before false other keeps none = refl
false_before true other keeps none = absurd (true≢false (sym (keeps refl) ∙ none))

-- the placed plan itself
pub placed_chosen : (choice : PlanChoice) (monitor : MonitorParts) (plan : Plan) → choice ≡ Placed → IsPlacement monitor plan → IsChosen choice monitor plan
placed_chosen choice monitor plan is placement = subst (λ (c : PlanChoice). IsChosen c monitor plan) (sym is) (record {
  placed = plan;
  placement = placement;
  is = refl;
  fits = placement.fits;
  lawful = placement.lawful;
  omits = λ block condition none. none;
})

-- that plan with its signals relayed
pub relayed_chosen : RelayedPlansFit → RelayedPlansAreLawful → RelayedPlansOmitNoMore → (choice : PlanChoice) (monitor : MonitorParts) (placed plan : Plan) → choice ≡ Relayed → IsPlacement monitor placed → plan ≡ relay_of monitor placed
    → IsChosen choice monitor plan
relayed_chosen fit are_lawful omit_no_more choice monitor placed plan is placement relayed =
    subst (λ (c : PlanChoice). IsChosen c monitor plan) (sym is) (subst (IsChosen Relayed monitor) (sym relayed) (record {
      placed = placed;
      placement = placement;
      is = refl;
      fits = fit monitor placed placement.is placement.fits;
      lawful = are_lawful monitor placed placement.is placement.fits placement.lawful;
      omits = λ block condition. false_before (has_note (notes_at placed block) condition) (has_note (notes_at (relay_of monitor placed) block) condition)
          (omit_no_more monitor placed block condition placement.fits);
    }))

-- what is known of a plan that was counted, and of the table that made it
pub count_table : (monitor : MonitorParts) (placed counted : Plan) (columns : List (Option Column)) → counted ≡ counted_of placed columns → IsCountedFrom monitor placed counted
    → (HasNoOpenQuestion monitor placed.kept → IsExactlyCounted monitor placed counted) → AreBacked monitor placed columns → IsCountTable monitor placed columns
count_table monitor placed counted columns is from exact backed = record {
  counted = subst (IsCountedFrom monitor placed) is from;
  exact = subst (λ (plan : Plan). HasNoOpenQuestion monitor placed.kept → IsExactlyCounted monitor placed plan) is exact;
  backed = backed;
}

-- that plan counted
unfoldable pub counted_choice : (monitor : MonitorParts) (placed plan : Plan) (columns : List (Option Column)) → IsPlacement monitor placed → plan ≡ counted_of placed columns
    → IsCountedFrom monitor placed plan → (HasNoOpenQuestion monitor placed.kept → IsExactlyCounted monitor placed plan) → AreBacked monitor placed columns
    → FitsPlan monitor plan → IsLawfulByCounting monitor plan → OmitsNoMore placed plan → IsChosen Counted monitor plan
counted_choice monitor placed plan columns placement made from exact backed fits lawful omits = record {
  placed = placed;
  placement = placement;
  is = (columns, record { table = count_table monitor placed plan columns made from exact backed; made = made });
  fits = fits;
  lawful = lawful;
  omits = omits;
}

pub counted_chosen : (choice : PlanChoice) (monitor : MonitorParts) (placed plan : Plan) (columns : List (Option Column)) → choice ≡ Counted → IsPlacement monitor placed → plan ≡ counted_of placed columns
    → IsCountedFrom monitor placed plan → (HasNoOpenQuestion monitor placed.kept → IsExactlyCounted monitor placed plan) → AreBacked monitor placed columns
    → FitsPlan monitor plan → IsLawfulByCounting monitor plan → OmitsNoMore placed plan → IsChosen choice monitor plan
counted_chosen choice monitor placed plan columns is placement made from exact backed fits lawful omits =
    subst (λ (c : PlanChoice). IsChosen c monitor plan) (sym is) (counted_choice monitor placed plan columns placement made from exact backed fits lawful omits)

-- that plan counted, with the signals relayed on each condition that is not counted
pub both_chosen : (choice : PlanChoice) (monitor : MonitorParts) (placed counted plan : Plan) (columns : List (Option Column)) → choice ≡ CountedAndRelayed → IsPlacement monitor placed
    → counted ≡ counted_of placed columns → IsCountedFrom monitor placed counted → (HasNoOpenQuestion monitor placed.kept → IsExactlyCounted monitor placed counted) → AreBacked monitor placed columns
    → plan ≡ counted_and_relayed monitor placed columns → IsCountedAndRelayed monitor placed counted plan
    → FitsPlan monitor plan → IsLawfulByCounting monitor plan → OmitsNoMore placed plan → IsChosen choice monitor plan
both_chosen choice monitor placed counted plan columns is placement counted_is from exact backed made mixed fits lawful omits = subst (λ (c : PlanChoice). IsChosen c monitor plan) (sym is) (record {
  placed = placed;
  placement = placement;
  is = (
    columns,
    record {
      table = count_table monitor placed counted columns counted_is from exact backed;
      made = made;
      mixed = subst (λ (one : Plan). IsCountedAndRelayed monitor placed one plan) counted_is mixed;
    },
  );
  fits = fits;
  lawful = lawful;
  omits = omits;
})

-- that plan counted, with its proofs and certificates
pub counting_is : (monitor : MonitorParts) (placed : PlacedPlan) (counted : CountedPlan) → IsPlacement monitor placed.plan
    → AreProofs monitor placed.plan.kept (backed_claims monitor placed.plan) placed.proofs → counted.plan ≡ counted_of placed.plan counted.columns → IsCountedFrom monitor placed.plan counted.plan
    → (HasNoOpenQuestion monitor placed.plan.kept → IsExactlyCounted monitor placed.plan counted.plan) → AreBacked monitor placed.plan counted.columns
    → CountsBroadcasts monitor placed.plan counted.columns → FitsPlan monitor counted.plan → IsLawfulByCounting monitor counted.plan → All (λ proof. HasTypedNumbers proof.cert) placed.proofs
    → All HasTypedColumn counted.columns → IsCounting monitor placed counted
counting_is monitor placed counted placement proofs made from exact backed broadcasts fits lawful typed typed_columns = record {
  placement = placement;
  proofs = proofs;
  by = record { table = count_table monitor placed.plan counted.plan counted.columns made from exact backed; made = made };
  broadcasts = broadcasts;
  fits = fits;
  lawful = lawful;
  typed = typed;
  typed_columns = typed_columns;
}
