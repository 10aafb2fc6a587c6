-- The row with the fewest broadcasts.
use Rattle.std.proofs.Common.{◌≡◌, inl, inr, ℕ, zero, suc, ◌+◌, ◌<◌, ◌≤◌, Bool, true, false, cond, List, [], ◌∷◌, length, count_by, Option, Some, None, refl, sym, ap, ap₂, subst, ◌∙◌, arith}
use Rattle.std.specs.Prelude.{nat_lt, slice_get}
use Rattle.std.specs.List.{range_with_len}
use Rattle.std.specs.Option.{option_map_or}
use Rattle.std.proofs.lemmas.Bool.{true≢false, eqb-true}
use Rattle.std.proofs.lemmas.List.Sums.{sum_by-cons}
use Rattle.lang_monitor.specs.MonitorParts.{MonitorParts}
use Rattle.machine_events.specs.declared.plan.Plan.{Plan}
use Rattle.machine_events.specs.Plans.{condition_kind, has_note, notes_at}
use Rattle.logic_wp.specs.PlainClaims.{ReadsNone}
use Rattle.plan_claims.specs.Backing.{block_numbers}
use Rattle.plan_place.specs.Relayed.{is_broadcast}
use Rattle.plan_claims.proofs.Lists.{in_numbered}
use Rattle.plan_count.specs.Questions.{HasRowAt}
use Rattle.plan_counted.specs.declared.counted.Column.{Column}
use Rattle.plan_counted.specs.declared.counted.Told.{Told}
use Rattle.plan_counted.specs.declared.counted.Told.TheVariants as telling
use Rattle.plan_counted.specs.Counted.{HasNoFewer, IsBarred, IsTried, ROWS_TRIED, WantBroadcasts, WantsBroadcast}
use Rattle.plan_counted.specs.inner.Answers.{AreToldBy, IsBestBefore, IsBestOf, IsColumn, IsRowAnswer, IsToldAt, IsToldOf, better_of, broadcasts_told, gives_all, has_no_broadcast}
use Rattle.plan_counted.proofs.Answered.{broadcast_from}
use Rattle.plan_counted.proofs.Table.{has_if}

-- ---- how many numbers pass a test

added : (a b c d x y : ℕ) → x ≡ a + c → y ≡ b + d → a ≤ b → c ≤ d → x ≤ y
added a b c d x y one other here rest = omega (arith, one, other, here, rest)

one_more : (a b : Bool) → (a ≡ true → b ≡ true) → cond a 1 0 ≤ cond b 1 0
one_more false b more = omega arith
one_more true false more = absurd (true≢false (sym (more refl)))
one_more true true more = omega arith

pub counted_more : (f g : ℕ → Bool) (first count : ℕ) → ((n : ℕ) → first ≤ n → n < first + count → f n ≡ true → g n ≡ true)
    → count_by f (range_with_len first count) ≤ count_by g (range_with_len first count)
counted_more f g first zero more = omega arith
counted_more f g first (suc count) more =
    let rest = range_with_len (first + 1) count in
    added (cond (f first) 1 0) (cond (g first) 1 0) (count_by f rest) (count_by g rest) _ _
    (sum_by-cons (λ (n : ℕ). cond (f n) 1 0) first rest) (sum_by-cons (λ (n : ℕ). cond (g n) 1 0) first rest)
    (one_more (f first) (g first) (more first (omega arith) (omega arith)))
    (counted_more f g (first + 1) count (λ n low high is. more n (omega (arith, low)) (omega (arith, high)) is))

pub counted_list : {X : Type 0} (p : X → Bool) (f : ℕ → Bool) (first : ℕ) (xs : List X)
    → ((k : ℕ) (x : X) → slice_get xs k ≡ Some x → f (first + k) ≡ p x)
    → count_by f (range_with_len first (length xs)) ≡ count_by p xs
counted_list p f first [] same = refl
counted_list {X} p f first (x ∷ xs) same =
    let here : first ≡ first + 0 = omega arith in
    sum_by-cons (λ (n : ℕ). cond (f n) 1 0) first (range_with_len (first + 1) (length xs))
    ∙ ap₂ (λ (a b : ℕ). a + b) (ap (λ (test : Bool). cond test 1 0) (ap f here ∙ same 0 x refl))
    (counted_list p f (first + 1) xs (λ k y is.
    let there : first + 1 + k ≡ first + suc k = omega arith in
    ap f there ∙ same (suc k) y is))
    ∙ sym (sum_by-cons (λ (y : X). cond (p y) 1 0) x xs)

-- ---- what blocks want by a row

abbrev told_all : List Told → ℕ → Bool
told_all told block = option_map_or gives_all (slice_get told block) false

told_counted : (monitor : MonitorParts) (told : List Told) → length told ≡ length monitor.blocks
    → count_by (told_all told) (block_numbers monitor) ≡ broadcasts_told told
told_counted monitor told many =
    ap (λ (count : ℕ). count_by (told_all told) (range_with_len 0 count)) (sym many)
    ∙ counted_list gives_all (told_all told) 0 told (λ k one is.
    let same : 0 + k ≡ k = omega arith in
    ap (told_all told) same ∙ ap (λ (found : Option Told). option_map_or gives_all found false) is)

wanted_by : (monitor : MonitorParts) (plan : Plan) (condition row block : ℕ) (told : Told) → gives_all told ≡ true
    → IsToldOf monitor plan.kept condition row block (has_note (notes_at plan block) condition) told → WantsBroadcast monitor plan condition row block
wanted_by monitor plan condition row block (telling.Nothing counts) all is = absurd (true≢false (sym all))
wanted_by monitor plan condition row block (telling.Signal gives before) all is = absurd (true≢false (sym all))
wanted_by monitor plan condition row block telling.Broadcast all is = record {
  noted = λ none so. is.needed (has_if (notes_at plan block) condition None none) so;
  all = λ gives before. elim is.one [
    | inl missing ↦ inl (missing gives)
    | inr missing ↦ inr (missing before)
  ];
}

pub wants_told : (monitor : MonitorParts) (plan : Plan) (condition row : ℕ) (told : List Told) → AreToldBy monitor plan condition row told
    → WantBroadcasts monitor plan condition row (broadcasts_told told)
wants_told monitor plan condition row told are = record {
  want = told_all told;
  each = λ block within is. by_found block (slice_get told block) refl is;
  enough = let same = told_counted monitor told are.many in omega (arith, same);
}
  where
    by_found : (block : ℕ) (found : Option Told) → slice_get told block ≡ found → option_map_or gives_all found false ≡ true
        → WantsBroadcast monitor plan condition row block
    by_found block None is all = absurd (true≢false (sym all))
    by_found block (Some one) is all =
        let same : 0 + block ≡ block = omega arith in
        wanted_by monitor plan condition row block one all
        (in_numbered (IsToldAt monitor plan condition row) 0 told block one block is same are.each)

fewer_enough : (monitor : MonitorParts) (plan : Plan) (condition row many fewer : ℕ) → fewer ≤ many → HasNoFewer monitor plan condition row many
    → HasNoFewer monitor plan condition row fewer
fewer_enough monitor plan condition row many fewer less (inl barred) = inl barred
fewer_enough monitor plan condition row many fewer less (inr wants) =
    inr (record { want = wants.want; each = wants.each; enough = let enough = wants.enough in omega (arith, less, enough) })

none_wanted : (monitor : MonitorParts) (plan : Plan) (condition row many : ℕ) → many ≡ 0 → HasNoFewer monitor plan condition row many
none_wanted monitor plan condition row many none =
    inr (record { want = λ block. false; each = λ block within is. absurd (true≢false (sym is)); enough = omega (arith, none) })

-- ---- the best of one row more

-- of the rows before the next one, what is so of those before this one, and of this one
next_too : (P : ℕ → Type 0) (row : ℕ) → ((other : ℕ) → 1 ≤ other → other < row → P other) → P row
    → (other : ℕ) → 1 ≤ other → other < row + 1 → P other
next_too P row before here other first less = by_less (nat_lt other row) refl
  where
    by_less : (below : Bool) → nat_lt other row ≡ below → P other
    by_less true is = before other first (grind (arith, is))
    by_less false is = subst P (same is) here
      where
        same : nat_lt other row ≡ false → row ≡ other
        same is = grind (arith, is, less)

pub one_more_row : (monitor : MonitorParts) (plan : Plan) (condition row : ℕ) (best : Option Column) (told : Option (List Told)) → IsBestBefore monitor plan condition row best
    → IsTried monitor condition row → IsRowAnswer monitor plan condition row told → IsBestBefore monitor plan condition (row + 1) (better_of best row told)
one_more_row monitor plan condition row None None best tried barred = next_too (IsBarred monitor plan condition) row best barred
one_more_row monitor plan condition row (Some column) None best tried barred = record {
  tried = best.tried;
  told = best.told;
  fewest = next_too (λ other. HasNoFewer monitor plan condition other (broadcasts_told column.told)) row best.fewest (inl barred);
  first = best.first;
}
one_more_row monitor plan condition row None (Some told) best tried are = record {
  tried = tried;
  told = are;
  fewest = next_too (λ other. HasNoFewer monitor plan condition other (broadcasts_told told)) row (λ other first less. inl (best other first less))
      (inr (wants_told monitor plan condition row told are));
  first = λ other first less. inl (best other first less);
}
one_more_row monitor plan condition row (Some column) (Some told) best tried are =
    by_fewer (nat_lt (broadcasts_told told) (broadcasts_told column.told)) refl
  where
    own : HasNoFewer monitor plan condition row (broadcasts_told told)
    own = inr (wants_told monitor plan condition row told are)

    by_fewer : (fewer : Bool) → nat_lt (broadcasts_told told) (broadcasts_told column.told) ≡ fewer
        → IsBestOf monitor plan condition (row + 1) (cond fewer (record { row = row; told = told }) column)
    by_fewer true is = record {
      tried = tried;
      told = are;
      fewest = next_too (λ other. HasNoFewer monitor plan condition other (broadcasts_told told)) row
          (λ other first less. fewer_enough monitor plan condition other (broadcasts_told column.told) (broadcasts_told told) (grind (arith, is)) (best.fewest other first less)) own;
      first = λ other first less. fewer_enough monitor plan condition other (broadcasts_told column.told) (broadcasts_told told + 1) (grind (arith, is)) (best.fewest other first less);
    }
    by_fewer false is = record {
      tried = best.tried;
      told = best.told;
      fewest = next_too (λ other. HasNoFewer monitor plan condition other (broadcasts_told column.told)) row best.fewest
          (fewer_enough monitor plan condition row (broadcasts_told told) (broadcasts_told column.told) (grind (arith, is)) own);
      first = best.first;
    }

pub none_before : (monitor : MonitorParts) (plan : Plan) (condition : ℕ) → IsBestBefore monitor plan condition 1 None
none_before monitor plan condition other first less = absurd (omega (arith, first, less))

-- ---- the best of all

-- the condition is counted as by the best of the rows before this one, where these are all, or no more is wanted
column_from : (monitor : MonitorParts) (plan : Plan) (condition row : ℕ) (best : Option Column) → ReadsNone monitor condition
    → is_broadcast (condition_kind plan condition) ≡ true → IsBestBefore monitor plan condition row best
    → ((other : ℕ) → IsTried monitor condition other → other < row) → IsColumn monitor plan condition best
column_from monitor plan condition row None reads kind best all = λ was other tried. best other tried.has.first (all other tried)
column_from monitor plan condition row (Some column) reads kind best all = record {
  was = broadcast_from (condition_kind plan condition) kind;
  reads_none = reads;
  tried = best.tried;
  told = best.told;
  fewest = λ other tried. best.fewest other tried.has.first (all other tried);
  first = best.first;
}

pub no_more_rows : (monitor : MonitorParts) (plan : Plan) (condition row : ℕ) (best : Option Column) → 1 ≤ row → ReadsNone monitor condition
    → is_broadcast (condition_kind plan condition) ≡ true → IsBestBefore monitor plan condition row best
    → (HasRowAt monitor condition row → ⊥) → IsColumn monitor plan condition best
no_more_rows monitor plan condition row best low reads kind before missing =
    column_from monitor plan condition row best reads kind before (λ other tried. by_less other tried (nat_lt other row) refl)
  where
    by_less : (other : ℕ) → IsTried monitor condition other → (less : Bool) → nat_lt other row ≡ less → other < row
    by_less other tried true is = grind (arith, is)
    by_less other tried false is = let last = tried.has.last in absurd (missing (record { first = low; last = grind (arith, is, last) }))

-- where each of the first rows is tried
pub all_tried : (monitor : MonitorParts) (plan : Plan) (condition : ℕ) (best : Option Column) → ReadsNone monitor condition
    → is_broadcast (condition_kind plan condition) ≡ true → IsBestBefore monitor plan condition (ROWS_TRIED + 1) best
    → IsColumn monitor plan condition best
all_tried monitor plan condition best reads kind before =
    column_from monitor plan condition (ROWS_TRIED + 1) best reads kind before (λ other tried. let limit = tried.limit in omega (arith, limit))

pub none_fewer : (monitor : MonitorParts) (plan : Plan) (condition row : ℕ) (best : Option Column) → ReadsNone monitor condition
    → is_broadcast (condition_kind plan condition) ≡ true → IsBestBefore monitor plan condition row best
    → has_no_broadcast best ≡ true → IsColumn monitor plan condition best
none_fewer monitor plan condition row None reads kind best none = absurd (true≢false (sym none))
none_fewer monitor plan condition row (Some column) reads kind best none = record {
  was = broadcast_from (condition_kind plan condition) kind;
  reads_none = reads;
  tried = best.tried;
  told = best.told;
  fewest = λ other tried. none_wanted monitor plan condition other (broadcasts_told column.told) (eqb-true (broadcasts_told column.told) 0 none);
  first = best.first;
}
