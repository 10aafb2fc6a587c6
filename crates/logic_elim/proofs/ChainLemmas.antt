-- Chains of sums that grow at their end.
use Rattle.std.proofs.Common.{◌≡◌, inl, inr, ℕ, zero, suc, ◌+◌, Bool, true, false, ◌&&◌, List, [], ◌∷◌, ◌++◌, length, Option, Some, None, sym, subst, arith, ap, refl, ◌∙◌}
use Rattle.std.specs.Prelude.{slice_get}
use Rattle.std.specs.List.{AllByRecursion as Each}
use Rattle.std.specs.Option.{is_some}
use Rattle.logic_linear.specs.Linear.{Linear}
use Rattle.logic_cert.specs.declared.cert.Combine.{Combine}
use Rattle.logic_cert.specs.Refutes.{chain_closes, chain_goes, is_nil, is_absurd, made}
use Rattle.logic_elim.specs.declared.rows.Numbered.{Numbered}
use Rattle.logic_elim.specs.declared.elimination.Progress.{Progress}
use Rattle.logic_elim.specs.declared.elimination.Progress.TheVariants.{Left, Closed, Stopped}
use Rattle.logic_elim.specs.Chains.{rows_after, chain_stands, HasNumber, State, StandsAtNumbers, StaysSound}
use Rattle.logic_elim.specs.Steps.{IsPut, IsSummed, cancelling, sum_at, next_row}
use Rattle.logic_elim.proofs.RowLemmas.{each_weaker, each_with}

after_push : (combines : List Combine) (combine : Combine) (rows : List (Option Linear)) → rows_after (combines ++ combine ∷ []) rows ≡ rows_after combines rows ++ made combine (rows_after combines rows) ∷ []
after_push [] combine rows = refl
after_push (first ∷ combines) combine rows = after_push combines combine (rows ++ made first rows ∷ [])

both : (a b : Bool) → (a && b) ≡ true → (a ≡ true) × (b ≡ true)
both true b h = (refl, h)
both false b h = absurd cc

stands_push : (combines : List Combine) (combine : Combine) (rows : List (Option Linear)) (row : Linear) → chain_stands combines rows ≡ true → made combine (rows_after combines rows) ≡ Some row → chain_stands (combines ++ combine ∷ []) rows ≡ true
stands_push [] combine rows row h is = rw is refl
stands_push (first ∷ combines) combine rows row h is =
    let parts = both (is_some (made first rows)) _ h in
    rw parts.0 (stands_push combines combine (rows ++ made first rows ∷ []) row parts.1 is)

pub closes_push : (combines : List Combine) (combine : Combine) (rows : List (Option Linear)) (row : Linear) → chain_stands combines rows ≡ true → made combine (rows_after combines rows) ≡ Some row → is_absurd row ≡ true → chain_closes (combines ++ combine ∷ []) rows ≡ true
closes_push [] combine rows row h is none = rw is none
closes_push (first ∷ combines) combine rows row h is none = by_made (made first rows) refl (both (is_some (made first rows)) _ h) (closes_push combines combine (rows ++ made first rows ∷ []) row)
  where
    more_last : (x : Combine) (xs : List Combine) → is_nil (xs ++ x ∷ []) ≡ false
    more_last x [] = refl
    more_last x (y ∷ xs) = refl

    by_made : (some : Option Linear) → made first rows ≡ some → (is_some (made first rows) ≡ true) × (chain_stands combines (rows ++ made first rows ∷ []) ≡ true)
        → (chain_stands combines (rows ++ made first rows ∷ []) ≡ true → made combine (rows_after combines (rows ++ made first rows ∷ [])) ≡ Some row → is_absurd row ≡ true → chain_closes (combines ++ combine ∷ []) (rows ++ made first rows ∷ []) ≡ true)
        → chain_goes (chain_closes (combines ++ combine ∷ [])) rows (is_nil (combines ++ combine ∷ [])) (made first rows) ≡ true
    by_made None e parts later = absurd (let no = rw e at parts.0 in cc)
    by_made (Some sum) e parts later = rw e (rw (more_last combine combines) (subst (λ (some : Option Linear). chain_closes (combines ++ combine ∷ []) (rows ++ some ∷ []) ≡ true) e (later parts.1 is none)))

pub get_more : (rows : List (Option Linear)) (new row : Option Linear) (i : ℕ) → slice_get rows i ≡ Some row → slice_get (rows ++ new ∷ []) i ≡ Some row
get_more [] new row i h = absurd cc
get_more (first ∷ rows) new row zero h = h
get_more (first ∷ rows) new row (suc i) h = get_more rows new row i h

get_last : (rows : List (Option Linear)) (new : Option Linear) (i : ℕ) → length rows ≡ i → slice_get (rows ++ new ∷ []) i ≡ Some new
get_last [] new zero h = refl
get_last [] new (suc i) h = absurd (omega arith)
get_last (first ∷ rows) new zero h = absurd (omega arith)
get_last (first ∷ rows) new (suc i) h = get_last rows new i (omega arith)

push_length : (rows : List (Option Linear)) (new : Option Linear) → length (rows ++ new ∷ []) ≡ length rows + 1
push_length [] new = omega arith
push_length (first ∷ rows) new = let rest = push_length rows new in omega arith

made_here : (rows : List (Option Linear)) (place : ℕ) (upper lower : Numbered) (row : Linear) → HasNumber rows upper → HasNumber rows lower → sum_at place upper lower ≡ Some row → made (cancelling place upper lower) rows ≡ Some row
made_here rows place upper lower row up down is = rw (up, down) is

pub put_sound : (rows : List (Option Linear)) (others : List Numbered) (combine : Combine) (row : Linear) (before after : State) → StandsAtNumbers rows others before → made combine (rows_after before.combines rows) ≡ Some row → IsPut combine row before after → StandsAtNumbers rows others after
put_sound rows others combine row before after sound is put =
    let now = ap (λ (combines : List Combine). rows_after combines rows) put.combines ∙ after_push before.combines combine rows ∙ ap (λ (some : Option Linear). rows_after before.combines rows ++ some ∷ []) is in
    let longer = ap length now ∙ push_length (rows_after before.combines rows) (Some row) in
    let count = sound.count in
    let next = put.next in
    record {
      made = ap (λ (combines : List Combine). chain_stands combines rows) put.combines ∙ stands_push before.combines combine rows row sound.made is;
      count = omega arith;
      others_stand = each_weaker (HasNumber (rows_after before.combines rows)) (HasNumber (rows_after after.combines rows)) (stays now) others sound.others_stand;
      kept_stand = subst (Each (HasNumber (rows_after after.combines rows))) (sym put.kept)
          (each_with (HasNumber (rows_after after.combines rows)) before.kept (next_row before row) (each_weaker (HasNumber (rows_after before.combines rows)) (HasNumber (rows_after after.combines rows)) (stays now) before.kept sound.kept_stand)
          (ap (λ (all : List (Option Linear)). slice_get all before.next) now ∙ get_last (rows_after before.combines rows) (Some row) before.next sound.count));
    }
  where
    stays : rows_after after.combines rows ≡ rows_after before.combines rows ++ Some row ∷ [] → (numbered : Numbered) → HasNumber (rows_after before.combines rows) numbered → HasNumber (rows_after after.combines rows) numbered
    stays now numbered h = ap (λ (all : List (Option Linear)). slice_get all numbered.number) now ∙ get_more (rows_after before.combines rows) (Some row) (Some numbered.row) numbered.number h

pub sum_sound : (rows : List (Option Linear)) (others : List Numbered) (most place : ℕ) (upper lower : Numbered) (before after : State) (progress : Progress) → StandsAtNumbers rows others before
    → HasNumber (rows_after before.combines rows) upper → HasNumber (rows_after before.combines rows) lower → IsSummed most place upper lower before after progress → StaysSound rows others after progress
sum_sound rows others most place upper lower before after Left sound up down (row, is, inl known) = subst (StandsAtNumbers rows others) (sym known.same) sound
sum_sound rows others most place upper lower before after Left sound up down (row, is, inr put) = put_sound rows others (cancelling place upper lower) row before after sound (made_here _ place upper lower row up down is) put
sum_sound rows others most place upper lower before after Closed sound up down (row, is, closed) =
    ap (λ (combines : List Combine). chain_closes combines rows) closed.combines ∙ closes_push before.combines (cancelling place upper lower) rows row sound.made (made_here _ place upper lower row up down is) closed.absurd_row
sum_sound rows others most place upper lower before after Stopped sound up down none = tt
