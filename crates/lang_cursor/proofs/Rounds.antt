-- The rounds of the loop that reads item after item.
use Rattle.std.proofs.Common.{◌≡◌, ℕ, zero, suc, ◌<◌, ◌≤◌, Bool, true, false, List, [], ◌∷◌, ◌++◌, length, Ok, Err, refl, sym, ap, ◌∙◌, append_assoc, arith}
use Rattle.std.proofs.lemmas.List.{append-nil}
use Rattle.lang_cursor.specs.declared.fault.Stop.{Stop}
use Rattle.lang_cursor.specs.declared.fault.Stop.TheVariants as stops
use Rattle.lang_tokens.specs.Words.{Word}
use Rattle.lang_cursor.specs.Reading.{◌>>=◌, Read, Fails, many_at}
use Rattle.lang_cursor.specs.Calls.{AreItems}

abbrev pub with_front : {A : Type 0} → List A → Read (List A) → Read (List A)
with_front front (Ok x) = Ok (front ++ x.0, x.1)
with_front front (Err left) = Err left

-- what a loop over items keeps: what was read, before what is left gives, is the whole
pub record Going {A : Type 0} (starts : List Word → Bool) (item : List Word → Read A) (total : Read (List A)) (front : List A) (ws : List Word) : Type 0 where
  pub fuel : ℕ
  pub enough : length ws ≤ fuel
  pub so_far : with_front front (many_at starts item fuel ws) ≡ total

pub begin_going : {A : Type 0} (starts : List Word → Bool) (item : List Word → Read A) (ws : List Word) → Going starts item (many_at starts item (length ws) ws) [] ws
begin_going starts item ws = record { fuel = length ws; enough = omega arith; so_far = same (many_at starts item (length ws) ws) }
  where
    same : {A : Type 0} (r : Read (List A)) → with_front [] r ≡ r
    same (Ok x) = refl
    same (Err left) = refl

regroup : {A : Type 0} (front : List A) (x : A) (read : Read (List A)) → with_front front (read >>= λ others. Ok (x ∷ others.0, others.1)) ≡ with_front (front ++ x ∷ []) read
regroup front x (Ok y) = ap (λ xs. Ok (xs, y.1)) (sym (append_assoc front (x ∷ []) y.0))
regroup front x (Err left) = refl

step : {A : Type 0} (starts : List Word → Bool) (item : List Word → Read A) (fuel : ℕ) (ws : List Word) (x : A) (after : List Word) → starts ws ≡ true → item ws ≡ Ok (x, after)
    → many_at starts item (suc fuel) ws ≡ (many_at starts item fuel after >>= λ others. Ok (x ∷ others.0, others.1))
unfolding many_at
step starts item fuel ws x after s h = rw (s, h) refl

goes_on : {A : Type 0} (starts : List Word → Bool) (item : List Word → Read A) (total : Read (List A)) (front : List A) (ws : List Word) (x : A) (after : List Word)
    → starts ws ≡ true → item ws ≡ Ok (x, after) → length after < length ws → Going starts item total front ws → Going starts item total (front ++ x ∷ []) after
goes_on starts item total front ws x after s h shorter going = next going.fuel going.enough going.so_far
  where
    next : (fuel : ℕ) → length ws ≤ fuel → with_front front (many_at starts item fuel ws) ≡ total → Going starts item total (front ++ x ∷ []) after
    next zero le so_far = absurd (omega arith)
    next (suc n) le so_far = record { fuel = n; enough = omega arith; so_far = sym (regroup front x (many_at starts item n after)) ∙ sym (ap (with_front front) (step starts item n ws x after s h)) ∙ so_far }

ends : {A : Type 0} (stop : Stop) (starts : List Word → Bool) (item : List Word → Read A) (total : Read (List A)) (front : List A) (ws : List Word)
    → starts ws ≡ true → 0 < length ws → Fails stop (item ws) → Going starts item total front ws → Fails stop total
unfolding many_at
ends stops.OutOfMemory starts item total front ws s long h going = tt
ends (stops.Before left) starts item total front ws s long h going = at_fault going.fuel going.enough going.so_far
  where
    at_fault : (fuel : ℕ) → length ws ≤ fuel → with_front front (many_at starts item fuel ws) ≡ total → total ≡ Err left
    at_fault zero le so_far = absurd (omega arith)
    at_fault (suc n) le so_far = sym so_far ∙ rw (s, h) refl

is_done : {A : Type 0} (starts : List Word → Bool) (item : List Word → Read A) (total : Read (List A)) (front : List A) (ws : List Word)
    → starts ws ≡ false → Going starts item total front ws → total ≡ Ok (front, ws)
unfolding many_at
is_done starts item total front ws s going = at_end going.fuel going.so_far
  where
    at_end : (fuel : ℕ) → with_front front (many_at starts item fuel ws) ≡ total → total ≡ Ok (front, ws)
    at_end zero so_far = sym so_far ∙ ap (λ xs. Ok (xs, ws)) (append-nil front)
    at_end (suc n) so_far = sym so_far ∙ rw s (ap (λ xs. Ok (xs, ws)) (append-nil front))

pub round_goes : {A : Type 0} (starts : List Word → Bool) (item : List Word → Read A) → AreItems starts item
    → (total : Read (List A)) (front : List A) (ws after : List Word) (x : A) (test : Bool)
    → test ≡ starts ws → test ≡ true → item ws ≡ Ok (x, after) → Going starts item total front ws → Going starts item total (front ++ x ∷ []) after
round_goes starts item items total front ws after x test is holds read going =
    goes_on starts item total front ws x after (sym is ∙ holds) read (items.shorter ws x after read) going

pub round_stops : {A : Type 0} (stop : Stop) (starts : List Word → Bool) (item : List Word → Read A) → AreItems starts item
    → (total : Read (List A)) (front : List A) (ws : List Word) (test : Bool)
    → test ≡ starts ws → test ≡ true → Fails stop (item ws) → Going starts item total front ws → Fails stop total
round_stops stop starts item items total front ws test is holds fails going =
    ends stop starts item total front ws (sym is ∙ holds) (items.some ws (sym is ∙ holds)) fails going

pub rounds_end : {A : Type 0} (starts : List Word → Bool) (item : List Word → Read A) (total : Read (List A)) (front : List A) (ws : List Word) (test : Bool)
    → test ≡ starts ws → test ≡ false → Going starts item total front ws → total ≡ Ok (front, ws)
rounds_end starts item total front ws test is none going = is_done starts item total front ws (sym is ∙ none) going
