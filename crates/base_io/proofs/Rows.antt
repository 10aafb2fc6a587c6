-- Texts of a row, cut at a place: what stands before it, what stands there, and the rest.
use Rattle.std.proofs.Common.{◌≡◌, ℕ, zero, suc, ◌+◌, ◌<◌, ◌++◌, ◌∷◌, ◌∙◌, List, [], length, get_or, take, drop, refl, ap, sym, append_assoc, append-nil, add-one, arith, Result, Ok, Err, IsErr}
use Rattle.std.specs.List.{flat_map}
use Rattle.base_io.specs.declared.sink.SinkFailed.{SinkFailed}
use Rattle.base_io.specs.Outside.{SinkSeen}
use Rattle.base_io.specs.Writing.{Wrote}
use Rattle.base_io.proofs.Writing.{wrote_both, wrote_same, wrote_until}

flat_map-take_suc : {X : Type 0} (f : X → List ℕ) (xs : List X) (i : ℕ) (d : X) → i < length xs → flat_map f (take i xs) ++ f (get_or xs i d) ≡ flat_map f (take (suc i) xs)
flat_map-take_suc f [] i d within = absurd (omega arith)
flat_map-take_suc f (x ∷ xs) zero d within = sym (append-nil (f x))
flat_map-take_suc f (x ∷ xs) (suc i) d within = append_assoc (f x) _ _ ∙ ap (λ l. f x ++ l) (flat_map-take_suc f xs i d (omega arith))

pub flat_map-next : {X : Type 0} (f : X → List ℕ) (xs : List X) (i : ℕ) (d : X) → i < length xs → flat_map f (take i xs) ++ f (get_or xs i d) ≡ flat_map f (take (i + 1) xs)
flat_map-next f xs i d within = rw add-one (flat_map-take_suc f xs i d within)

pub flat_map-parts : {X : Type 0} (f : X → List ℕ) (xs : List X) (i : ℕ) (d : X) → i < length xs → flat_map f (take i xs) ++ f (get_or xs i d) ++ flat_map f (drop (suc i) xs) ≡ flat_map f xs
flat_map-parts f [] i d within = absurd (omega arith)
flat_map-parts f (x ∷ xs) zero d within = refl
flat_map-parts f (x ∷ xs) (suc i) d within = simp append_assoc (ap (λ l. f x ++ l) (simp append_assoc at (flat_map-parts f xs i d (omega arith))))

-- ---- a row, written element by element

-- the next text of a row
pub row_went : {X : Type 0} {s0 s1 s2 : SinkSeen} (f : X → List ℕ) (xs : List X) (i : ℕ) (x : X) (text : List ℕ)
    → i < length xs → x ≡ get_or xs i x → text ≡ f x → Wrote s0 s1 (Ok tt) (flat_map f (take i xs)) → Wrote s1 s2 (Ok tt) text → Wrote s0 s2 (Ok tt) (flat_map f (take (i + 1) xs))
row_went f xs i x text within is says before here =
    wrote_same _ (ap (λ y. flat_map f (take i xs) ++ y) (says ∙ ap f is) ∙ flat_map-next f xs i x within) (wrote_both before here)

-- a text of a row that wasn't written whole
pub row_stopped : {X : Type 0} {s0 s1 s2 : SinkSeen} {fault : SinkFailed} (f : X → List ℕ) (xs : List X) (i : ℕ) (x : X) (text : List ℕ) (answer : Result (Unit {0}) SinkFailed)
    → i < length xs → x ≡ get_or xs i x → text ≡ f x → IsErr answer → Wrote s0 s1 (Ok tt) (flat_map f (take i xs)) → Wrote s1 s2 (Err fault) text → Wrote s0 s2 answer (flat_map f xs)
row_stopped f xs i x text answer within is says fails before here =
    wrote_until (flat_map f (drop (suc i) xs)) (flat_map f xs) answer (ap (λ y. flat_map f (take i xs) ++ y ++ flat_map f (drop (suc i) xs)) (says ∙ ap f is) ∙ flat_map-parts f xs i x within) fails before here
