-- One more reason.
use Rattle.std.proofs.Common.{◌≡◌, ℕ, ◌+◌, ◌<◌, List, [], ◌∷◌, ◌++◌, length, map, take, get_or, ap, subst, sym, ◌∙◌}
use Rattle.std.specs.Prelude.{All}
use Rattle.std.proofs.lemmas.List.{map_push, take_more}
use Rattle.std.proofs.lemmas.List.Elements.{All-push}

pub listed_next : {R X : Type 0} (of : R → X) (all : List X) (i : ℕ) (old new : List R) (reason : R) → i < length all → of reason ≡ get_or all i (of reason) → map of old ≡ take i all → new ≡ old ++ reason ∷ [] → map of new ≡ take (i + 1) all
listed_next {R} {X} of all i old new reason low is had made =
    ap (map of) made ∙ map_push of old reason ∙ ap (λ (some : List X). some ++ of reason ∷ []) had
    ∙ sym (take_more all i (of reason) low ∙ ap (λ (x : X). take i all ++ x ∷ []) (sym is))

pub each_next : {R : Type 0} (P : R → Type 0) (old new : List R) (reason : R) → All P old → P reason → new ≡ old ++ reason ∷ [] → All P new
each_next P old new reason each here made = subst (All P) (sym made) (All-push P old reason each here)
