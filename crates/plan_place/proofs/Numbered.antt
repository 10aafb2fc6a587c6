-- One element more of a list that is made of numbered elements.
use Rattle.std.proofs.Common.{◌≡◌, ℕ, ◌+◌, ◌<◌, List, [], ◌∷◌, ◌++◌, map, take, length, get_or, sym, ap, ◌∙◌, arith}
use Rattle.std.specs.List.{enumerate_from}
use Rattle.std.proofs.lemmas.List.{map-append, take_more, length-take}
use Rattle.plan_claims.proofs.Lists.{numbered_more}

pub mapped_turn : {X Y : Type 0} (f : ℕ → X → Y) (first index last : ℕ) (xs : List X) (d x : X) (before after : List Y) → index < length xs
    → first + index ≡ last → x ≡ get_or xs index d
    → before ≡ map (λ one. f one.0 one.1) (enumerate_from first (take index xs)) → after ≡ before ++ f last x ∷ []
    → after ≡ map (λ one. f one.0 one.1) (enumerate_from first (take (index + 1) xs))
mapped_turn {X} {Y} f first index last xs d x before after low is same had made =
    let each : ℕ × X → Y = λ one. f one.0 one.1 in
    let some = enumerate_from first (take index xs) in
    let long : first + length (take index xs) ≡ last = omega (arith, length-take index xs) in
    made ∙ ap (λ one. one ++ f last x ∷ []) had ∙ ap (λ (one : X). map each some ++ f last one ∷ []) same
    ∙ sym (map-append each some ((last, get_or xs index d) ∷ []))
    ∙ ap (map each) (sym (numbered_more first (take index xs) (get_or xs index d) last long))
    ∙ ap (λ one. map each (enumerate_from first one)) (sym (take_more xs index d low))
