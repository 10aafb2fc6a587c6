-- Runs of lines at the end of those before a line.
use Rattle.std.proofs.Common.{◌≡◌, ℕ, ◌+◌, ◌<◌, ◌≤◌, Bool, true, false, cond, List, [], ◌∷◌, ◌∙◌, take, length, get_or, ap, sym, arith}
use Rattle.std.specs.List.{prefix_len, suffix_len}
use Rattle.std.proofs.lemmas.List.{take_more, reverse-append}

-- one line more
pub run_more : {X : Type 0} (p : X → Bool) (xs : List X) (i run next : ℕ) (x : X) → i < length xs → x ≡ get_or xs i x → run ≡ suffix_len p (take i xs)
    → next ≡ cond (p x) (1 + run) 0 → next ≡ suffix_len p (take (i + 1) xs)
run_more p xs i run next x less is before says =
    says ∙ ap (λ (n : ℕ). cond (p x) (1 + n) 0) before
    ∙ ap (λ y. cond (p y) (1 + suffix_len p (take i xs)) 0) is
    ∙ ap (prefix_len p) (sym (reverse-append (take i xs) (get_or xs i x ∷ [])))
    ∙ ap (suffix_len p) (sym (take_more xs i x less))

pub run_within : (here : Bool) (run next n : ℕ) → next ≡ cond here (1 + run) 0 → run ≤ n → next ≤ n + 1
run_within true run next n is few = omega (arith, is, few)
run_within false run next n is few = omega (arith, is)
