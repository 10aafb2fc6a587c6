use Rattle.std.proofs.Common.{◌≡◌, ℕ, Bor, List, ◌++◌, length, take, drop, ◌==◌, true, false, ◌+◌, Option, None, Some, MatchOption}
use Rattle.std.specs.Cmp.Lexicographic.{pointwise}
use Rattle.logic_outline.proofs.NumberLemmas.{is_after, not_after}
use Rattle.logic_outline.proofs.numbers.after.Goals as goal

by : (word bytes : List ℕ) → (r : Option (Bor (List ℕ)))
    → MatchOption r (pointwise ◌==◌ (take (length word) bytes) word ≡ false)
    (λ x. (pointwise ◌==◌ (take (length word) bytes) word ≡ true) × (x.now ≡ drop (length word) bytes) × (length x.now + length word ≡ length bytes))
    → MatchOption r ((rest : List ℕ) → word ++ rest ≡ bytes → ⊥) (λ rest. word ++ rest.now ≡ bytes)
by word bytes None h = not_after word bytes h
by word bytes (Some x) h = is_after word bytes x.now h.0 h.1

pub returns : goal.returns
returns c = by c.args.word.now c.args.bytes.now c.strip_prefix.result c.strip_prefix.ensures.cases
