-- What is still to be written of a name.
use Rattle.std.proofs.Common.{◌≡◌, ℕ, Bool, not, List, [], ◌∷◌, ◌∙◌, Option, Some, None, sym, ap}
use Rattle.std.specs.Prelude.{is_none, is_some, slice_get}
use Rattle.std.specs.Str.{bytes_eq}
use Rattle.std.proofs.lemmas.Bool.{false≢true}
use Rattle.emit_names.proofs.OddNames.{not_not}

no_byte : (b : ℕ) → Some b ≡ None → ⊥
no_byte b is = false≢true (ap is_none is)

-- where one ends, the other has to end
pub ends_alike : (xs ys : List ℕ) (first other : Option ℕ) (answer : Bool) → first ≡ slice_get xs 0 → first ≡ None → other ≡ slice_get ys 0 → is_some other ≡ not answer
    → answer ≡ bytes_eq xs ys
ends_alike (b ∷ xs) ys first other answer is none has says = absurd (no_byte b (sym is ∙ none))
ends_alike [] [] first other answer is none has says = not_not answer ∙ ap not (sym says ∙ ap is_some has)
ends_alike [] (b ∷ ys) first other answer is none has says = not_not answer ∙ ap not (sym says ∙ ap is_some has)
