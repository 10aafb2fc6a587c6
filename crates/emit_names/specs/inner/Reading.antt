-- What of a word may come next in a text that is the word, and then `_` alone.
use Rattle.std.specs.Prelude.{ℕ, Bool, true, false, ◌==◌, List, [], ◌∷◌}

abbrev pub takes : List ℕ → ℕ → Bool
takes [] b = b == 95
takes (first ∷ word) b = first == b

abbrev pub rest_of : List ℕ → List ℕ
rest_of [] = []
rest_of (first ∷ word) = word

abbrev pub after_mark : Bool → List ℕ → List ℕ
after_mark true word = rest_of word
after_mark false word = word
