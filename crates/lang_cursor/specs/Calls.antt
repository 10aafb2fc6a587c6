-- What a list asks of the two values that it calls: whether an item begins, and the item.
use Rattle.std.specs.Prelude.{◌≡◌, ◌<◌, Bool, true, List, Result, Ok, length}
use Rattle.std.specs.Fn.{FnReturnsAt}
use denote.Ref.{Bor, MutBor}
use denote.Param.Members.{Shared}
use Rattle.lang_cursor.specs.declared.fault.Stop.{Stop}
use Rattle.lang_tokens.specs.Words.{Word}
use Rattle.lang_cursor.specs.Reading.{Read}
use Rattle.lang_cursor.specs.Takes.{Takes}

-- at a `&mut` to x, it may give r and leave x' there
pub record CallsAtMut {F T R : Type 0} (g : Shared F (MutBor T × Unit {0}) (R
    × (MutBor T × Unit {0}))) (f : F) (x : T) (r : R) (x' : T) : Type 0 where
  pub shown : MutBor T
  pub shows : shown.now ≡ x
  pub left : MutBor T
  pub met : g.post f (shown, tt) (r, (left, tt))
  pub leaves : left.now ≡ x'

-- it says whether the words start so
abbrev pub Answers : {F : Type 0} → Shared F (Bor (List Word) × Unit {0}) Bool → F
    → (List Word → Bool) → Type 0
Answers g f starts = (ws : List Word) (b : Bool) → FnReturnsAt g f ws b → b ≡ starts ws

-- it takes what is read here
abbrev pub Reads : {F A : Type 0}
    → Shared F (MutBor (List Word) × Unit {0}) (Result A Stop × (MutBor (List Word) × Unit {0})) → F
    → (List Word → Read A) → Type 0
Reads {F} {A} g f read =
    (ws : List Word) (r : Result A Stop) (rest : List Word) → CallsAtMut g f ws r rest
    → Takes r rest (read ws)

-- it takes a word at least, so that a list ends
abbrev pub Shortens : {F A : Type 0}
    → Shared F (MutBor (List Word) × Unit {0}) (Result A Stop × (MutBor (List Word) × Unit {0})) → F
    → Type 0
Shortens {F} {A} g f =
    (ws : List Word) (x : A) (rest : List Word) → CallsAtMut g f ws (Ok x) rest
    → length rest < length ws

-- where an item begins there is a word, and an item takes a word at least
pub record AreItems {A : Type 0} (starts : List Word → Bool) (item : List Word
    → Read A) : Type 0 where
  pub some : (ws : List Word) → starts ws ≡ true → 0 < length ws
  pub shorter : (ws : List Word) (x : A) (rest : List Word) → item ws ≡ Ok (x, rest)
      → length rest < length ws
