-- What each step on a cell tells whoever makes it.
use Rattle.std.specs.Prelude.{◌≡◌, ◌≢◌, ◌⊎◌, ◌+◌, ℕ, [], ◌∷◌, Option, Some, None}
use Rattle.atomic_table.specs.Table.{Me, Step}
use Rattle.threads_desk.specs.declared.letter.Sheet.{Sheet}
use Rattle.threads_desk.specs.declared.letter.Sheet.TheVariants.{Asked, Told}
use Rattle.threads_desk.specs.declared.letter.Part.{Part}
use Rattle.threads_desk.specs.declared.letter.Part.TheVariants.{Writing, Posted}
use Rattle.threads_desk.specs.declared.letter.Part.TheVariants.{Reading, Serving, Answered, Gone}
use Rattle.threads_desk.specs.declared.letter.View.{View}
use Rattle.threads_desk.specs.inner.Cells.{view}

module _ {A T K : Type 0} where
  abbrev pub parted : Part A T → View A T K → View A T K
  parted part v = view v.about part v.misses v.found

  -- one step more found the cell otherwise: with this word
  abbrev pub missed : ℕ → View A T K → View A T K
  missed found v = view v.about v.part (v.misses + 1) found

abbrev pub At : Type 0 → Type 0 → Type 0 → Type 0
At A T K = Me (Option (Sheet A T)) (View A T K)

abbrev pub Move : Type 0 → Type 0 → Type 0
Move A T = Step (Option (Sheet A T))

module _ {A T K : Type 0} where
  abbrev pub missing : ℕ → At A T K → At A T K
  missing found me = (missed found me.0, me.1)

  abbrev pub Came : Move A T → At A T K → ℕ → At A T K → Type 0
  Came step me found next = next ≡ me

  -- a letter is posted, or the step missed
  abbrev pub Sought : Move A T → At A T K → ℕ → At A T K → Type 0
  Sought step me found next = (found ≡ 2 → next ≡ me) × (found ≢ 2 → next ≡ missing found me)

  -- the seat has the cell, which is empty, if it was free
  abbrev pub Began : Move A T → At A T K → ℕ → At A T K → Type 0
  Began step me found next =
      (found ≡ 0 → next ≡ (parted Writing me.0, (0, None) ∷ me.1))
      × (found ≢ 0 → next ≡ missing found me)

  -- what the seat wrote is posted
  abbrev pub Wrote : Move A T → At A T K → ℕ → At A T K → Type 0
  Wrote step me found next =
      (a : A) → me.1 ≡ (0, Some (Asked a)) ∷ [] → next ≡ (parted (Posted a) me.0, [])

  -- the seat has what was told to its letter
  pub record HasAnswer (tells : K → A → T → Type 0) (a : A) (me next : At A T K) : Type 0 where
    pub told : T
    pub tells_it : tells me.0.about a told
    pub now : next ≡ (parted Reading me.0, (0, Some (Told told)) ∷ me.1)

  abbrev pub Looked : (K → A → T → Type 0) → Move A T → At A T K → ℕ → At A T K → Type 0
  Looked tells step me found next =
      (a : A) → me.0.part ≡ Posted a
      → (found ≡ 4 → HasAnswer tells a me next) × (found ≢ 4 → next ≡ missing found me)

  -- the seat has its letter, if nobody took it
  abbrev pub Withdrew : Move A T → At A T K → ℕ → At A T K → Type 0
  Withdrew step me found next =
      (a : A) → me.0.part ≡ Posted a
      → (found ≡ 2 → next ≡ (parted Writing me.0, (0, Some (Asked a)) ∷ me.1))
      × (found ≢ 2 → next ≡ missing found me)

  -- the seat has a letter, which may be asked
  pub record HasLetter (asks : K → A → Type 0) (me next : At A T K) : Type 0 where
    pub letter : A
    pub asks_it : asks me.0.about letter
    pub now : next ≡ (parted (Serving letter) me.0, (0, Some (Asked letter)) ∷ me.1)

  abbrev pub Took : (K → A → Type 0) → Move A T → At A T K → ℕ → At A T K → Type 0
  Took asks step me found next =
      (found ≡ 2 → HasLetter asks me next) × (found ≢ 2 → next ≡ missing found me)

  -- the letter is answered by what the seat has
  abbrev pub Delivered : Move A T → At A T K → ℕ → At A T K → Type 0
  Delivered step me found next =
      (a : A) (t : T) → me.0.part ≡ Serving a → me.1 ≡ (0, Some (Told t)) ∷ []
      → next ≡ (parted (Answered a t) me.0, [])

  -- the cell is free, which the seat had
  abbrev pub Left : Move A T → At A T K → ℕ → At A T K → Type 0
  Left step me found next =
      (me.0.part ≡ Writing) ⊎ (me.0.part ≡ Reading) → next ≡ (parted Gone me.0, [])
