-- The rule of a cell, which holds between any two steps.
-- The word says how the letter stands, and the slot has what was asked, and then what was told.
use Rattle.std.specs.Prelude.{◌≡◌, ℕ, List, [], ◌∷◌, ◌++◌, Option, Some, None}
use mathlib.Core.Option.{Option as Home, some, none}
use lib.ListN.{get_elem?}
use Rattle.atomic_table.specs.Table.{State}
use Rattle.threads_desk.specs.declared.letter.Sheet.{Sheet}
use Rattle.threads_desk.specs.declared.letter.Sheet.TheVariants.{Asked, Told}
use Rattle.threads_desk.specs.declared.letter.Part.{Part}
use Rattle.threads_desk.specs.declared.letter.Part.TheVariants.{Nothing, Writing, Posted}
use Rattle.threads_desk.specs.declared.letter.Part.TheVariants.{Reading, Serving, Answered, Gone}
use Rattle.threads_desk.specs.declared.letter.View.{View}

abbrev pub view : {A T K : Type 0} → K → Part A T → ℕ → ℕ → View A T K
view about part misses found =
    record { about = about; part = part; misses = misses; found = found }

abbrev pub newcomer : {A T K : Type 0} → K → View A T K
newcomer about = view about Nothing 0 0

-- ---- how a letter stands

-- there is none; who posts has the cell; it is posted; who answers has it; it is answered; who
-- posted has the answer
pub data Standing (A T : Type 0) : Type 0 where
  free : Standing A T
  writing : Standing A T
  asked : A → Standing A T
  taken : A → Standing A T
  told : A → T → Standing A T
  reading : Standing A T

module _ {A T : Type 0} where
  abbrev pub word_of : Standing A T → ℕ
  word_of free = 0
  word_of writing = 1
  word_of (asked a) = 2
  word_of (taken a) = 3
  word_of (told a t) = 4
  word_of reading = 4

  -- the slot, where it is at home
  abbrev pub homes_of : Standing A T → List (Home (Option (Sheet A T)))
  homes_of free = some None ∷ []
  homes_of writing = none ∷ []
  homes_of (asked a) = some (Some (Asked a)) ∷ []
  homes_of (taken a) = none ∷ []
  homes_of (told a t) = some (Some (Told t)) ∷ []
  homes_of reading = none ∷ []

  -- the part of who posts
  abbrev pub posters_of : Standing A T → List (Part A T)
  posters_of free = []
  posters_of writing = Writing ∷ []
  posters_of (asked a) = Posted a ∷ []
  posters_of (taken a) = Posted a ∷ []
  posters_of (told a t) = Posted a ∷ []
  posters_of reading = Reading ∷ []

  -- the part of who answers
  abbrev pub servers_of : Standing A T → List (Part A T)
  servers_of free = []
  servers_of writing = []
  servers_of (asked a) = []
  servers_of (taken a) = Serving a ∷ []
  servers_of (told a t) = []
  servers_of reading = []

-- ---- who has a part in it

module _ {A T : Type 0} where
  abbrev pub posts : Part A T → List (Part A T)
  posts Nothing = []
  posts Writing = Writing ∷ []
  posts (Posted a) = Posted a ∷ []
  posts Reading = Reading ∷ []
  posts (Serving a) = []
  posts (Answered a t) = []
  posts Gone = []

  abbrev pub serves : Part A T → List (Part A T)
  serves Nothing = []
  serves Writing = []
  serves (Posted a) = []
  serves Reading = []
  serves (Serving a) = Serving a ∷ []
  serves (Answered a t) = []
  serves Gone = []

module _ {A T K : Type 0} where
  -- f of the part of each view, one after the other
  abbrev pub parts : (Part A T → List (Part A T)) → List (View A T K) → List (Part A T)
  parts f [] = []
  parts f (v ∷ views) = f v.part ++ parts f views

-- ---- the rule

module _ {A T K : Type 0} (asks : K → A → Type 0) (tells : K → A → T → Type 0) where
  -- what is posted may be asked, and what is told may be told to it
  abbrev pub IsRight : K → Standing A T → Type 0
  IsRight about free = Unit {0}
  IsRight about writing = Unit {0}
  IsRight about (asked a) = asks about a
  IsRight about (taken a) = Unit {0}
  IsRight about (told a t) = tells about a t
  IsRight about reading = Unit {0}

  pub record Kept (about : K) (s : State (Option (Sheet A T)) (View A T K)) : Type 0 where
    pub standing : Standing A T
    pub words : s.words ≡ word_of standing ∷ []
    pub homes : s.homes ≡ homes_of standing
    pub posters : parts posts s.views ≡ posters_of standing
    pub servers : parts serves s.views ≡ servers_of standing
    pub right : IsRight about standing
    pub each : (j : ℕ) (v : View A T K) → get_elem? s.views j ≡ some v → v.about ≡ about
