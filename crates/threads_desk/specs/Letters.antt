-- Who has a part in a letter.
use Rattle.std.specs.Prelude.{◌≡◌, ◌≢◌, ◌+◌, ℕ, [], ◌∷◌, None}
use Rattle.threads_desk.specs.declared.cell.Cell.{Cell}
use Rattle.threads_desk.specs.declared.letter.Part.TheVariants.{Posted, Serving, Answered, Gone}
use Rattle.threads_desk.specs.declared.letter.Mail.{Mail}
use Rattle.threads_desk.specs.declared.letter.Task.{Task}
use Rattle.threads_desk.specs.declared.letter.Miss.{Miss}
use Rattle.threads_desk.specs.declared.letter.Done.{Done}
use Rattle.threads_desk.specs.declared.letter.Free.{Free}
use Rattle.threads_desk.specs.inner.Cells.{view}

module _ {A T K E : Type 0} where
  -- what the cell was opened about
  abbrev pub about_of : Cell A T K E → K
  about_of cell = cell.board.shared.key

  -- the mail is that of this letter, which was posted in this cell
  abbrev pub IsMailOf : Cell A T K E → Mail A T K → A → Type 0
  IsMailOf cell mail letter =
      (mail.seat.table_id ≡ cell.board.shared.table_id)
      × (mail.seat.me
      ≡ (view (about_of cell) (Posted letter) mail.seat.me.0.misses mail.seat.me.0.found, []))

  -- The mail is still that of this letter. One step more wanted to find this word in the cell, and
  -- found another.
  abbrev pub IsKeptIn : Cell A T K E → ℕ → Mail A T K → Mail A T K → A → Type 0
  IsKeptIn cell wanted before after letter =
      IsMailOf cell after letter
      × (after.seat.me.0.misses ≡ before.seat.me.0.misses + 1)
      × (after.seat.me.0.found ≢ wanted)

  -- the task is to answer this letter, which was taken from this cell
  abbrev pub IsTaskOf : Cell A T K E → Task A T K → A → Type 0
  IsTaskOf cell task letter =
      (task.seat.table_id ≡ cell.board.shared.table_id)
      × (task.seat.me
      ≡ (
        view (about_of cell) (Serving letter) task.seat.me.0.misses task.seat.me.0.found,
        (0, None) ∷ [],
      ))

  -- one step of a seat wanted to find this word in the cell, and found another
  abbrev pub IsMissOf : Cell A T K E → ℕ → Miss A T K → Type 0
  IsMissOf cell wanted miss =
      (miss.seat.table_id ≡ cell.board.shared.table_id)
      × (miss.seat.me.0.misses ≡ 1)
      × (miss.seat.me.0.found ≢ wanted)

  -- a step of this cell answered the letter by this
  abbrev pub IsDoneOf : Cell A T K E → Done A T K → A → T → Type 0
  IsDoneOf cell done letter told =
      (done.seat.table_id ≡ cell.board.shared.table_id)
      × (done.seat.me.0.part ≡ Answered letter told)

  -- a step of this cell freed it
  abbrev pub IsFreeOf : Cell A T K E → Free A T K → Type 0
  IsFreeOf cell free =
      (free.seat.table_id ≡ cell.board.shared.table_id) × (free.seat.me.0.part ≡ Gone)
