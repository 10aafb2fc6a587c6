-- Passes, and what they owe.
use Rattle.std.specs.Prelude.{◌≡◌, ℕ}
use Rattle.atomic_table.specs.Table.{Me}
use Rattle.atomic_table.specs.declared.shared.Seat.{Seat}
use Rattle.machine_explicit.specs.Sections.{FreeMachine}
use Rattle.threads_lock.specs.declared.view.View.{View}
use Rattle.threads_lock.specs.Passes.{PassView, IsKnown}
use Rattle.threads_lock.specs.inner.Queueing.{IsIdle}

abbrev pub pass_view : Seat FreeMachine View → PassView
pass_view seat = record { lock = seat.table_id; known = seat.me.0.known }

-- the seat has no ticket and one part of the right to close, and the program knows the length that
-- was seen
pub record IsPass (me : Me FreeMachine View) (seen : ℕ) : Type 0 where
  pub idle : IsIdle me
  pub one_part : me.0.parts ≡ 1
  pub seen_is : seen ≡ me.0.known.seen
  pub known : IsKnown me.0.known
