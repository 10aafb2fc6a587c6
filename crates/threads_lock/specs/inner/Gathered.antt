-- What a seat has taken in.
use Rattle.std.specs.Prelude.{◌≡◌, ◌+◌, ℕ, List, length}
use Rattle.atomic_table.specs.Table.{Me}
use Rattle.machine_explicit.specs.Sections.{FreeMachine}
use Rattle.threads_lock.specs.declared.receipt.Receipt.{Receipt}
use Rattle.threads_lock.specs.declared.view.View.{View}
use Rattle.threads_lock.specs.Passes.{PassView}
use Rattle.threads_lock.specs.Closing.{times, receipts_of}
use Rattle.threads_lock.specs.inner.Queueing.{Agrees, IsIdle}
use Rattle.threads_lock.specs.inner.Ends.{AgreesWithAll}

-- a seat took in the parts and what is known of these passes
pub record Gathered (me next : Me FreeMachine View) (passes : List PassView) : Type 0 where
  pub idle : IsIdle next
  pub parts : next.0.parts ≡ me.0.parts + length passes
  pub receipts : (place : ℕ)
      → times place next.0.known.receipts
      ≡ times place me.0.known.receipts + times place (receipts_of passes)
  pub agrees : (history : List Receipt) (top : FreeMachine) → Agrees history top next.0.known
      → Agrees history top me.0.known × AgreesWithAll history top passes
