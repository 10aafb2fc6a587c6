-- What is so at the end.
use Rattle.std.specs.Prelude.{◌≡◌, ℕ, List}
use Rattle.std.specs.List.{All}
use Rattle.machine_explicit.specs.Sections.{FreeMachine}
use Rattle.threads_lock.specs.declared.receipt.Receipt.{Receipt}
use Rattle.threads_lock.specs.declared.view.Knowledge.{Knowledge}
use Rattle.threads_lock.specs.Passes.{PassView}
use Rattle.threads_lock.specs.Closing.{times}
use Rattle.threads_lock.specs.inner.Queueing.{Agrees, IsHistory}

-- what each of the passes knows is so
abbrev pub AgreesWithAll : List Receipt → FreeMachine → List PassView → Type 0
AgreesWithAll history top passes = All (λ pass. Agrees history top pass.known) passes

-- The monitor has come from the start by the sections of a history; what is known is so, and there
-- is a receipt of each section.
pub record EndsWith (start : FreeMachine) (known : Knowledge) (top : FreeMachine) : Type 0 where
  pub history : List Receipt
  pub limit : ℕ
  pub made : IsHistory start history limit top
  pub agrees : Agrees history top known
  pub receipts : (place : ℕ) → times place known.receipts ≡ times place history
