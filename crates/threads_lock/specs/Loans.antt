-- Passes that lie in berths, for whoever finds them.
use Rattle.std.specs.Prelude.{◌≡◌, ℕ, Result}
use Rattle.atomic_table.specs.Seated.{TableId}
use Rattle.atomic_table.specs.declared.shared.Seat.{Seat}
use Rattle.machine_explicit.specs.declared.section.NotReady.{NotReady}
use Rattle.machine_explicit.specs.Sections.{FreeMachine}
use Rattle.threads_desk.specs.declared.letter.Done.{Done}
use Rattle.threads_desk.specs.declared.rule.TheConstants.{FREE}
use Rattle.threads_desk.specs.Letters.{IsDoneOf, IsFreeOf, IsMissOf}
use Rattle.threads_lock.specs.declared.loan.Berth.{Berth}
use Rattle.threads_lock.specs.declared.loan.Loan.{Loan}
use Rattle.threads_lock.specs.declared.loan.Repaid.{Repaid}
use Rattle.threads_lock.specs.declared.loan.Kept.{Kept}
use Rattle.threads_lock.specs.declared.loan.Kept.TheVariants as kept
use Rattle.threads_lock.specs.declared.loan.LoanEnd.{LoanEnd}
use Rattle.threads_lock.specs.declared.loan.LoanEnd.TheVariants as ends
use Rattle.threads_lock.specs.declared.receipt.Receipt.{Receipt}
use Rattle.threads_lock.specs.declared.view.Knowledge.{Knowledge}
use Rattle.threads_lock.specs.declared.view.View.{View}
use Rattle.threads_lock.specs.Passes.{MadeShared, NotMadeShared, SectionsShared}

-- the lock whose passes may lie in the berth
abbrev pub lock_of : Berth → TableId
lock_of berth = berth.cell.board.shared.key.table_id

-- Nobody used the pass: the berth was not free for it, or it was taken back from there.
abbrev pub IsKept : Berth → Kept → Type 0
IsKept berth (kept.Busy miss) = IsMissOf berth.cell FREE miss
IsKept berth (kept.Back free) = IsFreeOf berth.cell free

-- what came of a pass that was lent by the berth for a section of the client
abbrev pub Lends : Berth → ℕ → Knowledge → Knowledge → LoanEnd → Type 0
Lends berth client before after (ends.Made told) = MadeShared client before after told
Lends berth client before after (ends.Rested fault) = NotMadeShared client before after fault
Lends berth client before after (ends.Kept kept) = (after ≡ before) × IsKept berth kept

-- A section was made with a pass that lay in the berth, of the client for which it was lent; and
-- its caller is told what came of it.
pub record IsServed (berth : Berth) (made : Result Receipt NotReady)
    (done : Done Loan Repaid (Seat FreeMachine View)) : Type 0 where
  pub loan : Loan
  pub repaid : Repaid
  pub section : SectionsShared loan.client loan.seat.me.0.known repaid.seat.me.0.known made
  pub told : repaid.made ≡ made
  pub answered : IsDoneOf berth.cell done loan repaid
