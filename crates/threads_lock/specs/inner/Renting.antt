-- What may lie in a berth, and how it comes back.
use Rattle.std.specs.Prelude.{◌≡◌, ◌<◌, Result, Ok, Err, length}
use Rattle.atomic_table.specs.declared.shared.Seat.{Seat}
use Rattle.machine_explicit.specs.declared.section.NotReady.{NotReady}
use Rattle.machine_explicit.specs.Sections.{FreeMachine}
use Rattle.threads_desk.specs.Letters.{about_of}
use Rattle.threads_lock.specs.declared.lent.Wish.TheVariants as wishes
use Rattle.threads_lock.specs.declared.loan.Back.{Back}
use Rattle.threads_lock.specs.declared.loan.Back.TheVariants as backs
use Rattle.threads_lock.specs.declared.loan.Berth.{Berth}
use Rattle.threads_lock.specs.declared.loan.Loan.{Loan}
use Rattle.threads_lock.specs.declared.loan.LoanEnd.{LoanEnd}
use Rattle.threads_lock.specs.declared.loan.LoanEnd.TheVariants as ends
use Rattle.threads_lock.specs.declared.receipt.Receipt.{Receipt}
use Rattle.threads_lock.specs.declared.loan.Repaid.{Repaid}
use Rattle.threads_lock.specs.declared.view.View.{View}
use Rattle.threads_lock.specs.Loans.{IsKept, Lends}
use Rattle.threads_lock.specs.Passes.{IsKnown}
use Rattle.threads_lock.specs.inner.Lending.{IsMadeFor, section}
use Rattle.threads_lock.specs.inner.Queueing.{IsIdle}

-- an idle seat with which a section of the client may be made
pub record MayVisit (loan : Loan) : Type 0 where
  pub idle : IsIdle loan.seat.me
  pub live : 0 < loan.seat.me.0.parts
  pub known : IsKnown loan.seat.me.0.known
  pub client_is : loan.client < length loan.seat.me.0.known.front.system.clients

-- it is a seat of the lock that this one is of
pub record IsLoan (lock : Seat FreeMachine View) (loan : Loan) : Type 0 where
  pub own : loan.seat.table_id ≡ lock.table_id
  pub may : MayVisit loan

-- the same seat, with which a section of the client was tried
pub record IsRepaid (lock : Seat FreeMachine View) (loan : Loan) (repaid : Repaid) : Type 0 where
  pub own : repaid.seat.table_id ≡ loan.seat.table_id
  pub made : IsMadeFor (wishes.Section loan.client) loan.seat.me repaid.seat.me
      (section repaid.made)

-- how a seat comes back that was lent by the berth
abbrev pub IsBackOf : Berth → Loan → Back → Type 0
IsBackOf berth loan (backs.Repaid repaid) = IsRepaid (about_of berth.cell) loan repaid
IsBackOf berth loan (backs.Unused back kept) = (back ≡ loan) × IsKept berth kept

abbrev pub end_of : Result Receipt NotReady → LoanEnd
end_of (Ok receipt) = ends.Made receipt
end_of (Err fault) = ends.Rested fault

-- the seat that was lent, as it comes back with this
pub record IsHome (berth : Berth) (loan : Loan) (seat : Seat FreeMachine View) (end : LoanEnd)
    : Type 0 where
  pub own : seat.table_id ≡ loan.seat.table_id
  pub idle : IsIdle seat.me
  pub parts : seat.me.0.parts ≡ loan.seat.me.0.parts
  pub lends : Lends berth loan.client loan.seat.me.0.known seat.me.0.known end
  pub known : IsKnown seat.me.0.known
