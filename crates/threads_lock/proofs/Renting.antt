-- Passes that are lent by berths.
use Rattle.std.proofs.Common.{◌≡◌, ℕ, ◌<◌, Result, Ok, Err, length, refl, sym, ap, ◌∙◌, subst}
use Rattle.atomic_table.specs.declared.shared.Seat.{Seat}
use Rattle.machine_explicit.specs.declared.section.NotReady.{NotReady}
use Rattle.machine_explicit.specs.Sections.{FreeMachine}
use Rattle.threads_desk.specs.Letters.{about_of}
use Rattle.threads_lock.specs.declared.loan.Back.{Back}
use Rattle.threads_lock.specs.declared.loan.Berth.{Berth}
use Rattle.threads_lock.specs.declared.loan.Kept.{Kept}
use Rattle.threads_lock.specs.declared.loan.Loan.{Loan}
use Rattle.threads_lock.specs.declared.loan.LoanEnd.{LoanEnd}
use Rattle.threads_lock.specs.declared.loan.LoanEnd.TheVariants as ends
use Rattle.threads_lock.specs.declared.loan.Repaid.{Repaid}
use Rattle.threads_lock.specs.declared.receipt.Receipt.{Receipt}
use Rattle.threads_lock.specs.declared.view.Knowledge.{Knowledge}
use Rattle.threads_lock.specs.declared.view.View.{View}
use Rattle.threads_lock.specs.Loans.{IsKept, Lends}
use Rattle.threads_lock.specs.Passes.{IsKnown, SectionsShared}
use Rattle.threads_lock.specs.inner.Queueing.{IsIdle}
use Rattle.threads_lock.specs.inner.Renting.{IsBackOf, IsHome, IsLoan, IsRepaid, MayVisit, end_of}

lends_made : (berth : Berth) (client : ℕ) (before after : Knowledge) (made : Result Receipt NotReady) → SectionsShared client before after made → Lends berth client before after (end_of made)
lends_made berth client before after (Ok told) is = is
lends_made berth client before after (Err fault) is = is

-- a seat comes back with a section
pub repaid_home : (berth : Berth) (loan : Loan) (repaid : Repaid) (end : LoanEnd) → end ≡ end_of repaid.made → IsRepaid (about_of berth.cell) loan repaid → IsHome berth loan repaid.seat end
repaid_home berth loan repaid end is back = record {
  own = back.own;
  idle = back.made.idle;
  parts = back.made.parts;
  lends = subst (Lends berth loan.client loan.seat.me.0.known repaid.seat.me.0.known) (sym is) (lends_made berth loan.client loan.seat.me.0.known repaid.seat.me.0.known repaid.made back.made.told);
  known = back.made.known;
}

-- it comes back as it was
pub unused_home : (berth : Berth) (loan back : Loan) (kept : Kept) → MayVisit loan → back ≡ loan → IsKept berth kept → IsHome berth loan back.seat (ends.Kept kept)
unused_home berth loan back kept may same why = subst (λ (b : Loan). IsHome berth loan b.seat (ends.Kept kept)) (sym same) record {
  own = refl;
  idle = may.idle;
  parts = refl;
  lends = (refl, why);
  known = may.known;
}

-- a seat that may be lent
pub may_visit : (own seat : Seat FreeMachine View) (client : ℕ) → own ≡ seat → IsIdle seat.me → 0 < seat.me.0.parts → IsKnown seat.me.0.known → client < length seat.me.0.known.front.system.clients
    → MayVisit (record { seat = own; client = client })
may_visit own seat client same idle live known client_is = subst (λ s. MayVisit (record { seat = s; client = client })) (sym same) record { idle = idle; live = live; known = known; client_is = client_is }

pub may_lend : (lock own seat : Seat FreeMachine View) (client : ℕ) → own ≡ seat → seat.table_id ≡ lock.table_id → IsIdle seat.me → 0 < seat.me.0.parts → IsKnown seat.me.0.known
    → client < length seat.me.0.known.front.system.clients → IsLoan lock (record { seat = own; client = client })
may_lend lock own seat client same here idle live known client_is = record {
  own = ap (λ (s : Seat FreeMachine View). s.table_id) same ∙ here;
  may = may_visit own seat client same idle live known client_is;
}

-- it comes back
pub lent_home : (berth : Berth) (own seat home : Seat FreeMachine View) (client : ℕ) (back : Back) (end : LoanEnd) → own ≡ seat → IsIdle seat.me → 0 < seat.me.0.parts → IsKnown seat.me.0.known
    → client < length seat.me.0.known.front.system.clients → ((b : Berth) (loan : Loan) → MayVisit loan → IsBackOf b loan back → IsHome b loan home end)
    → IsBackOf berth (record { seat = own; client = client }) back → IsHome berth (record { seat = seat; client = client }) home end
lent_home berth own seat home client back end same idle live known client_is homes is =
    subst (λ s. IsHome berth (record { seat = s; client = client }) home end) same
    (homes berth (record { seat = own; client = client }) (may_visit own seat client same idle live known client_is) is)
