use Rattle.std.proofs.Common.{◌≡◌, ◌≤◌, All, length}
use Rattle.crossbeam_utils.specs.Padded.{padded_value}
use Rattle.threads_desk.specs.Letters.{about_of}
use Rattle.threads_desk.specs.declared.desk.TheConstants.{CELLS}
use Rattle.threads_desk.proofs.desk.Desk.open.Given as goal

abbrev pub invariant-loop : goal.invariant-loop
invariant-loop g l =
    (length l.cells.items ≡ l.counter)
    × (CELLS ≤ l.cells.cap)
    × (l.about ≡ l.fn.about)
    × All (λ cell. about_of (padded_value cell) ≡ l.fn.about) l.cells.items
