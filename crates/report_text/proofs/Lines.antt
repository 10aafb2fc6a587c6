-- Lines of texts of plans and logs.
use Rattle.std.proofs.Common.{ℕ, Bool, true, false, cond, nat_le, [], ◌++◌, codes, refl, decimal}
use Rattle.machine_events.specs.PlanText.{block_mark}
use Rattle.lang_base.proofs.Lines.{HasNoLineFeed, both_in_line, decimal_in_line}

-- the number of a block, where it has one
pub block_mark_in_line : (count number : ℕ) → HasNoLineFeed (block_mark count number)
block_mark_in_line count number = by_test (nat_le count 1)
  where
    by_test : (test : Bool) → HasNoLineFeed (cond test [] (codes "." ++ decimal number))
    by_test true = refl
    by_test false = both_in_line (codes ".") (decimal number) refl (decimal_in_line number)
