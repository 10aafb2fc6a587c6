-- What calls that read leave of files, one after the other.
use Rattle.std.proofs.Common.{◌≡◌, ℕ, ◌≤◌, List, refl, ◌∙◌, arith}
use Rattle.std.specs.Prelude.{◌↔◌}
use Rattle.base_io.specs.Outside.{FilesSeen}
use Rattle.expresso_answers.specs.Ending.{KeepsFiles}

-- no call
pub keeps_unread : (files : FilesSeen) (may : List ℕ → Type 0) → KeepsFiles files files may may
keeps_unread files may = record { reads = omega arith; held = λ name. refl; may_read = λ name. (λ may. may, λ may. may) }

-- two calls
pub keeps_both : (files between files_now : FilesSeen) (may may_between may_now : List ℕ → Type 0) → KeepsFiles files between may may_between → KeepsFiles between files_now may_between may_now
    → KeepsFiles files files_now may may_now
keeps_both files between files_now may may_between may_now first second = record {
  reads = omega (arith, first.reads, second.reads);
  held = λ name. second.held name ∙ first.held name;
  may_read = λ name. (λ m. (first.may_read name).0 ((second.may_read name).0 m), λ m. (second.may_read name).1 ((first.may_read name).1 m));
}
