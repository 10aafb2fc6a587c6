-- How many times a place counts in a row, and the places of its variables.
use Rattle.std.proofs.Common.{◌≡◌, ℕ, ◌<◌, ◌∙◌, List, length, get_or, drop, sym, ap}
use Rattle.logic_linear.specs.declared.form.Term.{Term}
use Rattle.logic_linear.specs.Linear.{Linear, IsRising}
use Rattle.logic_linear.specs.Substitution.{times_at}
use Rattle.logic_linear.proofs.CombinedLemmas.{rises}
use Rattle.logic_linear.proofs.RisingLemmas.{found_times}

pub found_in_row : (place : ℕ) (row : Linear) (items : List Term) (i : ℕ) (d : Term) → IsRising row.terms → items ≡ row.terms → i < length items → (get_or items i d).place ≡ place → times_at place (drop i items) ≡ times_at place items
    → (get_or items i d).times ≡ times_at place row.terms
found_in_row place row items i d rising is h e so_far = sym (found_times 0 place items i d (rw is (rises row.terms rising)) h e) ∙ so_far ∙ ap (times_at place) is
