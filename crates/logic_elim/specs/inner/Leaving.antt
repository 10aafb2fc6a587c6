-- For private contracts: how a sum is left out of a chain.
use Rattle.std.specs.Prelude.{◌≡◌, ℕ, ◌+◌, ◌-◌, nat_lt, if◌then◌else◌, true, List, ◌∷◌, ◌++◌}
use Rattle.std.specs.Prelude.{length, map, Option}
use Rattle.logic_linear.specs.Linear.{Linear}
use Rattle.logic_cert.specs.declared.cert.Combine.{Combine}
use Rattle.logic_cert.specs.Refutes.{chain_closes, is_nil}
use Rattle.logic_elim.specs.LeanChains.{is_needed, IsLean}

-- A row's number once the row of the first number is left out.
abbrev pub renumbered : ℕ → ℕ → ℕ
renumbered number row = if nat_lt number row then row - 1 else row

-- A sum once the row of the number is left out.
abbrev pub without : ℕ → Combine → Combine
without number combine = record {
  left = renumbered number combine.left;
  left_times = combine.left_times;
  right = renumbered number combine.right;
  right_times = combine.right_times;
}

-- The sum of this number before the later ones, where it is needed, and else those without it.
abbrev pub with_sum : ℕ → Combine → List Combine → List Combine
with_sum number combine later =
    if is_needed number later then (combine ∷ later) else map (without number) later

-- What is kept of a chain closes where the chain does, and is lean.
pub record IsLeanPart (first : ℕ) (combines kept : List Combine) : Type 0 where
  pub same : is_nil combines ≡ is_nil kept
  pub closes : (rows : List (Option Linear)) → length rows ≡ first
      → chain_closes combines rows ≡ true → chain_closes kept rows ≡ true
  pub lean : IsLean first kept

-- So far the last sums of the chain were looked at, and some of them are kept.
pub record IsLeanSoFar (first : ℕ) (combines left kept : List Combine) : Type 0 where
  pub done : List Combine
  pub whole : combines ≡ left ++ done
  pub part : IsLeanPart (first + length left) done kept
