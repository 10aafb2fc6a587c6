-- One more step of a run so far.
use Rattle.std.proofs.Common.{◌≡◌, ◌+◌, List, [], ◌∷◌, ◌++◌, arith}
use Rattle.std.proofs.lemmas.Grind.{common_steps}
use Rattle.machine_implicit.specs.declared.commit.Commit.{Commit}
use Rattle.machine_implicit.specs.Rounds.{first_asked}

pub first_asked_more : (history : List Commit) (commit : Commit) → first_asked (history ++ commit ∷ []) ≡ commit.client + 1
first_asked_more history commit = grind (arith, common_steps)
