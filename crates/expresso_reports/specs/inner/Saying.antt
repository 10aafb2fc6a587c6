-- What is said of the other file of a command that accepts it or refuses it.
use Rattle.std.specs.Prelude.{ℕ, List}
use Rattle.expresso_answers.specs.declared.status.Status.{Status}
use Rattle.expresso_answers.specs.declared.status.Status.TheVariants as statuses

-- the text of a status, where these accept the file and those refuse it
abbrev pub IsSaid : (List ℕ → Type 0) → (List ℕ → Type 0) → Status → List ℕ → Type 0
IsSaid Accepts Refuses statuses.Done text = Accepts text
IsSaid Accepts Refuses statuses.Refused text = Refuses text
IsSaid Accepts Refuses status text = ⊥
