-- What is said of the words of a slice is said of the words of the vector that it is of.
use Rattle.std.proofs.Common.{◌≡◌, ℕ, List, map, sym, subst}
use Rattle.front_command.specs.CommandLine.{Command, Takes, TakesNone}

pub taken_of : {X : Type 0} (text : X → List ℕ) (given words : List X) (command : Command) → given ≡ words → Takes (map text given) command → Takes (map text words) command
taken_of {X = X} text given words command same taken = subst (λ (items : List X). Takes (map text items) command) same taken

pub none_of : {X : Type 0} (text : X → List ℕ) (given words : List X) → given ≡ words → TakesNone (map text given) → TakesNone (map text words)
none_of text given words same none command taken = none command (taken_of text words given command (sym same) taken)
