-- Reasons of which none is undecided.
use Rattle.std.specs.Prelude.{All, List}
use Rattle.plan_why.specs.declared.reason.Answer.{Answer}
use Rattle.plan_why.specs.declared.reason.Answer.TheVariants.{Shown, Undecided}
use Rattle.plan_why.specs.declared.reason.Reason.{Reason}

-- the answer is a valuation
abbrev pub IsShownAnswer : Answer → Type 0
IsShownAnswer (Shown block before after) = Unit {0}
IsShownAnswer Undecided = ⊥

-- each reason answers a valuation: none is undecided
abbrev pub AreShown : List Reason → Type 0
AreShown = All (λ reason. IsShownAnswer reason.answer)
