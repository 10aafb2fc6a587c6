-- The question whether a block may leave 64 bits, as a formula.
use Rattle.std.specs.Prelude.{ℕ, ◌+◌, ◌^◌, pos, neg_ℤ, ◌+ℤ◌, ◌-ℤ◌, Bool, true, false, not, ◌||◌}
use Rattle.std.specs.Prelude.{List, [], ◌∷◌, ◌++◌, map, Option, Some, None, slice_get}
use Rattle.std.specs.Prelude.{if◌then◌else◌}
use Rattle.std.specs.List.{list_all}
use Rattle.lang_base.specs.Limits.{FIRST_INPUT, FIRST_LOCAL}
use Rattle.lang_base.specs.declared.kind.Kind.{Kind}
use Rattle.lang_base.specs.declared.kind.Kind.TheVariants as kinds
use Rattle.logic_linear.specs.Linear.{Linear}
use Rattle.logic_linear.specs.Negation.{negation}
use Rattle.logic_linear.specs.declared.substitution.Put.{Put as Assignment}
use Rattle.logic_linear.specs.declared.substitution.Put.TheVariants.{Number, Truth}
use Rattle.logic_linear.specs.declared.formula.Formula.{Formula}
use Rattle.logic_linear.specs.declared.formula.Formula.TheVariants as formulas
use Rattle.lang_monitor.specs.declared.candidate.Candidate.{Candidate}
use Rattle.lang_monitor.specs.declared.candidate.Candidate.TheVariants as candidates
use Rattle.lang_monitor.specs.declared.monitor.Block.{Block}
use Rattle.lang_monitor.specs.declared.monitor.Ret.{Ret}
use Rattle.lang_monitor.specs.declared.monitor.Ret.TheVariants as rets
use Rattle.lang_monitor.specs.declared.monitor.Stmt.{Stmt}
use Rattle.lang_monitor.specs.MonitorParts.{MonitorParts, Places}
use Rattle.lang_monitor.specs.Queries.{hypotheses}
use Rattle.lang_monitor.specs.Statements.{every_part}
use Rattle.lang_monitor.specs.Triples.{places_of}
use Rattle.machine_events.specs.CountClaims.{more_by}
use Rattle.logic_wp.specs.declared.step.Step.{Step}
use Rattle.logic_wp.specs.declared.step.Step.TheVariants.{Put, Assume}
use Rattle.logic_wp.specs.Paths.{body_paths}
use Rattle.logic_wp.specs.NegatedQueries.{part_before, query_of_parts}

-- ---- numbers outside 64 bits

-- the form is not below 2^63, or is below -2^63
abbrev pub outside_64 : Linear → Formula
outside_64 form =
    formulas.Any (negation (formulas.Row (more_by (pos 1 -ℤ pos (2 ^ 63)) form))
    ∷ formulas.Row (more_by (pos 1 +ℤ pos (2 ^ 63)) form) ∷ [])

-- the answer is a number outside 64 bits
abbrev pub answers_outside : Ret → Formula
answers_outside rets.Nothing = formulas.Any []
answers_outside (rets.Int form) = outside_64 form
answers_outside (rets.Bool formula) = formulas.Any []

-- the step assigns such a number, or later one comes
abbrev pub assigns_outside : Step → Formula → Formula
assigns_outside (Put (Number place form)) later = formulas.Any (outside_64 form ∷ later ∷ [])
assigns_outside (Put (Truth place is)) later = later
assigns_outside (Assume formula) later = later

-- the path is taken as far as to such a number, which it assigns or answers at its end
abbrev pub path_outside : Ret → List Step → Formula
path_outside result [] = answers_outside result
path_outside result (step ∷ steps) =
    assigns_outside step (part_before step (path_outside result steps))

-- ---- where a block runs

-- that the numbers at places are within 64 bits: those of these kinds, the first at this place
abbrev pub bounds_at : ℕ → Kind → List Candidate
bounds_at place kinds.Int =
    candidates.AtMost place (pos (2 ^ 63) -ℤ pos 1)
    ∷ candidates.AtLeast place (neg_ℤ (pos (2 ^ 63))) ∷ []
bounds_at place kinds.Bool = []

abbrev pub bounds_from : ℕ → List Kind → List Candidate
bounds_from place [] = []
bounds_from place (kind ∷ more) = bounds_at place kind ++ bounds_from (place + 1) more

-- each field, argument and local of a block
abbrev pub bounds_of : Places → List Candidate
bounds_of places =
    bounds_from 0 places.fields
    ++ (bounds_from FIRST_INPUT places.inputs ++ bounds_from FIRST_LOCAL places.locals)

-- ---- the question

-- an int is assigned
abbrev pub is_number : Assignment → Bool
is_number (Number place form) = true
is_number (Truth place is) = false

-- no assignment of the statement is one of an int
abbrev pub is_numberless : Stmt → Bool
is_numberless = every_part (λ put. not (is_number put)) (λ when. true)

abbrev pub answers_number : Ret → Bool
answers_number rets.Nothing = false
answers_number (rets.Int form) = true
answers_number (rets.Bool formula) = false

-- some int is assigned or answered
abbrev pub has_numbers : Block → Bool
has_numbers block = not (list_all is_numberless block.body) || answers_number block.result

-- that the block may run, and all numbers are within 64 bits
abbrev pub hyps_of : MonitorParts → List Candidate → Block → List Formula
hyps_of monitor kept block =
    hypotheses (kept ++ bounds_of (places_of monitor block)) (block.guard ∷ [])

-- The kept candidates, the bounds of 64 bits and the guard are true, and some path is taken to a
-- number outside 64 bits. Of a block without numbers it is true nowhere.
abbrev pub block_question : MonitorParts → List Candidate → Block → Formula
block_question monitor kept block =
    if has_numbers block
    then query_of_parts (hyps_of monitor kept block)
    (map (path_outside block.result) (body_paths block.body))
    else formulas.Any []

abbrev pub question_in : MonitorParts → List Candidate → Option Block → Formula
question_in monitor kept None = formulas.Any []
question_in monitor kept (Some block) = block_question monitor kept block

-- the question of the block of this number
abbrev pub outside_question : MonitorParts → List Candidate → ℕ → Formula
outside_question monitor kept number = question_in monitor kept (slice_get monitor.blocks number)
