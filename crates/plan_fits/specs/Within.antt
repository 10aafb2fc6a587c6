-- The limits within which the question is made.
use Rattle.std.specs.Prelude.{ℕ, ◌^◌, Bool, true, not, ◌&&◌, ◌||◌, List, [], ◌∷◌, Option, Some}
use Rattle.std.specs.Prelude.{None, slice_get}
use Rattle.std.specs.List.{list_all}
use Rattle.lang_base.specs.Numbers.{is_within}
use Rattle.logic_linear.specs.Linear.{Linear}
use Rattle.logic_linear.specs.Negation.{can_negate_term}
use Rattle.logic_linear.specs.Substitution.{is_formula_within, substituted}
use Rattle.logic_linear.specs.declared.substitution.Put.TheVariants.{Number, Truth}
use Rattle.logic_linear.specs.declared.formula.Formula.{Formula}
use Rattle.lang_monitor.specs.declared.candidate.Candidate.{Candidate}
use Rattle.lang_monitor.specs.declared.monitor.Block.{Block}
use Rattle.lang_monitor.specs.declared.monitor.Ret.{Ret}
use Rattle.lang_monitor.specs.declared.monitor.Ret.TheVariants as rets
use Rattle.lang_monitor.specs.MonitorParts.{MonitorParts}
use Rattle.logic_wp.specs.declared.step.Step.{Step}
use Rattle.logic_wp.specs.declared.step.Step.TheVariants.{Put, Assume}
use Rattle.logic_wp.specs.Limits.{has_few_nodes, has_few_paths}
use Rattle.logic_wp.specs.Paths.{body_paths}
use Rattle.logic_wp.specs.PlainClaims.{has_few_cubes}
use Rattle.plan_fits.specs.Outside.{block_question, has_numbers, outside_question, path_outside}

-- 2^63 may be added to the form and taken from it, and the row turned, within 96 bits
abbrev pub has_room : Linear → Bool
has_room form = list_all can_negate_term form.terms && is_within (2 ^ 94) form.constant

abbrev pub has_room_at_end : Ret → Bool
has_room_at_end rets.Nothing = true
has_room_at_end (rets.Int form) = has_room form
has_room_at_end (rets.Bool formula) = true

-- what comes later keeps the limits where the step is put into it
abbrev pub is_step_within : Step → Formula → Bool
is_step_within (Put (Number place form)) later =
    has_room form && is_formula_within (substituted (Number place form) later)
is_step_within (Put (Truth place is)) later = is_formula_within (substituted (Truth place is) later)
is_step_within (Assume formula) later = true

-- each step of a path
abbrev pub is_way_within : Ret → List Step → Bool
is_way_within result [] = has_room_at_end result
is_way_within result (step ∷ steps) =
    is_way_within result steps && is_step_within step (path_outside result steps)

-- the paths are few, each keeps the limits, and the question has no more than the most nodes
abbrev pub is_block_within : MonitorParts → List Candidate → Block → Bool
is_block_within monitor kept block =
    not (has_numbers block)
    || (has_few_paths (body_paths block.body)
    && (list_all (is_way_within block.result) (body_paths block.body)
    && has_few_nodes (block_question monitor kept block)))

abbrev pub is_made_in : MonitorParts → List Candidate → Option Block → Bool
is_made_in monitor kept None = true
is_made_in monitor kept (Some block) = is_block_within monitor kept block

-- whether the question of the block of this number is made within the limits
abbrev pub is_made_within : MonitorParts → List Candidate → ℕ → Bool
is_made_within monitor kept number = is_made_in monitor kept (slice_get monitor.blocks number)

-- to a formula of few cubes, too
abbrev pub is_asked_within : MonitorParts → List Candidate → ℕ → Bool
is_asked_within monitor kept number =
    is_made_within monitor kept number && has_few_cubes (outside_question monitor kept number)
