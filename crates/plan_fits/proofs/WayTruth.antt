-- Some path of a body leads to a number outside 64 bits exactly where the body overflows.
use Rattle.std.proofs.Common.{◌≡◌, Bool, true, not, ◌||◌, List, sym, ap, ◌∙◌}
use Rattle.std.specs.List.{list_all}
use Rattle.lang_base.specs.declared.value.Value.TheVariants as values
use Rattle.logic_linear.specs.Linear.{Linear}
use Rattle.logic_linear.specs.Truth.{Valuation, value_of}
use Rattle.logic_linear.proofs.NegationLemmas.{negation_flips}
use Rattle.lang_monitor.specs.declared.monitor.Stmt.{Stmt}
use Rattle.lang_monitor.specs.MonitorParts.{Places, fits_statement}
use Rattle.lang_monitor.specs.Bodies.{body_effect, fits_64, values_from}
use Rattle.lang_monitor.specs.Changes.{body_change, on_valuations}
use Rattle.logic_wp.specs.declared.step.Step.{Step}
use Rattle.logic_wp.specs.Paths.{body_paths}
use Rattle.logic_wp.proofs.BodyStates.{body_follows}
use Rattle.logic_wp.proofs.PathTruth.{body_leads, some_way, way}
use Rattle.plan_fits.proofs.ReadValues.{memory_at}

abbrev pub is_outside : Valuation → Linear → Bool
is_outside v form = not (fits_64 (values.Int (value_of v form)))

-- a way to a number outside 64 bits, or to what ends it
abbrev pub way_out : (Valuation → Bool) → Valuation → List Step → Bool
way_out end v steps = way true on_valuations end v steps

abbrev pub some_way_out : (Valuation → Bool) → Valuation → List (List Step) → Bool
some_way_out end v paths = some_way true on_valuations end v paths

-- a way leads out of 64 bits, or to the end, exactly where the body overflows, or that is so after
-- it
pub body_ways : (places : Places) (body : List Stmt) → list_all (fits_statement places) body ≡ true → (end : Valuation → Bool) (v : Valuation)
    → some_way_out end v (body_paths body) ≡ ((body_effect (values_from v 16 places.inputs) body).overflows (memory_at places v) || end (body_change body v))
body_ways places body fits end v =
    body_leads true on_valuations (λ formula u. negation_flips u formula) body end v
    ∙ ap (λ (over : Bool). over || end (body_change body v)) (sym (body_follows places v body fits).overflows)
