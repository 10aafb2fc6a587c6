-- Candidates that have a formula.
use Rattle.std.specs.Prelude.{◌^◌, ◌==◌, Bool, true, not}
use Rattle.lang_base.specs.Numbers.{is_within}
use Rattle.lang_monitor.specs.declared.candidate.Candidate.{Candidate}
use Rattle.lang_monitor.specs.declared.candidate.Candidate.TheVariants.{AtMost, AtLeast}
use Rattle.lang_monitor.specs.declared.candidate.Candidate.TheVariants.{Flag, Below}

-- the magnitude of a bound is at most 2^65, and fields that are compared are different
abbrev pub is_expressible : Candidate → Bool
is_expressible (AtMost field bound) = is_within (2 ^ 65) bound
is_expressible (AtLeast field bound) = is_within (2 ^ 65) bound
is_expressible (Flag field is) = true
is_expressible (Below left right) = not (left == right)
