-- How deep a line stands, as a number.
use Rattle.std.specs.Prelude.{ℕ, ◌+◌}
use Rattle.emit_bodies.specs.declared.depth.Depth.{Depth}
use Rattle.emit_bodies.specs.declared.depth.Depth.TheOpen.{Depth-F, Margin, Below}
use Rattle.emit_bodies.specs.declared.depth.Depth.TheFolds.{fold-Depth}

abbrev pub levels_step : Depth-F ℕ → ℕ
levels_step Margin = 0
levels_step (Below above) = above.now + 1

abbrev pub levels : Depth → ℕ
levels = fold-Depth ℕ levels_step
