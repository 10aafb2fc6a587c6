-- How deep a line stands, and its blanks.
use Rattle.std.proofs.Common.{◌≡◌, ℕ, ◌+◌, ◌*◌, suc, ◌++◌, ◌∙◌, codes, replicate, ap, sym, arith, Bor}
use Rattle.lang_printer.specs.declared.printer.depth.Depth.{Depth}
use Rattle.lang_printer.specs.declared.printer.depth.Depth.TheVariants.{Margin, Below, rolls-Margin, rolls-Below}
use Rattle.lang_printer.specs.declared.printer.depth.Depth.TheOpen as layers
use Rattle.lang_printer.specs.declared.printer.depth.Depth.TheFolds.{fold-roll-Depth}
use Rattle.lang_printer.specs.Canonical.{indent}
use Rattle.lang_printer.specs.Depths.{levels, levels_step}

pub levels-Margin : levels Margin ≡ 0
levels-Margin = ap levels (sym rolls-Margin) ∙ fold-roll-Depth ℕ levels_step layers.Margin

pub levels-Below : (above : Bor Depth) → levels (Below above) ≡ levels above.now + 1
levels-Below above = ap levels (sym (rolls-Below above)) ∙ fold-roll-Depth ℕ levels_step (layers.Below above)

indent-more : (depth : ℕ) → codes "  " ++ indent depth ≡ indent (depth + 1)
indent-more depth =
    let twice : 2 * (depth + 1) ≡ suc (suc (2 * depth)) = omega arith in
    sym (ap (λ n. replicate n 32) twice)

pub indent-Margin : (depth : Depth) → depth ≡ Margin → indent 0 ≡ indent (levels depth)
indent-Margin depth is = ap indent (sym levels-Margin) ∙ ap (λ d. indent (levels d)) (sym is)

pub indent-Below : (depth : Depth) (above : Bor Depth) → depth ≡ Below above → codes "  " ++ indent (levels above.now) ≡ indent (levels depth)
indent-Below depth above is = indent-more (levels above.now) ∙ ap indent (sym (levels-Below above)) ∙ ap (λ d. indent (levels d)) (sym is)

-- one level below the margin
pub levels-inner : (above : Bor Depth) → above.now ≡ Margin → levels (Below above) ≡ 1
levels-inner above is = levels-Below above ∙ ap (λ d. levels d + 1) is ∙ ap (λ n. n + 1) levels-Margin

-- and two
pub levels-second : (above outer : Bor Depth) → above.now ≡ Below outer → outer.now ≡ Margin → levels (Below above) ≡ 2
levels-second above outer is margin = levels-Below above ∙ ap (λ d. levels d + 1) is ∙ ap (λ n. n + 1) (levels-inner outer margin)
