use Rattle.std.proofs.Common.{◌≡◌, ℕ, List, [], map, replicate, ap, ◌∙◌, arith}
use Rattle.machine_explicit.proofs.Rounds.{line_in, empty_lines}
use Rattle.machine_explicit.proofs.rings.Rings.open.Goals as goal

pub returns : goal.returns
returns c =
    let all : c.loop-ring._ring ≡ c.args.count = omega (arith, c.loop-ring-test.false, c.loop-ring.auto._ring-end) in
    ap (map line_in) c.loop-ring.invariant ∙ empty_lines c.loop-ring._ring ∙ ap (λ (n : ℕ). replicate {A = List ℕ} n []) all
