use Rattle.std.proofs.Common.{◌+◌, ap, min, sym, ◌∙◌, ℕ}
use Rattle.logic_linear.specs.declared.substitution.Put.{Put}
use Rattle.logic_linear.specs.Measures.{nodes_of, MOST_NODES}
use Rattle.logic_linear.specs.Substitution.{put_in_flag}
use Rattle.logic_linear.proofs.MeasureLemmas.{flag_nodes}
use Rattle.logic_linear.proofs.substitution.nodes_in_flag.Goals as goal

pub returns-then-place-at : goal.returns-then-place-at
returns-then-place-at c =
    c.nodes.ensures ∙ ap (λ (n : ℕ). min n (MOST_NODES + 1)) (flag_nodes c.args.place c.in-Truth.at c.args.is c.in-Truth.by c.if-place-at.true ∙ ap (λ (put : Put). nodes_of (put_in_flag put c.args.place c.args.is)) (sym c.in-Truth.is))
