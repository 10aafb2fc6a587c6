use Rattle.base_io.proofs.Writing.{wrote_both, wrote_fails, wrote_longer}
use Rattle.front_hint.specs.Shown.{hint_if}
use Rattle.front_source.proofs.source.write_chosen.Goals as goal

pub returns-in_err-write_caret : goal.returns-in_err-write_caret
returns-in_err-write_caret g c =
    wrote_fails _ c.from_residual.ensures.0 (wrote_longer (hint_if c.args.hint) c.in_err-write_caret.ensures)

pub returns : goal.returns
returns g c = wrote_both c.in_ok-write_caret.ensures c.write_hint_if.ensures
