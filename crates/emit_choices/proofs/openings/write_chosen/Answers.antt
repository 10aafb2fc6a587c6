use Rattle.emit_choices.specs.Openings.{chosen_new}
use Rattle.base_io.proofs.Writing.{wrote_both, wrote_fails, wrote_longer}
use Rattle.emit_choices.proofs.openings.write_chosen.Goals as goal

pub returns-in_err-write_admits : goal.returns-in_err-write_admits
returns-in_err-write_admits g c = wrote_fails _ c.from_residual.ensures.0 (wrote_longer (chosen_new c.args.text.now c.args.tree.now) c.in_err-write_admits.ensures)

pub returns : goal.returns
returns g c = wrote_both c.in_ok-write_admits.ensures c.write_chosen_new.ensures
