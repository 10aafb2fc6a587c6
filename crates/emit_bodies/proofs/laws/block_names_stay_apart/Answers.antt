use Rattle.emit_bodies.proofs.BlockNames.{blocks_apart, blocks_stay}
use Rattle.emit_bodies.proofs.laws.block_names_stay_apart.Goals as goal

pub returns-clause-names : goal.returns-clause-names
returns-clause-names c = blocks_apart

pub returns-clause-words : goal.returns-clause-words
returns-clause-words c = blocks_stay
