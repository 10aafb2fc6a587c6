use Rattle.logic_cert.proofs.DecidingLemmas.{exact_answer}
use Rattle.logic_cert.proofs.SoundnessLemmas.{sound_answer}
use Rattle.logic_cert.proofs.acceptance.accepts.Goals as goal

pub returns-clause-exact : goal.returns-clause-exact
returns-clause-exact c = exact_answer c.args.formula.now c.args.cert.now c.follow_all.result c.follow_all.ensures

pub returns-clause-sound : goal.returns-clause-sound
returns-clause-sound c = sound_answer c.args.formula.now c.args.cert.now c.follow_all.result c.follow_all.ensures
