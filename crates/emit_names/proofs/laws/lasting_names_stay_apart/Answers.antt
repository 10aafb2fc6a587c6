use Rattle.emit_names.proofs.Lasting.{lasting_apart, lasting_free, lasting_withs_free, lasting_stay}
use Rattle.emit_names.proofs.laws.lasting_names_stay_apart.Goals as goal

pub returns-clause-apart : goal.returns-clause-apart
returns-clause-apart c = lasting_apart

pub returns-clause-free : goal.returns-clause-free
returns-clause-free c = lasting_free

pub returns-clause-withs : goal.returns-clause-withs
returns-clause-withs c = lasting_withs_free

pub returns-clause-words : goal.returns-clause-words
returns-clause-words c = lasting_stay
