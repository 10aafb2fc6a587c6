use Rattle.emit_names.proofs.Withs.{withs_apart, withs_free, try_withs_free, withs_stay}
use Rattle.emit_names.proofs.laws.with_names_stay_apart.Goals as goal

pub returns-clause-withs : goal.returns-clause-withs
returns-clause-withs c = withs_apart

pub returns-clause-free : goal.returns-clause-free
returns-clause-free c = withs_free

pub returns-clause-tries : goal.returns-clause-tries
returns-clause-tries c = try_withs_free

pub returns-clause-words : goal.returns-clause-words
returns-clause-words c = withs_stay
