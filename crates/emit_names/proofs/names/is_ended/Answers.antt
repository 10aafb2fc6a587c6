use Rattle.emit_names.proofs.Reading.{no_end}
use Rattle.emit_names.proofs.names.is_ended.Goals as goal

pub returns-in-len1-up : goal.returns-in-len1-up
returns-in-len1-up c = no_end c.args.word.now c.in-len1-up.len_at_least
