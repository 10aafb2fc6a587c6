use Rattle.logic_wp.proofs.FewerKept.{more_keep_valid, some_contained}
use Rattle.logic_wp.proofs.laws.more_kept_leave_valid.Goals as goal

pub returns-clause-contained : goal.returns-clause-contained
returns-clause-contained c = more_keep_valid

pub returns-clause-some : goal.returns-clause-some
returns-clause-some c = λ monitor claim kept all are. more_keep_valid monitor claim kept all (some_contained kept all are)
