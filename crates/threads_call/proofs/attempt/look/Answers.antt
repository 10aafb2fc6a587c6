use Rattle.threads_call.proofs.Committing.{attempts_on, look_answers, look_waited}
use Rattle.threads_call.proofs.attempt.look.Goals as goal

pub returns-in-Some-clause-looks : goal.returns-in-Some-clause-looks
returns-in-Some-clause-looks g c =
    let s = c.standing-standing.ensures in look_answers _ _ _ _ _ _ c.in-Some.ensures s.looks s.standing c.seen.ensures.seen

pub returns-in-None-clause-looks : goal.returns-in-None-clause-looks
returns-in-None-clause-looks g c = attempts_on _ _ _ _ _ (look_waited _ _ _ c.standing-standing.ensures.looks) c.rest_on.ensures.rested
