use Rattle.threads_call.proofs.Committing.{answers_on, section_answers}
use Rattle.threads_call.proofs.attempt.settle.Goals as goal

pub returns-in-Some-clause-settled : goal.returns-in-Some-clause-settled
returns-in-Some-clause-settled g c = λ before shared. section_answers _ before _ _ _ c.in-Some.ensures shared

pub returns-in-None-clause-settled : goal.returns-in-None-clause-settled
returns-in-None-clause-settled g c = λ before shared. answers_on _ before _ _ _ (section_answers _ before _ _ _ c.in-None.ensures shared) c.rest.ensures.rested
