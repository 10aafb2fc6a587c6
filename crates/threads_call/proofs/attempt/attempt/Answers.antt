use Rattle.threads_call.proofs.Committing.{attempts_on}
use Rattle.threads_call.proofs.attempt.attempt.Goals as goal

pub returns-in-None-clause-attempts : goal.returns-in-None-clause-attempts
returns-in-None-clause-attempts g c =
    attempts_on c.args.client c.args.caller.now.known c.make_section.new.caller.known c.look.new.caller.known c.look.result c.in-None.ensures.made c.look.ensures.looks
