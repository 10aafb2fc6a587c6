use Rattle.machine_implicit.proofs.Replies.{refused_exactly, earlier_answer_nothing, assertions_try}
use Rattle.machine_implicit.proofs.laws.replies_say.Goals as goal

pub returns-clause-refused : goal.returns-clause-refused
returns-clause-refused c = refused_exactly

pub returns-clause-asserts : goal.returns-clause-asserts
returns-clause-asserts c = assertions_try

pub returns-clause-nothing : goal.returns-clause-nothing
returns-clause-nothing c = earlier_answer_nothing
