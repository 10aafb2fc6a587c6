use Rattle.threads_call.proofs.attempt.make_section.Goals as goal

pub returns-clause-made : goal.returns-clause-made
returns-clause-made g c = c.settle.ensures.settled _ c.section-made.ensures.section
