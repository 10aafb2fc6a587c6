use Rattle.logic_wp.proofs.WaitingGuards.{moves, guard_made, guard_negates, guard_negates_twice}
use Rattle.logic_wp.proofs.waiting.waiting_guard.Goals as goal

pub for_waiting-requires : goal.for_waiting-requires
for_waiting-requires c =
    moves c.args.monitor.now c.args.condition c.conditions.result.now c.index-conditions-condition.result c.conditions.ensures.rule c.conditions.ensures.conditions c.requires.first c.requires.last

pub returns-clause-guard : goal.returns-clause-guard
returns-clause-guard c =
    guard_made c.args.monitor.now c.args.condition c.conditions.result.now c.index-conditions-condition.result c.for_waiting.result c.conditions.ensures.conditions c.requires.first c.requires.last c.for_waiting.ensures

pub returns-clause-once : goal.returns-clause-once
returns-clause-once c =
    guard_negates c.args.monitor.now c.args.condition c.conditions.result.now c.index-conditions-condition.result c.for_waiting.result c.conditions.ensures.rule c.conditions.ensures.conditions c.requires.first c.requires.last c.for_waiting.ensures

pub returns-clause-twice : goal.returns-clause-twice
returns-clause-twice c =
    guard_negates_twice c.args.monitor.now c.args.condition c.conditions.result.now c.index-conditions-condition.result c.for_waiting.result c.conditions.ensures.rule c.conditions.ensures.conditions c.requires.first c.requires.last c.for_waiting.ensures
