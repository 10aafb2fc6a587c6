use Rattle.std.proofs.Common.{rules}
use Rattle.logic_elim.specs.Chains.{state_of}
use Rattle.logic_solve.proofs.KeptLemmas.{begins_light, light_finds, light_leaves, none_found, not_light, told_light, too_many_light}
use Rattle.logic_solve.proofs.LiteralLemmas.{chain_found}
use Rattle.logic_solve.proofs.closing.general_chain.Goals as goal

pub returns-then-len-gt-MOST_ROWS-clause-finds : goal.returns-then-len-gt-MOST_ROWS-clause-finds
returns-then-len-gt-MOST_ROWS-clause-finds c = none_found c.args.literals.now c.requires.general

pub returns-then-len-gt-MOST_ROWS-clause-light : goal.returns-then-len-gt-MOST_ROWS-clause-light
returns-then-len-gt-MOST_ROWS-clause-light c = too_many_light c.args.literals.now c.in_ok-kept.kept c.in_ok-kept.ensures (search rules)

pub returns-then-not-branch-clause-finds : goal.returns-then-not-branch-clause-finds
returns-then-not-branch-clause-finds c = none_found c.args.literals.now c.requires.general

pub returns-clause-finds : goal.returns-clause-finds
returns-clause-finds c =
    chain_found c.args.literals.now c.in_ok-kept.kept c.new.result.items c.first_sum.result (state_of c.eliminate_all.new.left)
    c.new.ensures.items c.first_sum.ensures c.in_ok-kept.ensures (rw c.if-not-branch.false at c.in_ok-eliminate_all.ensures)

pub light_chain-requires : goal.light_chain-requires
light_chain-requires c =
    begins_light c.args.literals.now c.in_ok-kept.kept c.new.result.items c.first_sum.result c.in_ok-kept.ensures c.requires.sane
    (told_light c.in_ok-kept.kept c.in_ok-is_light.field-0 c.if-branch.true c.in_ok-is_light.ensures) c.requires.size c.first_sum.ensures

pub returns-then-branch-clause-finds : goal.returns-then-branch-clause-finds
returns-then-branch-clause-finds c =
    light_finds c.args.literals.now c.in_ok-kept.kept c.new.result.items c.first_sum.result c.in_ok-light_chain.field-0 c.in_ok-kept.ensures c.new.ensures.items c.first_sum.ensures
    c.requires.general c.in_ok-light_chain.ensures

pub returns-then-branch-clause-light : goal.returns-then-branch-clause-light
returns-then-branch-clause-light c =
    light_leaves c.args.literals.now c.in_ok-kept.kept c.new.result.items c.first_sum.result c.in_ok-light_chain.field-0 c.in_ok-kept.ensures c.in_ok-light_chain.ensures

pub returns-then-not-branch-clause-light : goal.returns-then-not-branch-clause-light
returns-then-not-branch-clause-light c =
    not_light c.args.literals.now c.in_ok-kept.kept c.in_ok-is_light.field-0 c.in_ok-kept.ensures c.if-branch.false c.in_ok-is_light.ensures
