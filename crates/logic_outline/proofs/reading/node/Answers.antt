use Rattle.logic_outline.proofs.reading.node.Goals as goal

pub returns-in-Some : goal.returns-in-Some
returns-in-Some c = c.split_node.ensures c.in-Some.rest.now c.args.bytes.now c.in-Some.ensures c.count.ensures

pub returns-in-Some-after : goal.returns-in-Some-after
returns-in-Some-after c = c.clash_node.ensures c.in-Some-after.rest.now c.args.bytes.now c.in-Some-after.ensures c.clash.ensures

pub returns-in-Some-after-2 : goal.returns-in-Some-after-2
returns-in-Some-after-2 c = c.sides_node.ensures c.in-Some-after-2.rest.now c.args.bytes.now c.in-Some-after-2.ensures c.in_ok-sides.ensures

pub returns-in_ok-chain-in-Some-after-3 : goal.returns-in_ok-chain-in-Some-after-3
returns-in_ok-chain-in-Some-after-3 c = c.chain_node.ensures c.in-Some-after-3.rest.now c.args.bytes.now c.in-Some-after-3.ensures c.in_ok-chain-in-Some-after-3.ensures
