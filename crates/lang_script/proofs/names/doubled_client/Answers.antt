use Rattle.std.proofs.Common.{arith, rules, ◌∙◌}
use Rattle.lang_base.proofs.Names.{again_at}
use Rattle.lang_tree.specs.declared.tree.ClientTree.{ClientTree}
use Rattle.lang_script.proofs.Doubled.{again_among, doubled_all, doubled_more}
use Rattle.lang_script.proofs.names.doubled_client.Goals as goal

pub loop-i-preserved : goal.loop-i-preserved
loop-i-preserved c =
    let clients = c.args.clients.now in
    let client = c.index-clients-i.result in
    let again = c.is_repeated-again.result in
    let among = again_among clients c.loop-i.i client again (again_at (λ (one : ClientTree). one.name) clients c.loop-i.i client again (search rules) c.index-clients-i.is c.is_repeated-again.ensures) in
    c.earlier_of-fault.ensures ∙ doubled_more clients c.loop-i.i client again _ _ (search rules) c.index-clients-i.is c.loop-i.invariant among c.doubled_at.ensures

pub returns : goal.returns
returns c = doubled_all c.args.clients.now c.loop-i.i _ (omega arith) c.loop-i.invariant
