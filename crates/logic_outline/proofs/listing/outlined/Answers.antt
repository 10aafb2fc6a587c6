use Rattle.std.proofs.Common.{refl, rules, ◌∙◌}
use Rattle.logic_outline.specs.Outlines.{outline_of}
use Rattle.logic_outline.proofs.ListLemmas.{all_done, cases_turn, chain_turn, clash_turn, split_turn}
use Rattle.logic_outline.proofs.OutlineForms.{same_back, whole_back}
use Rattle.logic_outline.proofs.listing.outlined.Goals as goal

pub loop-cert-smaller-in-Continue-branch-3 : goal.loop-cert-smaller-in-Continue-branch-3
loop-cert-smaller-in-Continue-branch-3 c =
    (split_turn c.loop-cert.nodes.items c.push-in-Split.new.self.items (outline_of c.args.cert) c.loop-cert.todo.items c.pop.new.self.items c.put_first.new.todo.items c.in-Some.cert c.in-Split.certs c.items.result.now c.in-Split.certs
    c.in-Some.ensures.items c.in-Split.is c.items.ensures refl c.in_ok-push-in-Split.ensures.items c.in_ok-put_first-in-Split.ensures).less

pub loop-cert-preserved-in-Continue-branch-3 : goal.loop-cert-preserved-in-Continue-branch-3
loop-cert-preserved-in-Continue-branch-3 c =
    (split_turn c.loop-cert.nodes.items c.push-in-Split.new.self.items (outline_of c.args.cert) c.loop-cert.todo.items c.pop.new.self.items c.put_first.new.todo.items c.in-Some.cert c.in-Split.certs c.items.result.now c.in-Split.certs
    c.in-Some.ensures.items c.in-Split.is c.items.ensures refl c.in_ok-push-in-Split.ensures.items c.in_ok-put_first-in-Split.ensures).goes c.loop-cert.invariant

pub loop-cert-smaller-in-Continue-branch-4 : goal.loop-cert-smaller-in-Continue-branch-4
loop-cert-smaller-in-Continue-branch-4 c =
    (clash_turn c.loop-cert.nodes.items c.push-in-Clash.new.self.items (outline_of c.args.cert) c.loop-cert.todo.items c.pop.new.self.items c.in-Some.cert c.in-Clash.left c.in-Clash.right c.in-Some.ensures.items c.in-Clash.is c.in_ok-push-in-Clash.ensures.items).less

pub loop-cert-preserved-in-Continue-branch-4 : goal.loop-cert-preserved-in-Continue-branch-4
loop-cert-preserved-in-Continue-branch-4 c =
    (clash_turn c.loop-cert.nodes.items c.push-in-Clash.new.self.items (outline_of c.args.cert) c.loop-cert.todo.items c.pop.new.self.items c.in-Some.cert c.in-Clash.left c.in-Clash.right c.in-Some.ensures.items c.in-Clash.is c.in_ok-push-in-Clash.ensures.items).goes
    c.loop-cert.invariant

pub loop-cert-smaller-in-Continue-branch-5 : goal.loop-cert-smaller-in-Continue-branch-5
loop-cert-smaller-in-Continue-branch-5 c =
    (chain_turn c.loop-cert.nodes.items c.push-in-Chain.new.self.items (outline_of c.args.cert) c.loop-cert.todo.items c.pop.new.self.items c.in-Some.cert c.in-Chain.combines c.in-Some.ensures.items c.in-Chain.is c.in_ok-push-in-Chain.ensures.items).less

pub loop-cert-preserved-in-Continue-branch-5 : goal.loop-cert-preserved-in-Continue-branch-5
loop-cert-preserved-in-Continue-branch-5 c =
    (chain_turn c.loop-cert.nodes.items c.push-in-Chain.new.self.items (outline_of c.args.cert) c.loop-cert.todo.items c.pop.new.self.items c.in-Some.cert c.in-Chain.combines c.in-Some.ensures.items c.in-Chain.is c.in_ok-push-in-Chain.ensures.items).goes
    c.loop-cert.invariant

pub loop-cert-smaller : goal.loop-cert-smaller
loop-cert-smaller c =
    (cases_turn c.loop-cert.nodes.items c.push-in-Cases.new.self.items (outline_of c.args.cert) c.loop-cert.todo.items c.pop.new.self.items c.push-in-Cases-2.new.self.items c.push-in-Cases-3.new.self.items c.in-Some.cert c.in-Cases.form c.in-Cases.below c.in-Cases.above
    c.into_inner-in-Cases.result c.into_inner.result c.in-Some.ensures.items c.in-Cases.is c.into_inner-in-Cases.ensures c.into_inner.ensures c.in_ok-push-in-Cases.ensures.items c.in_ok-push-in-Cases-2.ensures.items c.in_ok-push-in-Cases-3.ensures.items).less

pub loop-cert-preserved : goal.loop-cert-preserved
loop-cert-preserved c =
    (cases_turn c.loop-cert.nodes.items c.push-in-Cases.new.self.items (outline_of c.args.cert) c.loop-cert.todo.items c.pop.new.self.items c.push-in-Cases-2.new.self.items c.push-in-Cases-3.new.self.items c.in-Some.cert c.in-Cases.form c.in-Cases.below c.in-Cases.above
    c.into_inner-in-Cases.result c.into_inner.result c.in-Some.ensures.items c.in-Cases.is c.into_inner-in-Cases.ensures c.into_inner.ensures c.in_ok-push-in-Cases.ensures.items c.in_ok-push-in-Cases-2.ensures.items c.in_ok-push-in-Cases-3.ensures.items).goes c.loop-cert.invariant

pub of-requires : goal.of-requires
of-requires c = whole_back c.args.cert c.loop-cert.nodes.items (all_done c.args.cert c.loop-cert.todo.items c.loop-cert.nodes.items (search rules) c.loop-cert.invariant)

pub returns : goal.returns
returns c = c.of.ensures ∙ same_back c.args.cert c.loop-cert.nodes.items (all_done c.args.cert c.loop-cert.todo.items c.loop-cert.nodes.items (search rules) c.loop-cert.invariant)
