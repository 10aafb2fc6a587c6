use Rattle.logic_cert.proofs.BranchLemmas.{both_sizes}
use Rattle.logic_cert.proofs.acceptance.make_cases.Goals as goal

pub returns-clause-size : goal.returns-clause-size
returns-clause-size c =
    λ made. both_sizes c.args.branches.now.items c.push.new.self.items c.push-2.new.self.items c.in_ok-side_of.field-0 c.in_ok-side_of-2.field-0 c.args.below.now c.args.above.now
    c.in_ok-push.ensures.items c.in_ok-push-2.ensures.items c.in_ok-side_of.ensures.cert c.in_ok-side_of-2.ensures.cert
