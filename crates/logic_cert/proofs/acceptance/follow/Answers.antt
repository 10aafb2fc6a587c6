use Rattle.std.proofs.Common.{List, ap, refl, sym, ◌∙◌}
use Rattle.logic_cert.specs.declared.cert.Literal.{Literal}
use Rattle.logic_cert.specs.declared.cert.Cert.{out-Cert}
use Rattle.logic_cert.specs.Refutes.{closes}
use Rattle.logic_cert.proofs.BranchLemmas.{cases_there, chain_there, clash_there, closed_so, replaced_so}
use Rattle.logic_cert.proofs.acceptance.follow.Goals as goal

pub returns-in-Clash-clause-held : goal.returns-in-Clash-clause-held
returns-in-Clash-clause-held c =
    closed_so _ _ c.args.branches.now c.closes.result
    (c.in_ok-gather.ensures.same ∙ clash_there c.gather.new.branch.todo.items c.gather.new.branch.literals.items c.gather.new.branch.cert.now c.in-Clash.left c.in-Clash.right c.in_ok-gather.ensures.paused c.in-Clash.is
    ∙ ap (λ (some : List Literal). closes some (out-Cert c.gather.new.branch.cert.now)) (sym c.deref.ensures.value))
    c.closes.ensures

pub returns-in-Chain-clause-held : goal.returns-in-Chain-clause-held
returns-in-Chain-clause-held c =
    closed_so _ _ c.args.branches.now c.closes-in-Chain.result
    (c.in_ok-gather.ensures.same ∙ chain_there c.gather.new.branch.todo.items c.gather.new.branch.literals.items c.gather.new.branch.cert.now c.in-Chain.field-0 c.in_ok-gather.ensures.paused c.in-Chain.is
    ∙ ap (λ (some : List Literal). closes some (out-Cert c.gather.new.branch.cert.now)) (sym c.deref-in-Chain.ensures.value))
    c.closes-in-Chain.ensures

pub returns-in-Cases-clause-held : goal.returns-in-Cases-clause-held
returns-in-Cases-clause-held c =
    replaced_so _ _ c.args.branches.now c.make_cases.new.branches c.make_cases.result
    (c.in_ok-gather.ensures.same
    ∙ cases_there c.gather.new.branch.todo.items c.gather.new.branch.literals.items c.gather.new.branch.cert.now c.in-Cases.form c.get.result.now c.get-in-Cases.result.now c.in_ok-gather.ensures.paused
    (c.in-Cases.is ∙ rw (c.get.ensures, c.get-in-Cases.ensures) refl))
    c.make_cases.ensures.answer
