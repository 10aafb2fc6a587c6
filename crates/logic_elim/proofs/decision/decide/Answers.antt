use Rattle.std.specs.Prelude.{length, map, Some}
use Rattle.std.proofs.Common.{◌∙◌, ap}
use Rattle.logic_cert.specs.Refutes.{chain_closes}
use Rattle.logic_elim.proofs.Beginning.{none_exactly, stands}
use Rattle.logic_elim.proofs.LeanLemmas.{closes_leanly, one_is_lean, same_lean}
use Rattle.logic_elim.proofs.decision.decide.Goals as goal

pub returns-in-Some-clause-lean : goal.returns-in-Some-clause-lean
returns-in-Some-clause-lean c = one_is_lean (length c.args.rows.now) _ c.in_ok-from_array.field-0.items c.in_ok-from_array.ensures.items

pub returns-in-Some-clause-none : goal.returns-in-Some-clause-none
returns-in-Some-clause-none c =
    none_exactly c.in_ok-from_array.field-0 c.args.rows.now (ap (λ combines. chain_closes combines (map Some c.args.rows.now)) c.in_ok-from_array.ensures.items ∙ c.in-Some.ensures)

pub returns-clause-chain : goal.returns-clause-chain
returns-clause-chain c =
    closes_leanly c.args.rows.now c.first_sum-2.result c.eliminate_light.new.left.combines.items c.in_ok-lean_chain.field-0.items c.first_sum-2.ensures c.in_ok-lean_chain.ensures.closes
    ((rw c.if-not-branch.false at c.in_ok-eliminate_light.ensures) (map Some c.args.rows.now)
    (stands c.args.rows.now c.in_ok-numbered_rows.field-0 c.new.result.items c.first_sum.result c.in_ok-numbered_rows.ensures c.new.ensures.items c.first_sum.ensures))

pub returns-clause-lean : goal.returns-clause-lean
returns-clause-lean c = same_lean c.first_sum-2.result (length c.args.rows.now) c.in_ok-lean_chain.field-0.items c.first_sum-2.ensures c.in_ok-lean_chain.ensures.lean

pub returns-clause-none : goal.returns-clause-none
returns-clause-none c =
    none_exactly c.in_ok-lean_chain.field-0 c.args.rows.now
    (closes_leanly c.args.rows.now c.first_sum-2.result c.eliminate_light.new.left.combines.items c.in_ok-lean_chain.field-0.items c.first_sum-2.ensures c.in_ok-lean_chain.ensures.closes
    ((rw c.if-not-branch.false at c.in_ok-eliminate_light.ensures) (map Some c.args.rows.now)
    (stands c.args.rows.now c.in_ok-numbered_rows.field-0 c.new.result.items c.first_sum.result c.in_ok-numbered_rows.ensures c.new.ensures.items c.first_sum.ensures)))
