use Rattle.std.proofs.Common.{sym, ◌∙◌, arith}
use Rattle.std.proofs.lemmas.Bool.Decides.{nat_tests}
use Rattle.std.proofs.lemmas.Bool.{false≢true}
use Rattle.machine_implicit.proofs.ScriptTests.{clients_rule}
use Rattle.machine_implicit.proofs.offered.are_clients.Goals as goal
use Rattle.machine_implicit.proofs.offered.are_clients.Goals.{then-clients-le-CLIENTS, else-clients-le-CLIENTS, then-are_named, else-are_named}

pub returns-then-are_distinct : goal.returns-then-are_distinct
returns-then-are_distinct c =
    elim c.if-are_named.branch [
      | then-are_named w ↦ elim c.if-clients-le-CLIENTS.branch [
        | then-clients-le-CLIENTS v ↦
            clients_rule c.args.clients.now c.have_few_calls.result v.if-clients-le-CLIENTS.true (v.are_named.ensures.0 (sym v.value-is ∙ w.if-are_named.true))
            (w.are_distinct.ensures.0 (sym w.value-is ∙ c.if-are_distinct.true)) c.have_few_calls.ensures
        | else-clients-le-CLIENTS v ↦ absurd (grind (arith, nat_tests, sym v.value-is ∙ w.if-are_named.true, v.if-clients-le-CLIENTS.false))
      ]
      | else-are_named w ↦ absurd (false≢true (sym w.if-are_named.false ∙ sym w.value-is ∙ c.if-are_distinct.true))
    ]
