use Rattle.std.proofs.Common.{rules, tests}
use Rattle.std.specs.List.{zip}
use Rattle.std.proofs.lemmas.Iterator.{cases_from_all, YieldsList-from_slice, YieldsList-from_zip}
use Rattle.std.proofs.lemmas.Iterator.Search.{true_from_All}
use Rattle.std.proofs.lemmas.Bool.{MatchBool-at_true}
use Rattle.std.proofs.lemmas.List.Elements.{All-from_all_within}
use Rattle.lang_base.specs.declared.kind.Kind.{Kind}
use Rattle.lang_base.specs.declared.value.Value.{Value}
use Rattle.machine_implicit.proofs.ScriptTests.{IsPairOfKind}
use Rattle.machine_implicit.proofs.offered.are_pairs_of_kinds.Goals as goal

abbrev IsNoPairOfKind : Kind × Value → Type 0
IsNoPairOfKind pair = IsPairOfKind pair → ⊥

pub returns : goal.returns
returns c =
    let pairs = zip c.args.kinds.now c.args.values.now in
    let each = cases_from_all c.all.new.self _ _ IsPairOfKind IsNoPairOfKind c.all.ensures.ran
    (YieldsList-from_zip (YieldsList-from_slice c.args.kinds.now cc) (YieldsList-from_slice c.args.values.now cc))
    (λ x q k. search (rules, tests)) (λ x q k. search (rules, tests)) in (
      λ right. All-from_all_within IsPairOfKind pairs (MatchBool-at_true _ _ right each),
      λ held. true_from_All IsPairOfKind IsNoPairOfKind _ _ (λ x is not. not is) each held,
    )
