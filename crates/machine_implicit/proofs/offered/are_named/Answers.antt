use Rattle.std.proofs.Common.{rules, tests}
use Rattle.std.proofs.lemmas.Iterator.{cases_from_all, YieldsList-from_slice}
use Rattle.std.proofs.lemmas.Iterator.Search.{true_from_All}
use Rattle.std.proofs.lemmas.Bool.{MatchBool-at_true}
use Rattle.std.proofs.lemmas.List.Elements.{All-from_all_within}
use Rattle.lang_base.specs.Identifiers.{IsIdentifier}
use Rattle.machine_implicit.specs.declared.script.Client.{Client}
use Rattle.machine_implicit.proofs.offered.are_named.Goals as goal

abbrev IsNamed : Client → Type 0
IsNamed client = IsIdentifier client.name

abbrev IsUnnamed : Client → Type 0
IsUnnamed client = IsIdentifier client.name → ⊥

pub returns : goal.returns
returns c =
    let each = cases_from_all _ _ _ IsNamed IsUnnamed c.all.ensures.ran (YieldsList-from_slice c.args.clients.now cc) (λ x q k. search (rules, tests)) (λ x q k. search (rules, tests)) in (
      λ right. All-from_all_within IsNamed c.args.clients.now (MatchBool-at_true _ _ right each),
      λ named. true_from_All IsNamed IsUnnamed _ _ (λ x is not. not is) each named,
    )
