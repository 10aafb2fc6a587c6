use Rattle.std.proofs.Common.{ap, sym, map, option_map, unwrap_or, [], codes, List, Option, Bor, ◌∙◌}
use Rattle.std.proofs.lemmas.Result.{IfOk-weaker}
use Rattle.clap.specs.Words.{Text, found_of}
use Rattle.clap.proofs.WalkLemmas.{raw_values-rows}
use Rattle.front_command.proofs.arguments.values_of.Goals as goal

abbrev or_none : Option (List Text) → List Text
or_none o = unwrap_or o []

abbrev texts : List (Bor Text) → List Text
texts values = map (λ (value : Bor Text). value.now) values

abbrev given_texts : Option (Bor (List (Bor Text))) → List Text
given_texts o = or_none (option_map (λ (s : Bor (List (Bor Text))). texts s.now) o)

pub returns-in-Some : goal.returns-in-Some
returns-in-Some c =
    let given = c.get_strs.ensures ∙ raw_values-rows (found_of c.args.matches.now) (codes "values") in
    IfOk-weaker c.from_slice.result _ _ (λ v h. ap texts h ∙ ap given_texts (sym c.in-Some.is) ∙ ap or_none given) c.from_slice.ensures.items

pub returns-in-None : goal.returns-in-None
returns-in-None c =
    let given = c.get_strs.ensures ∙ raw_values-rows (found_of c.args.matches.now) (codes "values") in
    ap texts c.new.ensures.items ∙ ap given_texts (sym c.in-None.is) ∙ ap or_none given
