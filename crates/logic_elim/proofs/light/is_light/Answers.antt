use Rattle.std.specs.Prelude.{List}
use Rattle.std.specs.List.{list_all}
use Rattle.std.proofs.Common.{[], sym, ◌∙◌, ap, arith, rules}
use Rattle.logic_elim.specs.declared.rows.Numbered.{Numbered}
use Rattle.logic_elim.specs.Chains.{rows_in}
use Rattle.logic_elim.specs.inner.Light.{is_light_row}
use Rattle.logic_elim.specs.Noted.{noted, terms_in}
use Rattle.logic_elim.proofs.LightLemmas.{large_numbers, light_told}
use Rattle.logic_elim.proofs.light.is_light.Goals as goal

pub returns-then-not-have_light_numbers : goal.returns-then-not-have_light_numbers
returns-then-not-have_light_numbers c =
    large_numbers c.args.kept.now (ap (list_all is_light_row) (sym c.rows.ensures) ∙ sym c.have_light_numbers.ensures ∙ c.if-not-have_light_numbers.true)

pub returns : goal.returns
returns c =
    light_told c.args.kept.now c.in_ok-places_of.field-0.items c.len-2.result (omega arith)
    (ap (list_all is_light_row) (sym c.rows.ensures) ∙ sym c.have_light_numbers.ensures ∙ c.if-not-have_light_numbers.false)
    (c.in_ok-places_of.ensures ∙ ap (λ (rows : List Numbered). noted [] (terms_in (rows_in rows))) c.rows-2.ensures) (search rules)
