-- Which rows a formula has, and which statements are simple, by their form.
use Rattle.std.proofs.Common.{◌≡◌, ℕ, Bool, true, false, ◌&&◌, List, [], ◌∷◌, map, refl, sym, ap, ◌∙◌}
use Rattle.std.specs.List.{flat_map, list_all}
use Rattle.std.proofs.lemmas.List.Folds.{list_all-append}
use Rattle.logic_linear.specs.declared.formula.Formula.{Formula}
use Rattle.logic_linear.specs.declared.formula.Formula.TheVariants as formulas
use Rattle.logic_linear.specs.declared.formula.Formula.TheOpen as formula_layers
use Rattle.logic_linear.specs.declared.formula.Formula.TheFolds.{fold-roll-Formula}
use Rattle.logic_linear.specs.declared.substitution.Put.{Put}
use Rattle.logic_linear.specs.Differences.{has_difference_rows, is_difference}
use Rattle.logic_linear.specs.Linear.{Linear}
use Rattle.logic_linear.specs.Places.{rows_layer, rows_of}
use Rattle.lang_monitor.specs.declared.monitor.Stmt.{Stmt}
use Rattle.lang_monitor.specs.declared.monitor.Stmt.TheVariants as statements
use Rattle.lang_monitor.proofs.Statements.{if_parts, put_part}
use Rattle.logic_wp.specs.PlainClaims.{is_simple_put, is_simple_statement}

-- ---- the rows of a formula

pub row_differs : (form : Linear) → has_difference_rows (formulas.Row form) ≡ is_difference form
row_differs form =
    ap (list_all is_difference) (ap rows_of (sym (formulas.rolls-Row form)) ∙ fold-roll-Formula (List Linear) rows_layer (formula_layers.Row form)) ∙ alone (is_difference form)
  where
    alone : (a : Bool) → (a && true) ≡ a
    alone true = refl
    alone false = refl

pub flag_differs : (place : ℕ) (is : Bool) → has_difference_rows (formulas.Flag place is) ≡ true
flag_differs place is = ap (list_all is_difference) (ap rows_of (sym (formulas.rolls-Flag place is)) ∙ fold-roll-Formula (List Linear) rows_layer (formula_layers.Flag place is))

pub parts_differ : (parts : List Formula) → list_all is_difference (flat_map (λ rows. rows) (map rows_of parts)) ≡ list_all has_difference_rows parts
parts_differ [] = refl
parts_differ (part ∷ parts) =
    list_all-append is_difference (rows_of part) (flat_map (λ rows. rows) (map rows_of parts)) ∙ ap (λ more. has_difference_rows part && more) (parts_differ parts)

pub all_differs : (parts : List Formula) → has_difference_rows (formulas.All parts) ≡ list_all has_difference_rows parts
all_differs parts =
    ap (list_all is_difference) (ap rows_of (sym (formulas.rolls-All parts)) ∙ fold-roll-Formula (List Linear) rows_layer (formula_layers.All parts)) ∙ parts_differ parts

pub any_differs : (parts : List Formula) → has_difference_rows (formulas.Any parts) ≡ list_all has_difference_rows parts
any_differs parts =
    ap (list_all is_difference) (ap rows_of (sym (formulas.rolls-Any parts)) ∙ fold-roll-Formula (List Linear) rows_layer (formula_layers.Any parts)) ∙ parts_differ parts

-- ---- the form of a statement

pub put_simple : (statement : Stmt) (put : Put) (test : Bool) → statement ≡ statements.Put put → test ≡ is_simple_put put → test ≡ is_simple_statement statement
put_simple statement put test is same = same ∙ sym (ap is_simple_statement is ∙ put_part is_simple_put has_difference_rows put)

pub simple_parts : (statement : Stmt) (when : Formula) (body other : List Stmt) (a b c : Bool) → statement ≡ statements.If when body other
    → a ≡ has_difference_rows when → b ≡ list_all is_simple_statement body → c ≡ list_all is_simple_statement other → (a && (b && c)) ≡ is_simple_statement statement
simple_parts statement when body other a b c is same_a same_b same_c =
    ap (λ (test : Bool). test && (b && c)) same_a ∙ ap (λ (test : Bool). has_difference_rows when && (test && c)) same_b
    ∙ ap (λ (test : Bool). has_difference_rows when && (list_all is_simple_statement body && test)) same_c ∙ sym (ap is_simple_statement is ∙ if_parts is_simple_put has_difference_rows when body other)
