-- The text of an expression has no line feed, where its names have none.
use Rattle.std.proofs.Common.{◌≡◌, ℕ, Bool, true, false, List, [], ◌∷◌, ◌++◌, map, codes, refl, sym, ap, subst, ◌∙◌}
use Rattle.std.specs.Prelude.{nat_lt, All, if◌then◌else◌}
use Rattle.std.specs.List.{list_all, flat_map}
use Rattle.std.proofs.lemmas.Bool.{and_parts}
use Rattle.std.proofs.lemmas.List.Folds.{list_all-append}
use Rattle.lang_base.specs.Identifiers.{IsIdentifier}
use Rattle.lang_base.specs.Lines.{is_in_line}
use Rattle.lang_tree.specs.declared.tree.Op.{Op}
use Rattle.lang_tree.specs.declared.tree.Op.TheVariants as ops
use Rattle.lang_tree.specs.declared.tree.Addend.{Addend, roll-Addend}
use Rattle.lang_tree.specs.declared.tree.Factor.{Factor, roll-Factor}
use Rattle.lang_tree.specs.declared.tree.Expr.{Expr, roll-Expr}
use Rattle.lang_tree.specs.declared.tree.Expr.TheOpen.{Expr-F, Addend-F, Factor-F, Number, Truth, Named, Minus, Not, Product, Sum, Compare, Both, Either}
use Rattle.lang_tree.specs.declared.tree.Expr.TheFolds.{fold-Addend, fold-Factor, fold-roll-Expr, fold-roll-Addend, fold-roll-Factor, map-Expr, ind-Expr}
use Rattle.lang_tree.specs.Names.{Names, all_names, expression_names, expression_names_step, addend_names_step, factor_names_step}
use Rattle.lang_printer.specs.Canonical.{Printed, printed, printed_step, expression_text, at_level, parts_at, joined, all_texts, truth_text, addend_sign, addend_text, factor_text, op_text}
use Rattle.lang_printer.specs.Printing.{later_factor, later_addend}
use Rattle.lang_base.proofs.Lines.{HasNoLineFeed, both_in_line, decimal_in_line, names_in_line}

-- ---- names

abbrev AreInLine : Names → Type 0
AreInLine names = list_all (list_all is_in_line) names ≡ true

front_names : (front rest : Names) → AreInLine (front ++ rest) → AreInLine front
front_names front rest are = (and_parts (list_all (list_all is_in_line) front) (list_all (list_all is_in_line) rest) (sym (list_all-append (list_all is_in_line) front rest) ∙ are)).0

rest_names : (front rest : Names) → AreInLine (front ++ rest) → AreInLine rest
rest_names front rest are = (and_parts (list_all (list_all is_in_line) front) (list_all (list_all is_in_line) rest) (sym (list_all-append (list_all is_in_line) front rest) ∙ are)).1

-- ---- single parts

op_in_line : (op : Op) → HasNoLineFeed (op_text op)
op_in_line ops.Equal = refl
op_in_line ops.Differs = refl
op_in_line ops.Less = refl
op_in_line ops.AtMost = refl
op_in_line ops.More = refl
op_in_line ops.AtLeast = refl

sign_in_line : (minus : Bool) → HasNoLineFeed (addend_sign minus)
sign_in_line true = refl
sign_in_line false = refl

pub truth_in_line : (truth : Bool) → HasNoLineFeed (truth_text truth)
truth_in_line true = refl
truth_in_line false = refl

part : (asked : ℕ) (one : Printed) → HasNoLineFeed one.text → HasNoLineFeed (at_level asked one)
part asked one plain = by_test (nat_lt one.level asked)
  where
    by_test : (wrapped : Bool)
        → HasNoLineFeed (if wrapped then codes "(" ++ one.text ++ codes ")" else one.text)
    by_test true = both_in_line one.text (codes ")") plain refl
    by_test false = plain

-- ---- parts one after the other

abbrev addend_names : Addend → Names
addend_names = fold-Addend Names Names Names expression_names_step addend_names_step factor_names_step

abbrev factor_names : Factor → Names
factor_names = fold-Factor Names Names Names expression_names_step addend_names_step factor_names_step

abbrev ExprInLine : Expr → Type 0
ExprInLine e = AreInLine (expression_names e) → HasNoLineFeed (printed e).text

abbrev AddendInLine : Addend → Type 0
AddendInLine addend = AreInLine (addend_names addend) → HasNoLineFeed (later_addend addend)

abbrev FactorInLine : Factor → Type 0
FactorInLine factor = AreInLine (factor_names factor) → HasNoLineFeed (later_factor factor)

abbrev Part : Type 0
Part = (e : Expr) × ExprInLine e

abbrev exprs_of : List Part → List Expr
exprs_of = map (λ e. e.0)

tails : {X : Type 0} (text : X → List ℕ) (names : X → Names)
    (xs : List ((x : X) × (AreInLine (names x) → HasNoLineFeed (text x))))
    → AreInLine (all_names (map names (map (λ e. e.0) xs)))
    → HasNoLineFeed (all_texts (map text (map (λ e. e.0) xs)))
tails text names [] are = refl
tails text names (x ∷ xs) are =
    let rest : Names = all_names (map names (map (λ e. e.0) xs)) in
    both_in_line (text x.0) (all_texts (map text (map (λ e. e.0) xs))) (x.1 (front_names (names x.0) rest are)) (tails text names xs (rest_names (names x.0) rest are))

later_parts : (separator : List ℕ) (asked : ℕ) → HasNoLineFeed separator → (xs : List Part)
    → AreInLine (all_names (map expression_names (exprs_of xs)))
    → HasNoLineFeed
    (flat_map (λ text. separator ++ text) (parts_at asked (map printed (exprs_of xs))))
later_parts separator asked plain [] are = refl
later_parts separator asked plain (x ∷ xs) are =
    let rest : Names = all_names (map expression_names (exprs_of xs)) in
    both_in_line (separator ++ at_level asked (printed x.0)) (flat_map (λ text. separator ++ text) (parts_at asked (map printed (exprs_of xs))))
    (both_in_line separator (at_level asked (printed x.0)) plain (part asked (printed x.0) (x.1 (front_names (expression_names x.0) rest are))))
    (later_parts separator asked plain xs (rest_names (expression_names x.0) rest are))

all_parts : (separator : List ℕ) (asked : ℕ) → HasNoLineFeed separator → (xs : List Part)
    → AreInLine (all_names (map expression_names (exprs_of xs)))
    → HasNoLineFeed (joined separator (parts_at asked (map printed (exprs_of xs))))
all_parts separator asked plain [] are = refl
all_parts separator asked plain (x ∷ xs) are =
    let rest : Names = all_names (map expression_names (exprs_of xs)) in
    both_in_line (at_level asked (printed x.0)) (flat_map (λ text. separator ++ text) (parts_at asked (map printed (exprs_of xs))))
    (part asked (printed x.0) (x.1 (front_names (expression_names x.0) rest are)))
    (later_parts separator asked plain xs (rest_names (expression_names x.0) rest are))

-- ---- one layer

abbrev Layer : Type 0
Layer = Expr-F Part ((a : Addend) × AddendInLine a) ((f : Factor) × FactorInLine f)

abbrev bare_layer : Layer → Expr-F Expr Addend Factor
bare_layer = map-Expr Part ((a : Addend) × AddendInLine a) ((f : Factor) × FactorInLine f) Expr Addend Factor (λ e. e.0) (λ e. e.0) (λ e. e.0)

abbrev printed_layer : Expr-F Expr Addend Factor → Printed
printed_layer x = printed_step (map-Expr Expr Addend Factor Printed (List ℕ) (List ℕ) printed later_addend later_factor x)

abbrev names_layer : Expr-F Expr Addend Factor → Names
names_layer x = expression_names_step (map-Expr Expr Addend Factor Names Names Names expression_names addend_names factor_names x)

abbrev LayerInLine : Expr-F Expr Addend Factor → Type 0
LayerInLine x = AreInLine (names_layer x) → HasNoLineFeed (printed_layer x).text

layer_in_line : (y : Layer) → LayerInLine (bare_layer y)
layer_in_line (Number at value) are = decimal_in_line value
layer_in_line (Truth at value) are = truth_in_line value
layer_in_line (Named at name) are = (and_parts (list_all is_in_line name) true are).0
layer_in_line (Minus at of) are = part 6 (printed of.0) (of.1 are)
layer_in_line (Not at of) are = part 6 (printed of.0) (of.1 are)
layer_in_line (Product first rest) are =
    let later : Names = all_names (map factor_names (map (λ e. e.0) rest)) in
    both_in_line (at_level 6 (printed first.0)) (all_texts (map later_factor (map (λ e. e.0) rest)))
    (part 6 (printed first.0) (first.1 (front_names (expression_names first.0) later are))) (tails later_factor factor_names rest (rest_names (expression_names first.0) later are))
layer_in_line (Sum first rest) are =
    let later : Names = all_names (map addend_names (map (λ e. e.0) rest)) in
    both_in_line (at_level 5 (printed first.0)) (all_texts (map later_addend (map (λ e. e.0) rest)))
    (part 5 (printed first.0) (first.1 (front_names (expression_names first.0) later are))) (tails later_addend addend_names rest (rest_names (expression_names first.0) later are))
layer_in_line (Compare op left right) are =
    let here = part 4 (printed left.0) (left.1 (front_names (expression_names left.0) (expression_names right.0) are)) in
    let there = part 4 (printed right.0) (right.1 (rest_names (expression_names left.0) (expression_names right.0) are)) in
    both_in_line (at_level 4 (printed left.0) ++ op_text op) (at_level 4 (printed right.0)) (both_in_line (at_level 4 (printed left.0)) (op_text op) here (op_in_line op)) there
layer_in_line (Both es) are = all_parts (codes " && ") 3 refl es are
layer_in_line (Either es) are = all_parts (codes " || ") 2 refl es are

-- ---- every layer

roll_in_line : (x : Expr-F Expr Addend Factor) → LayerInLine x → ExprInLine (roll-Expr x)
roll_in_line x layer are =
    ap (λ (one : Printed). list_all is_in_line one.text) (fold-roll-Expr Printed (List ℕ) (List ℕ) printed_step addend_text factor_text x)
    ∙ layer (ap (list_all (list_all is_in_line)) (sym (fold-roll-Expr Names Names Names expression_names_step addend_names_step factor_names_step x)) ∙ are)

addend_in_line : (x : Addend-F Expr Addend Factor) → ExprInLine x.of → AddendInLine (roll-Addend x)
addend_in_line x of are =
    let names = ap (list_all (list_all is_in_line)) (sym (fold-roll-Addend Names Names Names expression_names_step addend_names_step factor_names_step x)) ∙ are in
    ap (list_all is_in_line) (fold-roll-Addend Printed (List ℕ) (List ℕ) printed_step addend_text factor_text x)
    ∙ both_in_line (addend_sign x.minus) (at_level 5 (printed x.of)) (sign_in_line x.minus) (part 5 (printed x.of) (of names))

factor_in_line : (x : Factor-F Expr Addend Factor) → ExprInLine x.of → FactorInLine (roll-Factor x)
factor_in_line x of are =
    let names = ap (list_all (list_all is_in_line)) (sym (fold-roll-Factor Names Names Names expression_names_step addend_names_step factor_names_step x)) ∙ are in
    ap (list_all is_in_line) (fold-roll-Factor Printed (List ℕ) (List ℕ) printed_step addend_text factor_text x)
    ∙ part 6 (printed x.of) (of names)

in_line : (e : Expr) → ExprInLine e
in_line =
    ind-Expr ExprInLine AddendInLine FactorInLine
    (λ x y is. subst (λ (z : Expr-F Expr Addend Factor). ExprInLine (roll-Expr z)) is (roll_in_line (bare_layer y) (layer_in_line y)))
    (λ x y is. subst (λ (z : Addend-F Expr Addend Factor). AddendInLine (roll-Addend z)) is (addend_in_line (record { minus = y.minus; of = y.of.0 }) y.of.1))
    (λ x y is. subst (λ (z : Factor-F Expr Addend Factor). FactorInLine (roll-Factor z)) is (factor_in_line (record { at = y.at; of = y.of.0 }) y.of.1))

-- ---- an expression whose names may be given

pub expression_in_line : (e : Expr) → All IsIdentifier (expression_names e)
    → HasNoLineFeed (expression_text e)
expression_in_line e names = in_line e (names_in_line (expression_names e) names)
