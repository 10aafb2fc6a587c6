-- The canonical texts of expressions, by their forms.
use Rattle.std.proofs.Common.{◌≡◌, ℕ, ◌<◌, ◌≤◌, List, [], ◌∷◌, ◌++◌, ◌∙◌, map, codes, refl, ap, sym, subst, length, take, drop, get_or, append_assoc, ◌-◌, arith}
use Rattle.std.proofs.lemmas.Bool.{lt-ltb}
use Rattle.std.proofs.lemmas.List.{take_all}
use Rattle.std.specs.List.{flat_map}
use Rattle.lang_tree.specs.declared.tree.Op.{Op}
use Rattle.lang_tree.specs.declared.tree.Addend.{Addend, out-Addend}
use Rattle.lang_tree.specs.declared.tree.Factor.{Factor, out-Factor}
use Rattle.lang_tree.specs.declared.tree.Expr.{Expr}
use Rattle.lang_tree.specs.declared.tree.Expr.TheVariants.{Product, Sum, Compare, Both, Either, rolls-Product, rolls-Sum, rolls-Compare, rolls-Both, rolls-Either}
use Rattle.lang_tree.specs.declared.tree.Expr.TheOpen as layers
use Rattle.lang_tree.specs.declared.tree.Expr.TheFolds.{fold-roll-Expr, fold_out-Addend, fold_out-Factor}
use Rattle.lang_printer.specs.Canonical.{Printed, printed, printed_step, expression_text, at_level, addend_sign, addend_text, factor_text, op_text, joined, parts_at}
use Rattle.lang_printer.specs.Printing.{part_text, later_factor, later_addend, joined_parts}
use Rattle.std.proofs.lemmas.List.Folds.{flat_map-map}

-- ---- a part, in parentheses or not

at_level-open : (asked : ℕ) (part : Printed) → part.level < asked → codes "(" ++ part.text ++ codes ")" ≡ at_level asked part
at_level-open asked part less = rw (lt-ltb part.level asked less) refl

pub part_text-open : (asked level : ℕ) (part : Expr) → level ≡ (printed part).level → level < asked → codes "(" ++ expression_text part ++ codes ")" ≡ part_text asked part
part_text-open asked level part is less = at_level-open asked (printed part) (subst (λ (n : ℕ). n < asked) is less)

-- ---- the parts after the first

pub later_factor-of : (factor : Factor) → codes " * " ++ part_text 6 (out-Factor factor).of ≡ later_factor factor
later_factor-of factor = sym (fold_out-Factor Printed (List ℕ) (List ℕ) printed_step addend_text factor_text factor)

pub later_addend-of : (addend : Addend) → addend_sign (out-Addend addend).minus ++ part_text 5 (out-Addend addend).of ≡ later_addend addend
later_addend-of addend = sym (fold_out-Addend Printed (List ℕ) (List ℕ) printed_step addend_text factor_text addend)

-- ---- the forms

text-of : (expression written : Expr) → expression ≡ written → expression_text written ≡ expression_text expression
text-of expression written is = sym (ap expression_text is)

product : (first : Expr) (rest : List Factor) → part_text 6 first ++ flat_map later_factor rest ≡ expression_text (Product first rest)
product first rest =
    let whole = ap expression_text (sym (rolls-Product first rest)) ∙ ap (λ (p : Printed). p.text) (fold-roll-Expr Printed (List ℕ) (List ℕ) printed_step addend_text factor_text (layers.Product first rest)) in
    sym (whole ∙ ap (λ l. part_text 6 first ++ l) (flat_map-map (λ (text : List ℕ). text) later_factor rest))

pub text-Product : (expression first got : Expr) (rest items : List Factor) → expression ≡ Product first rest → got ≡ first → items ≡ rest → part_text 6 got ++ flat_map later_factor items ≡ expression_text expression
text-Product expression first got rest items is one more = ap (λ e. part_text 6 e ++ flat_map later_factor items) one ∙ ap (λ l. part_text 6 first ++ flat_map later_factor l) more ∙ product first rest ∙ text-of expression (Product first rest) is

sums : (first : Expr) (rest : List Addend) → part_text 5 first ++ flat_map later_addend rest ≡ expression_text (Sum first rest)
sums first rest =
    let whole = ap expression_text (sym (rolls-Sum first rest)) ∙ ap (λ (p : Printed). p.text) (fold-roll-Expr Printed (List ℕ) (List ℕ) printed_step addend_text factor_text (layers.Sum first rest)) in
    sym (whole ∙ ap (λ l. part_text 5 first ++ l) (flat_map-map (λ (text : List ℕ). text) later_addend rest))

pub text-Sum : (expression first got : Expr) (rest items : List Addend) → expression ≡ Sum first rest → got ≡ first → items ≡ rest → part_text 5 got ++ flat_map later_addend items ≡ expression_text expression
text-Sum expression first got rest items is one more = ap (λ e. part_text 5 e ++ flat_map later_addend items) one ∙ ap (λ l. part_text 5 first ++ flat_map later_addend l) more ∙ sums first rest ∙ text-of expression (Sum first rest) is

comparison : (op : Op) (left right : Expr) → part_text 4 left ++ op_text op ++ part_text 4 right ≡ expression_text (Compare op left right)
comparison op left right =
    sym (ap expression_text (sym (rolls-Compare op left right)) ∙ ap (λ (p : Printed). p.text) (fold-roll-Expr Printed (List ℕ) (List ℕ) printed_step addend_text factor_text (layers.Compare op left right)))

pub text-Compare : (expression left right here there : Expr) (op : Op) (sign : List ℕ) → expression ≡ Compare op left right → here ≡ left → sign ≡ op_text op → there ≡ right → part_text 4 here ++ (sign ++ part_text 4 there) ≡ expression_text expression
text-Compare expression left right here there op sign is l o r =
    sym (append_assoc (part_text 4 here) sign (part_text 4 there)) ∙ ap (λ e. part_text 4 e ++ sign ++ part_text 4 there) l ∙ ap (λ s. part_text 4 left ++ s ++ part_text 4 there) o ∙ ap (λ e. part_text 4 left ++ op_text op ++ part_text 4 e) r ∙ comparison op left right ∙ text-of expression (Compare op left right) is

abbrev pub after_first : {X : Type 0} → List X → List X
after_first parts = take (length parts - 1) (drop 1 parts)

pub joined_parts-cut : (sign : List ℕ) (asked : ℕ) (parts : List Expr) (first : Expr) → 1 ≤ length parts → first ≡ get_or parts 0 first
    → part_text asked first ++ flat_map (λ part. sign ++ part_text asked part) (after_first parts) ≡ joined_parts sign asked parts
joined_parts-cut sign asked [] first some is = absurd (omega arith)
joined_parts-cut sign asked (part ∷ parts) first some is =
    ap (λ e. part_text asked e ++ flat_map (λ part. sign ++ part_text asked part) (after_first (part ∷ parts))) is
    ∙ ap (λ l. part_text asked part ++ flat_map (λ part. sign ++ part_text asked part) l) (take_all (length (part ∷ parts) - 1) parts (omega arith))

joined-rest : (sign : List ℕ) (asked : ℕ) (parts : List Expr) → flat_map (λ part. sign ++ part_text asked part) parts ≡ flat_map (λ text. sign ++ text) (parts_at asked (map printed parts))
joined-rest sign asked [] = refl
joined-rest sign asked (part ∷ parts) = ap (λ l. (sign ++ part_text asked part) ++ l) (joined-rest sign asked parts)

joined-same : (sign : List ℕ) (asked : ℕ) (parts : List Expr) → joined_parts sign asked parts ≡ joined sign (parts_at asked (map printed parts))
joined-same sign asked [] = refl
joined-same sign asked (part ∷ parts) = ap (λ l. part_text asked part ++ l) (joined-rest sign asked parts)

both : (parts : List Expr) → joined_parts (codes " && ") 3 parts ≡ expression_text (Both parts)
both parts =
    joined-same (codes " && ") 3 parts ∙ sym (ap expression_text (sym (rolls-Both parts)) ∙ ap (λ (p : Printed). p.text) (fold-roll-Expr Printed (List ℕ) (List ℕ) printed_step addend_text factor_text (layers.Both parts)))

pub text-Both : (expression : Expr) (parts items : List Expr) → expression ≡ Both parts → items ≡ parts → joined_parts (codes " && ") 3 items ≡ expression_text expression
text-Both expression parts items is same = ap (joined_parts (codes " && ") 3) same ∙ both parts ∙ text-of expression (Both parts) is

either : (parts : List Expr) → joined_parts (codes " || ") 2 parts ≡ expression_text (Either parts)
either parts =
    joined-same (codes " || ") 2 parts ∙ sym (ap expression_text (sym (rolls-Either parts)) ∙ ap (λ (p : Printed). p.text) (fold-roll-Expr Printed (List ℕ) (List ℕ) printed_step addend_text factor_text (layers.Either parts)))

pub text-Either : (expression : Expr) (parts items : List Expr) → expression ≡ Either parts → items ≡ parts → joined_parts (codes " || ") 2 items ≡ expression_text expression
text-Either expression parts items is same = ap (joined_parts (codes " || ") 2) same ∙ either parts ∙ text-of expression (Either parts) is
