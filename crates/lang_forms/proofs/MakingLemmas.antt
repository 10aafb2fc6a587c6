-- What the code that makes forms and formulas may count on at each of its calls.
use Rattle.std.proofs.Common.{◌≡◌, ℕ, zero, suc, ◌+◌, ◌<◌, pos, neg_ℤ, Bool, true, List, [], ◌∷◌, length, get_or, map, take, drop, refl, sym, ap, subst, ◌∙◌, arith, add-one}
use Rattle.std.specs.Prelude.{fold, if◌then◌else◌}
use Rattle.std.specs.List.{All}
use Rattle.logic_linear.specs.declared.formula.Formula.{Formula}
use Rattle.logic_linear.specs.declared.formula.Formula.TheVariants as formulas
use Rattle.logic_linear.specs.Negation.{can_negate}
use Rattle.lang_tree.specs.declared.tree.Op.{Op}
use Rattle.lang_tree.specs.declared.tree.Expr.{Expr}
use Rattle.lang_tree.specs.declared.tree.Addend.{Addend}
use Rattle.lang_tree.specs.declared.tree.Factor.{Factor}
use Rattle.lang_tree.specs.declared.tree.Expr.TheVariants as exprs
use Rattle.lang_base.specs.declared.kind.Kind.TheVariants as kinds
use Rattle.lang_forms.specs.declared.scope.Entry.{Entry}
use Rattle.lang_forms.specs.Forms.{Form, is_limited, scaled, plus, minus, product, raised}
use Rattle.lang_forms.specs.inner.FormBounds.{AreWithin, IsFormOf, HasRoom, FitsLinear}
use Rattle.lang_forms.specs.Sense.{Sense, part_faults, large_form, product_faults, product_form, sum_form, sense}
use Rattle.lang_forms.specs.Making.{IsInt, IsBool, has_small_numbers}
use Rattle.lang_forms.specs.inner.Parts.{addend_sense, factor_sense}
use Rattle.lang_forms.proofs.SenseLayers.{sense-Minus, sense-Not, sense-Sum, sense-Product, sense-Compare, sense-Both, sense-Either}
use Rattle.lang_forms.proofs.FormShapes.{limited_within, plus_is_form, raised_is_form, raised_within, same_lengths, scaled_is_form, sum_within, within_has_room, within_small}
use Rattle.lang_forms.proofs.ModestFormulas.{modest_turns}
use Rattle.lang_forms.proofs.FineParts.{AreFine, or_else_none, parts_fine}
use Rattle.lang_forms.proofs.SoundSenses.{large_form_none, product_turn, signed_is_form, every_sense_is_sound}

-- ---- lists

-- a fold over what a loop has seen, and one more
fold_one_more : {X Y Z : Type 0} (step : Z → Y → Z) (of : X → Y) (start : Z) (xs : List X) (k : ℕ) (x : X) → x ≡ get_or xs k x → k < length xs → fold step start (map of (take (suc k) xs)) ≡ step (fold step start (map of (take k xs))) (of x)
fold_one_more step of start [] k x is less = absurd (omega arith)
fold_one_more step of start (y ∷ xs) zero x is less = ap (λ z. step start (of z)) (sym is)
fold_one_more step of start (y ∷ xs) (suc k) x is less = fold_one_more step of (step start (of y)) xs k x is (omega arith)

pub rest_after : {X Y : Type 0} (of : X → Y) (xs : List X) (k : ℕ) (x : X) → x ≡ get_or xs k x → k < length xs → map of (drop k xs) ≡ of x ∷ map of (drop (suc k) xs)
rest_after of [] k x is less = absurd (omega arith)
rest_after of (y ∷ xs) zero x is less = ap (λ z. of z ∷ map of xs) (sym is)
rest_after of (y ∷ xs) (suc k) x is less = rest_after of xs k x is (omega arith)

-- ---- parts

pub part_form_of : (scope : List Entry) (expression : Expr) (form : Form) → has_small_numbers scope ≡ true → form ≡ (sense scope expression).form → IsFormOf scope form
part_form_of scope expression form small is = subst (IsFormOf scope) (sym is) (every_sense_is_sound scope small expression).of_scope

pub part_limited : (scope : List Entry) (expression : Expr) (form : Form) → has_small_numbers scope ≡ true → IsInt scope expression → form ≡ (sense scope expression).form → is_limited form ≡ true
part_limited scope expression form small fine is = ap is_limited is ∙ (every_sense_is_sound scope small expression).limited fine.fine fine.int

pub part_turns : (scope : List Entry) (expression : Expr) (formula : Formula) → has_small_numbers scope ≡ true → IsBool scope expression → formula ≡ (sense scope expression).formula → can_negate formula ≡ true
part_turns scope expression formula small fine is = ap can_negate is ∙ modest_turns (sense scope expression).formula ((every_sense_is_sound scope small expression).modest fine.fine fine.bool)

pub addend_at : (scope : List Entry) (rest : List Addend) (k : ℕ) (addend : Addend) → addend ≡ get_or rest k addend → k < length rest → All (λ addend. IsInt scope addend.of) rest → IsInt scope addend.of
addend_at scope rest k addend is less each = subst (λ (part : Addend). IsInt scope part.of) (sym is) (each k addend less)

pub factor_at : (scope : List Entry) (rest : List Factor) (k : ℕ) (factor : Factor) → factor ≡ get_or rest k factor → k < length rest → All (λ factor. IsInt scope factor.of) rest → IsInt scope factor.of
factor_at scope rest k factor is less each = subst (λ (part : Factor). IsInt scope part.of) (sym is) (each k factor less)

-- ---- sums

pub sum_turn : (scope : List Entry) (start sum part next : Form) (rest : List Addend) (k : ℕ) (addend : Addend)
    → addend ≡ get_or rest k addend
    → k < length rest
    → part ≡ (sense scope addend.of).form
    → sum ≡ sum_form start (map (addend_sense scope) (take k rest))
    → next ≡ plus sum (if addend.minus then scaled (neg_ℤ (pos 1)) part else part)
    → next ≡ sum_form start (map (addend_sense scope) (take (k + 1) rest))
sum_turn scope start sum part next rest k addend is less part_is sum_is next_is =
    let more = fold_one_more (λ before addend. plus before (if addend.minus then scaled (neg_ℤ (pos 1)) addend.of.form else addend.of.form)) (addend_sense scope) start rest k addend is less in
    rw (add-one k) (next_is ∙ ap (λ form. plus sum (if addend.minus then scaled (neg_ℤ (pos 1)) form else form)) part_is ∙ ap (λ form. plus form (if addend.minus then scaled (neg_ℤ (pos 1)) (sense scope addend.of).form else (sense scope addend.of).form)) sum_is ∙ sym more)

-- a sum after one more part
pub record SumTurn (scope : List Entry) (parts : ℕ) (next : Form) : Type 0 where
  pub of_scope : IsFormOf scope next
  pub within : AreWithin parts next

pub sum_goes : (scope : List Entry) (minus : Bool) (k : ℕ) (sum part next : Form)
    → IsFormOf scope sum
    → IsFormOf scope part
    → AreWithin (k + 1) sum
    → is_limited part ≡ true
    → next ≡ plus sum (if minus then scaled (neg_ℤ (pos 1)) part else part)
    → SumTurn scope (k + 1 + 1) next
sum_goes scope minus k sum part next sum_of part_of within limited is =
    let added = if minus then scaled (neg_ℤ (pos 1)) part else part in
    subst (SumTurn scope (k + 1 + 1)) (sym is) (record { of_scope = plus_is_form scope sum added sum_of (signed_is_form scope minus part part_of); within = sum_within (k + 1) minus sum part (same_lengths scope sum part sum_of part_of) within limited })

fine_addend : (scope : List Entry) (rest : List Addend) (k : ℕ) (d : Addend) → AreFine kinds.Int (map (λ addend. addend.of) (map (addend_sense scope) rest)) → k < length rest → IsInt scope (get_or rest k d).of
fine_addend scope [] k d fine less = absurd (omega arith)
fine_addend scope (addend ∷ rest) zero d fine less = record { fine = fine.0.0; int = fine.0.1 }
fine_addend scope (addend ∷ rest) (suc k) d fine less = fine_addend scope rest k d fine.1 (omega arith)

-- the parts of a sum that breaks no rule
pub record SumParts (scope : List Entry) (first : Expr) (rest : List Addend) : Type 0 where
  pub first_int : IsInt scope first
  pub rest_int : All (λ addend. IsInt scope addend.of) rest

fine_sum : (scope : List Entry) (first : Expr) (rest : List Addend) → (sense scope (exprs.Sum first rest)).faults ≡ [] → SumParts scope first rest
fine_sum scope first rest none =
    let found = map (addend_sense scope) rest in
    let parts = sense scope first ∷ map (λ addend. addend.of) found in
    let whole = sym (ap (λ (s : Sense). s.faults) (sense-Sum scope first rest)) ∙ none in
    let fine = parts_fine kinds.Int parts (or_else_none (part_faults kinds.Int parts) (large_form (sense scope first).first (sum_form (sense scope first).form found)) whole).0 in
    record { first_int = record { fine = fine.0.0; int = fine.0.1 }; rest_int = λ k d less. fine_addend scope rest k d fine.1 less }

pub sum_parts : (scope : List Entry) (expression first got : Expr) (rest items : List Addend) → expression ≡ exprs.Sum first rest → got ≡ first → items ≡ rest → (sense scope expression).faults ≡ [] → SumParts scope got items
sum_parts scope expression first got rest items is one more none =
    subst (λ (e : Expr). SumParts scope e items) (sym one) (subst (SumParts scope first) (sym more) (fine_sum scope first rest (sym (ap (λ e. (sense scope e).faults) is) ∙ none)))

pub sum_is : (scope : List Entry) (expression first got : Expr) (rest items : List Addend) (form : Form) → expression ≡ exprs.Sum first rest → got ≡ first → items ≡ rest → form ≡ (sense scope got).form → sum_form form (map (addend_sense scope) items) ≡ (sense scope expression).form
sum_is scope expression first got rest items form is one more form_is =
    ap (λ f. sum_form f (map (addend_sense scope) items)) (form_is ∙ ap (λ e. (sense scope e).form) one)
    ∙ ap (λ list. sum_form (sense scope first).form (map (addend_sense scope) list)) more
    ∙ sym (ap (λ e. (sense scope e).form) is ∙ ap (λ (s : Sense). s.form) (sense-Sum scope first rest))

-- ---- products

pub product_done : (scope : List Entry) (start before factor_form next : Form) (rest : List Factor) (k : ℕ) (factor : Factor)
    → factor ≡ get_or rest k factor
    → k < length rest
    → factor_form ≡ (sense scope factor.of).form
    → before ≡ product_form start (map (factor_sense scope) (take k rest))
    → next ≡ product before factor_form
    → next ≡ product_form start (map (factor_sense scope) (take (k + 1) rest))
product_done scope start before factor_form next rest k factor is less part_is before_is next_is =
    let more = fold_one_more (λ before factor. product before factor.of.form) (factor_sense scope) start rest k factor is less in
    rw (add-one k) (next_is ∙ ap (product before) part_is ∙ ap (λ form. product form (sense scope factor.of).form) before_is ∙ sym more)

-- after one more factor the product is limited, and the rest breaks no rule
pub record ProductTurn (scope : List Entry) (at : ℕ) (next : Form) (rest : List Factor) : Type 0 where
  pub limited : is_limited next ≡ true
  pub fine : product_faults at next (map (factor_sense scope) rest) ≡ []

pub product_goes : (scope : List Entry) (at : ℕ) (before factor_form next : Form) (rest : List Factor) (k : ℕ) (factor : Factor)
    → factor ≡ get_or rest k factor
    → k < length rest
    → factor_form ≡ (sense scope factor.of).form
    → product_faults at before (map (factor_sense scope) (drop k rest)) ≡ []
    → next ≡ product before factor_form
    → ProductTurn scope at next (drop (k + 1) rest)
product_goes scope at before factor_form next rest k factor is less part_is none next_is =
    let after = rest_after (factor_sense scope) rest k factor is less in
    let turn = product_turn at before (factor_sense scope factor) (map (factor_sense scope) (drop (suc k) rest)) (sym (ap (product_faults at before) after) ∙ none) in
    let whole = next_is ∙ ap (product before) part_is in
    rw (add-one k) (subst (λ (form : Form). ProductTurn scope at form (drop (suc k) rest)) (sym whole) (record { limited = turn.0; fine = turn.1 }))

fine_factor : (scope : List Entry) (rest : List Factor) (k : ℕ) (d : Factor) → AreFine kinds.Int (map (λ factor. factor.of) (map (factor_sense scope) rest)) → k < length rest → IsInt scope (get_or rest k d).of
fine_factor scope [] k d fine less = absurd (omega arith)
fine_factor scope (factor ∷ rest) zero d fine less = record { fine = fine.0.0; int = fine.0.1 }
fine_factor scope (factor ∷ rest) (suc k) d fine less = fine_factor scope rest k d fine.1 (omega arith)

-- the parts of a product that breaks no rule
pub record ProductParts (scope : List Entry) (first : Expr) (rest : List Factor) : Type 0 where
  pub first_int : IsInt scope first
  pub rest_int : All (λ factor. IsInt scope factor.of) rest
  pub fine : product_faults (sense scope first).first (sense scope first).form (map (factor_sense scope) rest) ≡ []

fine_product : (scope : List Entry) (first : Expr) (rest : List Factor) → (sense scope (exprs.Product first rest)).faults ≡ [] → ProductParts scope first rest
fine_product scope first rest none =
    let found = map (factor_sense scope) rest in
    let parts = sense scope first ∷ map (λ factor. factor.of) found in
    let whole = sym (ap (λ (s : Sense). s.faults) (sense-Product scope first rest)) ∙ none in
    let both = or_else_none (part_faults kinds.Int parts) (product_faults (sense scope first).first (sense scope first).form found) whole in
    let fine = parts_fine kinds.Int parts both.0 in
    record { first_int = record { fine = fine.0.0; int = fine.0.1 }; rest_int = λ k d less. fine_factor scope rest k d fine.1 less; fine = both.1 }

pub product_parts : (scope : List Entry) (expression first got : Expr) (rest items : List Factor) → expression ≡ exprs.Product first rest → got ≡ first → items ≡ rest → (sense scope expression).faults ≡ [] → ProductParts scope got items
product_parts scope expression first got rest items is one more none =
    subst (λ (e : Expr). ProductParts scope e items) (sym one) (subst (ProductParts scope first) (sym more) (fine_product scope first rest (sym (ap (λ e. (sense scope e).faults) is) ∙ none)))

pub first_product : (scope : List Entry) (first : Expr) (rest : List Factor) (form : Form) → ProductParts scope first rest → form ≡ (sense scope first).form → (at : ℕ) × product_faults at form (map (factor_sense scope) rest) ≡ []
first_product scope first rest form parts is = ((sense scope first).first, ap (λ f. product_faults (sense scope first).first f (map (factor_sense scope) rest)) is ∙ parts.fine)

pub product_is : (scope : List Entry) (expression first got : Expr) (rest items : List Factor) (form : Form) → expression ≡ exprs.Product first rest → got ≡ first → items ≡ rest → form ≡ (sense scope got).form → product_form form (map (factor_sense scope) items) ≡ (sense scope expression).form
product_is scope expression first got rest items form is one more form_is =
    ap (λ f. product_form f (map (factor_sense scope) items)) (form_is ∙ ap (λ e. (sense scope e).form) one)
    ∙ ap (λ list. product_form (sense scope first).form (map (factor_sense scope) list)) more
    ∙ sym (ap (λ e. (sense scope e).form) is ∙ ap (λ (s : Sense). s.form) (sense-Product scope first rest))

-- ---- the opposite

fine_minus : (scope : List Entry) (at : ℕ) (of : Expr) → (sense scope (exprs.Minus at of)).faults ≡ [] → IsInt scope of
fine_minus scope at of none =
    let parts = sense scope of ∷ [] in
    let whole = sym (ap (λ (s : Sense). s.faults) (sense-Minus scope at of)) ∙ none in
    let fine = parts_fine kinds.Int parts (or_else_none (part_faults kinds.Int parts) (large_form at (scaled (neg_ℤ (pos 1)) (sense scope of).form)) whole).0 in
    record { fine = fine.0.0; int = fine.0.1 }

pub minus_part : (scope : List Entry) (expression of got : Expr) (at : ℕ) → expression ≡ exprs.Minus at of → got ≡ of → (sense scope expression).faults ≡ [] → IsInt scope got
minus_part scope expression of got at is one none = subst (IsInt scope) (sym one) (fine_minus scope at of (sym (ap (λ e. (sense scope e).faults) is) ∙ none))

-- ---- comparisons

pub has_room : (form : Form) → is_limited form ≡ true → HasRoom form
has_room form limited = within_has_room 1 form (omega arith) (limited_within form limited)

-- the parts of a comparison that breaks no rule
pub record CompareParts (scope : List Entry) (left right : Expr) : Type 0 where
  pub left_int : IsInt scope left
  pub right_int : IsInt scope right
  pub limited : is_limited (minus (sense scope left).form (sense scope right).form) ≡ true

fine_compare : (scope : List Entry) (op : Op) (left right : Expr) → (sense scope (exprs.Compare op left right)).faults ≡ [] → CompareParts scope left right
fine_compare scope op left right none =
    let parts = sense scope left ∷ sense scope right ∷ [] in
    let form = minus (sense scope left).form (sense scope right).form in
    let whole = sym (ap (λ (s : Sense). s.faults) (sense-Compare scope op left right)) ∙ none in
    let both = or_else_none (part_faults kinds.Int parts) (large_form (sense scope left).first form) whole in
    let fine = parts_fine kinds.Int parts both.0 in
    record { left_int = record { fine = fine.0.0; int = fine.0.1 }; right_int = record { fine = fine.1.0.0; int = fine.1.0.1 }; limited = large_form_none (sense scope left).first form both.1 }

pub compare_parts : (scope : List Entry) (expression left right here there : Expr) (op : Op) → expression ≡ exprs.Compare op left right → here ≡ left → there ≡ right → (sense scope expression).faults ≡ [] → CompareParts scope here there
compare_parts scope expression left right here there op is one other none =
    subst (λ (e : Expr). CompareParts scope e there) (sym one) (subst (CompareParts scope left) (sym other) (fine_compare scope op left right (sym (ap (λ e. (sense scope e).faults) is) ∙ none)))

pub difference_form_of : (scope : List Entry) (left right : Expr) (form : Form) → has_small_numbers scope ≡ true → form ≡ minus (sense scope left).form (sense scope right).form → IsFormOf scope form
difference_form_of scope left right form small is =
    subst (IsFormOf scope) (sym is) (plus_is_form scope (sense scope left).form (scaled (neg_ℤ (pos 1)) (sense scope right).form) (every_sense_is_sound scope small left).of_scope (scaled_is_form scope (neg_ℤ (pos 1)) (sense scope right).form (every_sense_is_sound scope small right).of_scope))

pub limited_is_small : (form : Form) → is_limited form ≡ true → FitsLinear form
limited_is_small form limited = within_small 1 form (omega arith) (limited_within form limited)

pub raised_form_of : (scope : List Entry) (form next : Form) → IsFormOf scope form → next ≡ raised (pos 1) form → IsFormOf scope next
raised_form_of scope form next of_scope is = subst (IsFormOf scope) (sym is) (raised_is_form scope (pos 1) form of_scope)

pub raised_small : (form next : Form) → is_limited form ≡ true → next ≡ raised (pos 1) form → FitsLinear next
raised_small form next limited is = subst FitsLinear (sym is) (within_small 2 (raised (pos 1) form) (omega arith) (raised_within 1 form (limited_within form limited)))

-- ---- negations

fine_not : (scope : List Entry) (at : ℕ) (of : Expr) → (sense scope (exprs.Not at of)).faults ≡ [] → IsBool scope of
fine_not scope at of none =
    let fine = parts_fine kinds.Bool (sense scope of ∷ []) (sym (ap (λ (s : Sense). s.faults) (sense-Not scope at of)) ∙ none) in
    record { fine = fine.0.0; bool = fine.0.1 }

pub not_part : (scope : List Entry) (expression of got : Expr) (at : ℕ) → expression ≡ exprs.Not at of → got ≡ of → (sense scope expression).faults ≡ [] → IsBool scope got
not_part scope expression of got at is one none = subst (IsBool scope) (sym one) (fine_not scope at of (sym (ap (λ e. (sense scope e).faults) is) ∙ none))

-- ---- parts that all or any are to hold

fine_part : (scope : List Entry) (parts : List Expr) (k : ℕ) (d : Expr) → AreFine kinds.Bool (map (sense scope) parts) → k < length parts → IsBool scope (get_or parts k d)
fine_part scope [] k d fine less = absurd (omega arith)
fine_part scope (part ∷ parts) zero d fine less = record { fine = fine.0.0; bool = fine.0.1 }
fine_part scope (part ∷ parts) (suc k) d fine less = fine_part scope parts k d fine.1 (omega arith)

fine_both : (scope : List Entry) (parts : List Expr) → (sense scope (exprs.Both parts)).faults ≡ [] → All (IsBool scope) parts
fine_both scope parts none =
    let fine = parts_fine kinds.Bool (map (sense scope) parts) (sym (ap (λ (s : Sense). s.faults) (sense-Both scope parts)) ∙ none) in
    λ k d less. fine_part scope parts k d fine less

fine_either : (scope : List Entry) (parts : List Expr) → (sense scope (exprs.Either parts)).faults ≡ [] → All (IsBool scope) parts
fine_either scope parts none =
    let fine = parts_fine kinds.Bool (map (sense scope) parts) (sym (ap (λ (s : Sense). s.faults) (sense-Either scope parts)) ∙ none) in
    λ k d less. fine_part scope parts k d fine less

pub both_parts : (scope : List Entry) (expression : Expr) (parts items : List Expr) → expression ≡ exprs.Both parts → items ≡ parts → (sense scope expression).faults ≡ [] → All (IsBool scope) items
both_parts scope expression parts items is more none = subst (λ (list : List Expr). All (IsBool scope) list) (sym more) (fine_both scope parts (sym (ap (λ e. (sense scope e).faults) is) ∙ none))

pub either_parts : (scope : List Entry) (expression : Expr) (parts items : List Expr) → expression ≡ exprs.Either parts → items ≡ parts → (sense scope expression).faults ≡ [] → All (IsBool scope) items
either_parts scope expression parts items is more none = subst (λ (list : List Expr). All (IsBool scope) list) (sym more) (fine_either scope parts (sym (ap (λ e. (sense scope e).faults) is) ∙ none))

each_formula : (scope : List Entry) (parts : List Expr) → map (λ part. (sense scope part).formula) parts ≡ map (λ part. part.formula) (map (sense scope) parts)
each_formula scope [] = refl
each_formula scope (part ∷ parts) = ap (λ more. (sense scope part).formula ∷ more) (each_formula scope parts)

pub both_is : (scope : List Entry) (expression : Expr) (parts items : List Expr) (made : List Formula) → expression ≡ exprs.Both parts → items ≡ parts → made ≡ map (λ part. (sense scope part).formula) items → formulas.All made ≡ (sense scope expression).formula
both_is scope expression parts items made is more made_is =
    ap formulas.All (made_is ∙ ap (map (λ part. (sense scope part).formula)) more ∙ each_formula scope parts) ∙ sym (ap (λ e. (sense scope e).formula) is ∙ ap (λ (s : Sense). s.formula) (sense-Both scope parts))

pub either_is : (scope : List Entry) (expression : Expr) (parts items : List Expr) (made : List Formula) → expression ≡ exprs.Either parts → items ≡ parts → made ≡ map (λ part. (sense scope part).formula) items → formulas.Any made ≡ (sense scope expression).formula
either_is scope expression parts items made is more made_is =
    ap formulas.Any (made_is ∙ ap (map (λ part. (sense scope part).formula)) more ∙ each_formula scope parts) ∙ sym (ap (λ e. (sense scope e).formula) is ∙ ap (λ (s : Sense). s.formula) (sense-Either scope parts))
