-- Expressions in Rust, by their forms.
use Rattle.std.proofs.Common.{◌≡◌, ◌⊎◌, ⊎_elim, ℕ, suc, ◌+◌, ◌<◌, ◌≤◌, Bool, true, false, not, ◌&&◌, ◌||◌, List, [], ◌∷◌, ◌++◌, ◌∙◌, map, codes, decimal, refl, ap, sym, subst, length, take, drop, get_or, append_assoc, ◌-◌, arith}
use Rattle.std.specs.Prelude.{if◌then◌else◌}
use Rattle.std.proofs.lemmas.Bool.{lt-ltb, le-ltb, false≢true}
use Rattle.std.proofs.lemmas.List.{append-nil, take_all}
use Rattle.std.proofs.lemmas.List.Folds.{list_any_at, list_any_more}
use Rattle.std.specs.List.{enumerate_from, flat_map, list_any}
use Rattle.std.proofs.lemmas.List.{length-map}
use Rattle.lang_tree.specs.declared.tree.Op.{Op}
use Rattle.lang_tree.specs.declared.tree.Addend.{Addend, out-Addend}
use Rattle.lang_tree.specs.declared.tree.Factor.{Factor, out-Factor}
use Rattle.lang_tree.specs.declared.tree.Expr.{Expr}
use Rattle.lang_tree.specs.declared.tree.Expr.TheVariants.{Number, Named, Minus, Product, Sum, Compare, Both, Either, rolls-Number, rolls-Named, rolls-Minus, rolls-Product, rolls-Sum, rolls-Compare, rolls-Both, rolls-Either}
use Rattle.lang_tree.specs.declared.tree.Expr.TheOpen as layers
use Rattle.lang_tree.specs.declared.tree.Expr.TheFolds.{fold-roll-Expr, fold_out-Addend, fold_out-Factor}
use Rattle.lang_printer.specs.Canonical.{addend_sign, minus_text, op_text}
use Rattle.emit_expressions.specs.Scopes.{ScopeParts, is_read, name_text}
use Rattle.emit_expressions.specs.Expressions.{Written, Later, addend_by, begins, begun_level, closed, ending_in, factor_by, is_pieced, joined, joined_by, joined_in, opened, product_by, product_closed, product_in, product_opened, sum_by, sum_in, times, written, written_step, addend_step, factor_step, within, plain_name, plain_text, plain_texts, comparison, wide_comparison, wide_name, number_ending}
use Rattle.emit_expressions.specs.inner.Parts.{addend_at, factor_at, part_at, parts_in, wide_part, plain_part, later_factor, later_addend, factors_text, addends_text, joined_parts, any_factor, any_addend, any_part}
use Rattle.emit_names.proofs.Reading.{any_map}

-- ---- a part, in parentheses or not

within-open : (asked level : ℕ) (text : List ℕ) → level < asked → codes "(" ++ text ++ codes ")" ≡ within asked level text
within-open asked level text less = rw (lt-ltb level asked less) refl

pub wide_part-open : (scope : ScopeParts) (asked level : ℕ) (ending : List ℕ) (part : Expr) → level ≡ (written scope part).level → level < asked → codes "(" ++ (written scope part).wide ending ++ codes ")" ≡ wide_part scope asked ending part
wide_part-open scope asked level ending part is less = within-open asked (written scope part).level ((written scope part).wide ending) (subst (λ (n : ℕ). n < asked) is less)

pub plain_part-open : (scope : ScopeParts) (asked level : ℕ) (part : Expr) → level ≡ (written scope part).level → level < asked → codes "(" ++ plain_text scope part ++ codes ")" ≡ plain_part scope asked part
plain_part-open scope asked level part is less = within-open asked (written scope part).level (plain_text scope part) (subst (λ (n : ℕ). n < asked) is less)

within-closed : (asked level : ℕ) (text : List ℕ) → asked ≤ level → text ≡ within asked level text
within-closed asked level text least = rw (le-ltb level asked least) refl

pub wide_part-closed : (scope : ScopeParts) (asked level : ℕ) (ending : List ℕ) (part : Expr) → level ≡ (written scope part).level → asked ≤ level → (written scope part).wide ending ≡ wide_part scope asked ending part
wide_part-closed scope asked level ending part is least = within-closed asked (written scope part).level ((written scope part).wide ending) (subst (λ (n : ℕ). asked ≤ n) is least)

pub plain_part-closed : (scope : ScopeParts) (asked level : ℕ) (part : Expr) → level ≡ (written scope part).level → asked ≤ level → plain_text scope part ≡ plain_part scope asked part
plain_part-closed scope asked level part is least = within-closed asked (written scope part).level (plain_text scope part) (subst (λ (n : ℕ). asked ≤ n) is least)

-- ---- the parts after the first

module _ (scope : ScopeParts) where
  factor_is : (factor : Factor) → later_factor scope factor ≡ factor_step (record { at = (out-Factor factor).at; of = written scope (out-Factor factor).of })
  factor_is factor = fold_out-Factor Written Later Later (written_step scope) addend_step factor_step factor

  addend_is : (addend : Addend) → later_addend scope addend ≡ addend_step (record { minus = (out-Addend addend).minus; of = written scope (out-Addend addend).of })
  addend_is addend = fold_out-Addend Written Later Later (written_step scope) addend_step factor_step addend

  pub later_factor-of : (begun asked : Bool) (ending : List ℕ) (factor : Factor) (sign : List ℕ) → begun ≡ asked → sign ≡ times begun → sign ++ wide_part scope 6 ending (out-Factor factor).of ≡ factor_by asked ending (later_factor scope factor)
  later_factor-of begun asked ending factor sign is says =
      ap (λ s. s ++ wide_part scope 6 ending (out-Factor factor).of) (says ∙ ap times is) ∙ ap (λ l. times asked ++ l) (sym (ap (λ (l : Later). l.wide ending) (factor_is factor)))

  pub later_addend-of : (ending : List ℕ) (addend : Addend) → addend_sign (out-Addend addend).minus ++ wide_part scope 5 ending (out-Addend addend).of ≡ (later_addend scope addend).wide ending
  later_addend-of ending addend = sym (ap (λ (l : Later). l.wide ending) (addend_is addend))

  pub later_addend-begun : (ending : List ℕ) (addend : Addend)
      → minus_text (out-Addend addend).minus ++ wide_part scope (begun_level (out-Addend addend).minus) ending (out-Addend addend).of ≡ (later_addend scope addend).begun ending
  later_addend-begun ending addend = sym (ap (λ (l : Later). l.begun ending) (addend_is addend))

  pub factor_named : (factor : Factor) → (written scope (out-Factor factor).of).is_named ≡ (later_factor scope factor).is_named
  factor_named factor = sym (ap (λ (l : Later). l.is_named) (factor_is factor))

  pub addend_named : (addend : Addend) → (written scope (out-Addend addend).of).is_named ≡ (later_addend scope addend).is_named
  addend_named addend = sym (ap (λ (l : Later). l.is_named) (addend_is addend))

  -- ---- the forms

  minus_is : (at : ℕ) (of : Expr) → written scope (Minus at of) ≡ written_step scope (layers.Minus at (written scope of))
  minus_is at of = ap (written scope) (sym (rolls-Minus at of)) ∙ fold-roll-Expr Written Later Later (written_step scope) addend_step factor_step (layers.Minus at of)

  pub narrows-Minus : (expression of got : Expr) (at : ℕ) (test : Bool) → expression ≡ Minus at of → got ≡ of → test ≡ (written scope got).is_number → not test ≡ (written scope expression).narrows
  narrows-Minus expression of got at test is one number =
      ap (λ t. not t) (number ∙ ap (λ e. (written scope e).is_number) one)
      ∙ sym (ap (λ (w : Written). w.narrows) (ap (written scope) is ∙ minus_is at of))

  product_is : (first : Expr) (rest : List Factor) → written scope (Product first rest) ≡ written_step scope (layers.Product (written scope first) (map (later_factor scope) rest))
  product_is first rest = ap (written scope) (sym (rolls-Product first rest)) ∙ fold-roll-Expr Written Later Later (written_step scope) addend_step factor_step (layers.Product first rest)

  sum_is : (first : Expr) (rest : List Addend) → written scope (Sum first rest) ≡ written_step scope (layers.Sum (written scope first) (map (later_addend scope) rest))
  sum_is first rest = ap (written scope) (sym (rolls-Sum first rest)) ∙ fold-roll-Expr Written Later Later (written_step scope) addend_step factor_step (layers.Sum first rest)

  compare_is : (op : Op) (left right : Expr) → written scope (Compare op left right) ≡ written_step scope (layers.Compare op (written scope left) (written scope right))
  compare_is op left right = ap (written scope) (sym (rolls-Compare op left right)) ∙ fold-roll-Expr Written Later Later (written_step scope) addend_step factor_step (layers.Compare op left right)

  both_is : (parts : List Expr) → written scope (Both parts) ≡ written_step scope (layers.Both (map (written scope) parts))
  both_is parts = ap (written scope) (sym (rolls-Both parts)) ∙ fold-roll-Expr Written Later Later (written_step scope) addend_step factor_step (layers.Both parts)

  either_is : (parts : List Expr) → written scope (Either parts) ≡ written_step scope (layers.Either (map (written scope) parts))
  either_is parts = ap (written scope) (sym (rolls-Either parts)) ∙ fold-roll-Expr Written Later Later (written_step scope) addend_step factor_step (layers.Either parts)

  number_is : (at value : ℕ) → written scope (Number at value) ≡ written_step scope (layers.Number at value)
  number_is at value = ap (written scope) (sym (rolls-Number at value)) ∙ fold-roll-Expr Written Later Later (written_step scope) addend_step factor_step (layers.Number at value)

  named_is : (at : ℕ) (name : List ℕ) → written scope (Named at name) ≡ written_step scope (layers.Named at name)
  named_is at name = ap (written scope) (sym (rolls-Named at name)) ∙ fold-roll-Expr Written Later Later (written_step scope) addend_step factor_step (layers.Named at name)

  -- ---- in 128 bits

  pub wide-Number : (ending : List ℕ) (expression : Expr) (at value : ℕ) → expression ≡ Number at value → decimal value ++ ending ≡ (written scope expression).wide ending
  wide-Number ending expression at value is = sym (ap (λ (w : Written). w.wide ending) (ap (written scope) is ∙ number_is at value))

  pub wide-Named : (ending : List ℕ) (expression : Expr) (at : ℕ) (name : List ℕ) → expression ≡ Named at name → wide_name (is_read scope name) (name_text scope name) ending ≡ (written scope expression).wide ending
  wide-Named ending expression at name is = sym (ap (λ (w : Written). w.wide ending) (ap (written scope) is ∙ named_is at name))

  -- the factors after the first one, by their trees
  factors_same : (pieced : Bool) (ending : List ℕ) (from : ℕ) (rest : List Factor)
      → flat_map (λ one. factor_at scope pieced ending one.0 one.1) (enumerate_from from rest) ≡ flat_map (λ one. factor_by (pieced && begins one.0) ending one.1) (enumerate_from from (map (later_factor scope) rest))
  factors_same pieced ending from [] = refl
  factors_same pieced ending from (factor ∷ rest) = ap (λ l. factor_at scope pieced ending from factor ++ l) (factors_same pieced ending (from + 1) rest)

  product_same : (pieced : Bool) (ending : List ℕ) (first : Expr) (rest : List Factor)
      → product_opened pieced ++ wide_part scope 6 ending first ++ factors_text scope pieced ending rest ≡ product_by pieced ending (written scope first) (map (later_factor scope) rest)
  product_same pieced ending first rest = ap (λ l. product_opened pieced ++ wide_part scope 6 ending first ++ (l ++ product_closed pieced)) (factors_same pieced ending 0 rest)

  pub wide-Product : (ending : List ℕ) (expression first got : Expr) (rest items : List Factor) (pieced : Bool) (ended before : List ℕ) → expression ≡ Product first rest → got ≡ first → items ≡ rest → pieced ≡ is_pieced (length items) → ended ≡ ending_in pieced ending → before ≡ product_opened pieced
      → before ++ wide_part scope 6 ended got ++ factors_text scope pieced ended items ≡ (written scope expression).wide ending
  wide-Product ending expression first got rest items pieced ended before is one more counted ends lists =
      ap (λ b. b ++ wide_part scope 6 ended got ++ factors_text scope pieced ended items) lists
      ∙ ap (λ e. product_opened pieced ++ wide_part scope 6 ended e ++ factors_text scope pieced ended items) one
      ∙ ap (λ l. product_opened pieced ++ wide_part scope 6 ended first ++ factors_text scope pieced ended l) more
      ∙ product_same pieced ended first rest
      ∙ ap (λ e. product_by pieced e (written scope first) (map (later_factor scope) rest)) ends
      ∙ ap (λ p. product_in p ending (written scope first) (map (later_factor scope) rest)) (counted ∙ ap (λ n. is_pieced n) (ap length more ∙ sym (length-map rest (later_factor scope))))
      ∙ sym (ap (λ (w : Written). w.wide ending) (ap (written scope) is ∙ product_is first rest))

  -- the addends after the first one, by their trees
  addends_same : (pieced : Bool) (ending : List ℕ) (from : ℕ) (rest : List Addend)
      → flat_map (λ one. addend_at scope pieced ending one.0 one.1) (enumerate_from from rest) ≡ flat_map (λ one. addend_by (pieced && begins one.0) ending one.1) (enumerate_from from (map (later_addend scope) rest))
  addends_same pieced ending from [] = refl
  addends_same pieced ending from (addend ∷ rest) = ap (λ l. addend_at scope pieced ending from addend ++ l) (addends_same pieced ending (from + 1) rest)

  sum_same : (pieced : Bool) (ending : List ℕ) (first : Expr) (rest : List Addend)
      → opened pieced ++ wide_part scope 5 ending first ++ addends_text scope pieced ending rest ≡ sum_by pieced ending (written scope first) (map (later_addend scope) rest)
  sum_same pieced ending first rest = ap (λ l. opened pieced ++ wide_part scope 5 ending first ++ (l ++ closed pieced)) (addends_same pieced ending 0 rest)

  pub wide-Sum : (ending : List ℕ) (expression first got : Expr) (rest items : List Addend) (pieced : Bool) (ended before : List ℕ) → expression ≡ Sum first rest → got ≡ first → items ≡ rest → pieced ≡ is_pieced (length items) → ended ≡ ending_in pieced ending → before ≡ opened pieced
      → before ++ wide_part scope 5 ended got ++ addends_text scope pieced ended items ≡ (written scope expression).wide ending
  wide-Sum ending expression first got rest items pieced ended before is one more counted ends opens =
      ap (λ b. b ++ wide_part scope 5 ended got ++ addends_text scope pieced ended items) opens
      ∙ ap (λ e. opened pieced ++ wide_part scope 5 ended e ++ addends_text scope pieced ended items) one
      ∙ ap (λ l. opened pieced ++ wide_part scope 5 ended first ++ addends_text scope pieced ended l) more
      ∙ sum_same pieced ended first rest
      ∙ ap (λ e. sum_by pieced e (written scope first) (map (later_addend scope) rest)) ends
      ∙ ap (λ p. sum_in p ending (written scope first) (map (later_addend scope) rest)) (counted ∙ ap (λ n. is_pieced n) (ap length more ∙ sym (length-map rest (later_addend scope))))
      ∙ sym (ap (λ (w : Written). w.wide ending) (ap (written scope) is ∙ sum_is first rest))

  -- ---- in 64 bits, and truth values

  pub plain-Named : (expression : Expr) (at : ℕ) (name : List ℕ) → expression ≡ Named at name → plain_name (is_read scope name) (name_text scope name) ≡ plain_text scope expression
  plain-Named expression at name is = sym (ap (λ (w : Written). w.plain) (ap (written scope) is ∙ named_is at name))

  pub plain-Minus : (expression of got : Expr) (at : ℕ) → expression ≡ Minus at of → got ≡ of → codes "-" ++ plain_text scope got ≡ plain_text scope expression
  plain-Minus expression of got at is one =
      ap (λ e. codes "-" ++ plain_text scope e) one
      ∙ sym (ap (λ (w : Written). w.plain) (ap (written scope) is ∙ minus_is at of))

  pub plain-Compare : (expression left right here there : Expr) (op : Op) → expression ≡ Compare op left right → here ≡ left → there ≡ right → comparison op (written scope here) (written scope there) ≡ plain_text scope expression
  plain-Compare expression left right here there op is l r =
      ap (λ e. comparison op (written scope e) (written scope there)) l
      ∙ ap (λ e. comparison op (written scope left) (written scope e)) r
      ∙ sym (ap (λ (w : Written). w.plain) (ap (written scope) is ∙ compare_is op left right))

  joined-rest : (sign : List ℕ) (asked : ℕ) (pieced : Bool) (from : ℕ) (parts : List Expr)
      → flat_map (λ one. part_at scope sign asked pieced one.0 one.1) (enumerate_from from parts)
      ≡ flat_map (λ one. joined_by (pieced && begins one.0) sign one.1) (enumerate_from from (plain_texts asked (map (written scope) parts)))
  joined-rest sign asked pieced from [] = refl
  joined-rest sign asked pieced from (part ∷ parts) = ap (λ l. part_at scope sign asked pieced from part ++ l) (joined-rest sign asked pieced (from + 1) parts)

  texts_length : (asked : ℕ) (parts : List Expr) → length parts ≡ length (plain_texts asked (map (written scope) parts))
  texts_length asked [] = refl
  texts_length asked (part ∷ parts) = ap (λ n. suc n) (texts_length asked parts)

  joined-same : (sign : List ℕ) (asked : ℕ) (parts : List Expr) → joined_parts scope sign asked parts ≡ joined sign (plain_texts asked (map (written scope) parts))
  joined-same sign asked [] = refl
  joined-same sign asked (part ∷ parts) =
      let pieced = is_pieced (length parts) in
      ap (λ l. opened pieced ++ plain_part scope asked part ++ l ++ closed pieced) (joined-rest sign asked pieced 0 parts)
      ∙ ap (λ n. joined_in (is_pieced n) sign (plain_part scope asked part) (plain_texts asked (map (written scope) parts))) (texts_length asked parts)

  pub plain-Both : (expression : Expr) (parts items : List Expr) → expression ≡ Both parts → items ≡ parts → joined_parts scope (codes " && ") 3 items ≡ plain_text scope expression
  plain-Both expression parts items is same =
      ap (joined_parts scope (codes " && ") 3) same ∙ joined-same (codes " && ") 3 parts ∙ sym (ap (λ (w : Written). w.plain) (ap (written scope) is ∙ both_is parts))

  pub plain-Either : (expression : Expr) (parts items : List Expr) → expression ≡ Either parts → items ≡ parts → joined_parts scope (codes " || ") 2 items ≡ plain_text scope expression
  plain-Either expression parts items is same =
      ap (joined_parts scope (codes " || ") 2) same ∙ joined-same (codes " || ") 2 parts ∙ sym (ap (λ (w : Written). w.plain) (ap (written scope) is ∙ either_is parts))

  -- ---- whether some name has a text

  pub named-Product : (expression first got : Expr) (rest items : List Factor) (one more : Bool) → expression ≡ Product first rest → got ≡ first → items ≡ rest → one ≡ (written scope got).is_named → more ≡ any_factor scope items → (one || more) ≡ (written scope expression).is_named
  named-Product expression first got rest items one more is a b left right =
      ap (λ t. t || more) (left ∙ ap (λ e. (written scope e).is_named) a)
      ∙ ap (λ t. (written scope first).is_named || t) (right ∙ ap (any_factor scope) b ∙ any_map (λ (later : Later). later.is_named) (later_factor scope) rest)
      ∙ sym (ap (λ (w : Written). w.is_named) (ap (written scope) is ∙ product_is first rest))

  pub named-Sum : (expression first got : Expr) (rest items : List Addend) (one more : Bool) → expression ≡ Sum first rest → got ≡ first → items ≡ rest → one ≡ (written scope got).is_named → more ≡ any_addend scope items → (one || more) ≡ (written scope expression).is_named
  named-Sum expression first got rest items one more is a b left right =
      ap (λ t. t || more) (left ∙ ap (λ e. (written scope e).is_named) a)
      ∙ ap (λ t. (written scope first).is_named || t) (right ∙ ap (any_addend scope) b ∙ any_map (λ (later : Later). later.is_named) (later_addend scope) rest)
      ∙ sym (ap (λ (w : Written). w.is_named) (ap (written scope) is ∙ sum_is first rest))

  pub named-Compare : (expression left right here there : Expr) (op : Op) (one more : Bool) → expression ≡ Compare op left right → here ≡ left → there ≡ right → one ≡ (written scope here).is_named → more ≡ (written scope there).is_named → (one || more) ≡ (written scope expression).is_named
  named-Compare expression left right here there op one more is a b l r =
      ap (λ t. t || more) (l ∙ ap (λ e. (written scope e).is_named) a)
      ∙ ap (λ t. (written scope left).is_named || t) (r ∙ ap (λ e. (written scope e).is_named) b)
      ∙ sym (ap (λ (w : Written). w.is_named) (ap (written scope) is ∙ compare_is op left right))

  named-Both : (expression : Expr) (parts items : List Expr) (answer : Bool) → expression ≡ Both parts → items ≡ parts → answer ≡ any_part scope items → answer ≡ (written scope expression).is_named
  named-Both expression parts items answer is same found =
      found ∙ ap (any_part scope) same ∙ any_map (λ (part : Written). part.is_named) (written scope) parts ∙ sym (ap (λ (w : Written). w.is_named) (ap (written scope) is ∙ both_is parts))

  named-Either : (expression : Expr) (parts items : List Expr) (answer : Bool) → expression ≡ Either parts → items ≡ parts → answer ≡ any_part scope items → answer ≡ (written scope expression).is_named
  named-Either expression parts items answer is same found =
      found ∙ ap (any_part scope) same ∙ any_map (λ (part : Written). part.is_named) (written scope) parts ∙ sym (ap (λ (w : Written). w.is_named) (ap (written scope) is ∙ either_is parts))

  pub named-parts : (expression : Expr) (parts items : List Expr) (answer : Bool) → (expression ≡ Both parts) ⊎ (expression ≡ Either parts) → items ≡ parts → answer ≡ any_part scope items → answer ≡ (written scope expression).is_named
  named-parts expression parts items answer is same found =
      ⊎_elim (λ both. named-Both expression parts items answer both same found) (λ either. named-Either expression parts items answer either same found) is

-- ---- pieces

pub addend-follows : (begins : Bool) (ending : List ℕ) (later : Later) → begins ≡ false → later.wide ending ≡ addend_by begins ending later
addend-follows true ending later is = absurd (false≢true (sym is))
addend-follows false ending later is = refl

pub addend-begins : (begins : Bool) (ending : List ℕ) (later : Later) → begins ≡ true → codes ")\n            + (" ++ later.begun ending ≡ addend_by begins ending later
addend-begins true ending later is = refl
addend-begins false ending later is = absurd (false≢true is)

pub begun-by : (scope : ScopeParts) (ending : List ℕ) (addend : Addend) (sign : List ℕ) (level : ℕ) → sign ≡ minus_text (out-Addend addend).minus → level ≡ begun_level (out-Addend addend).minus
    → sign ++ wide_part scope level ending (out-Addend addend).of ≡ (later_addend scope addend).begun ending
begun-by scope ending addend sign level says is =
    ap (λ s. s ++ wide_part scope level ending (out-Addend addend).of) says ∙ ap (λ n. minus_text (out-Addend addend).minus ++ wide_part scope n ending (out-Addend addend).of) is ∙ later_addend-begun scope ending addend

pub part-follows : (begins : Bool) (sign text : List ℕ) → begins ≡ false → sign ++ text ≡ joined_by begins sign text
part-follows true sign text is = absurd (false≢true (sym is))
part-follows false sign text is = refl

pub part-begins : (begins : Bool) (sign text : List ℕ) → begins ≡ true → codes ")\n           " ++ (sign ++ (codes "(" ++ [])) ++ text ≡ joined_by begins sign text
part-begins true sign text is = ap (λ l. l ++ text) (sym (append_assoc (codes ")\n           ") sign (codes "(")))
part-begins false sign text is = absurd (false≢true is)

-- ---- rows of parts

abbrev pub after_first : {X : Type 0} → List X → List X
after_first parts = take (length parts - 1) (drop 1 parts)

-- what is written of them, with these parentheses
abbrev pub rest_text : ScopeParts → List ℕ → ℕ → Bool → List Expr → List ℕ
rest_text scope sign asked pieced rest = flat_map (λ one. part_at scope sign asked pieced one.0 one.1) (enumerate_from 0 rest)

pub joined_parts-cut : (scope : ScopeParts) (sign : List ℕ) (asked : ℕ) (parts : List Expr) (first : Expr) (pieced : Bool) (before after : List ℕ) → 1 ≤ length parts → first ≡ get_or parts 0 first
    → pieced ≡ is_pieced (length (after_first parts)) → before ≡ opened pieced → after ≡ closed pieced
    → before ++ plain_part scope asked first ++ rest_text scope sign asked pieced (after_first parts) ++ after ≡ joined_parts scope sign asked parts
joined_parts-cut scope sign asked [] first pieced before after some is counted opens closes = absurd (omega arith)
joined_parts-cut scope sign asked (part ∷ parts) first pieced before after some is counted opens closes =
    let rest : after_first (part ∷ parts) ≡ parts = take_all (length (part ∷ parts) - 1) parts (omega arith) in
    ap (λ b. b ++ plain_part scope asked first ++ rest_text scope sign asked pieced (after_first (part ∷ parts)) ++ after) opens
    ∙ ap (λ a. opened pieced ++ plain_part scope asked first ++ rest_text scope sign asked pieced (after_first (part ∷ parts)) ++ a) closes
    ∙ ap (λ e. parts_in scope sign asked pieced e (after_first (part ∷ parts))) is
    ∙ ap (parts_in scope sign asked pieced part) rest
    ∙ ap (λ p. parts_in scope sign asked p part parts) (counted ∙ ap (λ l. is_pieced (length l)) rest)

-- ---- a row of which some name has a text

pub any_stops : {X : Type 0} (test : X → Bool) (xs : List X) (index : ℕ) (x : X) → index < length xs → x ≡ get_or xs index x → test x ≡ true → true ≡ list_any test xs
any_stops test xs index x within is held = sym (list_any_at test xs index x within (ap test (sym is) ∙ held))

pub any_ends : {X : Type 0} (test : X → Bool) (xs : List X) (index : ℕ) → length xs ≤ index → list_any test (take index xs) ≡ false → false ≡ list_any test xs
any_ends test xs index within held = sym (ap (list_any test) (sym (take_all index xs within)) ∙ held)

pub any_goes : {X : Type 0} (test : X → Bool) (xs : List X) (index : ℕ) (x : X) → index < length xs → x ≡ get_or xs index x → test x ≡ false → list_any test (take index xs) ≡ false → list_any test (take (index + 1) xs) ≡ false
any_goes test xs index x within is none held =
    list_any_more test xs index x within ∙ ap (λ t. t || test (get_or xs index x)) held ∙ ap test (sym is) ∙ none

-- ---- a comparison, in 64 bits or in 128

plain_by : (t : Bool) (a b : List ℕ) → t ≡ true → a ≡ (if t then a else b)
plain_by true a b is = refl
plain_by false a b is = absurd (false≢true is)

wide_by : (t : Bool) (a b : List ℕ) → t ≡ false → b ≡ (if t then a else b)
wide_by true a b is = absurd (false≢true (sym is))
wide_by false a b is = refl

abbrev pub are_plain : Written → Written → Bool → Bool
are_plain left right named = (not left.narrows && not right.narrows) && named

pub comparison_plain : (op : Op) (left right : Written) (named test : Bool) (sign : List ℕ) → named ≡ (left.is_named || right.is_named) → test ≡ are_plain left right named → test ≡ true → sign ≡ op_text op
    → left.plain ++ (sign ++ right.plain) ≡ comparison op left right
comparison_plain op left right named test sign names is plain says =
    sym (append_assoc left.plain sign right.plain)
    ∙ ap (λ s. left.plain ++ s ++ right.plain) says
    ∙ plain_by (are_plain left right (left.is_named || right.is_named)) (left.plain ++ op_text op ++ right.plain) (wide_comparison op left right (number_ending (left.is_named || right.is_named)))
    (ap (are_plain left right) (sym names) ∙ sym is ∙ plain)

pub comparison_wide : (op : Op) (left right : Written) (named test : Bool) (ending : List ℕ) → named ≡ (left.is_named || right.is_named) → test ≡ are_plain left right named → test ≡ false → ending ≡ number_ending named
    → wide_comparison op left right ending ≡ comparison op left right
comparison_wide op left right named test ending names is wide says =
    ap (wide_comparison op left right) (says ∙ ap number_ending names)
    ∙ wide_by (are_plain left right (left.is_named || right.is_named)) (left.plain ++ op_text op ++ right.plain) (wide_comparison op left right (number_ending (left.is_named || right.is_named)))
    (ap (are_plain left right) (sym names) ∙ sym is ∙ wide)

-- ---- values and names

narrow_whole : (n w c e : List ℕ) → n ++ (w ++ (c ++ e)) ≡ n ++ w ++ c ++ e
narrow_whole n w c e = simp append_assoc

pub narrow_parts : (n w c e : List ℕ) → n ++ (w ++ (c ++ (e ++ []))) ≡ n ++ w ++ c ++ e
narrow_parts n w c e = ap (λ l. n ++ (w ++ (c ++ l))) (append-nil e) ∙ narrow_whole n w c e

pub narrow_cut : (n w c e : List ℕ) → n ++ w ++ (c ++ e) ≡ n ++ w ++ c ++ e
narrow_cut n w c e = simp append_assoc

pub wide_unread : (read test : Bool) (name ending : List ℕ) → test ≡ read → test ≡ false → codes "0" ++ (ending ++ []) ≡ wide_name read name ending
wide_unread read true name ending is none = absurd (false≢true (sym none))
wide_unread true false name ending is none = absurd (false≢true is)
wide_unread false false name ending is none = ap (λ l. codes "0" ++ l) (append-nil ending)

pub wide_read : (read test : Bool) (name ending : List ℕ) → test ≡ read → test ≡ true → codes "i128::from(" ++ name ++ codes ")" ≡ wide_name read name ending
wide_read read false name ending is some = absurd (false≢true some)
wide_read false true name ending is some = absurd (false≢true (sym is))
wide_read true true name ending is some = refl
