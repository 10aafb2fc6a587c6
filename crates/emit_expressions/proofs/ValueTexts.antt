-- Values, by their forms.
use Rattle.std.proofs.Common.{◌≡◌, ℕ, Bool, true, false, List, ◌++◌, ◌∙◌, codes, refl, ap, sym}
use Rattle.std.specs.Prelude.{if◌then◌else◌}
use Rattle.std.specs.List.{flat_map}
use Rattle.std.proofs.lemmas.Bool.{false≢true}
use Rattle.lang_tree.specs.declared.tree.Addend.{Addend}
use Rattle.lang_tree.specs.declared.tree.Factor.{Factor}
use Rattle.lang_tree.specs.declared.tree.Expr.{Expr, out-Expr}
use Rattle.lang_tree.specs.declared.tree.Expr.TheVariants.{Named, Minus, Product, Sum, rolls-Named, rolls-Minus, rolls-Product, rolls-Sum}
use Rattle.lang_tree.specs.declared.tree.Expr.TheOpen as layers
use Rattle.lang_tree.specs.declared.tree.Expr.TheViews.{out-roll-Expr}
use Rattle.emit_expressions.specs.Scopes.{ScopeParts, is_variable_name}
use Rattle.emit_expressions.specs.Expressions.{plain_text, written}
use Rattle.emit_expressions.specs.Values.{is_atom, is_atom_in, is_single, is_single_in, is_variable, is_variable_in, plain_addend, plain_factor, single_addend, single_factor, single_text, single_text_in}

pub first_by : (t test : Bool) (a b : List ℕ) → test ≡ t → test ≡ true → a ≡ (if t then a else b)
first_by true test a b is held = refl
first_by false test a b is held = absurd (false≢true (sym is ∙ held))

pub second_by : (t test : Bool) (a b : List ℕ) → test ≡ t → test ≡ false → b ≡ (if t then a else b)
second_by true test a b is held = absurd (false≢true (sym held ∙ is))
second_by false test a b is held = refl

named_opened : (expression : Expr) (at : ℕ) (name : List ℕ) → expression ≡ Named at name → out-Expr expression ≡ layers.Named at name
named_opened expression at name is = ap out-Expr (is ∙ sym (rolls-Named at name)) ∙ out-roll-Expr (layers.Named at name)

minus_opened : (expression : Expr) (at : ℕ) (of : Expr) → expression ≡ Minus at of → out-Expr expression ≡ layers.Minus at of
minus_opened expression at of is = ap out-Expr (is ∙ sym (rolls-Minus at of)) ∙ out-roll-Expr (layers.Minus at of)

product_opened : (expression first : Expr) (rest : List Factor) → expression ≡ Product first rest → out-Expr expression ≡ layers.Product first rest
product_opened expression first rest is = ap out-Expr (is ∙ sym (rolls-Product first rest)) ∙ out-roll-Expr (layers.Product first rest)

sum_opened : (expression first : Expr) (rest : List Addend) → expression ≡ Sum first rest → out-Expr expression ≡ layers.Sum first rest
sum_opened expression first rest is = ap out-Expr (is ∙ sym (rolls-Sum first rest)) ∙ out-roll-Expr (layers.Sum first rest)

module _ (scope : ScopeParts) where
  -- ---- whether it is one operation of atoms

  pub is-Named : (expression : Expr) (at : ℕ) (name : List ℕ) → expression ≡ Named at name → is_variable_name scope name ≡ is_variable scope expression
  is-Named expression at name is = sym (ap (is_variable_in scope) (named_opened expression at name is))

  pub atom-Minus : (expression of got : Expr) (at : ℕ) → expression ≡ Minus at of → got ≡ of → (written scope got).is_number ≡ is_atom scope expression
  atom-Minus expression of got at is one = ap (λ e. (written scope e).is_number) one ∙ sym (ap (is_atom_in scope) (minus_opened expression at of is))

  pub is-Minus : (expression of got : Expr) (at : ℕ) → expression ≡ Minus at of → got ≡ of → is_variable scope got ≡ is_single scope expression
  is-Minus expression of got at is one = ap (is_variable scope) one ∙ sym (ap (is_single_in scope) (minus_opened expression at of is))

  pub is-Product : (expression first got : Expr) (rest items : List Factor) → expression ≡ Product first rest → got ≡ first → items ≡ rest → single_factor scope got items ≡ is_single scope expression
  is-Product expression first got rest items is one more =
      ap (λ e. single_factor scope e items) one ∙ ap (single_factor scope first) more ∙ sym (ap (is_single_in scope) (product_opened expression first rest is))

  pub is-Sum : (expression first got : Expr) (rest items : List Addend) → expression ≡ Sum first rest → got ≡ first → items ≡ rest → single_addend scope got items ≡ is_single scope expression
  is-Sum expression first got rest items is one more =
      ap (λ e. single_addend scope e items) one ∙ ap (single_addend scope first) more ∙ sym (ap (is_single_in scope) (sum_opened expression first rest is))

  -- ---- its text

  pub single-Minus : (expression of got : Expr) (at : ℕ) → expression ≡ Minus at of → got ≡ of → codes "-" ++ plain_text scope got ≡ single_text scope expression
  single-Minus expression of got at is one = ap (λ e. codes "-" ++ plain_text scope e) one ∙ sym (ap (single_text_in scope) (minus_opened expression at of is))

  pub single-Product : (expression first got : Expr) (rest items : List Factor) → expression ≡ Product first rest → got ≡ first → items ≡ rest
      → plain_text scope got ++ flat_map (plain_factor scope) items ≡ single_text scope expression
  single-Product expression first got rest items is one more =
      ap (λ e. plain_text scope e ++ flat_map (plain_factor scope) items) one ∙ ap (λ l. plain_text scope first ++ flat_map (plain_factor scope) l) more
      ∙ sym (ap (single_text_in scope) (product_opened expression first rest is))

  pub single-Sum : (expression first got : Expr) (rest items : List Addend) → expression ≡ Sum first rest → got ≡ first → items ≡ rest
      → plain_text scope got ++ flat_map (plain_addend scope) items ≡ single_text scope expression
  single-Sum expression first got rest items is one more =
      ap (λ e. plain_text scope e ++ flat_map (plain_addend scope) items) one ∙ ap (λ l. plain_text scope first ++ flat_map (plain_addend scope) l) more
      ∙ sym (ap (single_text_in scope) (sum_opened expression first rest is))
