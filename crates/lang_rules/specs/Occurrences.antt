-- What stands in the tree of a monitor file: expressions with all their parts, statements with all
-- their inner ones, and the names that are known where they stand.
use Rattle.std.specs.Prelude.{◌≡◌, ℕ, zero, suc, ◌⊎◌, List, [], ◌∷◌, ◌++◌, map, Contains}
use Rattle.lang_tree.specs.declared.tree.Addend.{Addend}
use Rattle.lang_tree.specs.declared.tree.Factor.{Factor}
use Rattle.lang_tree.specs.declared.tree.Expr.{Expr, out-Expr}
use Rattle.lang_tree.specs.declared.tree.Expr.TheOpen.{Expr-F, Number, Truth, Named, Minus, Not}
use Rattle.lang_tree.specs.declared.tree.Expr.TheOpen.{Product, Sum, Compare, Both, Either}
use Rattle.lang_tree.specs.declared.tree.StmtTree.{StmtTree, out-StmtTree}
use Rattle.lang_tree.specs.declared.tree.StmtTree.TheOpen.{StmtTree-F, Set, If, Return}
use Rattle.lang_tree.specs.declared.tree.BlockTree.{BlockTree}
use Rattle.lang_tree.specs.declared.tree.MethodTree.{MethodTree}
use Rattle.lang_tree.specs.declared.tree.MonitorTree.{MonitorTree}
use Rattle.lang_forms.specs.declared.scope.Entry.{Entry}
use Rattle.lang_forms.specs.Scope.{scope_of}

-- ---- at some depth

-- so many levels below: a part of a part, and so on
abbrev pub IsBelow : {X : Type 0} → (X → List X) → ℕ → X → X → Type 0
IsBelow parts zero whole inner = inner ≡ whole
IsBelow {X} parts (suc depth) whole inner =
    (part : X) × Contains (parts whole) part × IsBelow parts depth part inner

-- itself, or below it
abbrev pub StandsIn : {X : Type 0} → (X → List X) → X → X → Type 0
StandsIn parts whole inner = (depth : ℕ) × IsBelow parts depth whole inner

-- ---- expressions

abbrev pub layer_parts : Expr-F Expr Addend Factor → List Expr
layer_parts (Number at value) = []
layer_parts (Truth at value) = []
layer_parts (Named at name) = []
layer_parts (Minus at of) = of ∷ []
layer_parts (Not at of) = of ∷ []
layer_parts (Product first rest) = first ∷ map (λ factor. factor.of) rest
layer_parts (Sum first rest) = first ∷ map (λ addend. addend.of) rest
layer_parts (Compare op left right) = left ∷ right ∷ []
layer_parts (Both parts) = parts
layer_parts (Either parts) = parts

-- the expressions of which an expression is made
abbrev pub parts_of : Expr → List Expr
parts_of expression = layer_parts (out-Expr expression)

-- ---- statements

abbrev pub layer_inner : StmtTree-F StmtTree → List StmtTree
layer_inner (Set at name value) = []
layer_inner (If at when body other) = body ++ other
layer_inner (Return at value) = []

-- the statements that stand directly in a statement
abbrev pub inner_of : StmtTree → List StmtTree
inner_of statement = layer_inner (out-StmtTree statement)

abbrev pub layer_expression : StmtTree-F StmtTree → Expr
layer_expression (Set at name value) = value
layer_expression (If at when body other) = when
layer_expression (Return at value) = value

-- the assigned value, the condition or the returned value
abbrev pub expression_of : StmtTree → Expr
expression_of statement = layer_expression (out-StmtTree statement)

-- ---- blocks

abbrev pub HasStatement : BlockTree → StmtTree → Type 0
HasStatement block statement =
    (outer : StmtTree) × Contains block.body outer × StandsIn inner_of outer statement

-- the guard, an expression of a statement, or a part of one of these
abbrev pub HasExpression : BlockTree → Expr → Type 0
HasExpression block expression =
    StandsIn parts_of block.guard expression
    ⊎ ((statement : StmtTree) × HasStatement block statement
    × StandsIn parts_of (expression_of statement) expression)

-- ---- files

-- it is so of a method, with the names that are known in it
abbrev pub OfMethod : MonitorTree → (List Entry → MethodTree → Type 0) → Type 0
OfMethod tree Rule =
    (method : MethodTree) × Contains tree.methods method
    × Rule (scope_of tree.decls method) method

-- it is so of a block, with the names that are known in its method
abbrev pub OfBlock : MonitorTree → (List Entry → BlockTree → Type 0) → Type 0
OfBlock tree Rule =
    OfMethod tree (λ scope method.
    (block : BlockTree) × Contains method.blocks block × Rule scope block)

-- it is so of a statement, and of an expression, with the names that are known there
abbrev pub OfStatement : MonitorTree → (List Entry → StmtTree → Type 0) → Type 0
OfStatement tree Rule =
    OfBlock tree (λ scope block.
    (statement : StmtTree) × HasStatement block statement × Rule scope statement)

abbrev pub OfExpression : MonitorTree → (List Entry → Expr → Type 0) → Type 0
OfExpression tree Rule =
    OfBlock tree (λ scope block.
    (expression : Expr) × HasExpression block expression × Rule scope expression)
