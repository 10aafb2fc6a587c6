-- A tree with these parts is the one that they make.
use Rattle.std.proofs.Common.{◌≡◌, ℕ, Bool, List, sym, ap, ◌∙◌}
use Rattle.lang_tree.specs.declared.tree.Op.{Op}
use Rattle.lang_tree.specs.declared.tree.Arg.{Arg}
use Rattle.lang_tree.specs.declared.tree.Expr.{Expr, out-Expr, roll-Expr, roll-out-Expr}
use Rattle.lang_tree.specs.declared.tree.Expr.TheOpen.{Number, Named, Sum, Compare}
use Rattle.lang_tree.specs.declared.tree.Expr.TheVariants as exprs
use Rattle.lang_tree.specs.declared.tree.Addend.{Addend}
use Rattle.lang_tree.specs.declared.tree.StmtTree.{StmtTree, out-StmtTree, roll-StmtTree, roll-out-StmtTree}
use Rattle.lang_tree.specs.declared.tree.StmtTree.TheOpen.{Set}
use Rattle.lang_tree.specs.declared.tree.StmtTree.TheVariants as statements
use Rattle.lang_tree.specs.declared.tree.Item.{Item, out-Item, roll-Item, roll-out-Item}
use Rattle.lang_tree.specs.declared.tree.Item.TheOpen.{Call, Repeat}
use Rattle.lang_tree.specs.declared.tree.Item.TheVariants as items

pub is_named : (x : Expr) (at : ℕ) (name : List ℕ) → out-Expr x ≡ Named at name → x ≡ exprs.Named at name
is_named x at name h = sym (roll-out-Expr x) ∙ ap roll-Expr h ∙ exprs.rolls-Named at name

pub is_number : (x : Expr) (at value : ℕ) → out-Expr x ≡ Number at value → x ≡ exprs.Number at value
is_number x at value h = sym (roll-out-Expr x) ∙ ap roll-Expr h ∙ exprs.rolls-Number at value

pub is_compare : (x : Expr) (op : Op) (left right : Expr) → out-Expr x ≡ Compare op left right → x ≡ exprs.Compare op left right
is_compare x op left right h = sym (roll-out-Expr x) ∙ ap roll-Expr h ∙ exprs.rolls-Compare op left right

pub is_sum : (x first : Expr) (rest : List Addend) → out-Expr x ≡ Sum first rest → x ≡ exprs.Sum first rest
is_sum x first rest h = sym (roll-out-Expr x) ∙ ap roll-Expr h ∙ exprs.rolls-Sum first rest

pub is_set : (x : StmtTree) (at : ℕ) (name : List ℕ) (value : Expr) → out-StmtTree x ≡ Set at name value → x ≡ statements.Set at name value
is_set x at name value h = sym (roll-out-StmtTree x) ∙ ap roll-StmtTree h ∙ statements.rolls-Set at name value

pub is_call : (x : Item) (at : ℕ) (tries : Bool) (place : ℕ) (name : List ℕ) (args : List Arg) → out-Item x ≡ Call at tries place name args → x ≡ items.Call at tries place name args
is_call x at tries place name args h = sym (roll-out-Item x) ∙ ap roll-Item h ∙ items.rolls-Call at tries place name args

pub is_repeat : (x : Item) (at times : ℕ) (body : List Item) → out-Item x ≡ Repeat at times body → x ≡ items.Repeat at times body
is_repeat x at times body h = sym (roll-out-Item x) ∙ ap roll-Item h ∙ items.rolls-Repeat at times body
