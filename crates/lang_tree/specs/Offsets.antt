-- Trees without offsets: each `at` is 0.
use Rattle.std.specs.Prelude.{map}
use Rattle.lang_tree.specs.declared.tree.Lit.{Lit}
use Rattle.lang_tree.specs.declared.tree.PlacedName.{PlacedName}
use Rattle.lang_tree.specs.declared.tree.LimitTree.{LimitTree}
use Rattle.lang_tree.specs.declared.tree.Decl.{Decl}
use Rattle.lang_tree.specs.declared.tree.Decl.TheVariants as decls
use Rattle.lang_tree.specs.declared.tree.InputTree.{InputTree}
use Rattle.lang_tree.specs.declared.tree.Expr.{Expr}
use Rattle.lang_tree.specs.declared.tree.Expr.TheVariants as exprs
use Rattle.lang_tree.specs.declared.tree.Expr.TheOpen.{Expr-F, Addend-F, Factor-F, Number, Truth}
use Rattle.lang_tree.specs.declared.tree.Expr.TheOpen.{Named, Minus, Not, Product, Sum, Compare}
use Rattle.lang_tree.specs.declared.tree.Expr.TheOpen.{Both, Either}
use Rattle.lang_tree.specs.declared.tree.Expr.TheFolds.{fold-Expr}
use Rattle.lang_tree.specs.declared.tree.Addend.{Addend, roll-Addend}
use Rattle.lang_tree.specs.declared.tree.Factor.{Factor, roll-Factor}
use Rattle.lang_tree.specs.declared.tree.StmtTree.{StmtTree}
use Rattle.lang_tree.specs.declared.tree.StmtTree.TheVariants as statements
use Rattle.lang_tree.specs.declared.tree.StmtTree.TheOpen.{StmtTree-F, Set, If, Return}
use Rattle.lang_tree.specs.declared.tree.StmtTree.TheFolds.{fold-StmtTree}
use Rattle.lang_tree.specs.declared.tree.BlockTree.{BlockTree}
use Rattle.lang_tree.specs.declared.tree.MethodTree.{MethodTree}
use Rattle.lang_tree.specs.declared.tree.MonitorTree.{MonitorTree}
use Rattle.lang_tree.specs.declared.tree.Arg.{Arg}
use Rattle.lang_tree.specs.declared.tree.Arg.TheVariants as args
use Rattle.lang_tree.specs.declared.tree.Item.{Item}
use Rattle.lang_tree.specs.declared.tree.Item.TheVariants as items
use Rattle.lang_tree.specs.declared.tree.Item.TheOpen.{Item-F, Call, Repeat}
use Rattle.lang_tree.specs.declared.tree.Item.TheFolds.{fold-Item}
use Rattle.lang_tree.specs.declared.tree.ClientTree.{ClientTree}
use Rattle.lang_tree.specs.declared.tree.ClientsTree.{ClientsTree}

-- ---- monitor files

abbrev pub expression_step : Expr-F Expr Addend Factor → Expr
expression_step (Number at value) = exprs.Number 0 value
expression_step (Truth at value) = exprs.Truth 0 value
expression_step (Named at name) = exprs.Named 0 name
expression_step (Minus at of) = exprs.Minus 0 of
expression_step (Not at of) = exprs.Not 0 of
expression_step (Product first rest) = exprs.Product first rest
expression_step (Sum first rest) = exprs.Sum first rest
expression_step (Compare op left right) = exprs.Compare op left right
expression_step (Both parts) = exprs.Both parts
expression_step (Either parts) = exprs.Either parts

abbrev pub addend_step : Addend-F Expr Addend Factor → Addend
addend_step addend = roll-Addend (record { minus = addend.minus; of = addend.of })

abbrev pub factor_step : Factor-F Expr Addend Factor → Factor
factor_step factor = roll-Factor (record { at = 0; of = factor.of })

abbrev pub unplaced_expression : Expr → Expr
unplaced_expression = fold-Expr Expr Addend Factor expression_step addend_step factor_step

abbrev pub statement_step : StmtTree-F StmtTree → StmtTree
statement_step (Set at name value) = statements.Set 0 name (unplaced_expression value)
statement_step (If at when body other) = statements.If 0 (unplaced_expression when) body other
statement_step (Return at value) = statements.Return 0 (unplaced_expression value)

abbrev pub unplaced_statement : StmtTree → StmtTree
unplaced_statement = fold-StmtTree StmtTree statement_step

abbrev pub unplaced_literal : Lit → Lit
unplaced_literal literal = record { at = 0; minus = literal.minus; digits = literal.digits }

abbrev pub unplaced_name : PlacedName → PlacedName
unplaced_name placed = record { at = 0; name = placed.name }

abbrev pub unplaced_limit : LimitTree → LimitTree
unplaced_limit limit = record {
  subject = unplaced_name limit.subject;
  sign = limit.sign;
  bound = unplaced_literal limit.bound;
}

abbrev pub unplaced_declaration : Decl → Decl
unplaced_declaration (decls.Const at name value) = decls.Const 0 name (unplaced_literal value)
unplaced_declaration (decls.Param at name value limit) =
    decls.Param 0 name (unplaced_literal value) (unplaced_limit limit)
unplaced_declaration (decls.Int at name value) = decls.Int 0 name (unplaced_literal value)
unplaced_declaration (decls.Copied at name source) = decls.Copied 0 name (unplaced_name source)
unplaced_declaration (decls.Flag at name value) = decls.Flag 0 name value

abbrev pub unplaced_input : InputTree → InputTree
unplaced_input input = record { at = 0; kind = input.kind; name = input.name }

abbrev pub unplaced_block : BlockTree → BlockTree
unplaced_block block = record {
  at = 0;
  guard = unplaced_expression block.guard;
  body = map unplaced_statement block.body;
}

abbrev pub unplaced_method : MethodTree → MethodTree
unplaced_method method = record {
  at = 0;
  name = method.name;
  inputs = map unplaced_input method.inputs;
  locals = map unplaced_declaration method.locals;
  asserts = method.asserts;
  blocks = map unplaced_block method.blocks;
}

abbrev pub unplaced : MonitorTree → MonitorTree
unplaced tree = record {
  name = tree.name;
  decls = map unplaced_declaration tree.decls;
  methods = map unplaced_method tree.methods;
}

-- ---- client files

abbrev pub unplaced_argument : Arg → Arg
unplaced_argument (args.Int at value) = args.Int 0 (unplaced_literal value)
unplaced_argument (args.Bool at value) = args.Bool 0 value

abbrev pub item_step : Item-F Item → Item
item_step (Call at tries place name inputs) =
    items.Call 0 tries 0 name (map unplaced_argument inputs)
item_step (Repeat at times body) = items.Repeat 0 times body

abbrev pub unplaced_item : Item → Item
unplaced_item = fold-Item Item item_step

abbrev pub unplaced_client : ClientTree → ClientTree
unplaced_client client =
    record { at = 0; name = client.name; items = map unplaced_item client.items }

abbrev pub unplaced_clients : ClientsTree → ClientsTree
unplaced_clients tree = record { clients = map unplaced_client tree.clients }
