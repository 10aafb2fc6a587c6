-- Reading from left to right, production by production. The laws with the grammar are in proofs/.
use Rattle.std.specs.Prelude.{ℕ, zero, suc, Bool, true, false, ◌||◌, List, [], ◌∷◌, Option, Some}
use Rattle.std.specs.Prelude.{None, Result}
use Rattle.lang_base.specs.Limits.{LEVELS}
use Rattle.lang_base.specs.declared.kind.Kind.{Kind}
use Rattle.lang_tokens.specs.declared.token.TokenKind.{TokenKind}
use Rattle.lang_tokens.specs.declared.token.TokenKind.TheVariants as kinds
use Rattle.lang_tokens.specs.Words.{Word}
use Rattle.lang_tree.specs.declared.tree.Lit.{Lit}
use Rattle.lang_tree.specs.declared.tree.PlacedName.{PlacedName}
use Rattle.lang_tree.specs.declared.tree.LimitSign.{LimitSign}
use Rattle.lang_tree.specs.declared.tree.LimitTree.{LimitTree}
use Rattle.lang_tree.specs.declared.tree.Decl.{Decl}
use Rattle.lang_tree.specs.declared.tree.Decl.TheVariants as decls
use Rattle.lang_tree.specs.declared.tree.InputTree.{InputTree}
use Rattle.lang_tree.specs.declared.tree.Op.{Op}
use Rattle.lang_tree.specs.declared.tree.Expr.{Expr}
use Rattle.lang_tree.specs.declared.tree.Expr.TheVariants as exprs
use Rattle.lang_tree.specs.declared.tree.Addend.{Addend, roll-Addend}
use Rattle.lang_tree.specs.declared.tree.Factor.{Factor, roll-Factor}
use Rattle.lang_tree.specs.declared.tree.StmtTree.{StmtTree}
use Rattle.lang_tree.specs.declared.tree.StmtTree.TheVariants as statements
use Rattle.lang_tree.specs.declared.tree.BlockTree.{BlockTree}
use Rattle.lang_tree.specs.declared.tree.MethodTree.{MethodTree}
use Rattle.lang_tree.specs.declared.tree.MonitorTree.{MonitorTree}
use Rattle.lang_tree.specs.declared.tree.Arg.{Arg}
use Rattle.lang_tree.specs.declared.tree.Item.{Item}
use Rattle.lang_tree.specs.declared.tree.Item.TheVariants as items
use Rattle.lang_tree.specs.declared.tree.ClientTree.{ClientTree}
use Rattle.lang_tree.specs.declared.tree.ClientsTree.{ClientsTree}
use Rattle.lang_cursor.specs.declared.word.PlacedNumber.{PlacedNumber}
use Rattle.lang_cursor.specs.Arguments.{negative}
use Rattle.lang_cursor.specs.Reading.{Read, ◌⊗◌, made_at, choice_at, pure_at, each_at, whole}
use Rattle.lang_cursor.specs.Reading.{placed_at, mark_at, ident_at, numeral_at, listed_at, braces_at}
use Rattle.lang_cursor.specs.Reading.{truth_of, op_of, limit_sign_of, minus_of, kind_of, begins}
use Rattle.lang_cursor.specs.Reading.{begins_listed, begins_ident, begins_spelled, spelled_at}
use Rattle.lang_cursor.specs.Reading.{atom_at, plain_argument_at}
use Rattle.lang_syntax.specs.declared.declaration_parser.Start.{Start}
use Rattle.lang_syntax.specs.declared.declaration_parser.Start.TheVariants as starts
use Rattle.lang_syntax.specs.declared.expression_parser.Join.{Join}
use Rattle.lang_syntax.specs.declared.expression_parser.Join.TheVariants as joins
use Rattle.lang_syntax.specs.declared.item_parser.CallHead.{CallHead}
use Rattle.lang_syntax.specs.Grammar.{chain, comparison, both, either, WHERE, PARAM, ASSERTS}

-- ---- what comes next

unfoldable pub begins_statement : List Word → Bool
begins_statement ws = begins_ident ws || (begins kinds.KeyIf ws || begins kinds.KeyReturn ws)

unfoldable pub begins_item : List Word → Bool
begins_item ws = begins_ident ws || (begins kinds.KeyRepeat ws || begins kinds.KeyTry ws)

unfoldable pub begins_declaration : List Word → Bool
begins_declaration ws =
    begins kinds.KeyConst ws
    || (begins kinds.KeyInt ws || (begins kinds.KeyBool ws || begins_spelled PARAM ws))

-- ---- expressions, over the reader of a unary expression

abbrev pub chain_of : {Part : Type 0} → (Expr → List Part → Expr) → Expr × List Part → Expr
chain_of node (first, rest) = chain node first rest

abbrev pub factor_of : ℕ × Expr → Factor
factor_of (at, of) = roll-Factor (record { at = at; of = of })

unfoldable pub factor_at : (List Word → Read Expr) → List Word → Read Factor
factor_at unary = made_at factor_of (placed_at kinds.Star ⊗ unary)

unfoldable pub factors_at : (List Word → Read Expr) → List Word → Read (List Factor)
factors_at unary = each_at (begins kinds.Star) (factor_at unary)

unfoldable pub product_at : (List Word → Read Expr) → List Word → Read Expr
product_at unary = made_at (chain_of exprs.Product) (unary ⊗ factors_at unary)

abbrev pub addend_of : Bool × Expr → Addend
addend_of (minus, of) = roll-Addend (record { minus = minus; of = of })

unfoldable pub addend_at : (List Word → Read Expr) → List Word → Read Addend
addend_at unary = made_at addend_of (listed_at minus_of ⊗ product_at unary)

unfoldable pub addends_at : (List Word → Read Expr) → List Word → Read (List Addend)
addends_at unary = each_at (begins_listed minus_of) (addend_at unary)

unfoldable pub sum_at : (List Word → Read Expr) → List Word → Read Expr
sum_at unary = made_at (chain_of exprs.Sum) (product_at unary ⊗ addends_at unary)

abbrev pub comparison_of : Expr × Option (Op × Expr) → Expr
comparison_of (left, rest) = comparison left rest

unfoldable pub compared_at : (List Word → Read Expr) → List Word → Read (Option (Op × Expr))
compared_at unary =
    choice_at (begins_listed op_of)
    (made_at (λ compared. Some compared) (listed_at op_of ⊗ sum_at unary)) (pure_at None)

unfoldable pub comparison_at : (List Word → Read Expr) → List Word → Read Expr
comparison_at unary = made_at comparison_of (sum_at unary ⊗ compared_at unary)

abbrev pub part_of : Unit {0} × Expr → Expr
part_of (sign, of) = of

abbrev pub sign_of : Join → TokenKind
sign_of joins.And = kinds.And
sign_of joins.Or = kinds.Or

abbrev pub node_of : Join → Expr → List Expr → Expr
node_of joins.And = both
node_of joins.Or = either

-- the sign and a part
unfoldable pub part_at : Join → (List Word → Read Expr) → List Word → Read Expr
part_at join inner = made_at part_of (mark_at (sign_of join) ⊗ inner)

unfoldable pub parts_at : Join → (List Word → Read Expr) → List Word → Read (List Expr)
parts_at join inner = each_at (begins (sign_of join)) (part_at join inner)

-- parts with a sign between them
unfoldable pub joined_at : Join → (List Word → Read Expr) → List Word → Read Expr
joined_at join inner = made_at (chain_of (node_of join)) (inner ⊗ parts_at join inner)

unfoldable pub conjunction_at : (List Word → Read Expr) → List Word → Read Expr
conjunction_at unary = joined_at joins.And (comparison_at unary)

unfoldable pub disjunction_at : (List Word → Read Expr) → List Word → Read Expr
disjunction_at unary = joined_at joins.Or (conjunction_at unary)

abbrev pub minus_of_unary : ℕ × Expr → Expr
minus_of_unary (at, of) = exprs.Minus at of

abbrev pub not_of_unary : ℕ × Expr → Expr
not_of_unary (at, of) = exprs.Not at of

abbrev pub inner_of : Unit {0} × (Expr × Unit {0}) → Expr
inner_of (left, (inner, right)) = inner

unfoldable pub minus_unary_at : (List Word → Read Expr) → List Word → Read Expr
minus_unary_at unary = made_at minus_of_unary (placed_at kinds.Minus ⊗ unary)

unfoldable pub not_unary_at : (List Word → Read Expr) → List Word → Read Expr
not_unary_at unary = made_at not_of_unary (placed_at kinds.Not ⊗ unary)

unfoldable pub group_at : (List Word → Read Expr) → List Word → Read Expr
group_at unary =
    made_at inner_of (mark_at kinds.OpenParen ⊗ disjunction_at unary ⊗ mark_at kinds.CloseParen)

-- with a level left for what is opened
unfoldable pub opened_at : (List Word → Read Expr) → List Word → Read Expr
opened_at unary =
    choice_at (begins kinds.Minus) (minus_unary_at unary)
    (choice_at (begins kinds.Not) (not_unary_at unary)
    (choice_at (begins kinds.OpenParen) (group_at unary) atom_at))

unfoldable pub unary_at : ℕ → List Word → Read Expr
unary_at zero = atom_at
unary_at (suc levels) = opened_at (unary_at levels)

-- what stands between the signs
abbrev pub inner_at : Join → ℕ → List Word → Read Expr
inner_at joins.And levels = comparison_at (unary_at levels)
inner_at joins.Or levels = conjunction_at (unary_at levels)

unfoldable pub expression_at : ℕ → List Word → Read Expr
expression_at levels = disjunction_at (unary_at levels)

-- ---- statements, over the reader of the statements of a block

-- "(" expression ")"
unfoldable pub condition_at : ℕ → List Word → Read Expr
condition_at levels =
    made_at inner_of (mark_at kinds.OpenParen ⊗ expression_at levels ⊗ mark_at kinds.CloseParen)

unfoldable pub block_at : (List Word → Read StmtTree) → List Word → Read (List StmtTree)
block_at statement = braces_at begins_statement statement

abbrev pub else_of : Unit {0} × List StmtTree → List StmtTree
else_of (word, body) = body

unfoldable pub else_at : (List Word → Read StmtTree) → List Word → Read (List StmtTree)
else_at statement =
    choice_at (begins kinds.KeyElse) (made_at else_of (mark_at kinds.KeyElse ⊗ block_at statement))
    (pure_at [])

abbrev pub set_of : PlacedName × (Unit {0} × (Expr × Unit {0})) → StmtTree
set_of (name, (assign, (value, semicolon))) = statements.Set name.at name.name value

unfoldable pub set_at : ℕ → List Word → Read StmtTree
set_at levels =
    made_at set_of (ident_at ⊗ mark_at kinds.Assign ⊗ expression_at levels ⊗ mark_at
    kinds.Semicolon)

abbrev pub return_of : ℕ × (Expr × Unit {0}) → StmtTree
return_of (at, (value, semicolon)) = statements.Return at value

unfoldable pub return_at : ℕ → List Word → Read StmtTree
return_at levels =
    made_at return_of (placed_at kinds.KeyReturn ⊗ expression_at levels ⊗ mark_at kinds.Semicolon)

abbrev pub if_of : ℕ × (Expr × (List StmtTree × List StmtTree)) → StmtTree
if_of (at, (when, (body, other))) = statements.If at when body other

unfoldable pub if_at : ℕ → (List Word → Read StmtTree) → List Word → Read StmtTree
if_at levels inner =
    made_at if_of (placed_at kinds.KeyIf ⊗ condition_at levels ⊗ block_at inner ⊗ else_at inner)

unfoldable pub simple_at : ℕ → List Word → Read StmtTree
simple_at levels = choice_at (begins kinds.KeyReturn) (return_at levels) (set_at levels)

unfoldable pub statement_at : ℕ → List Word → Read StmtTree
statement_at zero = simple_at zero
statement_at (suc levels) =
    choice_at (begins kinds.KeyIf) (if_at (suc levels) (statement_at levels))
    (simple_at (suc levels))

-- ---- monitor files

-- literal = ["-"] NUM
abbrev pub literal_of : Bool → PlacedNumber → Lit
literal_of minus number = record { at = number.at; minus = minus; digits = number.value }

abbrev pub negative_of : Unit {0} × PlacedNumber → Lit
negative_of (minus, number) = literal_of true number

unfoldable pub literal_at : List Word → Read Lit
literal_at =
    choice_at (begins kinds.Minus) (made_at negative_of (mark_at kinds.Minus ⊗ numeral_at))
    (made_at (literal_of false) numeral_at)

-- "const" ID "=" literal ";", and the same with "int"
abbrev pub Declared : Type 0 → Type 0
Declared Value = Unit {0} × (PlacedName × (Unit {0} × (Value × Unit {0})))

abbrev pub constant_of : Declared Lit → Decl
constant_of (word, (name, (assign, (value, semicolon)))) = decls.Const name.at name.name value

abbrev pub int_of : Declared Lit → Decl
int_of (word, (name, (assign, (value, semicolon)))) = decls.Int name.at name.name value

abbrev pub flag_of : Declared Bool → Decl
flag_of (word, (name, (assign, (value, semicolon)))) = decls.Flag name.at name.name value

abbrev pub declared_at : {Value : Type 0} → TokenKind → (List Word → Read Value) → List Word
    → Read (Declared Value)
declared_at kind value =
    mark_at kind ⊗ ident_at ⊗ mark_at kinds.Assign ⊗ value ⊗ mark_at kinds.Semicolon

unfoldable pub constant_at : List Word → Read Decl
constant_at = made_at constant_of (declared_at kinds.KeyConst literal_at)

unfoldable pub int_at : List Word → Read Decl
int_at = made_at int_of (declared_at kinds.KeyInt literal_at)

-- "where" "(" ID sign literal ")"
abbrev pub limit_of : ℕ
    × (Unit {0} × (PlacedName × (LimitSign × (Lit × Unit {0})))) → LimitTree
limit_of (word, (left, (subject, (sign, (bound, right))))) =
    record { subject = subject; sign = sign; bound = bound }

unfoldable pub limit_at : List Word → Read LimitTree
limit_at =
    made_at limit_of (spelled_at WHERE ⊗ mark_at kinds.OpenParen ⊗ ident_at ⊗ listed_at
    limit_sign_of ⊗ literal_at ⊗ mark_at kinds.CloseParen)

-- "param" ID "=" literal limit ";"
abbrev pub parameter_of : ℕ
    × (PlacedName × (Unit {0} × (Lit × (LimitTree × Unit {0})))) → Decl
parameter_of (word, (name, (assign, (value, (limit, semicolon))))) =
    decls.Param name.at name.name value limit

unfoldable pub parameter_at : List Word → Read Decl
parameter_at =
    made_at parameter_of (spelled_at PARAM ⊗ ident_at ⊗ mark_at kinds.Assign ⊗ literal_at ⊗
    limit_at ⊗ mark_at kinds.Semicolon)

-- literal | ID
abbrev pub copy_of : PlacedName → Start
copy_of source = starts.Copy source

abbrev pub number_of : Lit → Start
number_of value = starts.Number value

unfoldable pub start_at : List Word → Read Start
start_at = choice_at begins_ident (made_at copy_of ident_at) (made_at number_of literal_at)

-- "int" ID "=" start ";"
abbrev pub started : ℕ → List ℕ → Start → Decl
started at name (starts.Number value) = decls.Int at name value
started at name (starts.Copy source) = decls.Copied at name source

abbrev pub started_of : Declared Start → Decl
started_of (word, (name, (assign, (value, semicolon)))) = started name.at name.name value

unfoldable pub started_at : List Word → Read Decl
started_at = made_at started_of (declared_at kinds.KeyInt start_at)

unfoldable pub flag_at : List Word → Read Decl
flag_at = made_at flag_of (declared_at kinds.KeyBool (listed_at truth_of))

unfoldable pub variable_at : List Word → Read Decl
variable_at = choice_at (begins kinds.KeyInt) int_at flag_at

unfoldable pub stateful_at : List Word → Read Decl
stateful_at = choice_at (begins kinds.KeyInt) started_at flag_at

unfoldable pub declaration_at : List Word → Read Decl
declaration_at =
    choice_at (begins kinds.KeyConst) constant_at
    (choice_at (begins_spelled PARAM) parameter_at stateful_at)

unfoldable pub declarations_at : List Word → Read (List Decl)
declarations_at = each_at begins_declaration declaration_at

abbrev pub input_of : Kind × PlacedName → InputTree
input_of (kind, name) = record { at = name.at; kind = kind; name = name.name }

unfoldable pub input_at : List Word → Read InputTree
input_at = made_at input_of (listed_at kind_of ⊗ ident_at)

abbrev pub later_input_of : Unit {0} × InputTree → InputTree
later_input_of (comma, input) = input

unfoldable pub later_input_at : List Word → Read InputTree
later_input_at = made_at later_input_of (mark_at kinds.Comma ⊗ input_at)

abbrev pub inputs_of : InputTree × List InputTree → List InputTree
inputs_of (first, rest) = first ∷ rest

unfoldable pub later_inputs_at : List Word → Read (List InputTree)
later_inputs_at = each_at (begins kinds.Comma) later_input_at

-- the inputs, of which there is one at least
unfoldable pub some_inputs_at : List Word → Read (List InputTree)
some_inputs_at = made_at inputs_of (input_at ⊗ later_inputs_at)

unfoldable pub inputs_at : List Word → Read (List InputTree)
inputs_at = choice_at (begins_listed kind_of) some_inputs_at (pure_at [])

-- "method" ID "(" inputs ")"
abbrev pub head_of : Unit {0} × (PlacedName × (Unit {0} × (List InputTree × Unit {0})))
    → PlacedName × List InputTree
head_of (word, (name, (left, (inputs, right)))) = (name, inputs)

unfoldable pub head_at : List Word → Read (PlacedName × List InputTree)
head_at =
    made_at head_of (mark_at kinds.KeyMethod ⊗ ident_at ⊗ mark_at kinds.OpenParen ⊗ inputs_at ⊗
    mark_at kinds.CloseParen)

abbrev pub local_of : Unit {0} × Decl → Decl
local_of (word, local) = local

unfoldable pub local_at : List Word → Read Decl
local_at = made_at local_of (mark_at kinds.KeyLocal ⊗ variable_at)

unfoldable pub locals_at : List Word → Read (List Decl)
locals_at = each_at (begins kinds.KeyLocal) local_at

abbrev pub guarded_of : ℕ × (Expr × List StmtTree) → BlockTree
guarded_of (at, (guard, body)) = record { at = at; guard = guard; body = body }

unfoldable pub guarded_at : List Word → Read BlockTree
guarded_at =
    made_at guarded_of (placed_at kinds.KeyWaituntil ⊗ condition_at LEVELS ⊗ block_at
    (statement_at LEVELS))

unfoldable pub later_blocks_at : List Word → Read (List BlockTree)
later_blocks_at = each_at (begins kinds.KeyWaituntil) guarded_at

abbrev pub blocks_of : BlockTree × List BlockTree → List BlockTree
blocks_of (first, rest) = first ∷ rest

-- the blocks, of which there is one at least
unfoldable pub blocks_at : List Word → Read (List BlockTree)
blocks_at = made_at blocks_of (guarded_at ⊗ later_blocks_at)

unfoldable pub asserted_at : List Word → Read BlockTree
asserted_at =
    made_at guarded_of (spelled_at ASSERTS ⊗ condition_at LEVELS ⊗ block_at (statement_at LEVELS))

-- blocks, with whether they assert
abbrev pub waiting_of : List BlockTree → Bool × List BlockTree
waiting_of blocks = (false, blocks)

abbrev pub asserting_of : BlockTree → Bool × List BlockTree
asserting_of block = (true, block ∷ [])

-- guarded guarded* | asserted
unfoldable pub method_blocks_at : List Word → Read (Bool × List BlockTree)
method_blocks_at =
    choice_at (begins_spelled ASSERTS) (made_at asserting_of asserted_at)
    (made_at waiting_of blocks_at)

abbrev pub method_of : (PlacedName × List InputTree) × (List Decl × (Bool × List BlockTree))
    → MethodTree
method_of (head, (locals, (asserts, blocks))) = record {
  at = head.0.at;
  name = head.0.name;
  inputs = head.1;
  locals = locals;
  asserts = asserts;
  blocks = blocks;
}

unfoldable pub method_at : List Word → Read MethodTree
method_at = made_at method_of (head_at ⊗ locals_at ⊗ method_blocks_at)

unfoldable pub methods_at : List Word → Read (List MethodTree)
methods_at = each_at (begins kinds.KeyMethod) method_at

abbrev pub monitor_of : Unit {0}
    × (PlacedName × (Unit {0} × (List Decl × (List MethodTree × Unit {0})))) → MonitorTree
monitor_of (word, (name, (left, (decls, (methods, right))))) =
    record { name = name.name; decls = decls; methods = methods }

unfoldable pub monitor_at : List Word → Read MonitorTree
monitor_at =
    made_at monitor_of (mark_at kinds.KeyMonitor ⊗ ident_at ⊗ mark_at kinds.OpenBrace ⊗
    declarations_at ⊗ methods_at ⊗ mark_at kinds.CloseBrace)

unfoldable pub monitor_file : List Word → Result MonitorTree ℕ
monitor_file ws = whole (monitor_at ws)

-- ---- client files

-- "-" NUM
abbrev pub negative_argument_of : ℕ × PlacedNumber → Arg
negative_argument_of (at, number) = negative at number.value number.at

unfoldable pub negative_argument_at : List Word → Read Arg
negative_argument_at = made_at negative_argument_of (placed_at kinds.Minus ⊗ numeral_at)

unfoldable pub argument_at : List Word → Read Arg
argument_at = choice_at (begins kinds.Minus) negative_argument_at plain_argument_at

abbrev pub later_argument_of : Unit {0} × Arg → Arg
later_argument_of (comma, argument) = argument

unfoldable pub later_argument_at : List Word → Read Arg
later_argument_at = made_at later_argument_of (mark_at kinds.Comma ⊗ argument_at)

abbrev pub arguments_of : Arg × List Arg → List Arg
arguments_of (first, rest) = first ∷ rest

unfoldable pub later_arguments_at : List Word → Read (List Arg)
later_arguments_at = each_at (begins kinds.Comma) later_argument_at

-- the arguments, of which there is one at least
unfoldable pub some_arguments_at : List Word → Read (List Arg)
some_arguments_at = made_at arguments_of (argument_at ⊗ later_arguments_at)

unfoldable pub arguments_at : List Word → Read (List Arg)
arguments_at = choice_at (begins kinds.CloseParen) (pure_at []) some_arguments_at

abbrev pub tried_of : ℕ × PlacedName → CallHead
tried_of (at, name) = record { at = at; tries = true; name_at = name.at; name = name.name }

abbrev pub untried_of : PlacedName → CallHead
untried_of name = record { at = name.at; tries = false; name_at = name.at; name = name.name }

-- "try" ID
unfoldable pub tried_at : List Word → Read CallHead
tried_at = made_at tried_of (placed_at kinds.KeyTry ⊗ ident_at)

-- ["try"] ID
unfoldable pub called_at : List Word → Read CallHead
called_at = choice_at (begins kinds.KeyTry) tried_at (made_at untried_of ident_at)

abbrev pub call_of : CallHead × (Unit {0} × (List Arg × (Unit {0} × Unit {0}))) → Item
call_of (called, (left, (given, (right, semicolon)))) =
    items.Call called.at called.tries called.name_at called.name given

unfoldable pub call_at : List Word → Read Item
call_at =
    made_at call_of (called_at ⊗ mark_at kinds.OpenParen ⊗ arguments_at ⊗ mark_at kinds.CloseParen
    ⊗ mark_at kinds.Semicolon)

-- over the reader of the items inside
unfoldable pub items_at : (List Word → Read Item) → List Word → Read (List Item)
items_at item = braces_at begins_item item

abbrev pub repeat_of : ℕ × (PlacedNumber × List Item) → Item
repeat_of (at, (times, body)) = items.Repeat at times.value body

unfoldable pub repeat_at : (List Word → Read Item) → List Word → Read Item
repeat_at item = made_at repeat_of (placed_at kinds.KeyRepeat ⊗ numeral_at ⊗ items_at item)

unfoldable pub item_at : ℕ → List Word → Read Item
item_at zero = call_at
item_at (suc levels) = choice_at (begins kinds.KeyRepeat) (repeat_at (item_at levels)) call_at

abbrev pub client_of : Unit {0} × (PlacedName × List Item) → ClientTree
client_of (word, (name, body)) = record { at = name.at; name = name.name; items = body }

unfoldable pub client_at : List Word → Read ClientTree
client_at = made_at client_of (mark_at kinds.KeyClient ⊗ ident_at ⊗ items_at (item_at LEVELS))

unfoldable pub clients_at : List Word → Read (List ClientTree)
clients_at = each_at (begins kinds.KeyClient) client_at

abbrev pub clients_of : List ClientTree → ClientsTree
clients_of clients = record { clients = clients }

unfoldable pub client_file : List Word → Result ClientsTree ℕ
client_file ws = whole (made_at clients_of clients_at ws)
