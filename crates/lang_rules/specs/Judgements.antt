-- The rules of monitor files, one by one: a tree breaks a rule at a place.
use Rattle.std.specs.Prelude.{◌≡◌, ◌≢◌, ℕ, ◌<◌, ◌≤◌, ◌⊎◌, ◌↔◌, Bool, true, false, ◌||◌, List, []}
use Rattle.std.specs.Prelude.{◌∷◌, ◌++◌, map, All, Contains, Some, None, slice_get}
use Rattle.std.specs.List.{flat_map}
use Rattle.lang_tree.specs.declared.tree.Lit.{Lit}
use Rattle.lang_tree.specs.declared.tree.Decl.{Decl}
use Rattle.lang_tree.specs.declared.tree.Decl.TheVariants as decls
use Rattle.lang_tree.specs.declared.tree.Addend.{Addend}
use Rattle.lang_tree.specs.declared.tree.Factor.{Factor}
use Rattle.lang_tree.specs.declared.tree.Expr.{Expr, out-Expr}
use Rattle.lang_tree.specs.declared.tree.Expr.TheVariants as exprs
use Rattle.lang_tree.specs.declared.tree.Expr.TheOpen.{Expr-F, Number, Named, Minus, Not, Product}
use Rattle.lang_tree.specs.declared.tree.Expr.TheOpen.{Sum, Compare, Both, Either}
use Rattle.lang_tree.specs.declared.tree.StmtTree.{StmtTree, out-StmtTree}
use Rattle.lang_tree.specs.declared.tree.StmtTree.TheOpen.{StmtTree-F, Set, If, Return}
use Rattle.lang_tree.specs.declared.tree.BlockTree.{BlockTree}
use Rattle.lang_tree.specs.declared.tree.MonitorTree.{MonitorTree}
use Rattle.lang_base.specs.Limits.{CONSTANTS, FIELDS, GREATEST_NUMBER, INPUTS, LOCALS, METHODS}
use Rattle.lang_base.specs.Limits.{METHOD_BLOCKS, STATEMENTS}
use Rattle.lang_base.specs.declared.kind.Kind.{Kind}
use Rattle.lang_base.specs.declared.kind.Kind.TheVariants as kinds
use Rattle.lang_base.specs.declared.counted.Counted.{Counted}
use Rattle.lang_base.specs.declared.counted.Counted.TheVariants as counted
use Rattle.lang_base.specs.declared.source_fault.SourceFault.{SourceFault}
use Rattle.lang_base.specs.declared.source_fault.Refusal.{Refusal}
use Rattle.lang_base.specs.declared.source_fault.Refusal.TheVariants as refusals
use Rattle.lang_forms.specs.declared.scope.Entry.{Entry}
use Rattle.lang_forms.specs.Scope.{entry_named, literal_value}
use Rattle.lang_forms.specs.Forms.{Form, is_constant, is_limited, minus}
use Rattle.lang_forms.specs.Sense.{entry_kind, faults_in, first_in, form_in, is_other, kind_in}
use Rattle.lang_rules.specs.Occurrences.{OfBlock, OfExpression, OfMethod, OfStatement, inner_of}
use Rattle.lang_rules.specs.Occurrences.{parts_of}
use Rattle.lang_rules.specs.Rules.{PlacedName, constant_place, declared_at, declared_names}
use Rattle.lang_rules.specs.Rules.{faults_of, field_place, is_source, meets, method_names}
use Rattle.lang_rules.specs.Rules.{own_names, places_in}

-- ---- what a rule asks of the expressions that it speaks of

-- it breaks no rule, nor does a part of it
abbrev pub IsFine : List Entry → Expr → Type 0
IsFine scope expression = faults_in scope expression ≡ []

-- an expression that begins there and breaks no rule is of another kind than the wanted one
pub record IsOther (scope : List Entry) (wanted : Kind) (place : ℕ) (expression : Expr) : Type 0
  where
    pub begins : first_in scope expression ≡ place
    pub fine : IsFine scope expression
    pub other : is_other wanted (kind_in scope expression) ≡ true

abbrev pub layer_kind : Expr-F Expr Addend Factor → Kind
layer_kind (Not at of) = kinds.Bool
layer_kind (Both parts) = kinds.Bool
layer_kind (Either parts) = kinds.Bool
layer_kind layer = kinds.Int

-- the kind that the parts of an expression have
abbrev pub part_kind : Expr → Kind
part_kind expression = layer_kind (out-Expr expression)

-- Parts break no rule and have their kind, so that a rule on their whole is asked.
pub record Fit (scope : List Entry) (wanted : Kind) (parts : List Expr) : Type 0 where
  pub fine : All (IsFine scope) parts
  pub kinds : All (λ part. is_other wanted (kind_in scope part) ≡ false) parts

-- the rules on a whole are asked
abbrev pub AreAsked : List Entry → Expr → Type 0
AreAsked scope whole = Fit scope (part_kind whole) (parts_of whole)

-- A product up to one of its later factors, and that factor; so far it breaks no rule.
pub record Reached (scope : List Entry) (first : Expr) (rest : List Factor) : Type 0 where
  pub before : List Factor
  pub factor : Factor
  pub after : List Factor
  pub split : rest ≡ before ++ factor ∷ after
  pub fine : IsFine scope (exprs.Product first before)

-- the product of the factors before it is constant, or the factor
abbrev pub has_constant : {scope : List Entry} {first : Expr} {rest : List Factor}
    → Reached scope first rest → Bool
has_constant {scope} {first} reached =
    is_constant (form_in scope (exprs.Product first reached.before))
    || is_constant (form_in scope reached.factor.of)

-- ---- rules of expressions

abbrev pub IsUnknownName : List Entry → ℕ → Expr-F Expr Addend Factor → Type 0
IsUnknownName scope place (Named at name) = (at ≡ place) × (entry_named scope name ≡ None)
IsUnknownName scope place layer = ⊥

-- a part is of another kind than the parts have; asked where no part breaks a rule
abbrev pub HasWrongPart : List Entry → ℕ → Expr → Type 0
HasWrongPart scope place whole =
    All (IsFine scope) (parts_of whole)
    × ((part : Expr) × Contains (parts_of whole) part × IsOther scope (part_kind whole) place part)

-- neither the product before a `*` nor the factor after it is constant
abbrev pub IsNotLinear : List Entry → ℕ → Expr-F Expr Addend Factor → Type 0
IsNotLinear scope place (Product first rest) =
    (reached : Reached scope first rest) × (has_constant reached ≡ false)
    × (reached.factor.at ≡ place)
IsNotLinear scope place layer = ⊥

-- the product of the first factors has too large a number
abbrev pub HasLargeProduct : List Entry → Expr → List Factor → Type 0
HasLargeProduct scope first rest =
    (reached : Reached scope first rest) × (has_constant reached ≡ true)
    × (is_limited (form_in scope (exprs.Product first (reached.before ++ reached.factor ∷ [])))
    ≡ false)

-- the flattened form of the expression, of its first factors, or of its left less its right side is
-- too large; the expression's own is given
abbrev pub IsLarge : List Entry → Form → Expr-F Expr Addend Factor → Type 0
IsLarge scope form (Minus at of) = is_limited form ≡ false
IsLarge scope form (Sum first rest) = is_limited form ≡ false
IsLarge scope form (Product first rest) = HasLargeProduct scope first rest
IsLarge scope form (Compare op left right) =
    is_limited (minus (form_in scope left) (form_in scope right)) ≡ false
IsLarge scope form layer = ⊥

abbrev pub IsLargeNumber : ℕ → Expr-F Expr Addend Factor → Type 0
IsLargeNumber place (Number at value) = (at ≡ place) × (GREATEST_NUMBER < value)
IsLargeNumber place layer = ⊥

-- ---- rules of statements

abbrev pub HasUnknownTarget : List Entry → ℕ → StmtTree-F StmtTree → Type 0
HasUnknownTarget scope place (Set at name value) = (at ≡ place) × (entry_named scope name ≡ None)
HasUnknownTarget scope place layer = ⊥

abbrev pub HasReadOnlyTarget : List Entry → ℕ → StmtTree-F StmtTree → Type 0
HasReadOnlyTarget scope place (Set at name value) =
    (at ≡ place)
    × ((entry : Entry) × (entry_named scope name ≡ Some entry) × (entry.is_variable ≡ false))
HasReadOnlyTarget scope place layer = ⊥

-- the value of an assignment has the target's kind, and a condition is bool
abbrev pub HasWrongValue : List Entry → ℕ → StmtTree-F StmtTree → Type 0
HasWrongValue scope place (Set at name value) =
    (kind : Kind) × (entry_kind (entry_named scope name) ≡ Some kind)
    × IsOther scope kind place value
HasWrongValue scope place (If at when body other) = IsOther scope kinds.Bool place when
HasWrongValue scope place (Return at value) = ⊥

abbrev pub IsReturn : ℕ → StmtTree-F StmtTree → Type 0
IsReturn place (Return at value) = at ≡ place
IsReturn place layer = ⊥

-- a `return` stands in an `if`
abbrev pub HasInnerReturn : ℕ → StmtTree → Type 0
HasInnerReturn place statement =
    (inner : StmtTree) × Contains (inner_of statement) inner × IsReturn place (out-StmtTree inner)

-- a `return` of a body has a statement after it
abbrev pub HasEarlyReturn : ℕ → List StmtTree → Type 0
HasEarlyReturn place body =
    (before : List StmtTree) × (statement : StmtTree) × (next : StmtTree) × (after : List StmtTree)
    × (body ≡ before ++ statement ∷ next ∷ after)
    × IsReturn place (out-StmtTree statement)

-- a `return` stands in a block that has another after it
abbrev pub ReturnsBeforeLast : ℕ → List BlockTree → Type 0
ReturnsBeforeLast place blocks =
    (before : List BlockTree) × (block : BlockTree) × (next : BlockTree) × (after : List BlockTree)
    × (blocks ≡ before ++ block ∷ next ∷ after)
    × ((statement : StmtTree) × Contains block.body statement
    × IsReturn place (out-StmtTree statement))

-- ---- rules of declarations

-- a name of the list that stands there is an earlier one's, or one of those before the list
abbrev pub Repeats : List PlacedName → ℕ → List PlacedName → Type 0
Repeats others place names =
    (before : List PlacedName) × (name : PlacedName) × (after : List PlacedName)
    × (names ≡ before ++ name ∷ after)
    × Contains (map (λ other. other.name) (others ++ before)) name.name
    × (name.at ≡ place)

abbrev pub IsLargeLiteral : ℕ → Lit → Type 0
IsLargeLiteral place literal = (literal.at ≡ place) × (GREATEST_NUMBER < literal.digits)

abbrev pub IsLargeValue : ℕ → Decl → Type 0
IsLargeValue place (decls.Const at name value) = IsLargeLiteral place value
IsLargeValue place (decls.Param at name value limit) =
    IsLargeLiteral place value ⊎ IsLargeLiteral place limit.bound
IsLargeValue place (decls.Int at name value) = IsLargeLiteral place value
IsLargeValue place (decls.Copied at name source) = ⊥
IsLargeValue place (decls.Flag at name value) = ⊥

abbrev pub HasLargeLiteral : ℕ → List Decl → Type 0
HasLargeLiteral place declared =
    (decl : Decl) × Contains declared decl × IsLargeValue place decl

-- the condition of a parameter is on another name
abbrev pub IsOtherSubject : ℕ → Decl → Type 0
IsOtherSubject place (decls.Param at name value limit) =
    (limit.subject.at ≡ place) × (limit.subject.name ≢ name)
IsOtherSubject place decl = ⊥

abbrev pub HasOtherSubject : ℕ → List Decl → Type 0
HasOtherSubject place declared =
    (decl : Decl) × Contains declared decl × IsOtherSubject place decl

-- a start copies what none of these declares as a constant or a parameter
abbrev pub IsUnknownSource : List Decl → ℕ → Decl → Type 0
IsUnknownSource earlier place (decls.Copied at name source) =
    (source.at ≡ place) × All (λ other. is_source source.name other ≡ false) earlier
IsUnknownSource earlier place decl = ⊥

abbrev pub HasUnknownSource : ℕ → List Decl → Type 0
HasUnknownSource place declared =
    (before : List Decl) × (decl : Decl) × (after : List Decl)
    × (declared ≡ before ++ decl ∷ after)
    × IsUnknownSource before place decl

-- a parameter's own number doesn't meet its condition; asked where neither number is too large
abbrev pub IsWrongStart : ℕ → Decl → Type 0
IsWrongStart place (decls.Param at name value limit) =
    (value.at ≡ place)
    × (value.digits ≤ GREATEST_NUMBER)
    × (limit.bound.digits ≤ GREATEST_NUMBER)
    × (meets limit (literal_value value) ≡ false)
IsWrongStart place decl = ⊥

abbrev pub HasWrongStart : ℕ → List Decl → Type 0
HasWrongStart place declared = (decl : Decl) × Contains declared decl × IsWrongStart place decl

-- it is the first one over the limit, counted in the order of the file
abbrev pub IsFirstOver : ℕ → ℕ → List ℕ → Type 0
IsFirstOver limit place places = slice_get places limit ≡ Some place

-- ---- each rule of a file

-- A name in an expression is known, and so is the target of an assignment; the condition of a
-- parameter is on its own name, and a start copies a constant or a parameter declared before.
abbrev pub BreaksUnknown : MonitorTree → ℕ → Type 0
BreaksUnknown tree place =
    OfExpression tree (λ scope expression. IsUnknownName scope place (out-Expr expression))
    ⊎ OfStatement tree (λ scope statement. HasUnknownTarget scope place (out-StmtTree statement))
    ⊎ HasOtherSubject place tree.decls
    ⊎ HasUnknownSource place tree.decls

-- Constants, parameters, fields and methods have distinct names, and inputs and locals of a method
-- have names distinct from each other and from declarations.
abbrev pub BreaksDuplicate : MonitorTree → ℕ → Type 0
BreaksDuplicate tree place =
    Repeats [] place (declared_names tree.decls ++ method_names tree.methods)
    ⊎ OfMethod tree (λ scope method.
    Repeats (declared_names tree.decls) place (own_names method))

-- parts of expressions have their kind, values of assignments their target's; guards and conditions
-- are bool
abbrev pub BreaksWrongType : MonitorTree → ℕ → Type 0
BreaksWrongType tree place =
    OfExpression tree (λ scope expression. HasWrongPart scope place expression)
    ⊎ OfBlock tree (λ scope block. IsOther scope kinds.Bool place block.guard)
    ⊎ OfStatement tree (λ scope statement. HasWrongValue scope place (out-StmtTree statement))

-- of a product before a `*` and the factor after it one is constant
abbrev pub BreaksNotLinear : MonitorTree → ℕ → Type 0
BreaksNotLinear tree place =
    OfExpression tree (λ scope expression.
    AreAsked scope expression × IsNotLinear scope place (out-Expr expression))

-- written numbers and those of flattened forms are at most their limits
abbrev pub BreaksTooLarge : MonitorTree → ℕ → Type 0
BreaksTooLarge tree place =
    HasLargeLiteral place tree.decls
    ⊎ OfMethod tree (λ scope method. HasLargeLiteral place method.locals)
    ⊎ OfExpression tree (λ scope expression. IsLargeNumber place (out-Expr expression))
    ⊎ OfExpression tree (λ scope expression.
    (first_in scope expression ≡ place)
    × AreAsked scope expression
    × IsLarge scope (form_in scope expression) (out-Expr expression))

-- there are no more than the limit of each
abbrev pub BreaksTooMany : MonitorTree → Counted → ℕ → Type 0
BreaksTooMany tree counted.Constants place =
    IsFirstOver CONSTANTS place (flat_map constant_place tree.decls)
BreaksTooMany tree counted.Fields place =
    IsFirstOver FIELDS place (flat_map field_place tree.decls)
BreaksTooMany tree counted.Methods place =
    IsFirstOver METHODS place (map (λ method. method.at) tree.methods)
BreaksTooMany tree counted.Parameters place =
    OfMethod tree (λ scope method. IsFirstOver INPUTS place (map (λ input. input.at) method.inputs))
BreaksTooMany tree counted.Locals place =
    OfMethod tree (λ scope method. IsFirstOver LOCALS place (map declared_at method.locals))
BreaksTooMany tree counted.Blocks place =
    OfMethod tree (λ scope method.
    IsFirstOver METHOD_BLOCKS place (map (λ block. block.at) method.blocks))
BreaksTooMany tree counted.Statements place =
    OfBlock tree (λ scope block. IsFirstOver STATEMENTS place (places_in block.body))

-- the target of an assignment is a field or a local
abbrev pub BreaksReadOnly : MonitorTree → ℕ → Type 0
BreaksReadOnly tree place =
    OfStatement tree (λ scope statement. HasReadOnlyTarget scope place (out-StmtTree statement))

-- a `return` is the last statement of its method's last block, and stands in no `if`
abbrev pub BreaksMisplaced : MonitorTree → ℕ → Type 0
BreaksMisplaced tree place =
    OfStatement tree (λ scope statement. HasInnerReturn place statement)
    ⊎ OfBlock tree (λ scope block. HasEarlyReturn place block.body)
    ⊎ OfMethod tree (λ scope method. ReturnsBeforeLast place method.blocks)

-- the own number of a parameter meets its condition
abbrev pub BreaksWrongStart : MonitorTree → ℕ → Type 0
BreaksWrongStart tree place = HasWrongStart place tree.decls

-- The tree breaks this rule at this place. Of a product the first `*` with a break is named, and of
-- too many things the first over the limit. Rules of tokens, of the grammar and of clients are no
-- rules of trees.
abbrev pub BreaksRule : MonitorTree → Refusal → ℕ → Type 0
BreaksRule tree refusals.Unknown at = BreaksUnknown tree at
BreaksRule tree refusals.Duplicate at = BreaksDuplicate tree at
BreaksRule tree refusals.WrongType at = BreaksWrongType tree at
BreaksRule tree refusals.NotLinear at = BreaksNotLinear tree at
BreaksRule tree refusals.TooLarge at = BreaksTooLarge tree at
BreaksRule tree (refusals.TooMany what) at = BreaksTooMany tree what at
BreaksRule tree refusals.ReadOnly at = BreaksReadOnly tree at
BreaksRule tree refusals.Misplaced at = BreaksMisplaced tree at
BreaksRule tree refusals.WrongStart at = BreaksWrongStart tree at
BreaksRule tree what at = ⊥

-- the tree breaks the rule of a fault at its place
abbrev pub Breaks : MonitorTree → SourceFault → Type 0
Breaks tree fault = BreaksRule tree fault.what fault.at

-- the faults that are listed are exactly the rules that the tree breaks, each at its place
abbrev pub ListsBrokenRules : MonitorTree → Type 0
ListsBrokenRules tree = (fault : SourceFault) → Contains (faults_of tree) fault ↔ Breaks tree fault
