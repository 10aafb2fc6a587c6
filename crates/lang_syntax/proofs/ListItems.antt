-- The items of each list: where one begins there is a word, and it takes a word at least.
use Rattle.std.proofs.Common.{◌≡◌, ℕ, ◌<◌, Bool, true, false, List, [], ◌∷◌, ◌++◌, length, arith}
use Rattle.lang_tokens.specs.declared.token.TokenKind.TheVariants as kinds
use Rattle.lang_syntax.specs.declared.expression_parser.Join.{Join}
use Rattle.lang_tokens.specs.Words.{Word}
use Rattle.lang_syntax.specs.Grammar.{Rule, IsFactor, IsAddend, IsUnary, IsStatement, IsDeclaration, IsLocal, IsGuarded, IsMethod}
use Rattle.lang_syntax.specs.ClientGrammar.{IsItem, IsClient}
use Rattle.lang_cursor.specs.Reading.{Read, begins, begins_listed, minus_of}
use Rattle.lang_syntax.specs.inner.Reading.{begins_statement, begins_declaration, sign_of, inner_at, part_at, factor_at, addend_at, unary_at, statement_at, declaration_at, later_input_at, local_at, guarded_at, method_at, begins_item, later_argument_at, item_at, client_at}
use Rattle.lang_cursor.specs.Calls.{AreItems}
use Rattle.lang_syntax.proofs.Readers.{Reads, Anything, shorter}
use Rattle.lang_syntax.proofs.Openings.{begins_none, listed_none}
use Rattle.lang_syntax.proofs.ExpressionReads.{NoStar, IsPart, IsInner, AfterInner, factor_reads, factor_begins, addend_reads, addend_begins, part_reads, part_begins, inner_reads, unary_reads}
use Rattle.lang_syntax.proofs.StatementReads.{NoElse, no_statement, statement_reads, statement_begins}
use Rattle.lang_syntax.proofs.DeclarationReads.{no_declaration, declaration_reads, declaration_begins}
use Rattle.lang_syntax.proofs.MonitorReads.{IsLaterInput, later_input_reads, later_input_begins, local_reads, local_begins, guarded_reads, guarded_begins, NoBlock, method_reads, method_begins}
use Rattle.lang_syntax.proofs.ItemReads.{IsLaterArgument, later_argument_reads, later_argument_begins, no_item, item_reads, item_begins}
use Rattle.lang_syntax.proofs.ClientReads.{client_reads, client_begins}

are_items : {A : Type 0} (starts : List Word → Bool) (IsTree : Rule A) (item : List Word → Read A) (After : List Word → Type 0)
    → starts [] ≡ false → ((x : A) (taken rest : List Word) → IsTree x taken → starts (taken ++ rest) ≡ true) → Reads IsTree item After → AreItems starts item
are_items starts IsTree item After none begin r = record { some = some; shorter = shorter starts IsTree item After none begin r }
  where
    some : (ws : List Word) → starts ws ≡ true → 0 < length ws
    some [] e = absurd cc
    some (word ∷ rest) e = omega arith

pub factor_items : (levels : ℕ) → AreItems (begins kinds.Star) (factor_at (unary_at levels))
factor_items levels = are_items (begins kinds.Star) (IsFactor (IsUnary levels)) (factor_at (unary_at levels)) Anything
    (begins_none kinds.Star) (factor_begins (IsUnary levels)) (factor_reads (IsUnary levels) (unary_at levels) (unary_reads levels))

pub addend_items : (levels : ℕ) → AreItems (begins_listed minus_of) (addend_at (unary_at levels))
addend_items levels = are_items (begins_listed minus_of) (IsAddend (IsUnary levels)) (addend_at (unary_at levels)) NoStar
    (listed_none minus_of) (addend_begins (IsUnary levels)) (addend_reads (IsUnary levels) (unary_at levels) (unary_reads levels))

pub part_items : (join : Join) (levels : ℕ) → AreItems (begins (sign_of join)) (part_at join (inner_at join levels))
part_items join levels = are_items (begins (sign_of join)) (IsPart join (IsInner join levels)) (part_at join (inner_at join levels)) (AfterInner join)
    (begins_none (sign_of join)) (part_begins join (IsInner join levels)) (part_reads join (IsInner join levels) (inner_at join levels) (AfterInner join) (inner_reads join levels))

pub statement_items : (levels : ℕ) → AreItems begins_statement (statement_at levels)
statement_items levels = are_items begins_statement (IsStatement levels) (statement_at levels) NoElse no_statement (statement_begins levels) (statement_reads levels)

pub declaration_items : AreItems begins_declaration declaration_at
declaration_items = are_items begins_declaration IsDeclaration declaration_at Anything no_declaration declaration_begins declaration_reads

pub later_input_items : AreItems (begins kinds.Comma) later_input_at
later_input_items = are_items (begins kinds.Comma) IsLaterInput later_input_at Anything (begins_none kinds.Comma) later_input_begins later_input_reads

pub local_items : AreItems (begins kinds.KeyLocal) local_at
local_items = are_items (begins kinds.KeyLocal) IsLocal local_at Anything (begins_none kinds.KeyLocal) local_begins local_reads

pub guarded_items : AreItems (begins kinds.KeyWaituntil) guarded_at
guarded_items = are_items (begins kinds.KeyWaituntil) IsGuarded guarded_at Anything (begins_none kinds.KeyWaituntil) guarded_begins guarded_reads

pub method_items : AreItems (begins kinds.KeyMethod) method_at
method_items = are_items (begins kinds.KeyMethod) IsMethod method_at NoBlock (begins_none kinds.KeyMethod) method_begins method_reads

pub later_argument_items : AreItems (begins kinds.Comma) later_argument_at
later_argument_items = are_items (begins kinds.Comma) IsLaterArgument later_argument_at Anything (begins_none kinds.Comma) later_argument_begins later_argument_reads

pub item_items : (levels : ℕ) → AreItems begins_item (item_at levels)
item_items levels = are_items begins_item (IsItem levels) (item_at levels) Anything no_item (item_begins levels) (item_reads levels)

pub client_items : AreItems (begins kinds.KeyClient) client_at
client_items = are_items (begins kinds.KeyClient) IsClient client_at Anything (begins_none kinds.KeyClient) client_begins client_reads
