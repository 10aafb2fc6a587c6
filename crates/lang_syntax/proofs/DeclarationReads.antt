-- The readers of declarations.
use Rattle.std.proofs.Common.{◌≡◌, ℕ, Bool, true, false, List, [], ◌∷◌, ◌++◌, refl, sym, subst, inl, inr}
use Rattle.std.specs.Prelude.{◌⊎◌}
use Rattle.lang_tokens.specs.declared.token.TokenKind.{TokenKind}
use Rattle.lang_tokens.specs.declared.token.TokenKind.TheVariants as kinds
use Rattle.lang_tree.specs.declared.tree.Lit.{Lit}
use Rattle.lang_tree.specs.declared.tree.PlacedName.{PlacedName}
use Rattle.lang_tree.specs.declared.tree.LimitSign.{LimitSign}
use Rattle.lang_tree.specs.declared.tree.LimitTree.{LimitTree}
use Rattle.lang_tree.specs.declared.tree.Decl.{Decl}
use Rattle.lang_tree.specs.declared.tree.Decl.TheVariants as decls
use Rattle.lang_tokens.specs.Words.{Word, ident, numeral}
use Rattle.lang_syntax.specs.declared.declaration_parser.Start.{Start}
use Rattle.lang_syntax.specs.declared.declaration_parser.Start.TheVariants as starts
use Rattle.lang_syntax.specs.Grammar.{Rule, ◌⌢◌, Each, IsIdent, IsNumeral, IsSpelled, IsMark, truth_word, limit_sign, after_minus, IsLiteral, WHERE, PARAM, IsLimit, IsDeclaration}
use Rattle.lang_cursor.specs.Reading.{Read, ◌⊗◌, made_at, choice_at, mark_at, ident_at, spelled_at, numeral_at, listed_at, truth_of, limit_sign_of, begins, begins_ident, begins_spelled}
use Rattle.lang_syntax.specs.inner.Reading.{begins_declaration, literal_of, negative_of, literal_at, Declared, constant_of, int_of, flag_of, declared_at, constant_at, int_at, flag_at, variable_at, limit_of, limit_at, parameter_of, parameter_at, copy_of, number_of, start_at, started, started_of, started_at, stateful_at, declaration_at, declarations_at}
use Rattle.lang_syntax.proofs.Readers.{Reads, Anything, Both, pair_reads, made_reads, choice_reads, each_reads, before}
use Rattle.lang_syntax.proofs.WordReads.{IsPlacedName, IsPlacedNumber, ident_reads, begins_letters, numeral_reads, truth_reads, limit_sign_reads, begins_heads, ident_heads, spelled_heads, declaration_heads}
use Rattle.lang_syntax.proofs.Openings.{Opens, At, mark_opens, ident_opens, numeral_opens, spelled_opens, then_opens, begins_at}
use Rattle.lang_syntax.proofs.Sequences.{Made, same_reads, mark_then, ident_then, spelled_then, then_mark, image_reads}

-- ---- literals

abbrev IsNegative : Rule Lit
IsNegative = Made negative_of (Both (λ (unit : Unit {0}). IsMark kinds.Minus) IsPlacedNumber)

abbrev IsPlain : Rule Lit
IsPlain = Made (literal_of false) IsPlacedNumber

negative_opens : (x : Lit) → Opens (IsNegative x) (λ ws. begins kinds.Minus ws ≡ true)
negative_opens x ws rest p =
    then_opens (IsMark kinds.Minus) (IsPlacedNumber p.0.1) (λ ws. begins kinds.Minus ws ≡ true) (mark_opens kinds.Minus (λ ws. begins kinds.Minus ws ≡ true) (begins_at kinds.Minus)) ws rest p.2

number_no_minus : (value at : ℕ) (rest : List Word) → begins kinds.Minus (numeral value at ∷ rest) ≡ false
unfolding begins
number_no_minus value at rest = refl

plain_opens : (x : Lit) → Opens (IsPlain x) (λ ws. begins kinds.Minus ws ≡ false)
plain_opens x ws rest p = numeral_opens p.0.value p.0.at (λ ws. begins kinds.Minus ws ≡ false) (number_no_minus p.0.value p.0.at) ws rest p.2

signed_is : (at digits : ℕ) (minus : Bool) (ws : List Word) → after_minus minus (IsNumeral digits at) ws → (let x : Lit = record { at = at; minus = minus; digits = digits } in IsNegative x ws ⊎ IsPlain x ws)
signed_is at digits true ws p = inl ((tt, record { at = at; value = digits }), refl, p)
signed_is at digits false ws p = inr (record { at = at; value = digits }, refl, p)

pub literal_reads : Reads IsLiteral literal_at Anything
unfolding literal_at
literal_reads =
    same_reads (λ x ws. IsNegative x ws ⊎ IsPlain x ws) IsLiteral literal_at Anything
    (choice_reads (begins kinds.Minus) IsNegative (made_at negative_of (mark_at kinds.Minus ⊗ numeral_at)) Anything IsPlain (made_at (literal_of false) numeral_at) Anything Anything (begins_heads kinds.Minus)
    (image_reads (Both (λ (unit : Unit {0}). IsMark kinds.Minus) IsPlacedNumber) (mark_at kinds.Minus ⊗ numeral_at) Anything negative_of (mark_then kinds.Minus IsPlacedNumber numeral_at Anything numeral_reads))
    (image_reads IsPlacedNumber numeral_at Anything (literal_of false) numeral_reads)
    (λ x taken rest p after. (negative_opens x taken rest p, tt))
    (λ x taken rest p after. (plain_opens x taken rest p, tt)))
    to (λ x ws p. signed_is x.at x.digits x.minus ws p)
  where
    to : (x : Lit) (ws : List Word) → IsNegative x ws ⊎ IsPlain x ws → IsLiteral x ws
    to x ws (inl p) = subst (λ (y : Lit). IsLiteral y ws) (sym p.1) p.2
    to x ws (inr p) = subst (λ (y : Lit). IsLiteral y ws) (sym p.1) p.2

-- the fact holds of a literal's words, where it holds of a minus sign and of each number
literal_opens : (Fact : List Word → Type 0) → At kinds.Minus Fact → ((value at : ℕ) (rest : List Word) → Fact (numeral value at ∷ rest)) → (x : Lit) → Opens (IsLiteral x) Fact
literal_opens Fact of_minus of_number x = by_sign x.minus x.digits x.at
  where
    by_sign : (minus : Bool) (digits at : ℕ) → Opens (after_minus minus (IsNumeral digits at)) Fact
    by_sign true digits at = then_opens (IsMark kinds.Minus) (IsNumeral digits at) Fact (mark_opens kinds.Minus Fact of_minus)
    by_sign false digits at = numeral_opens digits at Fact (of_number digits at)

-- ---- declarations

-- a keyword, a name and a value
abbrev IsDeclared : {Value : Type 0} → TokenKind → Rule Value → Rule (Declared Value)
IsDeclared kind IsValue d = IsMark kind ⌢ IsPlacedName d.1.0 ⌢ IsMark kinds.Assign ⌢ IsValue d.1.1.1.0 ⌢ IsMark kinds.Semicolon

declared_reads : {Value : Type 0} (kind : TokenKind) (IsValue : Rule Value) (value : List Word → Read Value) → Reads IsValue value Anything → Reads (IsDeclared kind IsValue) (declared_at kind value) Anything
declared_reads {Value} kind IsValue value r =
    mark_then kind (Both IsPlacedName IsAssigned) (ident_at ⊗ mark_at kinds.Assign ⊗ value ⊗ mark_at kinds.Semicolon) Anything
    (ident_then IsAssigned (mark_at kinds.Assign ⊗ value ⊗ mark_at kinds.Semicolon) Anything
    (mark_then kinds.Assign IsEnded (value ⊗ mark_at kinds.Semicolon) Anything (then_mark kinds.Semicolon IsValue value Anything r (λ at rest. tt))))
  where
    IsEnded : Rule (Value × Unit {0})
    IsEnded = Both IsValue (λ (unit : Unit {0}). IsMark kinds.Semicolon)

    IsAssigned : Rule (Unit {0} × (Value × Unit {0}))
    IsAssigned = Both (λ (unit : Unit {0}). IsMark kinds.Assign) IsEnded

declared_opens : {Value : Type 0} (make : Declared Value → Decl) (kind : TokenKind) (IsValue : Rule Value) (Fact : List Word → Type 0) → At kind Fact → (x : Decl) → Opens (Made make (IsDeclared kind IsValue) x) Fact
declared_opens make kind IsValue Fact so x ws rest p =
    then_opens (IsMark kind) (IsPlacedName p.0.1.0 ⌢ IsMark kinds.Assign ⌢ IsValue p.0.1.1.1.0 ⌢ IsMark kinds.Semicolon) Fact (mark_opens kind Fact so) ws rest p.2

abbrev IsTruth : Rule Bool
IsTruth value = IsMark (truth_word value)

abbrev IsConst : Rule Decl
IsConst = Made constant_of (IsDeclared kinds.KeyConst IsLiteral)

abbrev IsInt : Rule Decl
IsInt = Made int_of (IsDeclared kinds.KeyInt IsLiteral)

abbrev IsFlag : Rule Decl
IsFlag = Made flag_of (IsDeclared kinds.KeyBool IsTruth)

constant_reads : Reads IsConst constant_at Anything
unfolding constant_at
constant_reads = image_reads (IsDeclared kinds.KeyConst IsLiteral) (declared_at kinds.KeyConst literal_at) Anything constant_of (declared_reads kinds.KeyConst IsLiteral literal_at literal_reads)

int_reads : Reads IsInt int_at Anything
unfolding int_at
int_reads = image_reads (IsDeclared kinds.KeyInt IsLiteral) (declared_at kinds.KeyInt literal_at) Anything int_of (declared_reads kinds.KeyInt IsLiteral literal_at literal_reads)

flag_reads : Reads IsFlag flag_at Anything
unfolding flag_at
flag_reads = image_reads (IsDeclared kinds.KeyBool IsTruth) (declared_at kinds.KeyBool (listed_at truth_of)) Anything flag_of (declared_reads kinds.KeyBool IsTruth (listed_at truth_of) truth_reads)

int_no_const : At kinds.KeyInt (λ ws. begins kinds.KeyConst ws ≡ false)
unfolding begins
int_no_const at rest = refl

bool_no_const : At kinds.KeyBool (λ ws. begins kinds.KeyConst ws ≡ false)
unfolding begins
bool_no_const at rest = refl

bool_no_int : At kinds.KeyBool (λ ws. begins kinds.KeyInt ws ≡ false)
unfolding begins
bool_no_int at rest = refl

abbrev pub IsVariable : Rule Decl
IsVariable x ws = IsInt x ws ⊎ IsFlag x ws

pub variable_reads : Reads IsVariable variable_at Anything
unfolding variable_at
variable_reads =
    choice_reads (begins kinds.KeyInt) IsInt int_at Anything IsFlag flag_at Anything Anything (begins_heads kinds.KeyInt) int_reads flag_reads
    (λ x taken rest p after. (declared_opens int_of kinds.KeyInt IsLiteral (λ ws. begins kinds.KeyInt ws ≡ true) (begins_at kinds.KeyInt) x taken rest p, tt))
    (λ x taken rest p after. (declared_opens flag_of kinds.KeyBool IsTruth (λ ws. begins kinds.KeyInt ws ≡ false) bool_no_int x taken rest p, tt))

-- ---- parameters

abbrev IsBound : Rule (Lit × Unit {0})
IsBound = Both IsLiteral (λ (unit : Unit {0}). IsMark kinds.CloseParen)

abbrev IsSigned : Rule (LimitSign × (Lit × Unit {0}))
IsSigned = Both (λ (sign : LimitSign). IsMark (limit_sign sign)) IsBound

abbrev IsCompared : Rule (PlacedName × (LimitSign × (Lit × Unit {0})))
IsCompared = Both IsPlacedName IsSigned

abbrev IsOpened : Rule (Unit {0} × (PlacedName × (LimitSign × (Lit × Unit {0}))))
IsOpened = Both (λ (unit : Unit {0}). IsMark kinds.OpenParen) IsCompared

limit_reads : Reads IsLimit limit_at Anything
unfolding limit_at
limit_reads =
    made_reads (Both (λ (at : ℕ). IsIdent WHERE at) IsOpened) (spelled_at WHERE ⊗ mark_at kinds.OpenParen ⊗ ident_at ⊗ listed_at limit_sign_of ⊗ literal_at ⊗ mark_at kinds.CloseParen) Anything limit_of IsLimit
    (spelled_then WHERE IsOpened (mark_at kinds.OpenParen ⊗ ident_at ⊗ listed_at limit_sign_of ⊗ literal_at ⊗ mark_at kinds.CloseParen) Anything
    (mark_then kinds.OpenParen IsCompared (ident_at ⊗ listed_at limit_sign_of ⊗ literal_at ⊗ mark_at kinds.CloseParen) Anything
    (ident_then IsSigned (listed_at limit_sign_of ⊗ literal_at ⊗ mark_at kinds.CloseParen) Anything
    (pair_reads (λ sign. IsMark (limit_sign sign)) (listed_at limit_sign_of) Anything IsBound (literal_at ⊗ mark_at kinds.CloseParen) Anything limit_sign_reads
    (then_mark kinds.CloseParen IsLiteral literal_at Anything literal_reads (λ at rest. tt)) (λ y taken rest is after. tt)))))
    (λ x ws p. (p.0, p.1, (x.0, p.2), p.3, p.4))
    (λ y ws p. ((p.2.0, (tt, (y.subject, (y.sign, (y.bound, tt))))), refl, (p.0, p.1, p.2.1, p.3, p.4)))

abbrev IsLimited : Rule (LimitTree × Unit {0})
IsLimited = Both IsLimit (λ (unit : Unit {0}). IsMark kinds.Semicolon)

abbrev IsValued : Rule (Lit × (LimitTree × Unit {0}))
IsValued = Both IsLiteral IsLimited

abbrev IsAssigned : Rule (Unit {0} × (Lit × (LimitTree × Unit {0})))
IsAssigned = Both (λ (unit : Unit {0}). IsMark kinds.Assign) IsValued

abbrev IsNamed : Rule (PlacedName × (Unit {0} × (Lit × (LimitTree × Unit {0}))))
IsNamed = Both IsPlacedName IsAssigned

abbrev IsParam : Rule Decl
IsParam = Made parameter_of (Both (λ (at : ℕ). IsIdent PARAM at) IsNamed)

parameter_reads : Reads IsParam parameter_at Anything
unfolding parameter_at
parameter_reads =
    image_reads (Both (λ (at : ℕ). IsIdent PARAM at) IsNamed) (spelled_at PARAM ⊗ ident_at ⊗ mark_at kinds.Assign ⊗ literal_at ⊗ limit_at ⊗ mark_at kinds.Semicolon) Anything parameter_of
    (spelled_then PARAM IsNamed (ident_at ⊗ mark_at kinds.Assign ⊗ literal_at ⊗ limit_at ⊗ mark_at kinds.Semicolon) Anything
    (ident_then IsAssigned (mark_at kinds.Assign ⊗ literal_at ⊗ limit_at ⊗ mark_at kinds.Semicolon) Anything
    (mark_then kinds.Assign IsValued (literal_at ⊗ limit_at ⊗ mark_at kinds.Semicolon) Anything
    (pair_reads IsLiteral literal_at Anything IsLimited (limit_at ⊗ mark_at kinds.Semicolon) Anything literal_reads
    (then_mark kinds.Semicolon IsLimit limit_at Anything limit_reads (λ at rest. tt)) (λ y taken rest is after. tt)))))

parameter_opens : (Fact : List Word → Type 0) → ((at : ℕ) (rest : List Word) → Fact (ident PARAM at ∷ rest)) → (x : Decl) → Opens (IsParam x) Fact
parameter_opens Fact so x ws rest p = then_opens (IsIdent PARAM p.0.0) (IsNamed p.0.1) Fact (ident_opens PARAM p.0.0 Fact (so p.0.0)) ws rest p.2

-- ---- ints that start as a number or as what a name stands for

abbrev IsStart : Rule Start
IsStart (starts.Number value) = IsLiteral value
IsStart (starts.Copy source) = IsIdent source.name source.at

name_begins : (name : List ℕ) (at : ℕ) (rest : List Word) → begins_ident (ident name at ∷ rest) ≡ true
unfolding begins_ident
name_begins name at rest = refl

minus_no_name : At kinds.Minus (λ ws. begins_ident ws ≡ false)
unfolding begins_ident
minus_no_name at rest = refl

number_no_name : (value at : ℕ) (rest : List Word) → begins_ident (numeral value at ∷ rest) ≡ false
unfolding begins_ident
number_no_name value at rest = refl

start_reads : Reads IsStart start_at Anything
unfolding start_at
start_reads =
    same_reads (λ x ws. IsCopy x ws ⊎ IsNumber x ws) IsStart start_at Anything
    (choice_reads begins_ident IsCopy (made_at copy_of ident_at) Anything IsNumber (made_at number_of literal_at) Anything Anything ident_heads
    (image_reads IsPlacedName ident_at Anything copy_of ident_reads) (image_reads IsLiteral literal_at Anything number_of literal_reads)
    (λ x taken rest p after. (ident_opens p.0.name p.0.at (λ ws. begins_ident ws ≡ true) (name_begins p.0.name p.0.at) taken rest p.2, tt))
    (λ x taken rest p after. (literal_opens (λ ws. begins_ident ws ≡ false) minus_no_name number_no_name p.0 taken rest p.2, tt)))
    to from
  where
    IsCopy : Rule Start
    IsCopy = Made copy_of IsPlacedName

    IsNumber : Rule Start
    IsNumber = Made number_of IsLiteral

    to : (x : Start) (ws : List Word) → IsCopy x ws ⊎ IsNumber x ws → IsStart x ws
    to x ws (inl p) = subst (λ (y : Start). IsStart y ws) (sym p.1) p.2
    to x ws (inr p) = subst (λ (y : Start). IsStart y ws) (sym p.1) p.2

    from : (x : Start) (ws : List Word) → IsStart x ws → IsCopy x ws ⊎ IsNumber x ws
    from (starts.Number value) ws p = inr (value, refl, p)
    from (starts.Copy source) ws p = inl (source, refl, p)

abbrev IsStarted : Rule Decl
IsStarted = Made started_of (IsDeclared kinds.KeyInt IsStart)

started_reads : Reads IsStarted started_at Anything
unfolding started_at
started_reads = image_reads (IsDeclared kinds.KeyInt IsStart) (declared_at kinds.KeyInt start_at) Anything started_of (declared_reads kinds.KeyInt IsStart start_at start_reads)

started_is : (name : PlacedName) (start : Start) (ws : List Word) → (IsMark kinds.KeyInt ⌢ IsPlacedName name ⌢ IsMark kinds.Assign ⌢ IsStart start ⌢ IsMark kinds.Semicolon) ws
    → IsDeclaration (started name.at name.name start) ws
started_is name (starts.Number value) ws p = p
started_is name (starts.Copy source) ws p = p

abbrev IsStateful : Rule Decl
IsStateful x ws = IsStarted x ws ⊎ IsFlag x ws

stateful_reads : Reads IsStateful stateful_at Anything
unfolding stateful_at
stateful_reads =
    choice_reads (begins kinds.KeyInt) IsStarted started_at Anything IsFlag flag_at Anything Anything (begins_heads kinds.KeyInt) started_reads flag_reads
    (λ x taken rest p after. (declared_opens started_of kinds.KeyInt IsStart (λ ws. begins kinds.KeyInt ws ≡ true) (begins_at kinds.KeyInt) x taken rest p, tt))
    (λ x taken rest p after. (declared_opens flag_of kinds.KeyBool IsTruth (λ ws. begins kinds.KeyInt ws ≡ false) bool_no_int x taken rest p, tt))

stateful_opens : (Fact : List Word → Type 0) → At kinds.KeyInt Fact → At kinds.KeyBool Fact → (x : Decl) → Opens (IsStateful x) Fact
stateful_opens Fact of_int of_bool x ws rest (inl p) = declared_opens started_of kinds.KeyInt IsStart Fact of_int x ws rest p
stateful_opens Fact of_int of_bool x ws rest (inr p) = declared_opens flag_of kinds.KeyBool IsTruth Fact of_bool x ws rest p

-- ---- any declarations

int_no_param : At kinds.KeyInt (λ ws. begins_spelled PARAM ws ≡ false)
unfolding begins_spelled
int_no_param at rest = refl

bool_no_param : At kinds.KeyBool (λ ws. begins_spelled PARAM ws ≡ false)
unfolding begins_spelled
bool_no_param at rest = refl

param_no_const : (at : ℕ) (rest : List Word) → begins kinds.KeyConst (ident PARAM at ∷ rest) ≡ false
unfolding begins
param_no_const at rest = refl

abbrev IsOther : Rule Decl
IsOther x ws = IsParam x ws ⊎ IsStateful x ws

other_reads : Reads IsOther (choice_at (begins_spelled PARAM) parameter_at stateful_at) Anything
other_reads =
    choice_reads (begins_spelled PARAM) IsParam parameter_at Anything IsStateful stateful_at Anything Anything (spelled_heads PARAM) parameter_reads stateful_reads
    (λ x taken rest p after. (parameter_opens (λ ws. begins_spelled PARAM ws ≡ true) (begins_letters PARAM) x taken rest p, tt))
    (λ x taken rest p after. (stateful_opens (λ ws. begins_spelled PARAM ws ≡ false) int_no_param bool_no_param x taken rest p, tt))

pub declaration_reads : Reads IsDeclaration declaration_at Anything
unfolding declaration_at
declaration_reads =
    same_reads (λ x ws. IsConst x ws ⊎ IsOther x ws) IsDeclaration declaration_at Anything
    (choice_reads (begins kinds.KeyConst) IsConst constant_at Anything IsOther (choice_at (begins_spelled PARAM) parameter_at stateful_at) Anything Anything (begins_heads kinds.KeyConst) constant_reads other_reads
    (λ x taken rest p after. (declared_opens constant_of kinds.KeyConst IsLiteral (λ ws. begins kinds.KeyConst ws ≡ true) (begins_at kinds.KeyConst) x taken rest p, tt))
    no_const)
    to from
  where
    no_const : (x : Decl) (taken rest : List Word) → IsOther x taken → Anything rest → (begins kinds.KeyConst (taken ++ rest) ≡ false) × Anything rest
    no_const x taken rest (inl p) after = (parameter_opens (λ ws. begins kinds.KeyConst ws ≡ false) param_no_const x taken rest p, tt)
    no_const x taken rest (inr p) after = (stateful_opens (λ ws. begins kinds.KeyConst ws ≡ false) int_no_const bool_no_const x taken rest p, tt)

    to : (x : Decl) (ws : List Word) → IsConst x ws ⊎ IsOther x ws → IsDeclaration x ws
    to x ws (inl p) = subst (λ (y : Decl). IsDeclaration y ws) (sym p.1) p.2
    to x ws (inr (inl p)) = subst (λ (y : Decl). IsDeclaration y ws) (sym p.1) (p.2.0, p.2.1, (p.0.0, p.2.2), p.2.3, p.2.4)
    to x ws (inr (inr (inl p))) = subst (λ (y : Decl). IsDeclaration y ws) (sym p.1) (started_is p.0.1.0 p.0.1.1.1.0 ws p.2)
    to x ws (inr (inr (inr p))) = subst (λ (y : Decl). IsDeclaration y ws) (sym p.1) p.2

    from : (x : Decl) (ws : List Word) → IsDeclaration x ws → IsConst x ws ⊎ IsOther x ws
    from (decls.Const at name value) ws p = inl ((tt, (record { at = at; name = name }, (tt, (value, tt)))), refl, p)
    from (decls.Param at name value limit) ws p = inr (inl ((p.2.0, (record { at = at; name = name }, (tt, (value, (limit, tt))))), refl, (p.0, p.1, p.2.1, p.3, p.4)))
    from (decls.Int at name value) ws p = inr (inr (inl ((tt, (record { at = at; name = name }, (tt, (starts.Number value, tt)))), refl, p)))
    from (decls.Copied at name source) ws p = inr (inr (inl ((tt, (record { at = at; name = name }, (tt, (starts.Copy source, tt)))), refl, p)))
    from (decls.Flag at name value) ws p = inr (inr (inr ((tt, (record { at = at; name = name }, (tt, (value, tt)))), refl, p)))

-- the fact holds of a declaration's words, where it holds of each word that one begins with
declaration_opens : (Fact : List Word → Type 0) → At kinds.KeyConst Fact → ((at : ℕ) (rest : List Word) → Fact (ident PARAM at ∷ rest)) → At kinds.KeyInt Fact → At kinds.KeyBool Fact → (x : Decl) → Opens (IsDeclaration x) Fact
declaration_opens Fact of_const of_param of_int of_bool (decls.Const at name value) =
    then_opens (IsMark kinds.KeyConst) (IsIdent name at ⌢ IsMark kinds.Assign ⌢ IsLiteral value ⌢ IsMark kinds.Semicolon) Fact (mark_opens kinds.KeyConst Fact of_const)
declaration_opens Fact of_const of_param of_int of_bool (decls.Param at name value limit) =
    then_opens (IsSpelled PARAM) (IsIdent name at ⌢ IsMark kinds.Assign ⌢ IsLiteral value ⌢ IsLimit limit ⌢ IsMark kinds.Semicolon) Fact (spelled_opens PARAM Fact of_param)
declaration_opens Fact of_const of_param of_int of_bool (decls.Int at name value) =
    then_opens (IsMark kinds.KeyInt) (IsIdent name at ⌢ IsMark kinds.Assign ⌢ IsLiteral value ⌢ IsMark kinds.Semicolon) Fact (mark_opens kinds.KeyInt Fact of_int)
declaration_opens Fact of_const of_param of_int of_bool (decls.Copied at name source) =
    then_opens (IsMark kinds.KeyInt) (IsIdent name at ⌢ IsMark kinds.Assign ⌢ IsIdent source.name source.at ⌢ IsMark kinds.Semicolon) Fact (mark_opens kinds.KeyInt Fact of_int)
declaration_opens Fact of_const of_param of_int of_bool (decls.Flag at name value) =
    then_opens (IsMark kinds.KeyBool) (IsIdent name at ⌢ IsMark kinds.Assign ⌢ IsMark (truth_word value) ⌢ IsMark kinds.Semicolon) Fact (mark_opens kinds.KeyBool Fact of_bool)

pub declaration_begins : (x : Decl) → Opens (IsDeclaration x) (λ ws. begins_declaration ws ≡ true)
unfolding begins_declaration begins
declaration_begins x = declaration_opens (λ ws. begins_declaration ws ≡ true) (λ at rest. refl) (λ at rest. begins_letters PARAM at rest) (λ at rest. refl) (λ at rest. refl) x

pub no_declaration : begins_declaration [] ≡ false
unfolding begins_declaration begins begins_spelled
no_declaration = refl

abbrev pub NoDeclaration : List Word → Type 0
NoDeclaration ws = begins_declaration ws ≡ false

pub declarations_read : Reads (Each IsDeclaration) declarations_at NoDeclaration
unfolding declarations_at
declarations_read = before (Each IsDeclaration) declarations_at (λ ws. NoDeclaration ws × Anything ws) NoDeclaration (λ ws none. (none, tt))
    (each_reads begins_declaration IsDeclaration declaration_at Anything declaration_heads no_declaration declaration_reads declaration_begins (λ ws h. tt))
