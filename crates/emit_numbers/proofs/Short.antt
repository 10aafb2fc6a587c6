-- Values within 64 bits: what assignments keep, and which values need no test.
use Rattle.std.proofs.Common.{◌≡◌, ℕ, zero, suc, ◌+◌, ◌-◌, pos, neg_ℤ, Bool, true, false, cond, List, [], ◌∷◌, ◌++◌, Option, Some, None, unwrap_or, refl, arith}
use Rattle.std.specs.Prelude.{nat_lt, nat_le, slice_get, slice_set, if◌then◌else◌}
use Rattle.std.specs.Str.{bytes_eq}
use Rattle.std.proofs.lemmas.Bool.Decides.{nat_tests}
use Rattle.std.proofs.lemmas.Int.{ints}
use Rattle.std.proofs.lemmas.List.Elements.{All-cons, All-head, All-tail}
use Rattle.lang_tree.specs.declared.tree.Lit.{Lit}
use Rattle.lang_tree.specs.declared.tree.Decl.{Decl}
use Rattle.lang_tree.specs.declared.tree.Decl.TheVariants as decls
use Rattle.lang_tree.specs.declared.tree.InputTree.{InputTree}
use Rattle.lang_base.specs.Limits.{GREATEST_NUMBER}
use Rattle.lang_base.specs.declared.kind.Kind.{Kind}
use Rattle.lang_base.specs.declared.kind.Kind.TheVariants as kinds
use Rattle.lang_base.specs.declared.value.Value.{Value}
use Rattle.lang_base.specs.declared.value.Value.TheVariants as values
use Rattle.lang_forms.specs.declared.scope.Meaning.{Meaning}
use Rattle.lang_forms.specs.declared.scope.Meaning.TheVariants as meanings
use Rattle.lang_forms.specs.declared.scope.Entry.{Entry}
use Rattle.lang_forms.specs.Scope.{constant_value, declared_from, inputs_from}
use Rattle.lang_forms.specs.Scope.{input_meaning, signed}
use Rattle.lang_monitor.specs.Bodies.{Memory, fits_64, number_of_value, value_at, with_value, reading}
use Rattle.lang_types.proofs.NamedPlaces.{found}
use Rattle.emit_numbers.specs.Calls.{assigned, with_meaning}
use Rattle.emit_numbers.specs.Laws.{AreShort}

abbrev pub IsShort : Value → Type 0
IsShort value = fits_64 value ≡ true

-- ---- lists and memories

set_short : (list : List Value) (place : ℕ) (value : Value) → AreShort list → IsShort value → AreShort (slice_set list place value)
set_short [] place value short fits = short
set_short (first ∷ rest) zero value short fits = All-cons IsShort value rest fits (All-tail IsShort first rest short)
set_short (first ∷ rest) (suc place) value short fits =
    All-cons IsShort first (slice_set rest place value) (All-head IsShort first rest short) (set_short rest place value (All-tail IsShort first rest short) fits)

pub record HasShort (memory : Memory) : Type 0 where
  pub fields : AreShort memory.state
  pub locals : AreShort memory.locals

either_short : (test : Bool) (one other : Memory) → HasShort one → HasShort other → HasShort (if test then one else other)
either_short true one other this that = this
either_short false one other this that = that

with_short : (memory : Memory) (place : ℕ) (value : Value) → HasShort memory → IsShort value → HasShort (with_value memory place value)
with_short memory place value short fits =
    let one : Memory = record { state = slice_set memory.state place value; locals = memory.locals } in
    let other : Memory = record { state = memory.state; locals = slice_set memory.locals (place - 22) value } in
    either_short (nat_lt place 16) one other
    (record { fields = set_short memory.state place value short.fields fits; locals = short.locals })
    (record { fields = short.fields; locals = set_short memory.locals (place - 22) value short.locals fits })

meaning_short : (meaning : Meaning) (value : Value) (memory : Memory) → HasShort memory → IsShort value → HasShort (with_meaning meaning value memory)
meaning_short (meanings.Number constant) value memory short fits = short
meaning_short (meanings.Int place) value memory short fits = with_short memory place value short fits
meaning_short (meanings.Flag place) value memory short fits = with_short memory place value short fits

pub assigned_short : (target : Option Entry) (value : Value) (memory : Memory) → HasShort memory → IsShort value → HasShort (assigned target value memory)
assigned_short None value memory short fits = short
assigned_short (Some target) value memory short fits = meaning_short target.meaning value memory short fits

-- ---- what stands at a place

pub zero_is_short : IsShort (values.Int (pos 0))
zero_is_short = refl

got_short : (list : List Value) (place : ℕ) → AreShort list → IsShort (unwrap_or (slice_get list place) (values.Int (pos 0)))
got_short [] place short = zero_is_short
got_short (first ∷ rest) zero short = All-head IsShort first rest short
got_short (first ∷ rest) (suc place) short = got_short rest place (All-tail IsShort first rest short)

three_short : (low middle : Bool) (one two three : Option Value) → IsShort (unwrap_or one (values.Int (pos 0))) → IsShort (unwrap_or two (values.Int (pos 0))) → IsShort (unwrap_or three (values.Int (pos 0)))
    → IsShort (unwrap_or (if low then one else if middle then two else three) (values.Int (pos 0)))
three_short true middle one two three a b c = a
three_short false true one two three a b c = b
three_short false false one two three a b c = c

place_short : (memory : Memory) (arguments : List Value) (place : ℕ) → HasShort memory → AreShort arguments
    → IsShort (value_at memory.state (record { arguments = arguments; locals = memory.locals }) place)
place_short memory arguments place short given =
    three_short (nat_lt place 16) (nat_lt place 22) (slice_get memory.state place) (slice_get arguments (place - 16)) (slice_get memory.locals (place - 22))
    (got_short memory.state place short.fields) (got_short arguments (place - 16) given) (got_short memory.locals (place - 22) short.locals)

number_short : (value : Value) → IsShort value → IsShort (values.Int (number_of_value value))
number_short (values.Int number) fits = fits
number_short (values.Bool truth) fits = zero_is_short

-- the number at a place
pub read_short : (memory : Memory) (arguments : List Value) (place : ℕ) → HasShort memory → AreShort arguments
    → IsShort (values.Int ((reading arguments memory).number place))
read_short memory arguments place short given =
    number_short (value_at memory.state (record { arguments = arguments; locals = memory.locals }) place) (place_short memory arguments place short given)

-- ---- constants of a scope

-- a constant is within 64 bits, and no variable
abbrev IsPlain : Bool → Meaning → Type 0
IsPlain variable (meanings.Number constant) = (variable ≡ false) × IsShort (values.Int constant)
IsPlain variable (meanings.Int place) = Unit {0}
IsPlain variable (meanings.Flag place) = Unit {0}

abbrev pub ArePlain : List Entry → Type 0
ArePlain [] = Unit {0}
ArePlain (entry ∷ scope) = IsPlain entry.is_variable entry.meaning × ArePlain scope

abbrev pub FoundPlain : Option Entry → Type 0
FoundPlain None = Unit {0}
FoundPlain (Some entry) = IsPlain entry.is_variable entry.meaning

either_plain : (test : Bool) (entry : Entry) (rest : Option Entry) → FoundPlain (Some entry) → FoundPlain rest → FoundPlain (cond test (Some entry) rest)
either_plain true entry rest this that = this
either_plain false entry rest this that = that

pub found_plain : (scope : List Entry) (name : List ℕ) → ArePlain scope → FoundPlain (found scope name)
found_plain [] name plain = tt
found_plain (entry ∷ scope) name plain = either_plain (bytes_eq entry.name name) entry (found scope name) plain.0 (found_plain scope name plain.1)

pub natural_short : (number : ℕ) → nat_lt GREATEST_NUMBER number ≡ false → IsShort (values.Int (pos number))
natural_short number small = grind (arith, ints, nat_tests)

pub negative_short : (number : ℕ) → nat_lt GREATEST_NUMBER number ≡ false → IsShort (values.Int (neg_ℤ (pos number)))
negative_short number small = grind (arith, ints, nat_tests)

pub signed_short : (minus : Bool) (number : ℕ) → nat_lt GREATEST_NUMBER number ≡ false → IsShort (values.Int (signed minus (pos number)))
signed_short true number small = negative_short number small
signed_short false number small = natural_short number small

not_over : (number : ℕ) → nat_le number GREATEST_NUMBER ≡ true → nat_lt GREATEST_NUMBER number ≡ false
not_over number small = grind (arith, nat_tests)

either_constant : (test : Bool) (minus : Bool) (number : ℕ) → nat_le number GREATEST_NUMBER ≡ test → IsShort (values.Int (if test then signed minus (pos number) else pos 0))
either_constant true minus number is = signed_short minus number (not_over number is)
either_constant false minus number is = zero_is_short

constant_short : (literal : Lit) → IsShort (values.Int (constant_value literal))
constant_short literal = either_constant (nat_le literal.digits GREATEST_NUMBER) literal.minus literal.digits refl

pub declared_plain : (place : ℕ) (declared : List Decl) (later : List Entry) → ArePlain later → ArePlain (declared_from place declared ++ later)
declared_plain place [] later plain = plain
declared_plain place (decls.Const at name value ∷ more) later plain = ((refl, constant_short value), declared_plain place more later plain)
declared_plain place (decls.Param at name value limit ∷ more) later plain = (tt, declared_plain (place + 1) more later plain)
declared_plain place (decls.Int at name value ∷ more) later plain = (tt, declared_plain (place + 1) more later plain)
declared_plain place (decls.Copied at name source ∷ more) later plain = (tt, declared_plain (place + 1) more later plain)
declared_plain place (decls.Flag at name value ∷ more) later plain = (tt, declared_plain (place + 1) more later plain)

input_plain : (kind : Kind) (place : ℕ) → IsPlain false (input_meaning kind place)
input_plain kinds.Int place = tt
input_plain kinds.Bool place = tt

pub inputs_plain : (place : ℕ) (taken : List InputTree) (later : List Entry) → ArePlain later → ArePlain (inputs_from place taken ++ later)
inputs_plain place [] later plain = plain
inputs_plain place (input ∷ more) later plain = (input_plain input.kind place, inputs_plain (place + 1) more later plain)
