-- What the names of an expression stand for: constants, fields, and the inputs and locals of its
-- method.
use Rattle.std.specs.Prelude.{ℕ, ◌+◌, ℤ, pos, neg_ℤ, Bool, true, false, nat_le, List, [], ◌∷◌, ◌++◌}
use Rattle.std.specs.Prelude.{Option, Some, None, position, slice_get, if◌then◌else◌}
use Rattle.std.specs.Str.{bytes_eq}
use Rattle.lang_base.specs.Limits.{FIRST_INPUT, FIRST_LOCAL, GREATEST_NUMBER}
use Rattle.lang_tree.specs.declared.tree.Lit.{Lit}
use Rattle.lang_tree.specs.declared.tree.Decl.{Decl}
use Rattle.lang_tree.specs.declared.tree.Decl.TheVariants as decls
use Rattle.lang_base.specs.declared.kind.Kind.{Kind}
use Rattle.lang_base.specs.declared.kind.Kind.TheVariants as kinds
use Rattle.lang_tree.specs.declared.tree.InputTree.{InputTree}
use Rattle.lang_tree.specs.declared.tree.MethodTree.{MethodTree}
use Rattle.lang_forms.specs.declared.scope.Meaning.{Meaning}
use Rattle.lang_forms.specs.declared.scope.Meaning.TheVariants as meanings
use Rattle.lang_forms.specs.declared.scope.Entry.{Entry}

abbrev pub signed : Bool → ℤ → ℤ
signed true number = neg_ℤ number
signed false number = number

-- the number that is written
abbrev pub literal_value : Lit → ℤ
literal_value literal = signed literal.minus (pos literal.digits)

-- What a constant stands for. A number that is too large is refused where it is written, and
-- stands for 0 elsewhere.
abbrev pub constant_value : Lit → ℤ
constant_value literal =
    if nat_le literal.digits GREATEST_NUMBER then literal_value literal else pos 0

abbrev pub constant_entry : List ℕ → Lit → Entry
constant_entry name value = record {
  name = name;
  meaning = meanings.Number (constant_value value);
  is_variable = false;
}

-- a number that is chosen when the monitor is opened: it has the place of a field, and nothing
-- assigns to it
abbrev pub parameter_entry : List ℕ → ℕ → Entry
parameter_entry name place = record {
  name = name;
  meaning = meanings.Int place;
  is_variable = false;
}

-- a field, or a local
abbrev pub variable_entry : List ℕ → Meaning → Entry
variable_entry name meaning = record { name = name; meaning = meaning; is_variable = true }

-- The names of declarations: the parameters and variables among them have the places from the given
-- one on, in file order.
abbrev pub declared_from : ℕ → List Decl → List Entry
declared_from place [] = []
declared_from place (decls.Const at name value ∷ more) =
    constant_entry name value ∷ declared_from place more
declared_from place (decls.Param at name value limit ∷ more) =
    parameter_entry name place ∷ declared_from (place + 1) more
declared_from place (decls.Int at name value ∷ more) =
    variable_entry name (meanings.Int place) ∷ declared_from (place + 1) more
declared_from place (decls.Copied at name source ∷ more) =
    variable_entry name (meanings.Int place) ∷ declared_from (place + 1) more
declared_from place (decls.Flag at name value ∷ more) =
    variable_entry name (meanings.Flag place) ∷ declared_from (place + 1) more

-- how many of the declarations are fields, parameters among them
abbrev pub field_count : List Decl → ℕ
field_count [] = 0
field_count (decls.Const at name value ∷ more) = field_count more
field_count (decls.Param at name value limit ∷ more) = 1 + field_count more
field_count (decls.Int at name value ∷ more) = 1 + field_count more
field_count (decls.Copied at name source ∷ more) = 1 + field_count more
field_count (decls.Flag at name value ∷ more) = 1 + field_count more

abbrev pub input_meaning : Kind → ℕ → Meaning
input_meaning kinds.Int place = meanings.Int place
input_meaning kinds.Bool place = meanings.Flag place

abbrev pub input_entry : ℕ → InputTree → Entry
input_entry place input = record {
  name = input.name;
  meaning = input_meaning input.kind place;
  is_variable = false;
}

abbrev pub inputs_from : ℕ → List InputTree → List Entry
inputs_from place [] = []
inputs_from place (input ∷ more) = input_entry place input ∷ inputs_from (place + 1) more

abbrev pub input_entries : List InputTree → List Entry
input_entries taken = inputs_from FIRST_INPUT taken

abbrev pub local_entries : List Decl → List Entry
local_entries locals = declared_from FIRST_LOCAL locals

-- The names that a method and its blocks see: field `k` has place `k`, input `k` of the method has
-- place `16 + k`, and its local `k` has place `22 + k`.
abbrev pub scope_of : List Decl → MethodTree → List Entry
scope_of declared method =
    declared_from 0 declared ++ (input_entries method.inputs ++ local_entries method.locals)

-- where the first entry of this name stands
abbrev pub index_of : List Entry → List ℕ → Option ℕ
index_of scope name = position (λ entry. bytes_eq entry.name name) scope

abbrev pub entry_at : List Entry → Option ℕ → Option Entry
entry_at scope None = None
entry_at scope (Some index) = slice_get scope index

abbrev pub entry_named : List Entry → List ℕ → Option Entry
entry_named scope name = entry_at scope (index_of scope name)
