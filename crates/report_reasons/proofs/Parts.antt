-- The parts of lines, by what stands for them.
use Rattle.std.proofs.Common.{◌≡◌, ℕ, ◌+◌, List, [], ◌++◌, length, codes, Option, ap, sym, append_assoc, append-nil, ◌∙◌}
use Rattle.lang_base.specs.Limits.{FIRST_INPUT, FIRST_LOCAL}
use Rattle.lang_base.specs.declared.kind.Kind.{Kind}
use Rattle.lang_base.specs.declared.value.Value.{Value}
use Rattle.lang_tree.specs.declared.tree.Decl.{Decl}
use Rattle.lang_tree.specs.declared.tree.InputTree.{InputTree}
use Rattle.lang_tree.specs.declared.tree.MethodTree.{MethodTree}
use Rattle.logic_linear.specs.Truth.{Valuation}
use Rattle.lang_monitor.specs.declared.monitor.Method.{Method}
use Rattle.report_reasons.specs.ReasonText.{call_text, closing, inputs_in, inputs_text, locals_in, locals_text, named_text}

pub named_parts : (name value text : List ℕ) → value ≡ text → name ++ (codes "=" ++ (value ++ [])) ≡ name ++ codes "=" ++ text
named_parts name value text is = ap (λ (some : List ℕ). name ++ (codes "=" ++ some)) (append-nil value ∙ is) ∙ sym (append_assoc name (codes "=") text)

pub same_named : (v : Valuation) (open_text opened name other : List ℕ) (kind sort : Kind) (place there : ℕ) → open_text ≡ opened → name ≡ other → kind ≡ sort → place ≡ there → open_text ++ named_text v name kind place ≡ opened ++ named_text v other sort there
same_named v open_text opened name other kind sort place there e f g h =
    ap (λ (some : List ℕ). some ++ named_text v name kind place) e ∙ ap (λ (some : List ℕ). opened ++ named_text v some kind place) f
    ∙ ap (λ (some : Kind). opened ++ named_text v other some place) g ∙ ap (λ (some : ℕ). opened ++ named_text v other sort some) h

pub call_parts : (v : Valuation) (further : ℕ) (names : Option MethodTree) (method : Method) (inputs : List InputTree) (locals : List Decl) (kinds : List Kind) (values : List Value) (ending : List ℕ)
    → inputs ≡ inputs_in names → locals ≡ locals_in names → kinds ≡ method.inputs → values ≡ method.locals → ending ≡ closing (length kinds + length values)
    → inputs_text v (further + FIRST_INPUT) inputs kinds ++ locals_text v (further + FIRST_LOCAL) locals (length kinds) values ++ ending ≡ call_text v further names method
call_parts v further names method inputs locals kinds values ending is_inputs is_locals is_kinds is_values is_ending =
    ap (λ (some : List InputTree). inputs_text v (further + FIRST_INPUT) some kinds ++ locals_text v (further + FIRST_LOCAL) locals (length kinds) values ++ ending) is_inputs
    ∙ ap (λ (some : List Decl). inputs_text v (further + FIRST_INPUT) (inputs_in names) kinds ++ locals_text v (further + FIRST_LOCAL) some (length kinds) values ++ ending) is_locals
    ∙ ap (λ (some : List ℕ). inputs_text v (further + FIRST_INPUT) (inputs_in names) kinds ++ locals_text v (further + FIRST_LOCAL) (locals_in names) (length kinds) values ++ some) is_ending
    ∙ ap (λ (some : List Kind). inputs_text v (further + FIRST_INPUT) (inputs_in names) some ++ locals_text v (further + FIRST_LOCAL) (locals_in names) (length some) values ++ closing (length some + length values)) is_kinds
    ∙ ap (λ (some : List Value). inputs_text v (further + FIRST_INPUT) (inputs_in names) method.inputs ++ locals_text v (further + FIRST_LOCAL) (locals_in names) (length method.inputs) some ++ closing (length method.inputs + length some)) is_values
