-- Limits say what the conditions say of which they are made.
use Rattle.std.proofs.Common.{◌≡◌, ◌↔◌, IsTrue, ℤ, pos, neg_ℤ, ◌+ℤ◌, true, arith}
use Rattle.std.specs.Prelude.{int_le, int_lt}
use Rattle.std.proofs.lemmas.Bool.Decides.{Decides-int_eq}
use Rattle.std.proofs.lemmas.Int.{ints}
use Rattle.lang_tree.specs.declared.tree.LimitSign.{LimitSign}
use Rattle.lang_tree.specs.declared.tree.LimitSign.TheVariants as signs
use Rattle.lang_tree.specs.declared.tree.LimitTree.{LimitTree}
use Rattle.lang_forms.specs.Plain.{compared}
use Rattle.lang_forms.specs.Scope.{literal_value}
use Rattle.lang_rules.specs.Rules.{comparison_of}
use Rattle.lang_monitor.specs.Starts.{Admits}
use Rattle.lang_types.specs.Typed.{LimitsAsWritten, limit_at}

below_from : (number bound : ℤ) → int_le number (bound +ℤ neg_ℤ (pos 1)) ≡ true → int_lt number bound ≡ true
below_from number bound low = grind (arith, ints)

below_to : (number bound : ℤ) → int_lt number bound ≡ true → int_le number (bound +ℤ neg_ℤ (pos 1)) ≡ true
below_to number bound low = grind (arith, ints)

above_from : (number bound : ℤ) → int_le (bound +ℤ pos 1) number ≡ true → int_lt bound number ≡ true
above_from number bound high = grind (arith, ints)

above_to : (number bound : ℤ) → int_lt bound number ≡ true → int_le (bound +ℤ pos 1) number ≡ true
above_to number bound high = grind (arith, ints)

-- a limit admits the numbers that compare with its bound
at_sign : (sign : LimitSign) (bound number : ℤ) → Admits (limit_at sign bound) number ↔ IsTrue (compared (comparison_of sign) number bound)
at_sign signs.Equal bound number = ((Decides-int_eq number bound).1, (Decides-int_eq number bound).0)
at_sign signs.Less bound number = (below_from number bound, below_to number bound)
at_sign signs.AtMost bound number = (λ low. low, λ low. low)
at_sign signs.More bound number = (above_from number bound, above_to number bound)
at_sign signs.AtLeast bound number = (λ high. high, λ high. high)

pub as_written : (limit : LimitTree) → LimitsAsWritten limit
as_written limit = λ number. at_sign limit.sign (literal_value limit.bound) number
