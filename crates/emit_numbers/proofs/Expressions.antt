-- The expressions of a checked body break no rule, so what they make on the way has 128 bits.
use Rattle.std.proofs.Common.{Bool, List, ◌∷◌, get_or, Some, All}
use Rattle.std.proofs.lemmas.List.Elements.{All-cons}
use Rattle.lang_tree.specs.declared.tree.MonitorTree.{MonitorTree}
use Rattle.lang_base.specs.declared.kind.Kind.TheVariants as kinds
use Rattle.lang_base.specs.declared.value.Value.{Value}
use Rattle.lang_forms.specs.Sense.{sense}
use Rattle.lang_forms.proofs.SmallScopes.{scopes_are_small}
use Rattle.lang_monitor.specs.Bodies.{Memory, reading}
use Rattle.lang_types.specs.KeptMeaning.{expressions_in}
use Rattle.lang_types.specs.Typed.{PlacedBlock, blocks_from}
use Rattle.lang_types.proofs.FineTrees.{IsFine, IsFinePlaced, fine_tree, tree_blocks_fine}
use Rattle.lang_types.proofs.KeptMeanings.{IsFaultless, body_faultless, expected_fine, fine_at}
use Rattle.emit_numbers.specs.Calls.{entries}
use Rattle.emit_numbers.specs.Laws.{AreShort, PrintedNumbersAreWide, StaysWide, scope_in}
use Rattle.emit_numbers.proofs.Short.{HasShort, read_short}
use Rattle.emit_numbers.proofs.Bounds.{IsBounded, scope_few}
use Rattle.emit_numbers.proofs.Wide.{expression_wide, short_low}
use Rattle.emit_numbers.proofs.Steps.{scope_plain}
use Rattle.emit_numbers.proofs.ShortSums.{HasShortSums, parsed_sums_short}

-- ---- a block

block_wide : (tree : MonitorTree) (placed : PlacedBlock) (whole : Bool) (arguments : List Value) (memory : Memory) → IsFine tree → IsFinePlaced tree.decls placed → HasShortSums placed.block → AreShort arguments → HasShort memory
    → All (StaysWide (scope_in tree placed whole) arguments memory) (placed.block.guard ∷ expressions_in placed.block.body)
block_wide tree placed whole arguments memory sound fine brief given short =
    let scope = scope_in tree placed whole in
    let names = entries scope in
    let valuation = reading arguments memory in
    let bounded : IsBounded names valuation = record {
      few = scope_few tree placed.method sound fine.method;
      small = scopes_are_small tree.decls placed.method;
      plain = scope_plain scope;
      low = λ place. short_low (valuation.number place) (read_short memory arguments place short given);
    } in
    let each = All-cons (IsFaultless names) placed.block.guard (expressions_in placed.block.body) (expected_fine (Some kinds.Bool) (sense names placed.block.guard) fine.guard) (body_faultless names placed.block.body fine.body) in
    let list = placed.block.guard ∷ expressions_in placed.block.body in
    λ k d lt. expression_wide names valuation bounded (get_or list k d) (each k d lt) (brief k d lt)

pub numbers_wide : PrintedNumbersAreWide
numbers_wide = λ tree index placed whole arguments memory parsed none here given short locals.
    block_wide tree placed whole arguments memory (fine_tree tree none) (fine_at tree.decls (blocks_from 0 tree.methods) (tree_blocks_fine tree none) index placed here) (parsed_sums_short tree index placed parsed here) given
    (record { fields = short; locals = locals })
