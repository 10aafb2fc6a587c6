-- A block of one statement, which answers nothing.
use Rattle.std.proofs.Common.{◌≡◌, Bool, true, false, ◌||◌, List, [], ◌∷◌, map, sym, ap, ◌∙◌}
use Rattle.std.specs.Prelude.{not}
use Rattle.std.specs.List.{list_all}
use Rattle.lang_base.specs.declared.value.Value.{Value}
use Rattle.lang_monitor.specs.declared.monitor.Block.{Block}
use Rattle.lang_monitor.specs.declared.monitor.Ret.{Ret}
use Rattle.lang_monitor.specs.declared.monitor.Ret.TheVariants as rets
use Rattle.lang_monitor.specs.declared.monitor.Stmt.{Stmt}
use Rattle.lang_monitor.specs.MonitorParts.{Places, fits_block, fits_statement}
use Rattle.lang_monitor.specs.Bodies.{Inputs, Memory, memory_of, effect_of, body_effect, after, result_value, block_result, fits_result_64, overflows_in}
use Rattle.machine_implicit.specs.declared.commit.Reply.{Reply}
use Rattle.machine_implicit.specs.declared.commit.Reply.TheVariants as replies
use Rattle.machine_implicit.specs.Steps.{reply_of}
use Rattle.machine_implicit.specs.inner.Held.{RunsWhole}
use Rattle.machine_implicit.proofs.Placed.{body_fits}
use Rattle.machine_implicit.proofs.Sums.{both_true}

pub only_fits : (places : Places) (block : Block) (statement : Stmt) → block.body ≡ statement ∷ [] → fits_block places block ≡ true → fits_statement places statement ≡ true
only_fits places block statement is fits =
    (both_true (fits_statement places statement) true (sym (ap (λ (body : List Stmt). list_all (λ inner. inner) (map (fits_statement places) body)) is) ∙ body_fits places block fits)).0

pub only_reaches : (inputs : Inputs) (block : Block) (statement : Stmt) (state : List Value) (next : Memory) → block.body ≡ statement ∷ [] → RunsWhole (effect_of inputs.arguments statement) (memory_of state inputs) next
    → next ≡ after inputs block.body state
only_reaches inputs block statement state next is runs = runs.reaches ∙ sym (ap (λ (body : List Stmt). after inputs body state) is)

pub only_replies : (inputs : Inputs) (block : Block) (state : List Value) → block.result ≡ rets.Nothing → replies.Unit ≡ reply_of (block_result inputs block state)
only_replies inputs block state nothing = sym (ap (λ (result : Ret). reply_of (result_value (after inputs block.body state) inputs.arguments result)) nothing)

pub only_overflows : (inputs : Inputs) (block : Block) (statement : Stmt) (state : List Value) (over : Bool) → block.body ≡ statement ∷ [] → block.result ≡ rets.Nothing
    → (effect_of inputs.arguments statement).overflows (memory_of state inputs) ≡ over → overflows_in inputs block state ≡ ((over || false) || false)
only_overflows inputs block statement state over is nothing overflows =
    ap (λ (result : Ret). (body_effect inputs.arguments block.body).overflows (memory_of state inputs) || not (fits_result_64 (result_value (after inputs block.body state) inputs.arguments result))) nothing
    ∙ ap (λ (body : List Stmt). (body_effect inputs.arguments body).overflows (memory_of state inputs) || false) is
    ∙ ap (λ (some : Bool). (some || false) || false) overflows
