use Rattle.std.proofs.Common.{◌≡◌, ℕ, ◌+◌, length, List, refl, sym, ap, subst, ◌∙◌, arith}
use Rattle.machine_events.specs.declared.plan.Note.{Note}
use Rattle.plan_claims.specs.Backing.{untested_claims}
use Rattle.plan_place.specs.inner.Answers.{Adds, AreNotes, unnoted_claim, unnoted_up_to}
use Rattle.std.specs.Prelude.{option_to_list}
use Rattle.plan_place.proofs.Placing.{adds_then, notes_more, unnoted_more, untested_more}
use Rattle.plan_place.proofs.notes.notes_of.Goals as goal

pub loop-index-preserved : goal.loop-index-preserved
loop-index-preserved c =
    let monitor = c.args.monitor.now in
    let kept = c.args.kept.now in
    let block = c.args.block in
    let notes = c.loop-index.notes.items in
    let all = c.push_some.new.notes.items in
    let index = c.loop-index.index in
    let invariant = c.loop-index.invariant in
    let note = c.in_ok-note.note in
    let told = c.in_ok-note.ensures in
    let before = c.args.found.now in
    let then = c.loop-index.found in
    let now = c.note_on.new.found in
    let made = c.in_ok-push_some.ensures in record {
      made = subst (AreNotes monitor kept c.args.kinds.now block (index + 1)) (sym made)
          (notes_more monitor kept c.args.kinds.now block index (index + 1) notes note refl told.on told.note invariant.made);
      unnoted = adds_then monitor kept (unnoted_up_to block index notes) (unnoted_claim block (index + 1) note) (unnoted_up_to block (index + 1) all)
          before.unnoted.items then.unnoted.items now.unnoted.items
          (ap (unnoted_up_to block (index + 1)) made ∙ unnoted_more block index (index + 1) notes note refl told.on invariant.made.below) invariant.unnoted told.unnoted;
      untested = adds_then monitor kept (untested_claims monitor block notes) (untested_claims monitor block (option_to_list note)) (untested_claims monitor block all)
          before.untested.items then.untested.items now.untested.items
          (ap (untested_claims monitor block) made ∙ untested_more monitor block notes (option_to_list note)) invariant.untested told.untested;
    }

pub returns-clause-unnoted : goal.returns-clause-unnoted
returns-clause-unnoted c =
    let before = c.args.found.now.unnoted.items in
    let now = c.loop-index.found.unnoted.items in
    let notes = c.loop-index.notes.items in
    let block = c.args.block in
    let adds = λ (count : ℕ) (all : List Note). Adds c.args.monitor.now c.args.kept.now (unnoted_up_to block count all) before now in
    let count : c.loop-index.index ≡ length c.args.monitor.now.conditions = omega (arith, ap length c.conditions-index-end.ensures.conditions) in
    subst (adds (length c.args.monitor.now.conditions)) (sym c.of.ensures) (subst (λ (count : ℕ). adds count notes) count c.loop-index.invariant.unnoted)
