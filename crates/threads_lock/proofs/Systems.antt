-- What is run stays in what a pass knows.
use Rattle.std.proofs.Common.{◌≡◌, ℕ, Result, Ok, Err, ap, ◌∙◌}
use Rattle.machine_explicit.specs.declared.section.NotReady.{NotReady}
use Rattle.threads_lock.specs.declared.receipt.Receipt.{Receipt}
use Rattle.threads_lock.specs.declared.view.Knowledge.{Knowledge}
use Rattle.threads_lock.specs.Passes.{Looks, SectionsShared}

pub look_system : (before after : Knowledge) → Looks before after → after.front.system ≡ before.front.system
look_system before after looks = ap (λ (k : Knowledge). k.front.system) looks.known ∙ looks.reaches.front.system

pub section_system : (client : ℕ) (before after : Knowledge) (result : Result Receipt NotReady) → SectionsShared client before after result
    → after.front.system ≡ before.front.system
section_system client before after (Ok told) made =
    ap (λ (k : Knowledge). k.front.system) made.known ∙ (made.made.appends.system ∙ made.reaches.front.system)
section_system client before after (Err fault) rested =
    ap (λ (k : Knowledge). k.front.system) rested.known ∙ rested.reaches.front.system
