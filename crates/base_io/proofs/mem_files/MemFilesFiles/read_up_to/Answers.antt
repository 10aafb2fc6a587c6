use Rattle.std.proofs.Common.{refl}
use Rattle.base_io.proofs.mem_files.MemFilesFiles.read_up_to.Goals as goal

pub returns-in_default-clause-failed : goal.returns-in_default-clause-failed
returns-in_default-clause-failed c =
    (λ _. rw (← c.self.view_is, ← c.deref.ensures.value, ← c.deref-2.ensures.value) (c.in_default.ensures.fails.0 refl), λ _. refl)
