use Rattle.std.proofs.Common.{true, refl}
use Rattle.front_command.specs.CommandLine.{version}
use Rattle.expresso_answers.specs.Texts.{version_text}
use Rattle.expresso_answers.proofs.Ending.{work_ended}
use Rattle.expresso.proofs.version.version.Goals as goal

pub returns : goal.returns
returns g c = λ files. work_ended version files files version_text _ _ _ true refl (λ none. none) refl c.show_version.ensures
