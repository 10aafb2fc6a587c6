use Rattle.std.proofs.Common.{ℕ, List, ◌++◌, ap, codes}
use Rattle.base_io.proofs.Writing.{wrote_same}
use Rattle.expresso_answers.specs.Texts.{version_text}
use Rattle.expresso.proofs.text.show_version.Goals as goal

pub returns : goal.returns
returns g c =
    c.finish.ensures (g.S.Sink.seen c.args.out.now) version_text
    (wrote_same version_text (ap (λ (bytes : List ℕ). codes "expresso " ++ bytes ++ codes "\n") c.version_bytes.ensures) c.write_pieces-outcome.ensures)
