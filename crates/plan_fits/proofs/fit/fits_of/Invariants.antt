use Rattle.std.proofs.Common.{◌≡◌, ℕ, Option, Some, length}
use Rattle.std.specs.Prelude.{slice_get}
use Rattle.logic_cert.specs.declared.cert.Cert.{Cert}
use Rattle.plan_fits.specs.Answers.{IsFitAnswer}
use Rattle.plan_fits.proofs.fit.fits_of.Given as goal

abbrev pub invariant-loop-block : goal.invariant-loop-block
invariant-loop-block l =
    (length l.fits.items ≡ l.block)
    × ((number : ℕ) (answer : Option Cert) → slice_get l.fits.items number ≡ Some answer → IsFitAnswer l.monitor l.kept number answer)
