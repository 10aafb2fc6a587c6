use Rattle.std.proofs.Common.{List, Option, arith, subst}
use Rattle.std.specs.Prelude.{All, IfSome}
use Rattle.logic_cert.specs.declared.cert.Cert.{Cert}
use Rattle.logic_outline.specs.Outlines.{HasTypedNumbers}
use Rattle.expresso_reports.proofs.fits.answers_of.Goals as goal

pub returns : goal.returns
returns c =
    let are = c.in_ok-answers.ensures in
    record {
      are = are;
      typed = subst (λ (answers : List (Option Cert)). All (λ answer. IfSome answer HasTypedNumbers) answers) c.as_slice.ensures.value c.read_fit_numbers.ensures;
      few = omega (arith, are.count, c.blocks-blocks.ensures.rule.few_blocks);
    }
