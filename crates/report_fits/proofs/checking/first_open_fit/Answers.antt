use Rattle.std.proofs.Common.{◌<◌, length, subst, sym}
use Rattle.std.proofs.lemmas.List.Elements.{All-get_or}
use Rattle.report_fits.specs.declared.fit.Fit.{Fit}
use Rattle.report_fits.proofs.Checks.{all_fit, fits_more, open_here}
use Rattle.report_fits.proofs.FitLines.{below_last}
use Rattle.report_fits.proofs.checking.first_open_fit.Goals as goal

pub is_fit-requires-clause-block : goal.is_fit-requires-clause-block
is_fit-requires-clause-block c =
    subst (λ (fit : Fit). fit.block < length c.args.monitor.now.blocks) (sym c.index-fits-place.is)
    (All-get_or (λ (fit : Fit). fit.block < length c.args.monitor.now.blocks) c.args.fits.now c.loop-place.place _ c.loop-place-test.true (below_last 0 (length c.args.monitor.now.blocks) c.args.fits.now c.requires.blocks))

pub returns-then-not-fitting : goal.returns-then-not-fitting
returns-then-not-fitting c = record {
  first =
      open_here c.args.monitor.now c.args.kept.now c.args.fits.now c.loop-place.place c.index-fits-place.result _ c.in_ok-fitting.fitting c.loop-place-test.true c.index-fits-place.is
      c.in_ok-fitting.ensures c.if-not-fitting.true c.loop-place.invariant;
  near = c.loop-place-test.true;
}

pub loop-place-preserved : goal.loop-place-preserved
loop-place-preserved c =
    fits_more c.args.monitor.now c.args.kept.now c.args.fits.now c.loop-place.place c.index-fits-place.result _ c.in_ok-fitting.fitting c.loop-place-test.true c.index-fits-place.is
    c.in_ok-fitting.ensures c.if-not-fitting.false c.loop-place.invariant

pub returns : goal.returns
returns c = record {
  first = all_fit c.args.monitor.now c.args.kept.now c.args.fits.now c.loop-place.place c.loop-place-test.false c.loop-place.invariant;
  near = tt;
}
