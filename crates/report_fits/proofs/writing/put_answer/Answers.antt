use Rattle.std.proofs.Common.{ap, append-nil, sym, ◌∙◌}
use Rattle.std.specs.List.{flat_map}
use Rattle.base_pen.proofs.Putting.{adds_same}
use Rattle.report_fits.specs.FitTexts.{fit_if, fit_line, fit_text}
use Rattle.report_fits.proofs.writing.put_answer.Goals as goal

pub returns-in-Some : goal.returns-in-Some
returns-in-Some g c =
    adds_same _ (sym (append-nil (fit_line c.args.monitor.now c.args.block c.in-Some.cert))
    ∙ ap (λ answer. flat_map (fit_text c.args.monitor.now) (fit_if c.args.block answer)) (sym c.in-Some.is)) c.put_fit.ensures
