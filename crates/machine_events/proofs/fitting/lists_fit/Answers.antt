use Rattle.std.proofs.Common.{[], ◌∷◌, take, get_or, refl, sym, subst, ◌∙◌}
use Rattle.std.specs.Prelude.{All}
use Rattle.std.proofs.lemmas.List.{take_more, take_all}
use Rattle.std.proofs.lemmas.List.Elements.{All-nil, All-cons, All-append}
use Rattle.std.proofs.lemmas.Bool.{true≢false}
use Rattle.machine_events.specs.Plans.{FitsNotes}
use Rattle.machine_events.proofs.fitting.lists_fit.Goals as goal

pub returns-then-not-list_fits : goal.returns-then-not-list_fits
returns-then-not-list_fits c =
    let P = FitsNotes c.args.monitor.now in
    let fails = c.if-not-list_fits.true in (
      λ held. absurd (true≢false (sym held)),
      λ all. absurd (true≢false (sym (c.list_fits.ensures.1 (subst P (sym c.list-item.is) (all c.loop-list.list-index c.list-item.result c.loop-list-test.true))) ∙ fails)),
    )

pub loop-list-preserved : goal.loop-list-preserved
loop-list-preserved c =
    let P = FitsNotes c.args.monitor.now in
    let lists = c.args.lists.now in
    let index = c.loop-list.list-index in
    let item = c.list-item.result in
    let fits = c.list_fits.ensures.0 c.if-not-list_fits.false in
    subst (All P) (sym (take_more lists index item c.loop-list-test.true))
    (All-append P (take index lists) (get_or lists index item ∷ []) c.loop-list.invariant (All-cons P (get_or lists index item) [] (subst P c.list-item.is fits) (All-nil P)))

pub returns : goal.returns
returns c =
    let P = FitsNotes c.args.monitor.now in
    (λ held. subst (All P) (take_all c.loop-list.list-index c.args.lists.now c.loop-list-test.false) c.loop-list.invariant, λ all. refl)
