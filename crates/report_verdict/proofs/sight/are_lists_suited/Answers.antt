use Rattle.std.proofs.Common.{[], ◌∷◌, take, get_or, refl, sym, subst, ◌∙◌}
use Rattle.std.specs.Prelude.{All}
use Rattle.std.proofs.lemmas.List.{take_more, take_all}
use Rattle.std.proofs.lemmas.List.Elements.{All-nil, All-cons, All-append}
use Rattle.std.proofs.lemmas.Bool.{true≢false}
use Rattle.report_verdict.specs.inner.Sight.{AreNotesSuited}
use Rattle.report_verdict.proofs.sight.are_lists_suited.Goals as goal

pub returns-then-not-is_list_suited : goal.returns-then-not-is_list_suited
returns-then-not-is_list_suited c =
    let P = AreNotesSuited c.args.monitor.now c.args.kinds.now in
    let fails = c.if-not-is_list_suited.true in (
      λ held. absurd (true≢false (sym held)),
      λ all. absurd (true≢false (sym (c.is_list_suited.ensures.1 (subst P (sym c.list-item.is) (all c.loop-list.list-index c.list-item.result c.loop-list-test.true))) ∙ fails)),
    )

pub loop-list-preserved : goal.loop-list-preserved
loop-list-preserved c =
    let P = AreNotesSuited c.args.monitor.now c.args.kinds.now in
    let lists = c.args.lists.now in
    let index = c.loop-list.list-index in
    let item = c.list-item.result in
    let fits = c.is_list_suited.ensures.0 c.if-not-is_list_suited.false in
    subst (All P) (sym (take_more lists index item c.loop-list-test.true))
    (All-append P (take index lists) (get_or lists index item ∷ []) c.loop-list.invariant (All-cons P (get_or lists index item) [] (subst P c.list-item.is fits) (All-nil P)))

pub returns : goal.returns
returns c =
    let P = AreNotesSuited c.args.monitor.now c.args.kinds.now in
    (λ held. subst (All P) (take_all c.loop-list.list-index c.args.lists.now c.loop-list-test.false) c.loop-list.invariant, λ all. refl)
