use Rattle.std.proofs.Common.{[], ◌∷◌, rules, ap, sym, ◌∙◌, inr, Some}
use Rattle.threads_desk.specs.declared.letter.Sheet.TheVariants.{Told}
use Rattle.threads_desk.proofs.Keeping.{looks, posted_part, still_posted, answer_had, answer_tells, one_sheet}
use Rattle.threads_desk.proofs.cell.Cell.collect.Goals as goal

pub load-found-requires : goal.load-found-requires
load-found-requires g c = (search rules, search rules, looks _ _ _ _ _ _ c.requires.mail.0 (search rules))

pub returns-then-found-ne-TOLD : goal.returns-then-found-ne-TOLD
returns-then-found-ne-TOLD g c = record {
  told = λ asked is.
      let l = c.load-found.ensures.2 asked (posted_part g.E.Errand.asks g.E.Errand.tells _ _ asked is.1) in
      let s = still_posted g.E.Errand.asks g.E.Errand.tells _ _ _ _ asked is.1 (l.1 c.if-found-ne-TOLD.true) in
      ((c.load-found.ensures.0 ∙ is.0, s.0), s.1, λ same. c.if-found-ne-TOLD.true (sym s.2 ∙ same));
}

pub clear-sheet-requires-clause-part : goal.clear-sheet-requires-clause-part
clear-sheet-requires-clause-part g c =
    let m = c.requires.mail in
    let l = c.load-found.ensures.2 m.0 (posted_part g.E.Errand.asks g.E.Errand.tells _ _ m.0 m.1.1) in
    inr (ap (λ n. n.0.part) (l.0 c.if-found-ne-TOLD.false).now)

pub clear-sheet-requires-clause-has : goal.clear-sheet-requires-clause-has
clear-sheet-requires-clause-has g c =
    let m = c.requires.mail in
    let l = c.load-found.ensures.2 m.0 (posted_part g.E.Errand.asks g.E.Errand.tells _ _ m.0 m.1.1) in
    let h = l.0 c.if-found-ne-TOLD.false in
    (Some (Told h.told), answer_had g.E.Errand.asks g.E.Errand.tells _ _ _ m.0 m.1.1 h)

pub answer_in-requires : goal.answer_in-requires
answer_in-requires g c =
    let m = c.requires.mail in
    let l = c.load-found.ensures.2 m.0 (posted_part g.E.Errand.asks g.E.Errand.tells _ _ m.0 m.1.1) in
    let h = l.0 c.if-found-ne-TOLD.false in
    record { told = (h.told, one_sheet _ _ _ _ _ c.clear-sheet.ensures.had (answer_had g.E.Errand.asks g.E.Errand.tells _ _ _ m.0 m.1.1 h)) }

pub returns : goal.returns
returns g c = record {
  told = λ asked is.
      let l = c.load-found.ensures.2 asked (posted_part g.E.Errand.asks g.E.Errand.tells _ _ asked is.1) in
      let tells = answer_tells g.E.Errand.asks g.E.Errand.tells _ _ _ asked _ [] is.1 (l.0 c.if-found-ne-TOLD.false) (c.clear-sheet.ensures.had ∙ ap (λ x. (0, x) ∷ []) c.answer_in.ensures.told) in
      (tells, c.clear-sheet.ensures.free);
}
