use Rattle.std.proofs.Common.{◌∙◌, sym}
use Rattle.lang_forms.proofs.FormTerms.{times_length}
use Rattle.lang_forms.proofs.MakingLemmas.{has_room, part_form_of, part_limited}
use Rattle.lang_forms.proofs.making.difference.Goals as goal

pub add-requires-clause-length : goal.add-requires-clause-length
add-requires-clause-length c =
    let scope = c.args.scope.now in
    times_length scope c.in_ok-form.form.times (part_form_of scope c.args.left.now c.in_ok-form.form c.requires.numbers c.in_ok-form.ensures)
    ∙ sym (times_length scope c.in_ok-other.other.times (part_form_of scope c.args.right.now c.in_ok-other.other c.requires.numbers c.in_ok-other.ensures))

pub add-requires-clause-room : goal.add-requires-clause-room
add-requires-clause-room c = has_room c.in_ok-form.form (part_limited c.args.scope.now c.args.left.now c.in_ok-form.form c.requires.numbers c.requires.left c.in_ok-form.ensures)

pub add-requires-clause-limited : goal.add-requires-clause-limited
add-requires-clause-limited c = part_limited c.args.scope.now c.args.right.now c.in_ok-other.other c.requires.numbers c.requires.right c.in_ok-other.ensures
