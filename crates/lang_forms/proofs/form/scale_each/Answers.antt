use Rattle.std.proofs.Common.{◌≡◌, arith, sym, subst, true, ◌^◌}
use Rattle.lang_base.specs.Numbers.{is_within}
use Rattle.lang_forms.proofs.Numbers.{read_fits}
use Rattle.lang_forms.proofs.FormSums.{scale_fits, scale_step}
use Rattle.lang_forms.proofs.form.scale_each.Goals as goal

pub overflow_mul-time : goal.overflow_mul-time
overflow_mul-time c =
    scale_fits c.args.times.now c.loop-time.times _ c.loop-time.time-index c.requires.limited (subst (λ by. is_within (2 ^ 63) by ≡ true) (sym (read_fits c.args.by c.ranges.by)) c.requires.by) c.loop-time.invariant (omega arith)

pub loop-time-preserved : goal.loop-time-preserved
loop-time-preserved c =
    scale_step c.args.times.now c.loop-time.times _ c.loop-time.time-index c.requires.limited (subst (λ by. is_within (2 ^ 63) by ≡ true) (sym (read_fits c.args.by c.ranges.by)) c.requires.by) c.loop-time.invariant (omega arith)
