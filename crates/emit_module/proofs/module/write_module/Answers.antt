use Rattle.emit_statements.specs.Sources.{seen}
use Rattle.emit_module.specs.Modules.{functions_text, impl_text, inner_text, state_impl_text, state_text, struct_text, traits_text, use_text}
use Rattle.base_io.proofs.Writing.{wrote_both, wrote_fails, wrote_longer}
use Rattle.emit_module.proofs.module.write_module.Goals as goal

pub returns-in_err-write_head : goal.returns-in_err-write_head
returns-in_err-write_head g c =
    wrote_fails _ c.from_residual.ensures.0 (wrote_longer (functions_text (seen c.args.source.now)) (wrote_longer (state_impl_text (seen c.args.source.now)) (wrote_longer (state_text c.args.source.now.tree.now) (wrote_longer (inner_text (seen c.args.source.now)) (wrote_longer (traits_text (seen c.args.source.now)) (wrote_longer (impl_text (seen c.args.source.now)) (wrote_longer (struct_text (seen c.args.source.now)) (wrote_longer (use_text (seen c.args.source.now)) c.in_err-write_head.ensures))))))))

pub returns-in_err-write_use : goal.returns-in_err-write_use
returns-in_err-write_use g c =
    wrote_fails _ c.from_residual-in_err-write_use.ensures.0 (wrote_longer (functions_text (seen c.args.source.now)) (wrote_longer (state_impl_text (seen c.args.source.now)) (wrote_longer (state_text c.args.source.now.tree.now) (wrote_longer (inner_text (seen c.args.source.now)) (wrote_longer (traits_text (seen c.args.source.now)) (wrote_longer (impl_text (seen c.args.source.now)) (wrote_longer (struct_text (seen c.args.source.now)) (wrote_both c.in_ok-write_head.ensures c.in_err-write_use.ensures))))))))

pub returns-in_err-write_struct : goal.returns-in_err-write_struct
returns-in_err-write_struct g c =
    wrote_fails _ c.from_residual-in_err-write_struct.ensures.0 (wrote_longer (functions_text (seen c.args.source.now)) (wrote_longer (state_impl_text (seen c.args.source.now)) (wrote_longer (state_text c.args.source.now.tree.now) (wrote_longer (inner_text (seen c.args.source.now)) (wrote_longer (traits_text (seen c.args.source.now)) (wrote_longer (impl_text (seen c.args.source.now)) (wrote_both (wrote_both c.in_ok-write_head.ensures c.in_ok-write_use.ensures) c.in_err-write_struct.ensures)))))))

pub returns-in_err-write_impl : goal.returns-in_err-write_impl
returns-in_err-write_impl g c =
    wrote_fails _ c.from_residual-in_err-write_impl.ensures.0 (wrote_longer (functions_text (seen c.args.source.now)) (wrote_longer (state_impl_text (seen c.args.source.now)) (wrote_longer (state_text c.args.source.now.tree.now) (wrote_longer (inner_text (seen c.args.source.now)) (wrote_longer (traits_text (seen c.args.source.now)) (wrote_both (wrote_both (wrote_both c.in_ok-write_head.ensures c.in_ok-write_use.ensures) c.in_ok-write_struct.ensures) c.in_err-write_impl.ensures))))))

pub returns-in_err-write_traits : goal.returns-in_err-write_traits
returns-in_err-write_traits g c =
    wrote_fails _ c.from_residual-in_err-write_traits.ensures.0 (wrote_longer (functions_text (seen c.args.source.now)) (wrote_longer (state_impl_text (seen c.args.source.now)) (wrote_longer (state_text c.args.source.now.tree.now) (wrote_longer (inner_text (seen c.args.source.now)) (wrote_both (wrote_both (wrote_both (wrote_both c.in_ok-write_head.ensures c.in_ok-write_use.ensures) c.in_ok-write_struct.ensures) c.in_ok-write_impl.ensures) c.in_err-write_traits.ensures)))))

pub returns-in_err-write_inner : goal.returns-in_err-write_inner
returns-in_err-write_inner g c =
    wrote_fails _ c.from_residual-in_err-write_inner.ensures.0 (wrote_longer (functions_text (seen c.args.source.now)) (wrote_longer (state_impl_text (seen c.args.source.now)) (wrote_longer (state_text c.args.source.now.tree.now) (wrote_both (wrote_both (wrote_both (wrote_both (wrote_both c.in_ok-write_head.ensures c.in_ok-write_use.ensures) c.in_ok-write_struct.ensures) c.in_ok-write_impl.ensures) c.in_ok-write_traits.ensures) c.in_err-write_inner.ensures))))

pub returns-in_err-write_state : goal.returns-in_err-write_state
returns-in_err-write_state g c =
    wrote_fails _ c.from_residual-in_err-write_state.ensures.0 (wrote_longer (functions_text (seen c.args.source.now)) (wrote_longer (state_impl_text (seen c.args.source.now)) (wrote_both (wrote_both (wrote_both (wrote_both (wrote_both (wrote_both c.in_ok-write_head.ensures c.in_ok-write_use.ensures) c.in_ok-write_struct.ensures) c.in_ok-write_impl.ensures) c.in_ok-write_traits.ensures) c.in_ok-write_inner.ensures) c.in_err-write_state.ensures)))

pub returns-in_err-write_state_impl : goal.returns-in_err-write_state_impl
returns-in_err-write_state_impl g c =
    wrote_fails _ c.from_residual-in_err-write_state_impl.ensures.0 (wrote_longer (functions_text (seen c.args.source.now)) (wrote_both (wrote_both (wrote_both (wrote_both (wrote_both (wrote_both (wrote_both c.in_ok-write_head.ensures c.in_ok-write_use.ensures) c.in_ok-write_struct.ensures) c.in_ok-write_impl.ensures) c.in_ok-write_traits.ensures) c.in_ok-write_inner.ensures) c.in_ok-write_state.ensures) c.in_err-write_state_impl.ensures))

pub returns : goal.returns
returns g c =
    wrote_both (wrote_both (wrote_both (wrote_both (wrote_both (wrote_both (wrote_both (wrote_both c.in_ok-write_head.ensures c.in_ok-write_use.ensures) c.in_ok-write_struct.ensures) c.in_ok-write_impl.ensures) c.in_ok-write_traits.ensures) c.in_ok-write_inner.ensures) c.in_ok-write_state.ensures) c.in_ok-write_state_impl.ensures) c.write_functions.ensures
