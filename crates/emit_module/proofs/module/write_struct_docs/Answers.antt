use Rattle.std.proofs.Common.{codes, [], ap, ℕ}
use Rattle.machine_events.specs.PlanText.{plan_text}
use Rattle.emit_comments.specs.Comments.{leading_docs}
use Rattle.base_io.proofs.Writing.{wrote_both, wrote_fails, wrote_longer, wrote_same}
use Rattle.emit_module.proofs.module.write_struct_docs.Goals as goal

pub returns-in_err-write_leading : goal.returns-in_err-write_leading
returns-in_err-write_leading g c =
    wrote_fails _ c.from_residual.ensures.0 (wrote_longer (codes "```\n*/\n") (wrote_longer (plan_text c.args.source.now.monitor.now c.args.source.now.plan.now) (wrote_longer (codes "/**\n# Plan\n\n```text\n") (wrote_longer (codes "///\n/// Its lock guards data `D` too, for the functions that calls are given.\n") (wrote_longer (codes "`. Threads share it by reference. A call waits for its guard, unless it tries.\n") (wrote_longer (c.args.source.now.tree.now.name) (wrote_longer (codes "/// The monitor `") (wrote_same _ (ap (λ (n : ℕ). leading_docs [] c.args.source.now.text.now n) c.first_line.ensures) c.in_err-write_leading.ensures))))))))

pub returns-in_err-write_piece : goal.returns-in_err-write_piece
returns-in_err-write_piece g c =
    wrote_fails _ c.from_residual-in_err-write_piece.ensures.0 (wrote_longer (codes "```\n*/\n") (wrote_longer (plan_text c.args.source.now.monitor.now c.args.source.now.plan.now) (wrote_longer (codes "/**\n# Plan\n\n```text\n") (wrote_longer (codes "///\n/// Its lock guards data `D` too, for the functions that calls are given.\n") (wrote_longer (codes "`. Threads share it by reference. A call waits for its guard, unless it tries.\n") (wrote_longer (c.args.source.now.tree.now.name) (wrote_both (wrote_same _ (ap (λ (n : ℕ). leading_docs [] c.args.source.now.text.now n) c.first_line.ensures) c.in_ok-write_leading.ensures) c.in_err-write_piece.ensures)))))))

pub returns-in_err-write_piece-2 : goal.returns-in_err-write_piece-2
returns-in_err-write_piece-2 g c =
    wrote_fails _ c.from_residual-in_err-write_piece-2.ensures.0 (wrote_longer (codes "```\n*/\n") (wrote_longer (plan_text c.args.source.now.monitor.now c.args.source.now.plan.now) (wrote_longer (codes "/**\n# Plan\n\n```text\n") (wrote_longer (codes "///\n/// Its lock guards data `D` too, for the functions that calls are given.\n") (wrote_longer (codes "`. Threads share it by reference. A call waits for its guard, unless it tries.\n") (wrote_both (wrote_both (wrote_same _ (ap (λ (n : ℕ). leading_docs [] c.args.source.now.text.now n) c.first_line.ensures) c.in_ok-write_leading.ensures) c.in_ok-write_piece.ensures) (wrote_same _ (c.bytes.ensures) c.in_err-write_piece-2.ensures)))))))

pub returns-in_err-write_piece-3 : goal.returns-in_err-write_piece-3
returns-in_err-write_piece-3 g c =
    wrote_fails _ c.from_residual-in_err-write_piece-3.ensures.0 (wrote_longer (codes "```\n*/\n") (wrote_longer (plan_text c.args.source.now.monitor.now c.args.source.now.plan.now) (wrote_longer (codes "/**\n# Plan\n\n```text\n") (wrote_longer (codes "///\n/// Its lock guards data `D` too, for the functions that calls are given.\n") (wrote_both (wrote_both (wrote_both (wrote_same _ (ap (λ (n : ℕ). leading_docs [] c.args.source.now.text.now n) c.first_line.ensures) c.in_ok-write_leading.ensures) c.in_ok-write_piece.ensures) (wrote_same _ (c.bytes.ensures) c.in_ok-write_piece-2.ensures)) c.in_err-write_piece-3.ensures)))))

pub returns-in_err-write_piece-4 : goal.returns-in_err-write_piece-4
returns-in_err-write_piece-4 g c =
    wrote_fails _ c.from_residual-in_err-write_piece-4.ensures.0 (wrote_longer (codes "```\n*/\n") (wrote_longer (plan_text c.args.source.now.monitor.now c.args.source.now.plan.now) (wrote_longer (codes "/**\n# Plan\n\n```text\n") (wrote_both (wrote_both (wrote_both (wrote_both (wrote_same _ (ap (λ (n : ℕ). leading_docs [] c.args.source.now.text.now n) c.first_line.ensures) c.in_ok-write_leading.ensures) c.in_ok-write_piece.ensures) (wrote_same _ (c.bytes.ensures) c.in_ok-write_piece-2.ensures)) c.in_ok-write_piece-3.ensures) c.in_err-write_piece-4.ensures))))

pub returns-in_err-write_piece-5 : goal.returns-in_err-write_piece-5
returns-in_err-write_piece-5 g c =
    wrote_fails _ c.from_residual-in_err-write_piece-5.ensures.0 (wrote_longer (codes "```\n*/\n") (wrote_longer (plan_text c.args.source.now.monitor.now c.args.source.now.plan.now) (wrote_both (wrote_both (wrote_both (wrote_both (wrote_both (wrote_same _ (ap (λ (n : ℕ). leading_docs [] c.args.source.now.text.now n) c.first_line.ensures) c.in_ok-write_leading.ensures) c.in_ok-write_piece.ensures) (wrote_same _ (c.bytes.ensures) c.in_ok-write_piece-2.ensures)) c.in_ok-write_piece-3.ensures) c.in_ok-write_piece-4.ensures) c.in_err-write_piece-5.ensures)))

pub returns-in_err-write_plan : goal.returns-in_err-write_plan
returns-in_err-write_plan g c =
    wrote_fails _ c.from_residual-in_err-write_plan.ensures.0 (wrote_longer (codes "```\n*/\n") (wrote_both (wrote_both (wrote_both (wrote_both (wrote_both (wrote_both (wrote_same _ (ap (λ (n : ℕ). leading_docs [] c.args.source.now.text.now n) c.first_line.ensures) c.in_ok-write_leading.ensures) c.in_ok-write_piece.ensures) (wrote_same _ (c.bytes.ensures) c.in_ok-write_piece-2.ensures)) c.in_ok-write_piece-3.ensures) c.in_ok-write_piece-4.ensures) c.in_ok-write_piece-5.ensures) c.in_err-write_plan.ensures))

pub returns : goal.returns
returns g c =
    wrote_both (wrote_both (wrote_both (wrote_both (wrote_both (wrote_both (wrote_both (wrote_same _ (ap (λ (n : ℕ). leading_docs [] c.args.source.now.text.now n) c.first_line.ensures) c.in_ok-write_leading.ensures) c.in_ok-write_piece.ensures) (wrote_same _ (c.bytes.ensures) c.in_ok-write_piece-2.ensures)) c.in_ok-write_piece-3.ensures) c.in_ok-write_piece-4.ensures) c.in_ok-write_piece-5.ensures) c.in_ok-write_plan.ensures) c.write_piece-6.ensures
