use Rattle.std.proofs.Common.{ap, length, List}
use Rattle.emit_comments.proofs.Numbered.{numbered}
use Rattle.emit_method.specs.Docs.{errors_text, waiting_text}
use Rattle.emit_statements.specs.Statements.{method_seen}
use Rattle.lang_tree.specs.declared.tree.BlockTree.{BlockTree}
use Rattle.std.specs.List.{enumerate_from, flat_map}
use Rattle.base_io.proofs.Writing.{wrote_both, wrote_fails, wrote_longer, wrote_same}
use Rattle.emit_method.proofs.docs.write_waiting_docs.Goals as goal

pub returns-in_err-write_own_comments : goal.returns-in_err-write_own_comments
returns-in_err-write_own_comments g c =
    wrote_fails _ c.from_residual.ensures.0 (wrote_longer (errors_text c.args.it.now.fails (length c.args.it.now.method.now.blocks)) (wrote_longer (flat_map (numbered (waiting_text (method_seen c.args.it.now))) (enumerate_from 0 c.args.it.now.method.now.blocks)) c.in_err-write_own_comments.ensures))

pub returns-in_err-write_blocks_docs : goal.returns-in_err-write_blocks_docs
returns-in_err-write_blocks_docs g c =
    wrote_fails _ c.from_residual-in_err-write_blocks_docs.ensures.0 (wrote_longer (errors_text c.args.it.now.fails (length c.args.it.now.method.now.blocks)) (wrote_both c.in_ok-write_own_comments.ensures (wrote_same _ (ap (λ (xs : List BlockTree). flat_map (numbered (waiting_text (method_seen c.args.it.now))) (enumerate_from 0 xs)) c.items.ensures) c.in_err-write_blocks_docs.ensures)))

pub returns : goal.returns
returns g c =
    wrote_both (wrote_both c.in_ok-write_own_comments.ensures (wrote_same _ (ap (λ (xs : List BlockTree). flat_map (numbered (waiting_text (method_seen c.args.it.now))) (enumerate_from 0 xs)) c.items.ensures) c.in_ok-write_blocks_docs.ensures)) c.write_errors.ensures
