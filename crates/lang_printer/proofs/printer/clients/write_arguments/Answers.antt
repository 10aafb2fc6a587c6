use Rattle.std.proofs.Common.{◌++◌, ◌∙◌, ap, refl, codes, get_or, false}
use Rattle.std.proofs.lemmas.List.{take_all}
use Rattle.std.specs.List.{flat_map}
use Rattle.lang_tree.specs.declared.tree.Arg.{Arg}
use Rattle.lang_tree.specs.declared.tree.Arg.TheVariants as args
use Rattle.lang_printer.specs.CanonicalClients.{argument_text}
use Rattle.lang_printer.proofs.Clients.{arguments-cut, read_again}
use Rattle.lang_printer.proofs.Printing.{after_first}
use Rattle.base_io.proofs.Rows.{row_stopped}
use Rattle.base_io.proofs.Writing.{wrote_both, wrote_same}
use Rattle.lang_printer.proofs.printer.clients.write_arguments.Goals as goal

-- what is read past the end
nothing : Arg
nothing = args.Int 0 (record { at = 0; minus = false; digits = 0 })

pub returns : goal.returns
unfolding nothing
returns g c =
    let whole = ap (λ rest. argument_text (get_or c.args.given.now 0 nothing) ++ flat_map (λ argument. codes ", " ++ argument_text argument) rest) (take_all c.loop-argument.argument-index (after_first c.args.given.now) c.loop-argument-test.false) in
    wrote_same _ (whole ∙ arguments-cut c.args.given.now nothing c.in-len1-up.len_at_least) (wrote_both c.in_ok-write_argument.ensures c.loop-argument.invariant)

pub returns-in_err-write_argument-2 : goal.returns-in_err-write_argument-2
unfolding nothing
returns-in_err-write_argument-2 g c =
    let rest = after_first c.args.given.now in
    let here = get_or rest c.loop-argument.argument-index nothing in
    let stopped = row_stopped (λ argument. codes ", " ++ argument_text argument) rest c.loop-argument.argument-index here _ _ c.loop-argument-test.true (read_again rest c.loop-argument.argument-index nothing c.loop-argument-test.true) refl c.from_residual-in_err-write_argument-2.ensures.0 c.loop-argument.invariant c.in_err-write_argument-2.ensures in
    wrote_same _ (arguments-cut c.args.given.now nothing c.in-len1-up.len_at_least) (wrote_both c.in_ok-write_argument.ensures stopped)
