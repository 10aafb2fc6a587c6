use Rattle.std.proofs.Common.{◌++◌, Ok, codes, take}
use Rattle.std.specs.List.{flat_map}
use Rattle.lang_printer.specs.Canonical.{guarded_text}
use Rattle.lang_printer.specs.Depths.{levels}
use Rattle.base_io.specs.Writing.{Wrote}
use Rattle.lang_printer.proofs.printer.write_each.Given as goal

abbrev pub invariant-loop-block : goal.invariant-loop-block
invariant-loop-block g l =
    Wrote (g.S.Sink.seen l.initial.out) (g.S.Sink.seen l.out) (Ok tt) (flat_map (λ block. codes "    " ++ guarded_text l.opening (levels l.depth) block) (take l.block-index l.blocks))
