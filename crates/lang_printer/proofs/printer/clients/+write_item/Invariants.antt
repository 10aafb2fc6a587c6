use Rattle.std.proofs.Common.{Ok, take}
use Rattle.lang_printer.specs.Depths.{levels}
use Rattle.lang_printer.specs.Printing.{items_text}
use Rattle.base_io.specs.Writing.{Wrote}
use Rattle.lang_printer.proofs.printer.clients.+write_item.Given as goal

abbrev pub invariant-write_items-loop-item : goal.invariant-write_items-loop-item
invariant-write_items-loop-item g l =
    Wrote (g.S.Sink.seen l.initial.out) (g.S.Sink.seen l.out) (Ok tt) (items_text (levels l.depth) (take l.item-index l.items))
