use Rattle.std.proofs.Common.{◌≡◌, ◌+◌, ◌-◌, ◌≤◌, Ok, length, take, drop}
use Rattle.std.specs.List.{flat_map}
use Rattle.base_io.specs.Writing.{Wrote}
use Rattle.emit_comments.specs.Comments.{doc_line, lines_of}
use Rattle.emit_comments.specs.inner.Cuts.{lines_at}
use Rattle.emit_comments.proofs.Lasts.{lasts}
use Rattle.emit_comments.proofs.docs.write_lines.Given as goal

abbrev pub invariant-loop-number : goal.invariant-loop-number
invariant-loop-number g l = record {
  near : l.at ≤ length l.text + 1;
  begins : lines_at l.text l.at ≡ drop l.number (lines_of l.text);
  written : Wrote (g.S.Sink.seen l.initial.out) (g.S.Sink.seen l.out) (Ok tt)
      (flat_map (doc_line l.indent) (take (l.number - (l.place - l.count)) (lasts (lines_of l.text) l.place l.count)));
}
