use Rattle.std.proofs.Common.{◌≡◌, ◌+◌, ◌≤◌, length, take}
use Rattle.std.specs.List.{suffix_len}
use Rattle.emit_comments.specs.Comments.{is_comment, is_empty_comment, lines_of}
use Rattle.emit_comments.proofs.comments.comment_count.Given as goal

abbrev pub invariant-loop-line : goal.invariant-loop-line
invariant-loop-line l = record {
  passed : l.left + length l.yielded ≡ l.place;
  few : l.run ≤ length l.yielded;
  few_empty : l.empty ≤ length l.yielded;
  is : l.run ≡ suffix_len is_comment (take (length l.yielded) (lines_of l.text));
  empty_is : l.empty ≡ suffix_len is_empty_comment (take (length l.yielded) (lines_of l.text));
}
