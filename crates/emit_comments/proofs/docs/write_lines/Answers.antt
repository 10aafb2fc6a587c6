use Rattle.std.proofs.Common.{◌≡◌, ◌+◌, ◌-◌, ◌≤◌, inl, inr, length, rules, arith}
use Rattle.base_io.proofs.Writing.{wrote_same}
use Rattle.emit_comments.specs.Comments.{doc_line, lines_of}
use Rattle.emit_comments.proofs.Cuts.{are_over, begins, is_line, is_near, next_begins, that_line}
use Rattle.emit_comments.proofs.Lasts.{last_begun, last_done, last_stopped, last_went}
use Rattle.emit_comments.proofs.docs.write_lines.Goals as goal

pub loop-number-init : goal.loop-number-init
loop-number-init g c = record {
  near = omega arith;
  begins = begins c.args.text.now;
  written = wrote_same _ (last_begun (doc_line c.args.indent.now) (lines_of c.args.text.now) c.args.place c.args.count) (search rules);
}

pub loop-number-preserved : goal.loop-number-preserved
loop-number-preserved g c =
    let less : c.loop-number.at ≤ length c.args.text.now = omega (arith, c.if-at-text.false) in
    let fits : (c.args.place - c.loop-number.number) + c.loop-number.number ≡ c.args.place = omega (arith, c.loop-number-test.true) in
    record {
      near = is_near c.args.text.now c.loop-number.at c.loop-number.number c.line_at-line.result.now less c.line_at-line.ensures c.loop-number.invariant.begins;
      begins = next_begins c.args.text.now c.loop-number.at c.loop-number.number c.line_at-line.result.now less c.line_at-line.ensures c.loop-number.invariant.begins;
      written = last_went (doc_line c.args.indent.now) (lines_of c.args.text.now) c.args.place c.args.count c.loop-number.number (c.args.place - c.loop-number.number) c.line_at-line.result.now c.is_due.result fits c.requires (omega (arith, c.loop-number-test.true)) (is_line c.args.text.now c.loop-number.at c.loop-number.number c.line_at-line.result.now less c.line_at-line.ensures c.loop-number.invariant.begins) (that_line c.args.text.now c.loop-number.at c.loop-number.number c.line_at-line.result.now less c.line_at-line.ensures c.loop-number.invariant.begins) c.is_due.ensures c.loop-number.invariant.written c.in_ok-write_due.ensures;
    }

pub returns-then-at-text : goal.returns-then-at-text
returns-then-at-text g c =
    let fits : (c.args.place - c.loop-number.number) + c.loop-number.number ≡ c.args.place = omega (arith, c.loop-number-test.true) in
    let over = are_over c.args.text.now c.loop-number.at c.loop-number.number (omega (arith, c.if-at-text.true)) c.loop-number.invariant.begins in
    wrote_same _ (last_done (doc_line c.args.indent.now) (lines_of c.args.text.now) c.args.place c.args.count c.loop-number.number (c.args.place - c.loop-number.number) fits c.requires (inr over)) c.loop-number.invariant.written

pub returns-in_err-write_due : goal.returns-in_err-write_due
returns-in_err-write_due g c =
    let less : c.loop-number.at ≤ length c.args.text.now = omega (arith, c.if-at-text.false) in
    let fits : (c.args.place - c.loop-number.number) + c.loop-number.number ≡ c.args.place = omega (arith, c.loop-number-test.true) in
    last_stopped (doc_line c.args.indent.now) (lines_of c.args.text.now) c.args.place c.args.count c.loop-number.number (c.args.place - c.loop-number.number) c.line_at-line.result.now c.is_due.result _ fits c.requires (omega (arith, c.loop-number-test.true)) (is_line c.args.text.now c.loop-number.at c.loop-number.number c.line_at-line.result.now less c.line_at-line.ensures c.loop-number.invariant.begins) (that_line c.args.text.now c.loop-number.at c.loop-number.number c.line_at-line.result.now less c.line_at-line.ensures c.loop-number.invariant.begins) c.is_due.ensures c.from_residual.ensures.0 c.loop-number.invariant.written c.in_err-write_due.ensures

pub returns : goal.returns
returns g c =
    let zero : c.args.place - c.loop-number.number ≡ 0 = omega (arith, c.loop-number-test.false) in
    let fits : (c.args.place - c.loop-number.number) + c.loop-number.number ≡ c.args.place = omega (arith, c.loop-number-test.false, c.loop-number.auto.number-end) in
    wrote_same _ (last_done (doc_line c.args.indent.now) (lines_of c.args.text.now) c.args.place c.args.count c.loop-number.number (c.args.place - c.loop-number.number) fits c.requires (inl zero)) c.loop-number.invariant.written
