use Rattle.std.proofs.Common.{◌∙◌, ◌==◌, ◌+◌, ◌≤◌, Bool, ℕ, ap, cond, sym, subst, length, take, rules, tests, arith}
use Rattle.std.specs.List.{suffix_len}
use Rattle.std.proofs.lemmas.Iterator.Splits.{YieldsList-from_slice_split}
use Rattle.std.proofs.lemmas.Iterator.Consumers.{YieldsList-turn, YieldsList-end}
use Rattle.std.proofs.lemmas.List.{length_push, take_all}
use Rattle.emit_comments.specs.Comments.{is_comment, is_empty_comment, last_comments, lines_of, said_count}
use Rattle.emit_comments.proofs.Runs.{run_more, run_within}
use Rattle.emit_comments.proofs.comments.comment_count.Goals as goal

pub loop-line-preserved : goal.loop-line-preserved
loop-line-preserved c =
    let turn = YieldsList-turn (YieldsList-from_slice_split _ (λ b. b == 10) c.args.text.now (cc) (cc) (cc) (λ x b q k. search (rules, tests))) c.loop-line.yielded _ c.loop-line.yielded_by _ _ c.in-Some.line c.in-Some.is c.next.ensures.steps in
    let further = length_push c.loop-line.yielded c.in-Some.line in
    let run = c.longer_run-run.ensures ∙ ap (λ (b : Bool). cond b (1 + c.loop-line.run) 0) c.is_comment.ensures in
    let empty = c.longer_run-empty.ensures ∙ ap (λ (b : Bool). cond b (1 + c.loop-line.empty) 0) c.is_empty_comment.ensures in
    record {
      passed = omega (arith, further, c.loop-line.invariant.passed);
      few = subst (λ (n : ℕ). c.longer_run-run.result ≤ n) (sym further) (run_within (is_comment c.in-Some.line.now) c.loop-line.run c.longer_run-run.result (length c.loop-line.yielded) run c.loop-line.invariant.few);
      few_empty = subst (λ (n : ℕ). c.longer_run-empty.result ≤ n) (sym further) (run_within (is_empty_comment c.in-Some.line.now) c.loop-line.empty c.longer_run-empty.result (length c.loop-line.yielded) empty c.loop-line.invariant.few_empty);
      is = run_more is_comment (lines_of c.args.text.now) (length c.loop-line.yielded) c.loop-line.run c.longer_run-run.result c.in-Some.line.now turn.0 turn.1 c.loop-line.invariant.is run ∙ ap (λ n. suffix_len is_comment (take n (lines_of c.args.text.now))) (sym further);
      empty_is = run_more is_empty_comment (lines_of c.args.text.now) (length c.loop-line.yielded) c.loop-line.empty c.longer_run-empty.result c.in-Some.line.now turn.0 turn.1 c.loop-line.invariant.empty_is empty ∙ ap (λ n. suffix_len is_empty_comment (take n (lines_of c.args.text.now))) (sym further);
    }

pub returns-clause-is : goal.returns-clause-is
returns-clause-is c =
    let end = YieldsList-end (YieldsList-from_slice_split _ (λ b. b == 10) c.args.text.now (cc) (cc) (cc) (λ x b q k. search (rules, tests))) c.loop-line.yielded _ c.loop-line.yielded_by _ _ c.in-None.is c.next.ensures.steps in
    let whole = take_all (length c.loop-line.yielded) (lines_of c.args.text.now) (omega (arith, end.1)) in
    let all = take_all c.args.place (lines_of c.args.text.now) (omega (arith, end.1, c.loop-line.invariant.passed)) in
    c.said_count-2.ensures.is ∙ ap (λ n. said_count n c.loop-line.empty) c.loop-line.invariant.is
    ∙ ap (λ n. said_count (suffix_len is_comment (take (length c.loop-line.yielded) (lines_of c.args.text.now))) n) c.loop-line.invariant.empty_is
    ∙ ap last_comments (whole ∙ sym all)
