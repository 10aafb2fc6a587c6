-- What a text comes to, and one that was written to a sink that was silent before.
use Rattle.std.proofs.Common.{◌≡◌, ℕ, ◌<◌, ◌≤◌, List, Result, Ok, Err, subst, ◌∙◌, inl, inr, refl, arith}
use Rattle.std.specs.Prelude.{OnOk}
use Rattle.std.specs.Io.KnownBytes.{Keeps}
use Rattle.base_io.specs.declared.sink.SinkFailed.{SinkFailed}
use Rattle.base_io.specs.Outside.{FilesSeen, SinkSeen, Rises}
use Rattle.base_io.specs.Writing.{Wrote}
use Rattle.base_io.proofs.WrittenBytes.{appends_kept}
use Rattle.expresso_answers.specs.declared.status.Status.{Status}
use Rattle.expresso_answers.specs.declared.status.Status.TheVariants.{WriteFault}
use Rattle.expresso_answers.specs.Ending.{IsQuiet, IsWritten}

-- the sink took all of it and handed it on
pub text_handed_on : (status : Status) (text : List ℕ) (before mid now : SinkSeen) (outcome : Result (Unit {0}) SinkFailed) (done : Unit {0}) → outcome ≡ Ok done → Wrote before mid outcome text
    → Keeps mid.written now.written → now.buffered ≡ 0 → now.faults ≡ mid.faults → IsWritten status text status before now
text_handed_on status text before mid now outcome done is wrote keeps emptied steady =
    let whole : Wrote before mid (Ok done) text = subst (λ (o : Result (Unit {0}) SinkFailed). Wrote before mid o text) is wrote in
    inl (refl, record { written = appends_kept before.written mid.written now.written text whole.written keeps; emptied = emptied; steady = steady ∙ whole.steady })

-- it took all of it and didn't hand it on
pub flush_failed : (status : Status) (text : List ℕ) (before mid now : SinkSeen) (outcome : Result (Unit {0}) SinkFailed) (done : Unit {0}) → outcome ≡ Ok done → Wrote before mid outcome text
    → Keeps mid.written now.written → 0 < now.buffered → Rises mid.faults now.faults → mid.faults ≤ now.faults → IsWritten status text WriteFault before now
flush_failed status text before mid now outcome done is wrote keeps left cause later =
    let whole : Wrote before mid (Ok done) text = subst (λ (o : Result (Unit {0}) SinkFailed). Wrote before mid o text) is wrote in
    inr (
      refl,
      record {
        unfinished = inr (appends_kept before.written mid.written now.written text whole.written keeps, left);
        cause = subst (λ (n : ℕ). Rises n now.faults) whole.steady cause;
        later = omega (arith, whole.steady, later);
      },
    )

-- it didn't take all of it
pub write_failed : (status : Status) (text : List ℕ) (before now : SinkSeen) (outcome : Result (Unit {0}) SinkFailed) (fault : SinkFailed) → outcome ≡ Err fault → Wrote before now outcome text
    → IsWritten status text WriteFault before now
write_failed status text before now outcome fault is wrote =
    let part : Wrote before now (Err fault) text = subst (λ (o : Result (Unit {0}) SinkFailed). Wrote before now o text) is wrote in
    inr (refl, record { unfinished = inl part.front; cause = part.cause; later = part.later })

-- nothing was written between the first view of the sink and the second
pub written_since : (status : Status) (text : List ℕ) (result : Status) (out mid out_now : SinkSeen) → mid ≡ out → IsWritten status text result mid out_now → IsWritten status text result out out_now
written_since status text result out mid out_now silent written = subst (λ (s : SinkSeen). IsWritten status text result s out_now) silent written

-- nothing was written in one step more
pub still_quiet : {A E : Type 0} (result : Result A E) (files files_now : FilesSeen) (out mid out_now : SinkSeen) → IsQuiet files files_now out mid → OnOk result (out_now ≡ mid)
    → OnOk result (IsQuiet files files_now out out_now)
still_quiet (Ok x) files files_now out mid out_now quiet silent = record { steady = quiet.steady; silent = silent ∙ quiet.silent }
still_quiet (Err e) files files_now out mid out_now quiet silent = tt
