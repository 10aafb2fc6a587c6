use Rattle.std.proofs.Common.{◌≡◌, ℕ, ◌++◌, ◌∙◌, List, [], codes, decimal, refl, ap, append_assoc, append-nil}
use Rattle.base_io.proofs.Writing.{wrote_both, wrote_fails, wrote_longer, wrote_same}
use Rattle.report_text.specs.FaultText.{column_at, line_at, place_text, refusal_text}
use Rattle.lang_base.specs.declared.source_fault.SourceFault.{SourceFault}
use Rattle.report_text.proofs.fault.write_place.Goals as goal

regrouped : (a name b line column c what d : List ℕ)
    → a ++ (name ++ (b ++ (line ++ []))) ++ (b ++ (column ++ (c ++ (what ++ (d ++ [])))))
    ≡ a ++ name ++ b ++ line ++ b ++ column ++ c ++ what ++ d
regrouped a name b line column c what d = simp (append_assoc, append-nil)

-- what is written up to the line, and what is written after it
abbrev begun : List ℕ → List ℕ → List ℕ
begun name line = codes "refused: " ++ (name ++ (codes ":" ++ (line ++ [])))

abbrev ended : List ℕ → List ℕ → List ℕ
ended column what = codes ":" ++ (column ++ (codes ": " ++ (what ++ (codes "\n" ++ []))))

abbrev place_line : List ℕ → List ℕ → List ℕ → List ℕ → List ℕ
place_line name line column what = codes "refused: " ++ name ++ codes ":" ++ line ++ codes ":" ++ column ++ codes ": " ++ what ++ codes "\n"

parts : (name line column what : List ℕ)
    → begun name line ++ ended column what ≡ place_line name line column what
parts name line column what = regrouped (codes "refused: ") name (codes ":") line column (codes ": ") what (codes "\n")

place_text-parts : (file bytes : List ℕ) (fault : SourceFault) (name line column what : List ℕ)
    → name ≡ file → line ≡ decimal (line_at bytes fault.at)
    → column ≡ decimal (column_at bytes fault.at) → what ≡ refusal_text fault.what
    → begun name line ++ ended column what ≡ place_text file bytes fault
place_text-parts file bytes fault name line column what is_file is_line is_column is_what =
    parts name line column what
    ∙ ap (λ it. place_line it line column what) is_file
    ∙ ap (λ it. place_line file it column what) is_line
    ∙ ap (λ it. place_line file (decimal (line_at bytes fault.at)) it what) is_column
    ∙ ap (λ it. place_line file (decimal (line_at bytes fault.at)) (decimal (column_at bytes fault.at)) it) is_what

pub returns-in_err-write_pieces : goal.returns-in_err-write_pieces
returns-in_err-write_pieces g c =
    let line = c.as_bytes-line.ensures.value ∙ c.format.ensures.text ∙ ap decimal c.line_at.ensures in
    let text = place_text-parts c.args.file.now c.args.bytes.now c.args.fault _ _ _ _ c.as_bytes.ensures.value line refl refl in
    wrote_same _ text (wrote_fails _ c.from_residual.ensures.0 (wrote_longer (ended (decimal (column_at c.args.bytes.now c.args.fault.at)) (refusal_text c.args.fault.what)) c.in_err-write_pieces.ensures))

pub returns : goal.returns
returns g c =
    let line = c.as_bytes-line.ensures.value ∙ c.format.ensures.text ∙ ap decimal c.line_at.ensures in
    let column = c.as_bytes-column.ensures.value ∙ c.format-2.ensures.text ∙ ap decimal c.column_at.ensures in
    let text = place_text-parts c.args.file.now c.args.bytes.now c.args.fault _ _ _ _ c.as_bytes.ensures.value line column c.refusal_bytes.ensures in
    wrote_same _ text (wrote_both c.in_ok-write_pieces.ensures c.write_pieces-2.ensures)
