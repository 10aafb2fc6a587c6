use Rattle.std.proofs.Common.{◌∙◌, ◌≡◌, ap, List, Bool, ℕ}
use Rattle.std.specs.List.{list_any}
use Rattle.lang_tree.specs.declared.tree.Decl.{Decl}
use Rattle.emit_expressions.specs.Scopes.{is_constant}
use Rattle.base_io.proofs.Writing.{wrote_both, wrote_fails, wrote_longer, wrote_same}
use Rattle.emit_choices.specs.Starts.{source_by}
use Rattle.emit_choices.proofs.starts.write_copied.Goals as goal

found_says : (name bytes : List ℕ) (declared all : List Decl) (found : Bool) → found ≡ list_any (is_constant bytes) declared → bytes ≡ name → declared ≡ all → found ≡ list_any (is_constant name) all
found_says name bytes declared all found is named has = is ∙ ap (λ (l : List ℕ). list_any (is_constant l) declared) named ∙ ap (list_any (is_constant name)) has

pub returns-in_err-write_piece : goal.returns-in_err-write_piece
returns-in_err-write_piece g c =
    wrote_fails _ c.from_residual.ensures.0
    (wrote_longer (source_by c.args.tree.now c.args.name.now (list_any (is_constant c.args.name.now) c.args.tree.now.decls)) c.in_err-write_piece.ensures)

pub returns : goal.returns
returns g c =
    wrote_both c.in_ok-write_piece.ensures
    (wrote_same _ (ap (source_by c.args.tree.now c.args.name.now) (found_says _ _ _ _ _ c.any_is_constant-constant.ensures c.bytes.ensures c.items.ensures)) c.write_source.ensures)
