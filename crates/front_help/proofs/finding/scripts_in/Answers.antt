use Rattle.std.proofs.Common.{List, subst, sym}
use Rattle.lang_tokens.specs.declared.token.Token.{Token}
use Rattle.lang_tokens.specs.Spelling.{Spells}
use Rattle.front_help.proofs.finding.scripts_in.Goals as goal

pub clients-requires : goal.clients-requires
clients-requires c = record {
  named =
      c.names_are_identifiers.ensures.clients c.args.bytes.now c.deref.result.now c.in_ok-tree.tree
      (subst (λ (t : List Token). Spells c.args.bytes.now t) (sym c.deref.ensures.value) c.in_ok-tokens.ensures.spelled) c.in_ok-tree.ensures.derived;
}
