use Rattle.std.proofs.Common.{List, rules, subst, sym}
use Rattle.lang_syntax.specs.ClientGrammar.{DerivesClients}
use Rattle.lang_tokens.specs.declared.token.Token.{Token}
use Rattle.lang_tokens.specs.Spelling.{Spells}
use Rattle.samples.proofs.reading.scripts_read.Goals as goal

pub clients-requires : goal.clients-requires
clients-requires c =
    let derived : DerivesClients c.args.text.now c.deref.result.now c.in_ok-tree.tree = search rules in
    record {
      named =
          c.names_are_identifiers.ensures.clients c.args.text.now c.deref.result.now c.in_ok-tree.tree
          (subst (λ (read : List Token). Spells c.args.text.now read) (sym c.deref.ensures.value) c.in_ok-read.ensures.spelled) derived;
    }
