use Rattle.lang_tokens.proofs.Numerals.{tokens_are}
use Rattle.lang_tokens.proofs.laws.each_is_token.Goals as goal

pub returns : goal.returns
returns c = tokens_are
