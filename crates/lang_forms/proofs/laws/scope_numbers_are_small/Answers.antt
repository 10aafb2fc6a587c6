use Rattle.lang_forms.proofs.SmallScopes.{scopes_are_small}
use Rattle.lang_forms.proofs.laws.scope_numbers_are_small.Goals as goal

pub returns : goal.returns
returns c = scopes_are_small
