use Rattle.lang_forms.proofs.ScopeOrder.{scopes_are_ordered}
use Rattle.lang_forms.proofs.laws.scope_is_ordered.Goals as goal

pub returns : goal.returns
returns c = scopes_are_ordered
