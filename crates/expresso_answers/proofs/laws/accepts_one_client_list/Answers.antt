use Rattle.expresso_answers.proofs.OneClientList.{one_client_list}
use Rattle.expresso_answers.proofs.laws.accepts_one_client_list.Goals as goal

pub returns : goal.returns
returns c = one_client_list c.one_spelling.ensures.one c.derives_one_tree.ensures.clients
