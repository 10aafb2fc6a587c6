use Rattle.lang_tokens.specs.Words.{words}
use Rattle.lang_syntax.specs.inner.Reading.{monitor_file, client_file}
use Rattle.lang_syntax.proofs.MonitorReads.{monitor_file_again}
use Rattle.lang_syntax.proofs.ClientReads.{client_file_again}
use Rattle.lang_syntax.proofs.Outcomes.{ok_parses}
use Rattle.lang_syntax.proofs.laws.derives_one_tree.Goals as goal

pub returns-clause-monitors : goal.returns-clause-monitors
returns-clause-monitors c = λ bytes tokens a b is_a is_b.
    ok_parses (monitor_file (words bytes tokens)) a b (monitor_file_again (words bytes tokens) a is_a) (monitor_file_again (words bytes tokens) b is_b)

pub returns-clause-clients : goal.returns-clause-clients
returns-clause-clients c = λ bytes tokens a b is_a is_b.
    ok_parses (client_file (words bytes tokens)) a b (client_file_again (words bytes tokens) a is_a) (client_file_again (words bytes tokens) b is_b)
