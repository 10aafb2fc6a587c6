use Rattle.threads_queue.proofs.queue.begin_with.Given as goal

abbrev pub ghosts-begin : goal.ghosts-begin
ghosts-begin a = record { clients = a.clients; passes = a.passes }
