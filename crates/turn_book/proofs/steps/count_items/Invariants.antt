use Rattle.turn_book.proofs.steps.count_items.Given as goal

abbrev pub ghosts-write_count : goal.ghosts-write_count
ghosts-write_count g a = record { next = g.T.History.items a.value.now }
