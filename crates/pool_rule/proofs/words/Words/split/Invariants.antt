use Rattle.pool_rule.proofs.words.Words.split.Given as goal

abbrev pub ghosts-part : goal.ghosts-part
ghosts-part g a = record { count = a.numbers }
