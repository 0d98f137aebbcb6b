use Rattle.pool_rule.specs.Plays.{told_by}
use Rattle.pool_rule.proofs.words.Words.raise.Given as goal

abbrev pub ghosts-raise_to : goal.ghosts-raise_to
ghosts-raise_to g a = record { told = told_by g.W.World.files a.self.now.table.shared.key.geometry a.seat.now.id a._aim }
