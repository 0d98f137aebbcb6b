use Rattle.pool_rule.specs.Plays.{told_by}
use Rattle.pool_rule.proofs.words.Words.clear.Given as goal

abbrev pub ghosts-swap : goal.ghosts-swap
ghosts-swap g a = record { told = told_by g.W.World.files a.self.now.table.shared.key.geometry a.seat.now.id a._aim }
