use Rattle.pool_rule.specs.Plays.{told_by}
use Rattle.pool_rule.proofs.words.Words.release.Given as goal

abbrev pub ghosts-add : goal.ghosts-add
ghosts-add g a = record { told = told_by g.W.World.files a.self.now.table.shared.key.geometry a.seat.now.id a._aim }
