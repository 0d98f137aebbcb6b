use Rattle.pool_rule.specs.Plays.{told_by}
use Rattle.pool_rule.proofs.words.Words.give_block.Given as goal

abbrev pub ghosts-and : goal.ghosts-and
ghosts-and g a = record { told = told_by g.W.World.files a.self.now.table.shared.key.geometry a.seat.now.id a._aim }
