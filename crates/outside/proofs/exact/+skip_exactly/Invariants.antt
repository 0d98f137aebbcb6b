use Rattle.outside.proofs.exact.+skip_exactly.Given as goal

abbrev pub decreases-skip_exactly : goal.decreases-skip_exactly
decreases-skip_exactly g l = l.count
