use Rattle.cache_lookup.proofs.Keeping.{let_go}
use Rattle.cache_lookup.proofs.laws.holds_are_let_go.Goals as goal

pub returns : goal.returns
returns c = let_go
