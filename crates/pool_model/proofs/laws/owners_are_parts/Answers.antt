use Rattle.pool_model.proofs.laws.owners_are_parts.Goals as goal
use Rattle.pool_model.proofs.PartsAreOwners.{owners_count_parts}

pub returns : goal.returns
returns c = owners_count_parts
