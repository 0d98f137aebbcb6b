use Rattle.buddy_arena.proofs.WordLemmas.{bit_at-joined}
use Rattle.buddy_arena.proofs.laws.joined_bits.Goals as goal

pub returns : goal.returns
returns c = bit_at-joined
