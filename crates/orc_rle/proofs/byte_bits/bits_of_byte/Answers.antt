use Rattle.std.proofs.Common.{◌≡◌, ℕ, ◌<◌, Bool, List, [], map, get_or, refl, ap, ◌∙◌, arith}
use Rattle.std.proofs.lemmas.List.FromFn.{get_or-map-range_with_len}
use Rattle.std.specs.List.{range_with_len}
use Rattle.orc_rle.specs.BitRun.{byte_bits}
use Rattle.orc_rle.specs.declared.byte_bits.TheConstants.{BITS}
use Rattle.orc_rle.proofs.byte_bits.bits_of_byte.Goals as goal

-- each byte's row has its bits
table_is : BITS ≡ map byte_bits (range_with_len 0 256)
table_is = refl

row_is : (byte : ℕ) → byte < 256 → get_or BITS byte [] ≡ byte_bits byte
row_is byte h = ap (λ (t : List (List Bool)). get_or t byte []) table_is ∙ get_or-map-range_with_len byte_bits 0 256 byte byte [] h (omega arith)

pub returns : goal.returns
returns c = rw c.from.ensures (row_is c.args.byte (omega arith))
