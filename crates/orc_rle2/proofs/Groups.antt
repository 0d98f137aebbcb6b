-- Bits of groups of eight numbers, which are whole bytes.
use Rattle.std.proofs.Common.{◌≡◌, ◌∙◌, ℕ, ◌+◌, ◌-◌, ◌*◌, ◌/◌, ◌%◌, ◌^◌, ◌≤◌, ◌<◌, List, take, drop, length, length-drop, ap, arith}
use Rattle.std.proofs.lemmas.List.{length-take-le}
use Rattle.std.proofs.Math.Nat.{mul-le-mul_left}
use Rattle.orc_rle2.specs.Packed.{number_of, bits_to, packed_len}
use Rattle.orc_rle2.proofs.Numbers.{Bytes, bits_within}

-- a number of a group, in the bytes of the group and eight behind them
pub bits_in_group : (bytes : List ℕ) (width group place : ℕ) → Bytes bytes → width * group + (width + 8) ≤ length bytes → place < 8 →
    bits_to (take (width + 8) (drop (width * group) bytes)) width (width * (place + 1)) ≡ bits_to bytes width (width * (8 * group + place + 1))
bits_in_group bytes width group place are within few =
    let first = width * group in
    let count = width + 8 in
    let part = take count (drop first bytes) in
    let part_len : length part ≡ count = length-take-le count (drop first bytes) (omega (arith, length-drop first bytes, within)) in
    let r = 8 * count - width * (place + 1) in
    let below : width * (place + 1) ≤ width * 8 = mul-le-mul_left width (omega (arith, few)) in
    let more : width * (place + 1) ≡ width * place + width = omega arith in
    let bits : 8 * count ≡ width * place + width + r = omega (arith, below, more) in
    let to : width * (8 * group + place + 1) ≡ 8 * first + width * (place + 1) = grind arith in
    let exponent : 8 * (length bytes - (first + count)) + r ≡ 8 * length bytes - width * (8 * group + place + 1) = omega (arith, to, below, within) in
    ap (λ (n : ℕ). number_of part / 2 ^ (8 * n - width * (place + 1)) % 2 ^ width) part_len
    ∙ bits_within bytes first count (width * place) width r are within bits
    ∙ ap (λ (n : ℕ). number_of bytes / 2 ^ n % 2 ^ width) exponent

-- the bytes of a group, and eight behind them, are there
pub group_room : (width group count len : ℕ) → group < count / 8 → packed_len width count + 8 ≤ len → width * group + (width + 8) ≤ len
group_room width group count len under room =
    let more : width * (8 * (group + 1)) ≤ width * count = mul-le-mul_left width (omega (arith, under)) in
    let is : width * (8 * (group + 1)) ≡ 8 * (width * group + width) = grind arith in
    omega (arith, more, is, room)
