-- Reading a varint group by group, as a loop does.
use Rattle.std.proofs.Common.{◌≡◌, ℕ, suc, ◌+◌, ◌-◌, ◌*◌, ◌%◌, ◌^◌, ◌<◌, ◌≤◌, List, [], ◌∷◌, length, Result, Ok, Err, refl, sym, ap, ◌∙◌, arith}
use Rattle.std.specs.Prelude.{bit_and}
use Rattle.std.proofs.lemmas.Bool.{lt-ltb, le-ltb}
use Rattle.std.proofs.lemmas.Nat.{and_mask, pow-add}
use Rattle.std.proofs.Math.Nat.{add-mod-mod, mod-add-mod}
use Rattle.orc_proto.specs.declared.fault.WireFault.{WireFault}
use Rattle.orc_proto.specs.declared.fault.WireFault.TheVariants.{Truncated, LongVarint}
use Rattle.orc_proto.specs.Reading.{◌>>=◌, groups_at, varint_at}

-- what the groups that are still to come add to a number
abbrev pub above : ℕ → ℕ → Result (ℕ × List ℕ) WireFault → Result (ℕ × List ℕ) WireFault
above scale value high = high >>= λ x. Ok ((value + scale * x.0) % 2 ^ 64, x.1)

-- `group` groups of `bytes` made `value`, and `rest` follows them
abbrev pub IsSoFar : ℕ → List ℕ → ℕ → List ℕ → ℕ → Type 0
IsSoFar offset bytes value rest group = above (2 ^ (7 * group)) value (groups_at (10 - group) offset rest) ≡ varint_at offset bytes

-- the value with one group more, as the program makes it
abbrev pub with_group : ℕ → ℕ → ℕ → ℕ
with_group value b group = (value + bit_and b 127 * 2 ^ (7 * group) % 2 ^ 64) % 2 ^ 64

above-one : (high : Result (ℕ × List ℕ) WireFault) → above 1 0 high ≡ (high >>= λ x. Ok (x.0 % 2 ^ 64, x.1))
above-one (Ok x) =
    let e : 0 + 1 * x.0 ≡ x.0 = omega arith in
    ap (λ (n : ℕ). Ok (n % 2 ^ 64, x.1)) e
above-one (Err f) = refl

pub begins : (offset : ℕ) (bytes : List ℕ) → IsSoFar offset bytes 0 bytes 0
unfolding varint_at
begins offset bytes = above-one (groups_at 10 offset bytes)

pub runs_out : (offset : ℕ) (bytes : List ℕ) (value : ℕ) (rest : List ℕ) (group : ℕ) → group < 10 → length rest ≡ 0 → IsSoFar offset bytes value rest group → varint_at offset bytes ≡ Err (Truncated offset)
unfolding groups_at
runs_out offset bytes value [] group lt none so_far =
    let k : 10 - group ≡ suc (10 - (group + 1)) = omega arith in
    let one : above (2 ^ (7 * group)) value (groups_at (10 - group) offset []) ≡ Err (Truncated offset) = rw k refl in
    sym so_far ∙ one
runs_out offset bytes value (b ∷ rest) group lt none so_far = absurd (omega arith)

pub is_long : (offset : ℕ) (bytes : List ℕ) (value : ℕ) (rest : List ℕ) (group : ℕ) → 10 ≤ group → IsSoFar offset bytes value rest group → varint_at offset bytes ≡ Err (LongVarint offset)
unfolding groups_at
is_long offset bytes value rest group le so_far =
    let k : 10 - group ≡ 0 = omega arith in
    let one : above (2 ^ (7 * group)) value (groups_at (10 - group) offset rest) ≡ Err (LongVarint offset) = rw k refl in
    sym so_far ∙ one

-- a group is seven bits
with_group-is : (value b group : ℕ) → with_group value b group ≡ (value + b % 128 * 2 ^ (7 * group)) % 2 ^ 64
with_group-is value b group = rw (and_mask b 7) (add-mod-mod value (b % 128 * 2 ^ (7 * group)) (2 ^ 64))

pub ends : (offset : ℕ) (bytes : List ℕ) (value b : ℕ) (rest : List ℕ) (group : ℕ) → group < 10 → b < 128 → IsSoFar offset bytes value (b ∷ rest) group → varint_at offset bytes ≡ Ok (with_group value b group, rest)
unfolding groups_at
ends offset bytes value b rest group lt small so_far =
    let k : 10 - group ≡ suc (10 - (group + 1)) = omega arith in
    let low : b % 128 ≡ b = omega arith in
    let swap : 2 ^ (7 * group) * b ≡ b * 2 ^ (7 * group) = omega arith in
    let v : (value + 2 ^ (7 * group) * b) % 2 ^ 64 ≡ with_group value b group = rw (with_group-is value b group, low, swap) refl in
    let one : above (2 ^ (7 * group)) value (groups_at (10 - group) offset (b ∷ rest)) ≡ Ok ((value + 2 ^ (7 * group) * b) % 2 ^ 64, rest) = rw (k, lt-ltb b 128 small) refl in
    sym so_far ∙ one ∙ ap (λ (n : ℕ). Ok (n, rest)) v

above-then : (scale more value b next : ℕ) (high : Result (ℕ × List ℕ) WireFault) → more ≡ scale * 128 → next ≡ (value + b * scale) % 2 ^ 64
    → above scale value (high >>= λ x. Ok (b + 128 * x.0, x.1)) ≡ above more next high
above-then scale more value b next (Ok x) m n =
    let one : (next + more * x.0) % 2 ^ 64 ≡ (value + b * scale + more * x.0) % 2 ^ 64 = rw n (mod-add-mod (value + b * scale) (2 ^ 64) (more * x.0)) in
    let two : value + scale * (b + 128 * x.0) ≡ value + b * scale + more * x.0 = rw m (omega arith) in
    ap (λ (w : ℕ). Ok (w, x.1)) (ap (λ (w : ℕ). w % 2 ^ 64) two ∙ sym one)
above-then scale more value b next (Err f) m n = refl

pub goes_on : (offset : ℕ) (bytes : List ℕ) (value b : ℕ) (rest : List ℕ) (group : ℕ) → group < 10 → 128 ≤ b → IsSoFar offset bytes value (b ∷ rest) group → IsSoFar offset bytes (with_group value b group) rest (group + 1)
unfolding groups_at
goes_on offset bytes value b rest group lt large so_far =
    let k : 10 - group ≡ suc (10 - (group + 1)) = omega arith in
    let q : 7 * (group + 1) ≡ 7 * group + 7 = omega arith in
    let p : 2 ^ (7 * (group + 1)) ≡ 2 ^ (7 * group) * 128 = rw q (pow-add 2 (7 * group) 7) in
    let one : above (2 ^ (7 * group)) value (groups_at (10 - group) offset (b ∷ rest)) ≡ above (2 ^ (7 * (group + 1))) (with_group value b group) (groups_at (10 - (group + 1)) offset rest) =
    rw (k, le-ltb b 128 large) (above-then (2 ^ (7 * group)) (2 ^ (7 * (group + 1))) value (b % 128) (with_group value b group) (groups_at (10 - (group + 1)) offset rest) p (with_group-is value b group)) in
    sym one ∙ so_far
