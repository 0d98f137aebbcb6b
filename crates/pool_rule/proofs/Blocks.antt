-- A block's minimum blocks, and its bits in the word of its arena.
use Rattle.std.proofs.Common.{◌≡◌, ℕ, ◌+◌, ◌-◌, ◌/◌, ◌%◌, ◌^◌, ◌<◌, ◌≤◌, min, List, length, get_or, set, sym, ap, ◌∙◌, subst, inl, inr, arith, cond, leb, ltb, ◌&&◌, div-add-mod', bit_and, bit_or}
use Rattle.std.specs.Int.{w64, bit_at, bit_not}
use Rattle.std.proofs.lemmas.Bool.{cases_eq, cases_lt, lt-leb, le-leb, lt-ltb, le-ltb}
use Rattle.std.proofs.lemmas.List.{get_or-set_same, get_or-set_other}
use Rattle.std.proofs.lemmas.Nat.{pow_pos}
use Rattle.buddy_arena.specs.Block.{around, IsClear, IsMask}
use Rattle.buddy_arena.specs.Block as arena
use Rattle.buddy_arena.specs.Laws.{CoversInArena, SettingTakes, ClearingGives}
use Rattle.pool_model.specs.declared.block.Block.{Block}
use Rattle.pool_model.specs.Block.{Within, IsBlock, covers}

covers_test : (low high m : ℕ) → cond (leb low m && ltb m high) 1 0 ≡ min (min 1 (m + 1 - low)) (high - m)
covers_test low high m =
    elim (cases_lt m low) [
      | inl under ↦ rw (lt-leb low m under) (omega arith)
      | inr from ↦
          elim (cases_lt m high) [
            | inl within ↦ rw (le-leb low m from, lt-ltb m high within) (omega arith)
            | inr past ↦ rw (le-leb low m from, le-ltb m high past) (omega arith)
          ]
    ]

-- the two words for 'the block has it' are one
pub same_covers : (b : Block) (m : ℕ) → covers b m ≡ arena.covers b.place b.order m
unfolding covers
same_covers b m = covers_test b.place (b.place + 2 ^ b.order) m

has_one : (low high m : ℕ) → low ≤ m → m < high → min (min 1 (m + 1 - low)) (high - m) ≡ 1
has_one low high m h k = omega arith

one_has : (low high m : ℕ) → 0 < min (min 1 (m + 1 - low)) (high - m) → (low ≤ m) × (m < high)
one_has low high m h = (omega arith, omega arith)

at_most_one : (low high m : ℕ) → min (min 1 (m + 1 - low)) (high - m) ≤ 1
at_most_one low high m = omega arith

pub covers_within : (b : Block) (m : ℕ) → Within b m → covers b m ≡ 1
covers_within b m w = same_covers b m ∙ has_one b.place (b.place + 2 ^ b.order) m w.0 w.1

-- a block begins at a multiple of its size
pub begins : (place order : ℕ) → place % 2 ^ order ≡ 0 → around place order ≡ place
begins place order e = let d = div-add-mod' place (2 ^ order) in omega (arith, d, e)

pub place_below : (places : ℕ) (b : Block) → b.place + 2 ^ b.order ≤ places → b.place < places
place_below places b h = omega (arith, h, pow_pos b.order)

-- a minimum block of the block lies in the block's arena, and there in the block
pub in_arena : CoversInArena → (places : ℕ) (b : Block) → IsBlock 6 places b → (m : ℕ) → Within b m → (m / 64 ≡ b.place / 64) × (b.place % 64 ≤ m % 64) × (m % 64 < b.place % 64 + 2 ^ b.order)
in_arena law places b is m w =
    let law_at = law b.place b.order m is.order_fits (begins b.place b.order is.aligned) in
    let one : arena.covers b.place b.order m ≡ 1 = has_one b.place (b.place + 2 ^ b.order) m w.0 w.1 in
    elim (cases_eq (m / 64) (b.place / 64)) [
      | inl same ↦
          let there : arena.covers (b.place % 64) b.order (m % 64) ≡ 1 = sym (law_at.0 same) ∙ one in
          let positive : 0 < arena.covers (b.place % 64) b.order (m % 64) = subst (λ (k : ℕ). 0 < k) (sym there) (omega arith) in
          let bounds = one_has (b.place % 64) (b.place % 64 + 2 ^ b.order) (m % 64) positive in
          (same, bounds.0, bounds.1)
      | inr other ↦ let zero_is : arena.covers b.place b.order m ≡ 0 = law_at.1 other in absurd (let e : 0 ≡ 1 = sym zero_is ∙ one in omega (arith, e))
    ]

-- the arenas' bits after the block's were set in its arena's word
pub bits_set : CoversInArena → SettingTakes → (places : ℕ) (b : Block) → IsBlock 6 places b → (words : List ℕ) (mask : ℕ) → b.place / 64 < length words → IsMask mask (b.place % 64) b.order → IsClear (get_or words (b.place / 64) 0) (b.place % 64) b.order → (m : ℕ) → bit_at (get_or (set words (b.place / 64) (bit_or (get_or words (b.place / 64) 0) mask)) (m / 64) 0) (m % 64) ≡ bit_at (get_or words (m / 64) 0) (m % 64) + covers b m
bits_set law sets places b is words mask inside is_mask clear m =
    let law_at = law b.place b.order m is.order_fits (begins b.place b.order is.aligned) in
    let i : ℕ = b.place / 64 in
    let old : ℕ = get_or words i 0 in
    elim (cases_eq (m / 64) i) [
      | inl same ↦
          let word : get_or (set words i (bit_or old mask)) (m / 64) 0 ≡ bit_or old mask = ap (λ k. get_or (set words i (bit_or old mask)) k 0) same ∙ get_or-set_same words i (bit_or old mask) 0 inside in
          let before : get_or words (m / 64) 0 ≡ old = ap (λ k. get_or words k 0) same in
          let bit = sets old mask (b.place % 64) b.order is_mask clear (m % 64) in
          let c : arena.covers (b.place % 64) b.order (m % 64) ≡ covers b m = sym (law_at.0 same) ∙ sym (same_covers b m) in
          ap (λ w. bit_at w (m % 64)) word ∙ (bit ∙ (ap (λ k. bit_at old (m % 64) + k) c ∙ ap (λ w. bit_at w (m % 64) + covers b m) (sym before)))
      | inr other ↦
          let word : get_or (set words i (bit_or old mask)) (m / 64) 0 ≡ get_or words (m / 64) 0 = get_or-set_other words i (m / 64) (bit_or old mask) 0 other in
          let none : covers b m ≡ 0 = same_covers b m ∙ law_at.1 other in
          let same : bit_at (get_or (set words i (bit_or old mask)) (m / 64) 0) (m % 64) ≡ bit_at (get_or words (m / 64) 0) (m % 64) = ap (λ w. bit_at w (m % 64)) word in
          omega (arith, same, none)
    ]

-- and after they were cleared
pub bits_cleared : CoversInArena → ClearingGives → (places : ℕ) (b : Block) → IsBlock 6 places b → (words : List ℕ) (mask : ℕ) → b.place / 64 < length words → get_or words (b.place / 64) 0 < 2 ^ 64 → mask < 2 ^ 64 → IsMask mask (b.place % 64) b.order → (m : ℕ) → bit_at (get_or (set words (b.place / 64) (bit_and (get_or words (b.place / 64) 0) (bit_not w64 mask))) (m / 64) 0) (m % 64) ≡ bit_at (get_or words (m / 64) 0) (m % 64) - covers b m
bits_cleared law gives places b is words mask inside fits mask_fits is_mask m =
    let law_at = law b.place b.order m is.order_fits (begins b.place b.order is.aligned) in
    let i : ℕ = b.place / 64 in
    let old : ℕ = get_or words i 0 in
    let new : ℕ = bit_and old (bit_not w64 mask) in
    elim (cases_eq (m / 64) i) [
      | inl same ↦
          let word : get_or (set words i new) (m / 64) 0 ≡ new = ap (λ k. get_or (set words i new) k 0) same ∙ get_or-set_same words i new 0 inside in
          let before : get_or words (m / 64) 0 ≡ old = ap (λ k. get_or words k 0) same in
          let bit = gives old mask (b.place % 64) b.order fits mask_fits is_mask (m % 64) in
          let c : arena.covers (b.place % 64) b.order (m % 64) ≡ covers b m = sym (law_at.0 same) ∙ sym (same_covers b m) in
          ap (λ w. bit_at w (m % 64)) word ∙ (bit ∙ (ap (λ k. bit_at old (m % 64) - k) c ∙ ap (λ w. bit_at w (m % 64) - covers b m) (sym before)))
      | inr other ↦
          let word : get_or (set words i new) (m / 64) 0 ≡ get_or words (m / 64) 0 = get_or-set_other words i (m / 64) new 0 other in
          let none : covers b m ≡ 0 = same_covers b m ∙ law_at.1 other in
          let same : bit_at (get_or (set words i new) (m / 64) 0) (m % 64) ≡ bit_at (get_or words (m / 64) 0) (m % 64) = ap (λ w. bit_at w (m % 64)) word in
          omega (arith, same, none)
    ]
