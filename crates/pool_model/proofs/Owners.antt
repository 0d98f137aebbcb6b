-- How many own a minimum block: `owners` through a change of the pool.
use Rattle.std.proofs.Common.{◌≡◌, ℕ, ◌+◌, ◌^◌, ◌<◌, ◌≤◌, List, length, get_or, set, refl, ap, arith, inl, inr, ◌⊎◌, ◌↔◌, IsTrue, Bool, cond, leb, ltb, ◌&&◌}
use Rattle.std.specs.Prelude.{Option, None, Some}
use Rattle.std.proofs.lemmas.Bool.{cases_lt, lt-leb, le-leb, lt-ltb, le-ltb}
use Rattle.std.proofs.lemmas.Nat.{pow_pos}
use Rattle.std.proofs.lemmas.List.{get_or_past, get_or_read}
use Rattle.pool_model.specs.declared.block.Block.{Block}
use Rattle.pool_model.specs.declared.buffer.Buffer.{Buffer}
use Rattle.pool_model.specs.declared.pool.GrantedBlock.{GrantedBlock}
use Rattle.pool_model.specs.declared.pool.PlainPool.{PlainPool}
use Rattle.pool_model.specs.Block.{Within, covers}
use Rattle.pool_model.specs.Pool.{buffer_at, grant_at, buffer_covers, grant_covers, owners, total}
use Rattle.pool_model.proofs.Totals.{total-set, total-at}

abbrev test_of : ℕ → ℕ → ℕ → ℕ
test_of low m high = cond (leb low m && ltb m high) 1 0

cases_of_test : (low m high : ℕ) → ((test_of low m high ≡ 1) × ((low ≤ m) × (m < high))) ⊎ ((test_of low m high ≡ 0) × ((low ≤ m) × (m < high) → ⊥))
cases_of_test low m high =
    elim (cases_lt m low) [
      | inl below ↦ inr (rw (lt-leb low m below) refl, λ w. omega (arith, w.0))
      | inr from ↦
          elim (cases_lt m high) [
            | inl within ↦ inl (rw (le-leb low m from, lt-ltb m high within) refl, (from, within))
            | inr past ↦ inr (rw (le-leb low m from, le-ltb m high past) refl, λ w. omega (arith, w.1))
          ]
    ]

-- a block has the minimum block, or it doesn't
pub covers_cases : (b : Block) (m : ℕ) → ((covers b m ≡ 1) × Within b m) ⊎ ((covers b m ≡ 0) × (Within b m → ⊥))
unfolding covers
covers_cases b m = cases_of_test b.place m (b.place + 2 ^ b.order)

-- the pool with one header changed
pub owners-set_buffer : (p : PlainPool) (header : ℕ) (o : Option Buffer) (m : ℕ) → header < length p.buffers → owners (record p { buffers = set p.buffers header o }) m + buffer_covers m header (buffer_at p header) ≡ owners p m + buffer_covers m header o
unfolding owners
owners-set_buffer p header o m h = omega (arith, total-set (buffer_covers m) p.buffers header o None h)

-- the pool with one place changed
pub owners-set_grant : (p : PlainPool) (place : ℕ) (g : Option GrantedBlock) (m : ℕ) → place < length p.grants → owners (record p { grants = set p.grants place g }) m + grant_covers m place (grant_at p place) ≡ owners p m + grant_covers m place g
unfolding owners
owners-set_grant p place g m h = omega (arith, total-set (grant_covers m) p.grants place g None h)

-- the pool with one header and one place changed
pub owners-set_both : (p : PlainPool) (header : ℕ) (o : Option Buffer) (place : ℕ) (g : Option GrantedBlock) (m : ℕ) → header < length p.buffers → place < length p.grants → owners (record { buffers = set p.buffers header o; grants = set p.grants place g }) m + (buffer_covers m header (buffer_at p header) + grant_covers m place (grant_at p place)) ≡ owners p m + (buffer_covers m header o + grant_covers m place g)
unfolding owners
owners-set_both p header o place g m h k =
    omega (arith, total-set (buffer_covers m) p.buffers header o None h, total-set (grant_covers m) p.grants place g None k)

-- a header with a buffer is one of the pool's, and so is a place with a grant
pub header_below : (p : PlainPool) (header : ℕ) (b : Buffer) → buffer_at p header ≡ Some b → header < length p.buffers
header_below p header b e =
    elim (cases_lt header (length p.buffers)) [
      | inl within ↦ within
      | inr past ↦ let none : buffer_at p header ≡ None = get_or_past p.buffers header None past in cc
    ]

pub place_below : (p : PlainPool) (place : ℕ) (g : GrantedBlock) → grant_at p place ≡ Some g → place < length p.grants
place_below p place g e =
    elim (cases_lt place (length p.grants)) [
      | inl within ↦ within
      | inr past ↦ let none : grant_at p place ≡ None = get_or_past p.grants place None past in cc
    ]

-- a block of the pool begins at one of its places
pub place_of_block : (places : ℕ) (b : Block) → b.place + 2 ^ b.order ≤ places → b.place < places
place_of_block places b h = omega (arith, h, pow_pos b.order)

-- a test of the one is a test of the other
pub covers_counts : (b : Block) (m : ℕ) (r : Bool) → (IsTrue r ↔ Within b m) → IsTrue r ↔ (0 < covers b m)
covers_counts b m r h =
    elim (covers_cases b m) [
      | inl w ↦ (λ t. omega (arith, w.0), λ c. h.1 w.1)
      | inr w ↦ (λ t. absurd (w.1 (h.0 t)), λ c. absurd (omega (arith, w.0)))
    ]

-- an element with a part, and one with none, as a loop reads them
pub part_found : {A : Type 0} (f : ℕ → A → ℕ) (xs : List A) (k : ℕ) (x : A) → k < length xs → x ≡ get_or xs k x → 0 < f k x → 0 < total f 0 xs
part_found f xs k x h e some =
    let at = total-at f xs k x h in
    let same = ap (f k) e in
    omega (arith, at, same)

pub part_none : {A : Type 0} (f : ℕ → A → ℕ) (xs : List A) (k : ℕ) (x d : A) → k < length xs → x ≡ get_or xs k x → (0 < f k x → ⊥) → f k (get_or xs k d) ≡ 0
part_none f xs k x d h e none =
    let same = ap (f k) (get_or_read xs k x h e d) in
    elim (cases_lt 0 (f k x)) [ inl some ↦ absurd (none some) | inr clear ↦ omega (arith, same) ]
