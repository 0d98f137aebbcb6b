-- The sum of the owners of a minimum block against the parts that have it.
use Rattle.std.proofs.Common.{◌≡◌, ℕ, ◌<◌, ◌≤◌, length, refl, ap, subst, arith, inl, inr, ◌⊎◌}
use Rattle.std.specs.Prelude.{Option, None, Some, IsSomeAnd}
use Rattle.std.proofs.lemmas.Bool.{cases_lt, cases_order}
use Rattle.pool_model.specs.declared.block.Block.{Block}
use Rattle.pool_model.specs.declared.buffer.Buffer.{Buffer}
use Rattle.pool_model.specs.declared.buffer.Target.{Target}
use Rattle.pool_model.specs.declared.pool.GrantedBlock.{GrantedBlock}
use Rattle.pool_model.specs.declared.pool.PlainPool.{PlainPool}
use Rattle.pool_model.specs.Block.{Within, covers}
use Rattle.pool_model.specs.Parts.{Part, buffer_block, buffer_target, granted_block, Has, IsUnowned, IsOwnedOnce, OwnersCountParts}
use Rattle.pool_model.specs.Pool.{buffer_at, grant_at, block_of, buffer_covers, target_covers, grant_covers, owners, total}
use Rattle.pool_model.proofs.Options.{value_of, at_value}
use Rattle.pool_model.proofs.Owners.{covers_cases, header_below, place_below}
use Rattle.pool_model.proofs.Totals.{total-at, total-two, total-part, total-parts}

covers_within : (b : Block) (m : ℕ) → Within b m → covers b m ≡ 1
covers_within b m h = elim (covers_cases b m) [ inl w ↦ w.0 | inr w ↦ absurd (w.1 h) ]

-- a part's header or place is one of the pool's, and its sum counts the part
block_counts : (p : PlainPool) (header m : ℕ) → Has p (buffer_block header) m → (header < length p.buffers) × (1 ≤ buffer_covers m header (buffer_at p header))
block_counts p header m h =
    let found = value_of (λ (b : Buffer). Within b.block m) (buffer_at p header) h in
    (header_below p header found.0 found.1, omega (arith, ap (buffer_covers m header) found.1, covers_within found.0.block m found.2))

target_counts : (p : PlainPool) (header m : ℕ) → Has p (buffer_target header) m → (header < length p.buffers) × (1 ≤ buffer_covers m header (buffer_at p header))
target_counts p header m h =
    let found = value_of (λ (b : Buffer). IsSomeAnd b.target (λ (t : Target). Within t.block m)) (buffer_at p header) h in
    let aim = value_of (λ (t : Target). Within t.block m) found.0.target found.2 in
    (header_below p header found.0 found.1, omega (arith, ap (buffer_covers m header) found.1, ap (target_covers m) aim.1, covers_within aim.0.block m aim.2))

grant_counts : (p : PlainPool) (place m : ℕ) → Has p (granted_block place) m → (place < length p.grants) × (1 ≤ grant_covers m place (grant_at p place))
grant_counts p place m h =
    let found = value_of (λ (g : GrantedBlock). Within (block_of place g) m) (grant_at p place) h in
    (place_below p place found.0 found.1, omega (arith, ap (grant_covers m place) found.1, covers_within (block_of place found.0) m found.2))

both_count : (p : PlainPool) (header m : ℕ) → Has p (buffer_block header) m → Has p (buffer_target header) m → 2 ≤ buffer_covers m header (buffer_at p header)
both_count p header m h t =
    let found = value_of (λ (b : Buffer). IsSomeAnd b.target (λ (t : Target). Within t.block m)) (buffer_at p header) t in
    let here : Within found.0.block m = at_value (λ (b : Buffer). Within b.block m) (buffer_at p header) found.0 found.1 h in
    let aim = value_of (λ (t : Target). Within t.block m) found.0.target found.2 in
    omega (arith, ap (buffer_covers m header) found.1, ap (target_covers m) aim.1, covers_within aim.0.block m aim.2, covers_within found.0.block m here)

-- each part that has the minimum block is counted
pub owners-part : (p : PlainPool) (a : Part) (m : ℕ) → Has p a m → 1 ≤ owners p m
unfolding owners
owners-part p (buffer_block header) m h =
    let c = block_counts p header m h in omega (arith, c.1, total-at (buffer_covers m) p.buffers header None c.0)
owners-part p (buffer_target header) m h =
    let c = target_counts p header m h in omega (arith, c.1, total-at (buffer_covers m) p.buffers header None c.0)
owners-part p (granted_block place) m h =
    let c = grant_counts p place m h in omega (arith, c.1, total-at (grant_covers m) p.grants place None c.0)

-- two headers, two places, or one of each count twice; and so does what counts twice in one header
owners-headers : (p : PlainPool) (m j k : ℕ) → (j < length p.buffers) × (1 ≤ buffer_covers m j (buffer_at p j)) → (k < length p.buffers) × (1 ≤ buffer_covers m k (buffer_at p k)) → owners p m ≤ 1 → j ≡ k
unfolding owners
owners-headers p m j k a b once =
    elim (cases_order j k) [
      | inl same ↦ same
      | inr apart ↦
          elim apart [
            | inl below ↦ absurd (omega (arith, a.1, b.1, total-two (buffer_covers m) p.buffers j k None below b.0))
            | inr above ↦ absurd (omega (arith, a.1, b.1, total-two (buffer_covers m) p.buffers k j None above a.0))
          ]
    ]

owners-places : (p : PlainPool) (m j k : ℕ) → (j < length p.grants) × (1 ≤ grant_covers m j (grant_at p j)) → (k < length p.grants) × (1 ≤ grant_covers m k (grant_at p k)) → owners p m ≤ 1 → j ≡ k
unfolding owners
owners-places p m j k a b once =
    elim (cases_order j k) [
      | inl same ↦ same
      | inr apart ↦
          elim apart [
            | inl below ↦ absurd (omega (arith, a.1, b.1, total-two (grant_covers m) p.grants j k None below b.0))
            | inr above ↦ absurd (omega (arith, a.1, b.1, total-two (grant_covers m) p.grants k j None above a.0))
          ]
    ]

owners-mixed : (p : PlainPool) (m j k : ℕ) → (j < length p.buffers) × (1 ≤ buffer_covers m j (buffer_at p j)) → (k < length p.grants) × (1 ≤ grant_covers m k (grant_at p k)) → owners p m ≤ 1 → ⊥
unfolding owners
owners-mixed p m j k a b once =
    omega (arith, a.1, b.1, total-at (buffer_covers m) p.buffers j None a.0, total-at (grant_covers m) p.grants k None b.0)

owners-twice : (p : PlainPool) (m header : ℕ) → (header < length p.buffers) → 2 ≤ buffer_covers m header (buffer_at p header) → owners p m ≤ 1 → ⊥
unfolding owners
owners-twice p m header h c once = omega (arith, c, total-at (buffer_covers m) p.buffers header None h)

-- a block and a target never are in two, whatever their headers
owners-block_target : (p : PlainPool) (m j k : ℕ) → owners p m ≤ 1 → Has p (buffer_block j) m → Has p (buffer_target k) m → ⊥
owners-block_target p m j k once h t =
    let c = target_counts p k m t in
    let same : j ≡ k = owners-headers p m j k (block_counts p j m h) c once in
    let P : ℕ → Type 0 = λ i. Has p (buffer_block i) m in
    owners-twice p m k c.0 (both_count p k m (subst P same h) t) once

pub owned_once : (p : PlainPool) (m : ℕ) → owners p m ≤ 1 → IsOwnedOnce p m
owned_once p m once (buffer_block j) (buffer_block k) a b =
    ap buffer_block (owners-headers p m j k (block_counts p j m a) (block_counts p k m b) once)
owned_once p m once (buffer_block j) (buffer_target k) a b = absurd (owners-block_target p m j k once a b)
owned_once p m once (buffer_block j) (granted_block k) a b =
    absurd (owners-mixed p m j k (block_counts p j m a) (grant_counts p k m b) once)
owned_once p m once (buffer_target j) (buffer_block k) a b = absurd (owners-block_target p m k j once b a)
owned_once p m once (buffer_target j) (buffer_target k) a b =
    ap buffer_target (owners-headers p m j k (target_counts p j m a) (target_counts p k m b) once)
owned_once p m once (buffer_target j) (granted_block k) a b =
    absurd (owners-mixed p m j k (target_counts p j m a) (grant_counts p k m b) once)
owned_once p m once (granted_block j) (buffer_block k) a b =
    absurd (owners-mixed p m k j (block_counts p k m b) (grant_counts p j m a) once)
owned_once p m once (granted_block j) (buffer_target k) a b =
    absurd (owners-mixed p m k j (target_counts p k m b) (grant_counts p j m a) once)
owned_once p m once (granted_block j) (granted_block k) a b =
    ap granted_block (owners-places p m j k (grant_counts p j m a) (grant_counts p k m b) once)

-- and back: what is counted is a part
block_within : (b : Block) (m : ℕ) → 0 < covers b m → Within b m
block_within b m h = elim (covers_cases b m) [ inl w ↦ w.1 | inr w ↦ absurd (omega (arith, w.0)) ]

covers-le : (b : Block) (m : ℕ) → covers b m ≤ 1
covers-le b m = elim (covers_cases b m) [ inl w ↦ omega (arith, w.0) | inr w ↦ omega (arith, w.0) ]

target_within : (t : Option Target) (m : ℕ) → 0 < target_covers m t → IsSomeAnd t (λ (t : Target). Within t.block m)
target_within None m h = omega arith
target_within (Some t) m h = block_within t.block m h

target_covers-le : (t : Option Target) (m : ℕ) → target_covers m t ≤ 1
target_covers-le None m = omega arith
target_covers-le (Some t) m = covers-le t.block m

-- what a header and a place tell, once they count
abbrev AmongBuffer : Option Buffer → ℕ → Type 0
AmongBuffer o m =
    IsSomeAnd o (λ (b : Buffer). Within b.block m)
    ⊎ IsSomeAnd o (λ (b : Buffer). IsSomeAnd b.target (λ (t : Target). Within t.block m))

buffer_within : (o : Option Buffer) (header m : ℕ) → 0 < buffer_covers m header o → AmongBuffer o m
buffer_within None header m h = absurd (omega arith)
buffer_within (Some b) header m h =
    elim (cases_lt 0 (covers b.block m)) [
      | inl here ↦ inl (block_within b.block m here)
      | inr none ↦ inr (target_within b.target m (omega arith))
    ]

both_within : (o : Option Buffer) (header m : ℕ) → 1 < buffer_covers m header o → IsSomeAnd o (λ (b : Buffer). Within b.block m) × IsSomeAnd o (λ (b : Buffer). IsSomeAnd b.target (λ (t : Target). Within t.block m))
both_within None header m h = absurd (omega arith)
both_within (Some b) header m h =
    (block_within b.block m (omega (arith, target_covers-le b.target m)), target_within b.target m (omega (arith, covers-le b.block m)))

grant_within : (g : Option GrantedBlock) (place m : ℕ) → 0 < grant_covers m place g → IsSomeAnd g (λ (g : GrantedBlock). Within (block_of place g) m)
grant_within None place m h = omega arith
grant_within (Some g) place m h = block_within (block_of place g) m h

grant_covers-le : (g : Option GrantedBlock) (place m : ℕ) → grant_covers m place g ≤ 1
grant_covers-le None place m = omega arith
grant_covers-le (Some g) place m = covers-le (block_of place g) m

-- a part of that header's buffer
abbrev PartOf : PlainPool → ℕ → ℕ → Type 0
PartOf p header m = (a : Part) × Has p a m × ((a ≡ buffer_block header) ⊎ (a ≡ buffer_target header))

part_of : (p : PlainPool) (header m : ℕ) → 0 < buffer_covers m header (buffer_at p header) → PartOf p header m
part_of p header m h =
    elim (buffer_within (buffer_at p header) header m h) [
      | inl w ↦ (buffer_block header, w, inl refl)
      | inr w ↦ (buffer_target header, w, inr refl)
    ]

header_of : Part → ℕ
header_of (buffer_block header) = header
header_of (buffer_target header) = header
header_of (granted_block place) = 0

same_header : (a : Part) (header : ℕ) → (a ≡ buffer_block header) ⊎ (a ≡ buffer_target header) → header_of a ≡ header
unfolding header_of
same_header a header h = elim h [ inl e ↦ ap header_of e | inr e ↦ ap header_of e ]

owned_by_none : (p : PlainPool) (m : ℕ) → IsUnowned p m → owners p m ≡ 0
unfolding owners
owned_by_none p m none =
    elim (cases_lt 0 (total (buffer_covers m) 0 p.buffers)) [
      | inl some ↦
          let k = total-part (buffer_covers m) p.buffers None some in
          let a = part_of p k.0 m k.2 in
          absurd (none a.0 a.1)
      | inr clear ↦
          elim (cases_lt 0 (total (grant_covers m) 0 p.grants)) [
            | inl some ↦
                let k = total-part (grant_covers m) p.grants None some in
                absurd (none (granted_block k.0) (grant_within (grant_at p k.0) k.0 m k.2))
            | inr also ↦ omega arith
          ]
    ]

apart_headers : (p : PlainPool) (m j k : ℕ) → IsOwnedOnce p m → j < k → 0 < buffer_covers m j (buffer_at p j) → 0 < buffer_covers m k (buffer_at p k) → ⊥
apart_headers p m j k once below a b =
    let x = part_of p j m a in
    let y = part_of p k m b in
    let same : x.0 ≡ y.0 = once x.0 y.0 x.1 y.1 in
    omega (arith, same_header x.0 j x.2, same_header y.0 k y.2, ap header_of same)

few_in_buffers : (p : PlainPool) (m : ℕ) → IsOwnedOnce p m → total (buffer_covers m) 0 p.buffers ≤ 1
few_in_buffers p m once =
    elim (cases_lt 1 (total (buffer_covers m) 0 p.buffers)) [
      | inl many ↦
          elim (total-parts (buffer_covers m) p.buffers None many) [
            | inl w ↦
                let both = both_within (buffer_at p w.0) w.0 m w.2 in
                let same : buffer_block w.0 ≡ buffer_target w.0 = once (buffer_block w.0) (buffer_target w.0) both.0 both.1 in
                cc
            | inr w ↦ let v = w.1 in absurd (apart_headers p m w.0 v.0 once v.1 v.3 v.4)
          ]
      | inr few ↦ few
    ]

few_in_grants : (p : PlainPool) (m : ℕ) → IsOwnedOnce p m → total (grant_covers m) 0 p.grants ≤ 1
few_in_grants p m once =
    elim (cases_lt 1 (total (grant_covers m) 0 p.grants)) [
      | inl many ↦
          elim (total-parts (grant_covers m) p.grants None many) [
            | inl w ↦ absurd (omega (arith, w.2, grant_covers-le (grant_at p w.0) w.0 m))
            | inr w ↦
                let v = w.1 in
                let same : granted_block w.0 ≡ granted_block v.0 =
                once (granted_block w.0) (granted_block v.0) (grant_within (grant_at p w.0) w.0 m v.3) (grant_within (grant_at p v.0) v.0 m v.4) in
                let e : w.0 ≡ v.0 = cc in
                absurd (omega (arith, e, v.1))
          ]
      | inr few ↦ few
    ]

counted_once : (p : PlainPool) (m : ℕ) → IsOwnedOnce p m → owners p m ≤ 1
unfolding owners
counted_once p m once =
    let b = few_in_buffers p m once in
    let g = few_in_grants p m once in
    elim (cases_lt 0 (total (buffer_covers m) 0 p.buffers)) [
      | inl some ↦
          elim (cases_lt 0 (total (grant_covers m) 0 p.grants)) [
            | inl also ↦
                let j = total-part (buffer_covers m) p.buffers None some in
                let k = total-part (grant_covers m) p.grants None also in
                let x = part_of p j.0 m j.2 in
                let same : x.0 ≡ granted_block k.0 =
                once x.0 (granted_block k.0) x.1 (grant_within (grant_at p k.0) k.0 m k.2) in
                elim x.2 [ inl e ↦ cc | inr e ↦ cc ]
            | inr none ↦ omega arith
          ]
      | inr none ↦ omega arith
    ]

pub owners_count_parts : (p : PlainPool) (m : ℕ) → OwnersCountParts p m
owners_count_parts p m =
    record {
      none = (λ e a h. absurd (omega (arith, e, owners-part p a m h)), owned_by_none p m);
      at_most_one = (owned_once p m, counted_once p m);
    }
