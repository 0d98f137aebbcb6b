-- The shortest varint of a number.
use Rattle.std.proofs.Common.{◌≡◌, ℕ, zero, suc, ◌+◌, ◌*◌, ◌/◌, ◌%◌, ◌^◌, ◌<◌, ◌≤◌, List, [], ◌∷◌, ◌++◌, length, drop, take, refl, sym, ap, subst, ◌∙◌, inl, inr, pow-suc, arith}
use Rattle.std.proofs.lemmas.Bool.{cases_lt, lt-ltb, le-ltb}
use Rattle.std.proofs.lemmas.List.{take_at}
use Rattle.orc_proto.specs.Varint.{IsClosed, groups, SpellsVarint, shortest_within, shortest}
use Rattle.orc_proto.proofs.Varints.{IsClosed-cons}

within-small : (more value : ℕ) → value < 128 → shortest_within more value ≡ value ∷ []
unfolding shortest_within
within-small zero value small = refl
within-small (suc more) value small = rw (lt-ltb value 128 small) refl

within-large : (more value : ℕ) → 128 ≤ value → shortest_within (suc more) value ≡ (value % 128 + 128) ∷ shortest_within more (value / 128)
unfolding shortest_within
within-large more value large = rw (le-ltb value 128 large) refl

power : (k : ℕ) → 128 ^ suc k ≡ 128 * 128 ^ k
power k = omega (arith, pow-suc 128 k)

-- a number that has room needs no more
within-more : (more value : ℕ) → value < 128 ^ suc more → shortest_within more value ≡ shortest_within (suc more) value
within-more zero value h =
    let small : value < 128 = omega (arith, power 0) in
    within-small zero value small ∙ sym (within-small 1 value small)
within-more (suc more) value h =
    elim (cases_lt value 128) [
      | inl small ↦ within-small (suc more) value small ∙ sym (within-small (suc (suc more)) value small)
      | inr large ↦
          let left : value / 128 < 128 ^ suc more = omega (arith, power (suc more)) in
          within-large more value large ∙ ap (λ (bytes : List ℕ). (value % 128 + 128) ∷ bytes) (within-more more (value / 128) left) ∙ sym (within-large (suc more) value large)
    ]

pub shortest-small : (value : ℕ) → value < 128 → shortest value ≡ value ∷ []
unfolding shortest
shortest-small value small = within-small 9 value small

pub shortest-large : (value : ℕ) → value < 2 ^ 64 → 128 ≤ value → shortest value ≡ (value % 128 + 128) ∷ shortest (value / 128)
unfolding shortest
shortest-large value fits large =
    let left : value / 128 < 128 ^ 9 = omega arith in
    within-large 8 value large ∙ ap (λ (bytes : List ℕ). (value % 128 + 128) ∷ bytes) (within-more 8 (value / 128) left)

-- ---- it is a varint of the number

within-length : (more value : ℕ) → length (shortest_within more value) ≤ suc more
unfolding shortest_within
within-length zero value = omega arith
within-length (suc more) value =
    elim (cases_lt value 128) [
      | inl small ↦ rw (within-small (suc more) value small) (omega arith)
      | inr large ↦ rw (within-large more value large) (omega (arith, within-length more (value / 128)))
    ]

pub shortest-length : (value : ℕ) → length (shortest value) ≤ 10
unfolding shortest
shortest-length value = within-length 9 value

within-closed : (more value : ℕ) → value < 128 ^ suc more → IsClosed (shortest_within more value)
within-closed zero value h =
    let small : value < 128 = omega (arith, power 0) in
    rw (within-small zero value small) small
within-closed (suc more) value h =
    elim (cases_lt value 128) [
      | inl small ↦ rw (within-small (suc more) value small) small
      | inr large ↦
          let left : value / 128 < 128 ^ suc more = omega (arith, power (suc more)) in
          rw (within-large more value large) (IsClosed-cons (value % 128 + 128) (shortest_within more (value / 128)) (omega arith) (within-closed more (value / 128) left))
    ]

within-groups : (more value : ℕ) → value < 128 ^ suc more → groups (shortest_within more value) ≡ value
within-groups zero value h =
    let small : value < 128 = omega (arith, power 0) in
    rw (within-small zero value small) (omega arith)
within-groups (suc more) value h =
    elim (cases_lt value 128) [
      | inl small ↦ rw (within-small (suc more) value small) (omega arith)
      | inr large ↦
          let left : value / 128 < 128 ^ suc more = omega (arith, power (suc more)) in
          let others = within-groups more (value / 128) left in
          rw (within-large more value large, others) (omega arith)
    ]

pub shortest_spells : (value : ℕ) → value < 2 ^ 64 → SpellsVarint (shortest value) value
unfolding shortest
shortest_spells value fits =
    let room : value < 128 ^ 10 = omega arith in
    record { closed = within-closed 9 value room; short = within-length 9 value; low_bits = rw (within-groups 9 value room) (omega arith) }

-- ---- none is shorter

groups-below : (bytes : List ℕ) → groups bytes < 128 ^ length bytes
groups-below [] = omega arith
groups-below (b ∷ bytes) = omega (arith, groups-below bytes, power (length bytes))

within-least : (more value count : ℕ) → 1 ≤ count → value < 128 ^ count → length (shortest_within more value) ≤ count
unfolding shortest_within
within-least zero value count some h = some
within-least (suc more) value zero some h = absurd (omega arith)
within-least (suc more) value (suc zero) some h =
    let small : value < 128 = omega (arith, power 0) in
    rw (within-small (suc more) value small) (omega arith)
within-least (suc more) value (suc (suc count)) some h =
    elim (cases_lt value 128) [
      | inl small ↦ rw (within-small (suc more) value small) (omega arith)
      | inr large ↦
          let left : value / 128 < 128 ^ suc count = omega (arith, power (suc count)) in
          rw (within-large more value large) (omega (arith, within-least more (value / 128) (suc count) (omega arith) left))
    ]

some_bytes : (bytes : List ℕ) → IsClosed bytes → 1 ≤ length bytes
some_bytes [] closed = absurd closed
some_bytes (b ∷ bytes) closed = omega arith

pub shortest_is_least : (bytes : List ℕ) (value : ℕ) → SpellsVarint bytes value → length (shortest value) ≤ length bytes
unfolding shortest
shortest_is_least bytes value spelled =
    let below : value < 128 ^ length bytes = omega (arith, spelled.low_bits, groups-below bytes) in
    within-least 9 value (length bytes) (some_bytes bytes spelled.closed) below

-- ---- written to the front of bytes

pub spelled_front : (value count : ℕ) (after before : List ℕ) → value < 2 ^ 64 → count ≡ length (shortest value) → after ≡ shortest value ++ drop (length (shortest value)) before → SpellsVarint (take count after) value
spelled_front value count after before fits len written =
    let front : take count after ≡ shortest value = rw written (take_at (shortest value) (drop (length (shortest value)) before) count (sym len)) in
    subst (λ (bytes : List ℕ). SpellsVarint bytes value) (sym front) (shortest_spells value fits)

pub written_small : (value b : ℕ) (rest before : List ℕ) → value < 128 → before ≡ b ∷ rest → value ∷ rest ≡ shortest value ++ drop (length (shortest value)) before
written_small value b rest before small e = rw (shortest-small value small, e) refl

pub written_large : (value b : ℕ) (rest after before : List ℕ) → value < 2 ^ 64 → 128 ≤ value → before ≡ b ∷ rest → after ≡ shortest (value / 128) ++ drop (length (shortest (value / 128))) rest
    → (value % 128 + 128) ∷ after ≡ shortest value ++ drop (length (shortest value)) before
written_large value b rest after before fits large e written = rw (shortest-large value fits large, e) (ap (λ (bytes : List ℕ). (value % 128 + 128) ∷ bytes) written)

pub length-small : (value : ℕ) → value < 128 → length (shortest value) ≡ 1
length-small value small = ap length (shortest-small value small)

pub length-large : (value : ℕ) → value < 2 ^ 64 → 128 ≤ value → length (shortest value) ≡ 1 + length (shortest (value / 128))
length-large value fits large = rw (shortest-large value fits large) (omega arith)

pub length-some : (value : ℕ) → value < 2 ^ 64 → 1 ≤ length (shortest value)
length-some value fits =
    let spelled = shortest_spells value fits in
    some_bytes (shortest value) spelled.closed
