-- A varint is read as what it spells, and what is read is spelled so.
use Rattle.std.proofs.Common.{◌≡◌, ℕ, zero, suc, ◌+◌, ◌*◌, ◌%◌, ◌^◌, ◌<◌, ◌≤◌, List, [], ◌∷◌, ◌++◌, length, Ok, Err, refl, sym, ap, ◌∙◌, inl, inr, arith}
use Rattle.std.proofs.lemmas.Bool.{cases_lt, lt-ltb, le-ltb}
use Rattle.std.specs.List.{AllByRecursion}
use Rattle.orc_proto.specs.declared.fault.WireFault.TheVariants.{Truncated, LongVarint}
use Rattle.orc_proto.specs.Varint.{IsClosed, groups, SpellsVarint}
use Rattle.orc_proto.specs.Reading.{groups_at, varint_at}
use Rattle.orc_proto.proofs.Steps.{both_read, same_read}
use Rattle.orc_proto.proofs.Items.{Reads}

-- the bytes that spell what was read
pub record IsTaken (room : ℕ) (left : List ℕ) (number : ℕ) (rest : List ℕ) : Type 0 where
  pub spelling : List ℕ
  pub closed : IsClosed spelling
  pub short : length spelling ≤ room
  pub number_is : number ≡ groups spelling
  pub joined : left ≡ spelling ++ rest

pub IsClosed-cons : (b : ℕ) (bs : List ℕ) → 128 ≤ b → IsClosed bs → IsClosed (b ∷ bs)
IsClosed-cons b [] large closed = absurd closed
IsClosed-cons b (c ∷ bs) large closed = (large, closed)

pub groups_taken : (room offset : ℕ) (left : List ℕ) (number : ℕ) (rest : List ℕ) → groups_at room offset left ≡ Ok (number, rest) → IsTaken room left number rest
unfolding groups_at
groups_taken zero offset left number rest e = absurd cc
groups_taken (suc room) offset [] number rest e = absurd cc
groups_taken (suc room) offset (b ∷ left) number rest e =
    elim (cases_lt b 128) [
      | inl small ↦
          let one = rw (lt-ltb b 128 small) at e in
          let same = same_read (b, left) (number, rest) one in
          let n : b ≡ number = ap (λ (p : ℕ × List ℕ). p.0) same in
          let r : left ≡ rest = ap (λ (p : ℕ × List ℕ). p.1) same in
          record { spelling = b ∷ []; closed = small; short = omega arith; number_is = omega arith; joined = ap (λ (xs : List ℕ). b ∷ xs) r }
      | inr large ↦
          let one = rw (le-ltb b 128 large) at e in
          let high = both_read (groups_at room offset left) (λ x. Ok (b % 128 + 128 * x.0, x.1)) (number, rest) one in
          let taken = groups_taken room offset left high.0.0 high.0.1 high.1 in
          let same = same_read (b % 128 + 128 * high.0.0, high.0.1) (number, rest) high.2 in
          let n : b % 128 + 128 * high.0.0 ≡ number = ap (λ (p : ℕ × List ℕ). p.0) same in
          let r : high.0.1 ≡ rest = ap (λ (p : ℕ × List ℕ). p.1) same in
          record {
            spelling = b ∷ taken.spelling;
            closed = IsClosed-cons b taken.spelling large taken.closed;
            short = omega (arith, taken.short);
            number_is = omega (arith, taken.number_is);
            joined = ap (λ (xs : List ℕ). b ∷ xs) (taken.joined ∙ ap (λ (xs : List ℕ). taken.spelling ++ xs) r);
          }
    ]

pub groups_again : (room offset : ℕ) (spelling rest : List ℕ) → IsClosed spelling → length spelling ≤ room → groups_at room offset (spelling ++ rest) ≡ Ok (groups spelling, rest)
unfolding groups_at
groups_again room offset [] rest closed short = absurd closed
groups_again zero offset (b ∷ bs) rest closed short = absurd (omega arith)
groups_again (suc room) offset (b ∷ []) rest closed short =
    let low : b ≡ b % 128 + 128 * 0 = omega arith in
    rw (lt-ltb b 128 closed) (ap (λ (n : ℕ). Ok (n, rest)) low)
groups_again (suc room) offset (b ∷ c ∷ bs) rest closed short =
    let others = groups_again room offset (c ∷ bs) rest closed.1 (omega arith) in
    rw (le-ltb b 128 closed.0, others) refl

pub varint_found : (offset : ℕ) (left : List ℕ) (value : ℕ) (rest : List ℕ) → varint_at offset left ≡ Ok (value, rest) → (spelling : List ℕ) × SpellsVarint spelling value × (left ≡ spelling ++ rest)
unfolding varint_at
varint_found offset left value rest e =
    let all = both_read (groups_at 10 offset left) (λ x. Ok (x.0 % 2 ^ 64, x.1)) (value, rest) e in
    let taken = groups_taken 10 offset left all.0.0 all.0.1 all.1 in
    let same = same_read (all.0.0 % 2 ^ 64, all.0.1) (value, rest) all.2 in
    let n : all.0.0 % 2 ^ 64 ≡ value = ap (λ (p : ℕ × List ℕ). p.0) same in
    let r : all.0.1 ≡ rest = ap (λ (p : ℕ × List ℕ). p.1) same in (
      taken.spelling,
      record { closed = taken.closed; short = taken.short; low_bits = sym n ∙ ap (λ (m : ℕ). m % 2 ^ 64) taken.number_is },
      taken.joined ∙ ap (λ (xs : List ℕ). taken.spelling ++ xs) r,
    )

pub varint_again : (offset : ℕ) (spelling rest : List ℕ) (value : ℕ) → SpellsVarint spelling value → varint_at offset (spelling ++ rest) ≡ Ok (value, rest)
unfolding varint_at
varint_again offset spelling rest value spelled =
    rw (groups_again 10 offset spelling rest spelled.closed spelled.short) (ap (λ (n : ℕ). Ok (n, rest)) (sym spelled.low_bits))

-- ---- bytes that are no varint

groups_cut : (room offset : ℕ) (bytes : List ℕ) → AllByRecursion (λ b. 128 ≤ b) bytes → length bytes < room → groups_at room offset bytes ≡ Err (Truncated offset)
unfolding groups_at
groups_cut zero offset bytes tops few = absurd (omega arith)
groups_cut (suc room) offset [] tops few = refl
groups_cut (suc room) offset (b ∷ bytes) tops few = rw (le-ltb b 128 tops.0, groups_cut room offset bytes tops.1 (omega arith)) refl

groups_long : (room offset : ℕ) (bytes rest : List ℕ) → AllByRecursion (λ b. 128 ≤ b) bytes → length bytes ≡ room → groups_at room offset (bytes ++ rest) ≡ Err (LongVarint offset)
unfolding groups_at
groups_long zero offset bytes rest tops all = refl
groups_long (suc room) offset [] rest tops all = absurd (omega arith)
groups_long (suc room) offset (b ∷ bytes) rest tops all = rw (le-ltb b 128 tops.0, groups_long room offset bytes rest tops.1 (omega arith)) refl

pub varint_cut : (offset : ℕ) (bytes : List ℕ) → AllByRecursion (λ b. 128 ≤ b) bytes → length bytes < 10 → varint_at offset bytes ≡ Err (Truncated offset)
unfolding varint_at
varint_cut offset bytes tops few = rw (groups_cut 10 offset bytes tops few) refl

pub varint_long : (offset : ℕ) (bytes rest : List ℕ) → AllByRecursion (λ b. 128 ≤ b) bytes → length bytes ≡ 10 → varint_at offset (bytes ++ rest) ≡ Err (LongVarint offset)
unfolding varint_at
varint_long offset bytes rest tops all = rw (groups_long 10 offset bytes rest tops all) refl

-- ---- a varint has a byte

IsClosed-some : (bytes : List ℕ) → IsClosed bytes → 1 ≤ length bytes
IsClosed-some [] closed = absurd closed
IsClosed-some (b ∷ bs) closed = omega arith

pub varint_has_bytes : (spelling : List ℕ) (value : ℕ) → SpellsVarint spelling value → 1 ≤ length spelling
varint_has_bytes spelling value spelled = IsClosed-some spelling spelled.closed

pub varints_read : Reads SpellsVarint varint_at
varints_read = record { again = varint_again; found = varint_found; has_bytes = varint_has_bytes }
