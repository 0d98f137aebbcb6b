-- Laws of varints: their reader reads just the spellings of numbers, whatever follows. Source: this project's own.
use Rattle.std.proofs.Common.{◌≡◌, ℕ, zero, suc, ◌+◌, ◌*◌, ◌%◌, ◌^◌, ◌<◌, ◌≤◌, true, false, ltb, List, [], ◌∷◌, ◌++◌, length, Ok, Err, refl, sym, ap, subst, ◌∙◌, arith, append_assoc, length-append, inl, inr}
use Rattle.std.specs.List.{AllByRecursion}
use Rattle.std.proofs.lemmas.Bool.{cases_lt, le-ltb, lt-ltb}
use Rattle.outside.specs.Reading.{go_on, value, mapped}
use Rattle.outside.specs.Varint.{groups_of, IsVarint, AreVarints, none, one, groups_within, varint, varints}
use Rattle.outside.specs.declared.run_fault.RunFault.TheVariants.{StreamEnds, LongVarint}
use Rattle.outside.specs.ReadingLaws.{read_of, read_is, went_on}

-- ---- one byte more

pub within-last : (room byte : ℕ) (more : List ℕ) → byte < 128 → groups_within (suc room) (byte ∷ more) ≡ Ok (byte, more)
unfolding groups_within
within-last room byte more h = let t : ltb byte 128 ≡ true = lt-ltb byte 128 h in rw t refl

pub within-more : (room byte : ℕ) (more : List ℕ) → 128 ≤ byte
    → groups_within (suc room) (byte ∷ more) ≡ mapped (λ high. byte % 128 + 128 * high) (groups_within room) more
unfolding groups_within
within-more room byte more h = let t : ltb byte 128 ≡ false = le-ltb byte 128 h in rw t refl

pub within-none : (more : List ℕ) → groups_within 0 more ≡ Err LongVarint
unfolding groups_within
within-none more = refl

pub within-ends : (room : ℕ) → groups_within (suc room) [] ≡ Err StreamEnds
unfolding groups_within
within-ends room = refl

-- ---- numbers, one after the other

pub varints-zero : (bytes : List ℕ) → varints 0 bytes ≡ Ok ([], bytes)
unfolding varints
varints-zero bytes = refl

pub varints-step : (count : ℕ) (bytes : List ℕ)
    → varints (suc count) bytes ≡ go_on (varint bytes) (λ number. mapped (λ others. number ∷ others) (varints count))
unfolding varints
varints-step count bytes = refl

-- ---- whole varints

-- a whole varint in front of bytes, by its groups
record Front (room : ℕ) (bytes : List ℕ) (groups : ℕ) (rest : List ℕ) : Type 0 where
  front : List ℕ
  last : ℕ
  goes_on : AllByRecursion (λ byte. 128 ≤ byte) front
  ends : last < 128
  short : length front < room
  parts : bytes ≡ (front ++ last ∷ []) ++ rest
  is : groups ≡ groups_of (front ++ last ∷ [])

within-whole : (front : List ℕ) (last room : ℕ) (rest : List ℕ) → AllByRecursion (λ byte. 128 ≤ byte) front
    → last < 128 → length front < room → groups_within room ((front ++ last ∷ []) ++ rest) ≡ Ok (
      groups_of
          (front ++ last ∷ []),
      rest,
    )
within-whole [] last zero rest goes_on ends short = absurd (omega arith)
within-whole [] last (suc room) rest goes_on ends short =
    let e : last ≡ last % 128 + 128 * 0 = omega arith in
    within-last room last rest ends ∙ ap (λ (n : ℕ). read_of (n, rest)) e
within-whole (byte ∷ front) last zero rest goes_on ends short = absurd (omega arith)
within-whole (byte ∷ front) last (suc room) rest goes_on ends short =
    within-more room byte ((front ++ last ∷ []) ++ rest) goes_on.0
    ∙ rw (within-whole front last room rest goes_on.1 ends (omega arith)) refl

within-only : (room : ℕ) (bytes : List ℕ) (groups : ℕ) (rest : List ℕ) → groups_within room bytes ≡ Ok (groups, rest)
    → Front room bytes groups rest
within-only zero bytes groups rest e = absurd (let no : Err _ ≡ read_of (groups, rest) = sym (within-none bytes) ∙ e in cc)
within-only (suc room) [] groups rest e = absurd (let no : Err _ ≡ read_of (groups, rest) = sym (within-ends room) ∙ e in cc)
within-only (suc room) (byte ∷ bytes) groups rest e =
    elim (cases_lt byte 128) [
      | inl ends ↦
          let same = read_is (byte, bytes) (groups, rest) (sym (within-last room byte bytes ends) ∙ e) in
          let whole : byte ≡ groups = ap (λ (p : ℕ × List ℕ). p.0) same in
          let parts : bytes ≡ rest = ap (λ (p : ℕ × List ℕ). p.1) same in
          let is : groups ≡ byte % 128 + 128 * 0 = omega arith in
          record {
            front = [];
            last = byte;
            goes_on = tt;
            ends = ends;
            short = omega arith;
            parts =
                ap (λ (l : List ℕ). byte ∷ l) parts;
            is = is;
          }
      | inr goes ↦
          let on = went_on (groups_within room bytes) (λ high. value (byte % 128 + 128 * high)) groups rest
          (sym (within-more room byte bytes goes) ∙ e) in
          let same = read_is (byte % 128 + 128 * on.0, on.1) (groups, rest) on.3 in
          let value_is : byte % 128 + 128 * on.0 ≡ groups = ap (λ (p : ℕ × List ℕ). p.0) same in
          let after : on.1 ≡ rest = ap (λ (p : ℕ × List ℕ). p.1) same in
          let f = within-only room bytes on.0 rest (on.2 ∙ ap (λ (l : List ℕ). read_of (on.0, l)) after) in
          record {
            front = byte ∷ f.front;
            last = f.last;
            goes_on = (goes, f.goes_on);
            ends = f.ends;
            short =
                omega (arith, f.short);
            parts = ap (λ (l : List ℕ). byte ∷ l) f.parts;
            is =
                sym value_is ∙ ap (λ (n : ℕ). byte % 128 + 128 * n) f.is;
          }
    ]

-- a varint is read, and what follows is left
pub varint-whole : (bytes rest : List ℕ) (number : ℕ) → IsVarint bytes number → varint (bytes ++ rest) ≡ Ok (number, rest)
varint-whole bytes rest number v =
    let short : length v.front < 10 = omega (arith, v.short, ap length v.parts, length-append v.front (v.last ∷ [])) in
    let w = within-whole v.front v.last 10 rest v.goes_on v.ends short in
    rw (v.is, v.parts, w) refl

-- what is read as a number is a varint of it
pub varint-only : (bytes rest : List ℕ) (number : ℕ) → varint bytes ≡ Ok (number, rest)
    → (run : List ℕ) × IsVarint run number × (bytes ≡ run ++ rest)
varint-only bytes rest number e =
    let on = went_on (groups_within 10 bytes) (λ groups. value (groups % 2 ^ 64)) number rest e in
    let same = read_is (on.0 % 2 ^ 64, on.1) (number, rest) on.3 in
    let value_is : on.0 % 2 ^ 64 ≡ number = ap (λ (p : ℕ × List ℕ). p.0) same in
    let after : on.1 ≡ rest = ap (λ (p : ℕ × List ℕ). p.1) same in
    let f = within-only 10 bytes on.0 rest (on.2 ∙ ap (λ (l : List ℕ). read_of (on.0, l)) after) in (
      f.front ++ f.last ∷ [],
      record {
        front = f.front;
        last = f.last;
        parts = refl;
        goes_on = f.goes_on;
        ends =
            f.ends;
        short = omega (arith, f.short, length-append f.front (f.last ∷ []));
        is =
            sym value_is ∙ ap (λ (n : ℕ). n % 2 ^ 64) f.is;
      },
      f.parts,
    )

-- varints are read, and what follows is left
pub varints-whole : {bytes numbers : List ℕ} (rest : List ℕ) → AreVarints bytes numbers
    → varints (length numbers) (bytes ++ rest) ≡ Ok (numbers, rest)
varints-whole rest none = varints-zero rest
varints-whole rest (one {bytes = bytes} {more = more} {number = number} {others = others} first are) =
    varints-step (length others) ((bytes ++ more) ++ rest)
    ∙ rw (
      append_assoc bytes more rest,
      varint-whole bytes
          (more ++ rest) number first,
      varints-whole rest are,
    ) refl

-- what is read as so many numbers are varints of them
pub varints-only : (count : ℕ) (bytes rest numbers : List ℕ) → varints count bytes ≡ Ok (numbers, rest)
    → (run : List ℕ) × AreVarints run numbers × (bytes ≡ run ++ rest) × (length numbers ≡ count)
varints-only zero bytes rest numbers e =
    let same = read_is ([], bytes) (numbers, rest) (sym (varints-zero bytes) ∙ e) in
    let none_are : [] ≡ numbers = ap (λ (p : List ℕ × List ℕ). p.0) same in
    let after : bytes ≡ rest = ap (λ (p : List ℕ × List ℕ). p.1) same in
    ([], subst (λ (l : List ℕ). AreVarints [] l) none_are none, after, ap length (sym none_are))
varints-only (suc count) bytes rest numbers e =
    let first = went_on (varint bytes) (λ number. mapped (λ others. number ∷ others) (varints count)) numbers rest
    (sym (varints-step count bytes) ∙ e) in
    let then_ = went_on (varints count first.1) (λ others. value (first.0 ∷ others)) numbers rest first.3 in
    let same = read_is (first.0 ∷ then_.0, then_.1) (numbers, rest) then_.3 in
    let numbers_are : first.0 ∷ then_.0 ≡ numbers = ap (λ (p : List ℕ × List ℕ). p.0) same in
    let after : then_.1 ≡ rest = ap (λ (p : List ℕ × List ℕ). p.1) same in
    let run = varint-only bytes first.1 first.0 first.2 in
    let more = varints-only count first.1 rest then_.0 (then_.2 ∙ ap (λ (l : List ℕ). read_of (then_.0, l)) after) in
    let all : AreVarints (run.0 ++ more.0) (first.0 ∷ then_.0) = one run.1 more.1 in (
      run.0 ++ more.0,
      subst (λ (l : List ℕ). AreVarints (run.0 ++ more.0) l) numbers_are all,
      run.2
          ∙ ap (λ (l : List ℕ). run.0 ++ l) more.2 ∙ sym (append_assoc run.0 more.0 rest),
      ap length (sym numbers_are)
          ∙ ap suc more.3,
    )
