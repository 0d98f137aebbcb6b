-- Big endian numbers, and the bits of values inside them.
use Rattle.std.proofs.Common.{◌≡◌, ℕ, zero, suc, ◌+◌, ◌-◌, ◌*◌, ◌/◌, ◌%◌, ◌^◌, ◌<◌, ◌≤◌, List, [], ◌∷◌, ◌++◌, length, take, drop, replicate, get_or, refl, sym, ap, ◌∙◌, arith, inl, inr, length-append, length-drop}
use Rattle.std.proofs.Math.Nat.{add-mul-div_right, add-mul-mod_self_right, mul-le-mul_left, pow-le-pow_right}
use Rattle.std.proofs.lemmas.Nat.{pow-add, pow_pos, shr-shr}
use Rattle.std.proofs.lemmas.List.{take-append-drop, length-take-le}
use Rattle.std.proofs.lemmas.Bool.{cases_lt}
use Rattle.std.proofs.lemmas.List.FromFn.{fill_by_all, get_or-map-range_with_len, length-map-range_with_len}
use Rattle.orc_rle2.specs.Packed.{number_after, number_of, bits_to, unpacked}
use Rattle.orc_rle2.specs.Widths.{IsWidth}

-- numbers that bytes have
abbrev pub Bytes : List ℕ → Type 0
Bytes bytes = (k : ℕ) → get_or bytes k 0 < 256

pub number_after-append : (number : ℕ) (xs ys : List ℕ) → number_after number (xs ++ ys) ≡ number_after (number_after number xs) ys
number_after-append number [] ys = refl
number_after-append number (x ∷ xs) ys = number_after-append (256 * number + x) xs ys

one_byte_more : (count : ℕ) → 2 ^ (8 * suc count) ≡ 256 * 2 ^ (8 * count)
one_byte_more count = let e : 8 * suc count ≡ 8 + 8 * count = omega arith in rw e (pow-add 2 8 (8 * count))

joined_with : (number byte power rest : ℕ) → (256 * number + byte) * power + rest ≡ number * (256 * power) + ((256 * 0 + byte) * power + rest)
joined_with number byte power rest = omega arith

pub number_after-splits : (number : ℕ) (bytes : List ℕ) → number_after number bytes ≡ number * 2 ^ (8 * length bytes) + number_after 0 bytes
number_after-splits number [] = let e : number ≡ number * 1 + 0 = omega arith in e
number_after-splits number (byte ∷ bytes) =
    number_after-splits (256 * number + byte) bytes
    ∙ joined_with number byte (2 ^ (8 * length bytes)) (number_after 0 bytes)
    ∙ rw (one_byte_more (length bytes), number_after-splits (256 * 0 + byte) bytes) refl

without_byte : (number byte r : ℕ) → byte < 256 → (256 * number + byte) / 2 ^ (8 + r) ≡ number / 2 ^ r
without_byte number byte r h =
    let e : (256 * number + byte) / 2 ^ 8 ≡ number = omega arith in
    sym (shr-shr (256 * number + byte) 8 r) ∙ ap (λ (n : ℕ). n / 2 ^ r) e

-- what stands behind a place doesn't count
pub number_behind : (number r : ℕ) (bytes : List ℕ) → Bytes bytes → number_after number bytes / 2 ^ (8 * length bytes + r) ≡ number / 2 ^ r
number_behind number r [] h = let e : 8 * 0 + r ≡ r = omega arith in ap (λ (n : ℕ). number / 2 ^ n) e
number_behind number r (byte ∷ bytes) h =
    let e : 8 * suc (length bytes) + r ≡ 8 * length bytes + (8 + r) = omega arith in
    ap (λ (n : ℕ). number_after (256 * number + byte) bytes / 2 ^ n) e
    ∙ number_behind (256 * number + byte) (8 + r) bytes (λ k. h (suc k))
    ∙ without_byte number byte r (h 0)

-- nor what stands in front of so many bits
in_front : (number low q width r : ℕ) → (number * 2 ^ (q + width + r) + low) / 2 ^ r % 2 ^ width ≡ low / 2 ^ r % 2 ^ width
in_front number low q width r =
    let power : 2 ^ (q + width + r) ≡ 2 ^ q * 2 ^ width * 2 ^ r = pow-add 2 (q + width) r ∙ ap (λ (n : ℕ). n * 2 ^ r) (pow-add 2 q width) in
    let order : (a b c : ℕ) → number * (a * b * c) + low ≡ low + number * a * b * c = λ (a b c : ℕ). omega arith in
    ap (λ (n : ℕ). (number * n + low) / 2 ^ r % 2 ^ width) power
    ∙ ap (λ (n : ℕ). n / 2 ^ r % 2 ^ width) (order (2 ^ q) (2 ^ width) (2 ^ r))
    ∙ ap (λ (n : ℕ). n % 2 ^ width) (add-mul-div_right low (number * 2 ^ q * 2 ^ width) (pow_pos r))
    ∙ add-mul-mod_self_right (low / 2 ^ r) (number * 2 ^ q) (2 ^ width)

pub Bytes-behind : (bytes : List ℕ) (count : ℕ) → Bytes bytes → Bytes (drop count bytes)
Bytes-behind bytes zero h k = h k
Bytes-behind [] (suc count) h k = h k
Bytes-behind (byte ∷ bytes) (suc count) h k = Bytes-behind bytes count (λ j. h (suc j)) k

-- some bits, out of the bytes that hold them
pub bits_within : (bytes : List ℕ) (first count q width r : ℕ) → Bytes bytes → first + count ≤ length bytes → 8 * count ≡ q + width + r →
    number_of (take count (drop first bytes)) / 2 ^ r % 2 ^ width ≡ number_of bytes / 2 ^ (8 * (length bytes - (first + count)) + r) % 2 ^ width
bits_within bytes first count q width r are within bits =
    let front = take first bytes in
    let middle = take count (drop first bytes) in
    let back = drop count (drop first bytes) in
    let parts : front ++ (middle ++ back) ≡ bytes = ap (λ (l : List ℕ). front ++ l) (take-append-drop count (drop first bytes)) ∙ take-append-drop first bytes in
    let middle_len : length middle ≡ count = length-take-le count (drop first bytes) (omega (arith, length-drop first bytes)) in
    let back_len : length back ≡ length bytes - (first + count) = omega (arith, length-drop count (drop first bytes), length-drop first bytes) in
    let back_are : Bytes back = Bytes-behind (drop first bytes) count (Bytes-behind bytes first are) in
    let whole : number_of bytes ≡ number_after (number_after (number_of front) middle) back = ap number_of (sym parts) ∙ number_after-append 0 front (middle ++ back) ∙ number_after-append (number_of front) middle back in
    let splits : number_after (number_of front) middle ≡ number_of front * 2 ^ (q + width + r) + number_of middle =
    number_after-splits (number_of front) middle ∙ ap (λ (n : ℕ). number_of front * 2 ^ n + number_of middle) (ap (λ (n : ℕ). 8 * n) middle_len ∙ bits) in
    sym (
    ap (λ (n : ℕ). n / 2 ^ (8 * (length bytes - (first + count)) + r) % 2 ^ width) whole
    ∙ ap (λ (n : ℕ). number_after (number_after (number_of front) middle) back / 2 ^ (8 * n + r) % 2 ^ width) (sym back_len)
    ∙ ap (λ (n : ℕ). n % 2 ^ width) (number_behind (number_after (number_of front) middle) r back back_are)
    ∙ ap (λ (n : ℕ). n / 2 ^ r % 2 ^ width) splits
    ∙ in_front (number_of front) (number_of middle) q width r
    )

-- one more byte of a number, and how far it grows
pub number_more : (bytes : List ℕ) (byte : ℕ) → number_of (bytes ++ byte ∷ []) ≡ 256 * number_of bytes + byte
number_more bytes byte = number_after-append 0 bytes (byte ∷ [])

pub one_byte_below : (number byte count : ℕ) → number < 2 ^ (8 * count) → byte < 256 → 256 * number + byte < 2 ^ (8 * (count + 1))
one_byte_below number byte count h k =
    let e : 8 * (count + 1) ≡ 8 + 8 * count = omega arith in
    let p : 2 ^ (8 * (count + 1)) ≡ 256 * 2 ^ (8 * count) = rw e (pow-add 2 8 (8 * count)) in
    omega arith

pub seven_bytes : (number count : ℕ) → number < 2 ^ (8 * count) → count < 8 → number < 2 ^ 56
seven_bytes number count h k =
    let q : 8 * count ≤ 56 = omega arith in
    let p : 2 ^ (8 * count) ≤ 2 ^ 56 = pow-le-pow_right (omega arith) q in
    omega arith

-- ---- parts of eight bytes

-- a value stands within the eight bytes from the one on in which it begins
pub in_word : (width index : ℕ) → IsWidth width → width * index % 8 + width ≤ 64
in_word width index is =
    elim (cases_lt 56 width) [
      | inl wide ↦ let e : width ≡ 64 = is.whole wide in rw e (omega arith)
      | inr narrow ↦ omega arith
    ]

-- ---- bytes behind the packed ones

pub bits_to-front : (body back : List ℕ) (width place : ℕ) → Bytes back → place ≤ 8 * length body → bits_to (body ++ back) width place ≡ bits_to body width place
bits_to-front body back width place are h =
    let r = 8 * length body - place in
    let e : 8 * length (body ++ back) - place ≡ 8 * length back + r = omega (arith, length-append body back) in
    ap (λ (n : ℕ). number_of (body ++ back) / 2 ^ n % 2 ^ width) e
    ∙ ap (λ (n : ℕ). n / 2 ^ (8 * length back + r) % 2 ^ width) (number_after-append 0 body back)
    ∙ ap (λ (n : ℕ). n % 2 ^ width) (number_behind (number_of body) r back are)

pub unpacked-front : (width count : ℕ) (body back : List ℕ) → Bytes back → width * count ≤ 8 * length body → unpacked width count (body ++ back) ≡ unpacked width count body
unpacked-front width count body back are h =
    fill_by_all (λ (i : ℕ). bits_to body width (width * (i + 1))) (unpacked width count (body ++ back)) count 0 (length-map-range_with_len (λ i. bits_to (body ++ back) width (width * (i + 1))) 0 count)
    (λ k small.
    let within : width * (k + 1) ≤ width * count = mul-le-mul_left {m = k + 1} {n = count} width (omega arith) in
    get_or-map-range_with_len (λ i. bits_to (body ++ back) width (width * (i + 1))) 0 count k k 0 small (omega arith)
    ∙ bits_to-front body back width (width * (k + 1)) are (omega arith))

pub Bytes-none : (count : ℕ) → Bytes (replicate count 0)
Bytes-none zero k = omega arith
Bytes-none (suc count) zero = omega arith
Bytes-none (suc count) (suc k) = Bytes-none count k
