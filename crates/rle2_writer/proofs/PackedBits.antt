-- Packed numbers, bit by bit.
use Rattle.std.proofs.Common.{◌≡◌, ℕ, zero, suc, ◌+◌, ◌-◌, ◌*◌, ◌/◌, ◌%◌, ◌^◌, ◌<◌, ◌≤◌, List, [], ◌∷◌, ◌++◌, length, take, get_or, refl, sym, ap, subst, ◌∙◌, arith, length-append, append_assoc, append-nil}
use Rattle.std.proofs.Math.Nat.{mul-add-mod_self_right, mul-add-div_right, mul-le-mul_left, mul-le-mul_right, div-add-mod}
use Rattle.std.proofs.lemmas.Nat.{pow-add, pow_pos, shr-shr, mod_below}
use Rattle.std.proofs.lemmas.List.{take_more}
use Rattle.std.proofs.lemmas.List.FromFn.{fill_by_all}
use Rattle.std.proofs.Math.Seq.{take-length}
use Rattle.orc_rle2.specs.Packed.{number_after, number_of, bits_to, packed_len, unpacked}
use Rattle.rle2_writer.specs.Packs.{Packs, packed_after, IsSplit, AddsBits}

-- ---- big endian numbers

number_after-append : (number : ℕ) (xs ys : List ℕ) → number_after number (xs ++ ys) ≡ number_after (number_after number xs) ys
number_after-append number [] ys = refl
number_after-append number (x ∷ xs) ys = number_after-append (256 * number + x) xs ys

number_more : (bytes : List ℕ) (byte : ℕ) → number_of (bytes ++ byte ∷ []) ≡ 256 * number_of bytes + byte
number_more bytes byte = number_after-append 0 bytes (byte ∷ [])

one_byte_more : (count : ℕ) → 2 ^ (8 * suc count) ≡ 256 * 2 ^ (8 * count)
one_byte_more count = let e : 8 * suc count ≡ 8 + 8 * count = omega arith in rw e (pow-add 2 8 (8 * count))

joined_with : (number byte power rest : ℕ) → (256 * number + byte) * power + rest ≡ number * (256 * power) + ((256 * 0 + byte) * power + rest)
joined_with number byte power rest = omega arith

number_after-splits : (number : ℕ) (bytes : List ℕ) → number_after number bytes ≡ number * 2 ^ (8 * length bytes) + number_after 0 bytes
number_after-splits number [] = let e : number ≡ number * 1 + 0 = omega arith in e
number_after-splits number (byte ∷ bytes) =
    number_after-splits (256 * number + byte) bytes
    ∙ joined_with number byte (2 ^ (8 * length bytes)) (number_after 0 bytes)
    ∙ rw (one_byte_more (length bytes), number_after-splits (256 * 0 + byte) bytes) refl

-- ---- what is held

pub IsSplit-none : IsSplit [] 0 0 0 0
IsSplit-none = record { is = refl; count = refl; below = omega arith }

-- all of it is held
pub IsSplit-all : (number bits : ℕ) → number < 2 ^ bits → IsSplit [] number bits number bits
IsSplit-all number bits h = record { is = omega arith; count = omega arith; below = h }

eight_more : (bits : ℕ) → 2 ^ (bits + 8) ≡ 2 ^ bits * 256
eight_more bits = pow-add 2 bits 8

byte_arith : (n q r p : ℕ) → (256 * n + q) * p + r ≡ n * (p * 256) + (p * q + r)
byte_arith n q r p = omega arith

-- one byte more is written
pub IsSplit-byte : (bytes : List ℕ) (held bits number total : ℕ) → IsSplit bytes held (bits + 8) number total → IsSplit (bytes ++ held / 2 ^ bits ∷ []) (held % 2 ^ bits) bits number total
IsSplit-byte bytes held bits number total split =
    record {
      is = ap (λ (n : ℕ). n * 2 ^ bits + held % 2 ^ bits) (number_more bytes (held / 2 ^ bits))
          ∙ byte_arith (number_of bytes) (held / 2 ^ bits) (held % 2 ^ bits) (2 ^ bits)
          ∙ ap (λ (n : ℕ). number_of bytes * (2 ^ bits * 256) + n) (div-add-mod held (2 ^ bits))
          ∙ ap (λ (n : ℕ). number_of bytes * n + held) (sym (eight_more bits))
          ∙ split.is;
      count = omega (arith, split.count, length-append bytes (held / 2 ^ bits ∷ []));
      below = mod_below held (2 ^ bits) (pow_pos bits);
    }

quotient_below : (q p r n : ℕ) → p * q + r ≡ n → n < p * 256 → q < 256
quotient_below q p r n e h = grind (arith, mul-le-mul_left)

-- the byte that is written is one
pub byte_fits : (held bits : ℕ) → held < 2 ^ (bits + 8) → held / 2 ^ bits < 256
byte_fits held bits h =
    let e : 2 ^ bits * (held / 2 ^ bits) + held % 2 ^ bits ≡ held = div-add-mod held (2 ^ bits) in
    let p : held < 2 ^ bits * 256 = omega (arith, eight_more bits) in
    quotient_below (held / 2 ^ bits) (2 ^ bits) (held % 2 ^ bits) held e p

value_arith : (n p w held v : ℕ) → n * (p * w) + (held * w + v) ≡ (n * p + held) * w + v
value_arith n p w held v = omega arith

pub below_more : (held bits width v : ℕ) → held < 2 ^ bits → v < 2 ^ width → held * 2 ^ width + v < 2 ^ (bits + width)
below_more held bits width v h k =
    let e : 2 ^ (bits + width) ≡ 2 ^ bits * 2 ^ width = pow-add 2 bits width in
    let m : (held + 1) * 2 ^ width ≤ 2 ^ bits * 2 ^ width = mul-le-mul_right (2 ^ width) (omega arith) in
    omega arith

-- one value more is held
pub IsSplit-value : (bytes : List ℕ) (held bits number total width v : ℕ) → v < 2 ^ width → IsSplit bytes held bits number total → IsSplit bytes (held * 2 ^ width + v) (bits + width) (number * 2 ^ width + v) (total + width)
IsSplit-value bytes held bits number total width v h split =
    record {
      is = ap (λ (n : ℕ). number_of bytes * n + (held * 2 ^ width + v)) (pow-add 2 bits width)
          ∙ value_arith (number_of bytes) (2 ^ bits) (2 ^ width) held v
          ∙ ap (λ (n : ℕ). n * 2 ^ width + v) split.is;
      count = omega (arith, split.count);
      below = below_more held bits width v split.below h;
    }

then_arith : (n p q m held : ℕ) → (n * p + m) * q + held ≡ n * (p * q) + (m * q + held)
then_arith n p q m held = omega arith

-- what was held is written on
pub IsSplit-then : (bytes more : List ℕ) (held bits number total held' bits' : ℕ) → IsSplit bytes held bits number total → IsSplit more held' bits' held bits → IsSplit (bytes ++ more) held' bits' number total
IsSplit-then bytes more held bits number total held' bits' split next =
    record {
      is = ap (λ (n : ℕ). n * 2 ^ bits' + held') (number_after-append 0 bytes more ∙ number_after-splits (number_of bytes) more)
          ∙ then_arith (number_of bytes) (2 ^ (8 * length more)) (2 ^ bits') (number_of more) held'
          ∙ ap (λ (n : ℕ). number_of bytes * n + (number_of more * 2 ^ bits' + held')) (sym (pow-add 2 (8 * length more) bits'))
          ∙ ap (λ (n : ℕ). number_of bytes * 2 ^ n + (number_of more * 2 ^ bits' + held')) next.count
          ∙ ap (λ (n : ℕ). number_of bytes * 2 ^ bits + n) next.is
          ∙ split.is;
      count = omega (arith, split.count, next.count, length-append bytes more);
      below = next.below;
    }

-- ---- the numbers in a packed number

packed-more : (width number : ℕ) (xs : List ℕ) (x : ℕ) → packed_after width number (xs ++ x ∷ []) ≡ packed_after width number xs * 2 ^ width + x
packed-more width number [] x = refl
packed-more width number (y ∷ xs) x = packed-more width (number * 2 ^ width + y) xs x

pub packed-take : (width : ℕ) (numbers : List ℕ) (i : ℕ) → i < length numbers → packed_after width 0 (take (i + 1) numbers) ≡ packed_after width 0 (take i numbers) * 2 ^ width + get_or numbers i 0
packed-take width numbers i h = ap (packed_after width 0) (take_more numbers i 0 h) ∙ packed-more width 0 (take i numbers) (get_or numbers i 0)

div-small : (x p : ℕ) → x < p → x / p ≡ 0
div-small x p h = grind arith

zero_quotient : (number x p : ℕ) → x < p → number + x / p ≡ number
zero_quotient number x p h = omega (arith, div-small x p h)

without_one : (number next width : ℕ) → next < 2 ^ width → (number * 2 ^ width + next) / 2 ^ width ≡ number
without_one number next width h =
    mul-add-div_right (pow_pos width) number next ∙ zero_quotient number next (2 ^ width) h

-- those behind a place don't count
packed-behind : (width number : ℕ) (xs : List ℕ) → ((k : ℕ) → get_or xs k 0 < 2 ^ width) → packed_after width number xs / 2 ^ (width * length xs) ≡ number
packed-behind width number [] h = let e : width * 0 ≡ 0 = omega arith in rw e (omega arith)
packed-behind width number (x ∷ xs) h =
    let e : width * suc (length xs) ≡ width * length xs + width = omega arith in
    ap (λ (n : ℕ). packed_after width (number * 2 ^ width + x) xs / 2 ^ n) e
    ∙ sym (shr-shr (packed_after width (number * 2 ^ width + x) xs) (width * length xs) width)
    ∙ ap (λ (n : ℕ). n / 2 ^ width) (packed-behind width (number * 2 ^ width + x) xs (λ k. h (suc k)))
    ∙ without_one number x width (h 0)

small : (n p : ℕ) → n < p → n % p ≡ n
small n p h = grind arith

-- the number at an index
packed-at : (width number : ℕ) (xs : List ℕ) (i : ℕ) → ((k : ℕ) → get_or xs k 0 < 2 ^ width) → i < length xs → packed_after width number xs / 2 ^ (width * (length xs - (i + 1))) % 2 ^ width ≡ get_or xs i 0
packed-at width number [] i h k = absurd (omega arith)
packed-at width number (x ∷ xs) zero h k =
    let e : suc (length xs) - (0 + 1) ≡ length xs = omega arith in
    ap (λ (n : ℕ). packed_after width (number * 2 ^ width + x) xs / 2 ^ (width * n) % 2 ^ width) e
    ∙ ap (λ (n : ℕ). n % 2 ^ width) (packed-behind width (number * 2 ^ width + x) xs (λ k. h (suc k)))
    ∙ mul-add-mod_self_right number (2 ^ width) x
    ∙ small x (2 ^ width) (h 0)
packed-at width number (x ∷ xs) (suc i) h k =
    let e : suc (length xs) - (suc i + 1) ≡ length xs - (i + 1) = omega arith in
    ap (λ (n : ℕ). packed_after width (number * 2 ^ width + x) xs / 2 ^ (width * n) % 2 ^ width) e
    ∙ packed-at width (number * 2 ^ width + x) xs i (λ k. h (suc k)) (omega arith)

times_power : (n p m : ℕ) → 0 < p → (n * p) / p ≡ n
times_power n p m h = grind (arith, mul-add-div_right)

sum_is : (w a b n : ℕ) → n ≡ a + b → w * a + w * b ≡ w * n
sum_is w a b n e = rw e (omega arith)

room_is : (width k n : ℕ) → k < n → width * (k + 1) + width * (n - (k + 1)) ≡ width * n
room_is width k n h = let e : n ≡ (k + 1) + (n - (k + 1)) = omega arith in sum_is width (k + 1) (n - (k + 1)) n e

-- the packed numbers are read as themselves
pub Packs-unpacked : (width : ℕ) (body numbers : List ℕ) → ((k : ℕ) → get_or numbers k 0 < 2 ^ width) → Packs width body numbers → (length body ≡ packed_len width (length numbers)) × (unpacked width (length numbers) body ≡ numbers)
Packs-unpacked width body numbers h packs =
    let pad = packs.pad in
    let small : pad < 8 = packs.small in
    let is = packs.is in
    let count = packs.count in
    let n = length numbers in (
      omega (arith, count),
      sym (fill_by_all (λ (i : ℕ). bits_to body width (width * (i + 1))) numbers n 0 refl (λ k below.
          let room : width * (k + 1) + width * (n - (k + 1)) ≡ width * n = room_is width k n below in
          let e : 8 * length body - width * (k + 1) ≡ pad + width * (n - (k + 1)) = omega (arith, room, count) in
          sym (packed-at width 0 numbers k h below)
          ∙ ap (λ (m : ℕ). m / 2 ^ (width * (n - (k + 1))) % 2 ^ width) (sym (times_power (packed_after width 0 numbers) (2 ^ pad) 0 (pow_pos pad)))
          ∙ ap (λ (m : ℕ). m / 2 ^ pad / 2 ^ (width * (n - (k + 1))) % 2 ^ width) (sym is)
          ∙ ap (λ (m : ℕ). m % 2 ^ width) (shr-shr (number_of body) pad (width * (n - (k + 1))))
          ∙ ap (λ (m : ℕ). number_of body / 2 ^ m % 2 ^ width) (sym e))),
    )

whole : (n p held number : ℕ) → p ≡ 1 → held ≡ 0 → n * p + held ≡ number → n ≡ number * 1
whole n p held number e k is =
    let s : n * 1 + 0 ≡ number = ap (λ (x : ℕ). n * x + 0) (sym e) ∙ ap (λ (x : ℕ). n * p + x) (sym k) ∙ is in
    omega arith

-- nothing is held at the end
pub Packs-whole : (width : ℕ) (before after numbers bytes : List ℕ) (held bits : ℕ) → bits ≡ 0 → after ≡ before ++ bytes → IsSplit bytes held bits (packed_after width 0 numbers) (width * length numbers) → (bytes' : List ℕ) × (after ≡ before ++ bytes') × Packs width bytes' numbers
Packs-whole width before after numbers bytes held bits none written split =
    let one : 2 ^ bits ≡ 1 = ap (λ (n : ℕ). 2 ^ n) none in
    let zero_held : held ≡ 0 = omega (arith, split.below) in
    let is : number_of bytes ≡ packed_after width 0 numbers * 2 ^ 0 = whole (number_of bytes) (2 ^ bits) held (packed_after width 0 numbers) one zero_held split.is in
    (bytes, written, record { pad = 0; small = omega arith; is = is; count = omega (arith, split.count) })

padded : (n b p q held number : ℕ) → b ≡ p * q → n * p + held ≡ number → b * n + held * q ≡ number * q
padded n b p q held number e is = rw (e, ← is) (omega arith)

-- or the last byte is padded
pub Packs-last : (width : ℕ) (before between after numbers bytes : List ℕ) (held bits : ℕ) → 0 < bits → bits < 8 → between ≡ before ++ bytes → IsSplit bytes held bits (packed_after width 0 numbers) (width * length numbers) → after ≡ between ++ held * 2 ^ (8 - bits) ∷ [] → (bytes' : List ℕ) × (after ≡ before ++ bytes') × Packs width bytes' numbers
Packs-last width before between after numbers bytes held bits some few first split written =
    let last = held * 2 ^ (8 - bits) in
    let e : bits + (8 - bits) ≡ 8 = omega arith in
    let p : 256 ≡ 2 ^ bits * 2 ^ (8 - bits) = ap (λ (n : ℕ). 2 ^ n) (sym e) ∙ pow-add 2 bits (8 - bits) in
    let is : number_of (bytes ++ last ∷ []) ≡ packed_after width 0 numbers * 2 ^ (8 - bits) = number_more bytes last ∙ padded (number_of bytes) 256 (2 ^ bits) (2 ^ (8 - bits)) held (packed_after width 0 numbers) p split.is in (
      bytes ++ last ∷ [],
      written ∙ ap (λ (l : List ℕ). l ++ last ∷ []) first ∙ append_assoc before bytes (last ∷ []),
      record { pad = 8 - bits; small = omega arith; is = is; count = omega (arith, split.count, length-append bytes (last ∷ [])) },
    )

-- ---- the steps of writing

pub whole_byte : (first before after bytes : List ℕ) (held bits number total top rest : ℕ) → 8 ≤ bits → before ≡ first ++ bytes → IsSplit bytes held bits number total → after ≡ before ++ top ∷ [] → top ≡ held / 2 ^ (bits - 8) → rest ≡ held % 2 ^ (bits - 8)
    → (bytes' : List ℕ) × (after ≡ first ++ bytes') × IsSplit bytes' rest (bits - 8) number total
whole_byte first before after bytes held bits number total top rest some parts split written top_is rest_is =
    let e : bits ≡ bits - 8 + 8 = omega arith in
    let next : IsSplit (bytes ++ held / 2 ^ (bits - 8) ∷ []) (held % 2 ^ (bits - 8)) (bits - 8) number total = IsSplit-byte bytes held (bits - 8) number total (subst (λ (n : ℕ). IsSplit bytes held n number total) e split) in (
      bytes ++ held / 2 ^ (bits - 8) ∷ [],
      written ∙ ap (λ (n : ℕ). before ++ n ∷ []) top_is ∙ ap (λ (l : List ℕ). l ++ held / 2 ^ (bits - 8) ∷ []) parts ∙ append_assoc first bytes (held / 2 ^ (bits - 8) ∷ []),
      subst (λ (n : ℕ). IsSplit (bytes ++ held / 2 ^ (bits - 8) ∷ []) n (bits - 8) number total) (sym rest_is) next,
    )

pub packed_none : (first numbers : List ℕ) (width : ℕ) → AddsBits first first (packed_after width 0 (take 0 numbers)) (width * 0) 0 0
packed_none first numbers width =
    let e : 0 ≡ width * 0 = omega arith in
    ([], sym (append-nil first), subst (λ (n : ℕ). IsSplit [] 0 0 0 n) e IsSplit-none, omega arith)

pub packed_step : (first before after numbers : List ℕ) (width i held bits v held' bits' : ℕ) → i < length numbers → v ≡ get_or numbers i 0 → v < 2 ^ width
    → AddsBits first before (packed_after width 0 (take i numbers)) (width * i) held bits → AddsBits before after (held * 2 ^ width + v) (bits + width) held' bits'
    → AddsBits first after (packed_after width 0 (take (i + 1) numbers)) (width * (i + 1)) held' bits'
packed_step first before after numbers width i held bits v held' bits' h v_is below was next =
    let number = packed_after width 0 (take i numbers) in
    let value = IsSplit-value was.0 held bits number (width * i) width v below was.2 in
    let all = IsSplit-then was.0 next.0 (held * 2 ^ width + v) (bits + width) (number * 2 ^ width + v) (width * i + width) held' bits' value next.2 in
    let n : number * 2 ^ width + v ≡ packed_after width 0 (take (i + 1) numbers) = ap (λ (x : ℕ). number * 2 ^ width + x) v_is ∙ sym (packed-take width numbers i h) in
    let t : width * i + width ≡ width * (i + 1) = omega arith in (
      was.0 ++ next.0,
      next.1 ∙ ap (λ (l : List ℕ). l ++ next.0) was.1 ∙ append_assoc first was.0 next.0,
      subst (λ (x : ℕ). IsSplit (was.0 ++ next.0) held' bits' x (width * (i + 1))) n (subst (λ (x : ℕ). IsSplit (was.0 ++ next.0) held' bits' (number * 2 ^ width + v) x) t all),
      next.3,
    )

pub packed_all : (first after numbers : List ℕ) (width i held bits : ℕ) → i ≡ length numbers → AddsBits first after (packed_after width 0 (take i numbers)) (width * i) held bits → AddsBits first after (packed_after width 0 numbers) (width * length numbers) held bits
packed_all first after numbers width i held bits e adds =
    subst (λ (l : List ℕ). AddsBits first after (packed_after width 0 l) (width * length numbers) held bits) (take-length numbers)
    (subst (λ (n : ℕ). AddsBits first after (packed_after width 0 (take n numbers)) (width * n) held bits) e adds)

pub pad_is : (held bits : ℕ) → bits < 8 → held < 2 ^ bits → held * 2 ^ (8 - bits) % 256 ≡ held * 2 ^ (8 - bits)
pad_is held bits few below =
    let e : bits + (8 - bits) ≡ 8 = omega arith in
    let p : 256 ≡ 2 ^ bits * 2 ^ (8 - bits) = ap (λ (n : ℕ). 2 ^ n) (sym e) ∙ pow-add 2 bits (8 - bits) in
    let m : (held + 1) * 2 ^ (8 - bits) ≤ 2 ^ bits * 2 ^ (8 - bits) = mul-le-mul_right (2 ^ (8 - bits)) (omega arith) in
    let q : 0 < 2 ^ (8 - bits) = pow_pos (8 - bits) in
    omega arith
