-- The bits of bytes, and the bytes of flags.
use Rattle.std.proofs.Common.{◌≡◌, ℕ, zero, suc, ◌+◌, ◌*◌, ◌/◌, ◌%◌, ◌<◌, Bool, true, false, eqb, List, [], ◌∷◌, ◌++◌, length, take, drop, get_or, refl, sym, ap, ◌∙◌, arith, append_assoc, append-nil, length-append}
use Rattle.std.specs.Int.{from_bool}
use Rattle.std.proofs.lemmas.Bool.{false≢true}
use Rattle.std.proofs.Math.Seq.{take-length, take-append-add}
use Rattle.std.proofs.lemmas.List.{take-append-drop}
use Rattle.orc_rle.specs.BitRun.{byte_bits, bits_of, bytes_for}

pub length-bits_of : (bytes : List ℕ) → length (bits_of bytes) ≡ 8 * length bytes
length-bits_of [] = refl
length-bits_of (byte ∷ bytes) = omega (arith, length-bits_of bytes)

pub bits_of-append : (front back : List ℕ) → bits_of (front ++ back) ≡ bits_of front ++ bits_of back
bits_of-append [] back = refl
bits_of-append (byte ∷ front) back = ap (λ (l : List Bool). byte_bits byte ++ l) (bits_of-append front back) ∙ sym (append_assoc (byte_bits byte) (bits_of front) (bits_of back))

pub some_left : (n : ℕ) → false ≡ eqb n 0 → 0 < n
some_left zero e = absurd (false≢true e)
some_left (suc n) e = omega arith

-- eight flags more
pub octet_more : (octets : List ℕ) (octet : ℕ) (flags eight rest more : List Bool) → flags ≡ bits_of octets ++ rest → eight ≡ take 8 rest → more ≡ drop 8 rest → byte_bits octet ≡ eight → flags ≡ bits_of (octets ++ octet ∷ []) ++ more
octet_more octets octet flags eight rest more parts is others octet_is =
    let one : bits_of (octet ∷ []) ≡ eight = append-nil (byte_bits octet) ∙ octet_is in
    let split : rest ≡ eight ++ more = sym (take-append-drop 8 rest) ∙ rw (is, others) refl in
    parts ∙ ap (λ (l : List Bool). bits_of octets ++ l) split ∙ sym (append_assoc (bits_of octets) eight more)
    ∙ ap (λ (l : List Bool). l ++ more) (ap (λ (l : List Bool). bits_of octets ++ l) (sym one) ∙ sym (bits_of-append octets (octet ∷ [])))

-- the last byte is whole
pub octets_whole : (octets : List ℕ) (flags rest : List Bool) → flags ≡ bits_of octets ++ rest → length rest ≡ 0 → (length octets ≡ bytes_for (length flags)) × (flags ≡ take (length flags) (bits_of octets))
octets_whole octets flags [] parts none =
    let same : flags ≡ bits_of octets = parts ∙ append-nil (bits_of octets) in
    let len : length flags ≡ 8 * length octets = ap length same ∙ length-bits_of octets in
    (omega arith, sym (take-length flags) ∙ ap (take (length flags)) same)
octets_whole octets flags (x ∷ rest) parts none = absurd (omega arith)

-- or it is padded
pub octets_padded : (octets : List ℕ) (octet : ℕ) (flags rest : List Bool) → flags ≡ bits_of octets ++ rest → 0 < length rest → length rest < 8 → take (length rest) (byte_bits octet) ≡ rest → (length (octets ++ octet ∷ []) ≡ bytes_for (length flags)) × (flags ≡ take (length flags) (bits_of (octets ++ octet ∷ [])))
octets_padded octets octet flags rest parts some few front =
    let len : length flags ≡ length (bits_of octets) + length rest = ap length parts ∙ length-append (bits_of octets) rest in
    let one : bits_of (octet ∷ []) ≡ byte_bits octet = append-nil (byte_bits octet) in (
      omega (arith, len, length-bits_of octets, length-append octets (octet ∷ [])),
      parts ∙ ap (λ (l : List Bool). bits_of octets ++ l) (sym front)
          ∙ sym (take-append-add (bits_of octets) (byte_bits octet) (length rest))
          ∙ ap (λ (n : ℕ). take n (bits_of octets ++ byte_bits octet)) (sym len)
          ∙ ap (λ (l : List Bool). take (length flags) (bits_of octets ++ l)) (sym one)
          ∙ ap (take (length flags)) (sym (bits_of-append octets (octet ∷ []))),
    )

-- ---- a byte of eight flags

bit_is : (b : Bool) → eqb (from_bool b) 1 ≡ b
bit_is true = refl
bit_is false = refl

bit_below : (b : Bool) → from_bool b < 2
bit_below true = omega arith
bit_below false = omega arith

-- eight bits, the highest first
abbrev pub eight_bits : ℕ → ℕ → ℕ → ℕ → ℕ → ℕ → ℕ → ℕ → ℕ
eight_bits a b c d e f g h = 2 * (2 * (2 * (2 * (2 * (2 * (2 * a + b) + c) + d) + e) + f) + g) + h

places : (a b c d e f g h : ℕ) → a < 2 → b < 2 → c < 2 → d < 2 → e < 2 → f < 2 → g < 2 → h < 2 →
    byte_bits (eight_bits a b c d e f g h) ≡ eqb a 1 ∷ eqb b 1 ∷ eqb c 1 ∷ eqb d 1 ∷ eqb e 1 ∷ eqb f 1 ∷ eqb g 1 ∷ eqb h 1 ∷ []
places a b c d e f g h ka kb kc kd ke kf kg kh =
    let n = eight_bits a b c d e f g h in
    let pa : n / 128 % 2 ≡ a = omega arith in
    let pb : n / 64 % 2 ≡ b = omega arith in
    let pc : n / 32 % 2 ≡ c = omega arith in
    let pd : n / 16 % 2 ≡ d = omega arith in
    let pe : n / 8 % 2 ≡ e = omega arith in
    let pf : n / 4 % 2 ≡ f = omega arith in
    let pg : n / 2 % 2 ≡ g = omega arith in
    let ph : n % 2 ≡ h = omega arith in
    rw (pa, pb, pc, pd, pe, pf, pg, ph) refl

flags_at : (l : List Bool) → length l ≡ 8 → get_or l 0 false ∷ get_or l 1 false ∷ get_or l 2 false ∷ get_or l 3 false ∷ get_or l 4 false ∷ get_or l 5 false ∷ get_or l 6 false ∷ get_or l 7 false ∷ [] ≡ l
flags_at (a ∷ b ∷ c ∷ d ∷ e ∷ f ∷ g ∷ h ∷ []) len = refl
flags_at [] len = absurd (omega arith)
flags_at (a ∷ []) len = absurd (omega arith)
flags_at (a ∷ b ∷ []) len = absurd (omega arith)
flags_at (a ∷ b ∷ c ∷ []) len = absurd (omega arith)
flags_at (a ∷ b ∷ c ∷ d ∷ []) len = absurd (omega arith)
flags_at (a ∷ b ∷ c ∷ d ∷ e ∷ []) len = absurd (omega arith)
flags_at (a ∷ b ∷ c ∷ d ∷ e ∷ f ∷ []) len = absurd (omega arith)
flags_at (a ∷ b ∷ c ∷ d ∷ e ∷ f ∷ g ∷ []) len = absurd (omega arith)
flags_at (a ∷ b ∷ c ∷ d ∷ e ∷ f ∷ g ∷ h ∷ i ∷ l) len = absurd (omega arith)

bits_are : (a b c d e f g h : Bool) → byte_bits (eight_bits (from_bool a) (from_bool b) (from_bool c) (from_bool d) (from_bool e) (from_bool f) (from_bool g) (from_bool h)) ≡ a ∷ b ∷ c ∷ d ∷ e ∷ f ∷ g ∷ h ∷ []
bits_are a b c d e f g h =
    places (from_bool a) (from_bool b) (from_bool c) (from_bool d) (from_bool e) (from_bool f) (from_bool g) (from_bool h) (bit_below a) (bit_below b) (bit_below c) (bit_below d) (bit_below e) (bit_below f) (bit_below g) (bit_below h)
    ∙ rw (bit_is a, bit_is b, bit_is c, bit_is d, bit_is e, bit_is f, bit_is g, bit_is h) refl

pub octet_is : (flags : List Bool) (a b c d e f g h : ℕ) → length flags ≡ 8 →
    a ≡ from_bool (get_or flags 0 false) → b ≡ from_bool (get_or flags 1 false) → c ≡ from_bool (get_or flags 2 false) → d ≡ from_bool (get_or flags 3 false) →
    e ≡ from_bool (get_or flags 4 false) → f ≡ from_bool (get_or flags 5 false) → g ≡ from_bool (get_or flags 6 false) → h ≡ from_bool (get_or flags 7 false) →
    byte_bits (eight_bits a b c d e f g h) ≡ flags
octet_is flags a b c d e f g h len ia ib ic i_d ie i_f ig ih =
    rw (ia, ib, ic, i_d, ie, i_f, ig, ih) (bits_are (get_or flags 0 false) (get_or flags 1 false) (get_or flags 2 false) (get_or flags 3 false) (get_or flags 4 false) (get_or flags 5 false) (get_or flags 6 false) (get_or flags 7 false))
    ∙ flags_at flags len
