-- Varints byte by byte, and in pieces.
use Rattle.std.proofs.Common.{◌≡◌, ℕ, zero, suc, ◌+◌, ◌-◌, ◌*◌, ◌%◌, ◌^◌, ◌<◌, ◌≤◌, List, [], ◌∷◌, ◌++◌, length, get_or, Result, Ok, Err, refl, sym, ap, ◌∙◌, arith, append_assoc, length-append, Some, None}
use Rattle.std.proofs.Math.Nat.{add-mod-mod, mod-add-mod, mul_comm}
use Rattle.std.proofs.lemmas.Nat.{pow-add}
use Rattle.outside.specs.declared.run_fault.RunFault.{RunFault}
use Rattle.outside.specs.declared.run_fault.RunFault.TheVariants.{StreamEnds, LongVarint}
use Rattle.outside.specs.Reading.{go_on, value, mapped}
use Rattle.outside.specs.Pieces.{Pushed, Absorbed}
use Rattle.outside.specs.Varint.{varint, groups_within, varints, open_varint, open_varints}
use Rattle.outside.specs.VarintLaws.{within-last, within-more, within-none, within-ends}

-- ---- one more byte

abbrev number_and : ℕ → List ℕ → Result (ℕ × List ℕ) RunFault
number_and n more = Ok (n, more)

last_group : (groups byte low power size : ℕ) → byte ≡ low → (groups + power * byte) % size ≡ (groups + low * power % size) % size
last_group groups byte low power size is =
    ap (λ (n : ℕ). (groups + n) % size) (ap (λ (n : ℕ). power * n) is ∙ mul_comm power low) ∙ sym (add-mod-mod groups (low * power) size)

next_group : (groups byte low power high size : ℕ) → low ≡ byte → (groups + power * (byte + 128 * high)) % size ≡ ((groups + low * power % size) % size + power * 128 * high) % size
next_group groups byte low power high size is =
    let wide : groups + power * (byte + 128 * high) ≡ groups + power * 128 * high + byte * power = omega arith in
    let low-is : byte * power ≡ low * power = ap (λ (n : ℕ). n * power) (sym is) in
    let split : (groups + power * 128 * high + low * power) % size ≡ (groups + power * 128 * high + low * power % size) % size = sym (add-mod-mod (groups + power * 128 * high) (low * power) size) in
    let order : groups + power * 128 * high + low * power % size ≡ groups + low * power % size + power * 128 * high = omega arith in
    ap (λ (n : ℕ). n % size) (wide ∙ ap (λ (n : ℕ). groups + power * 128 * high + n) low-is) ∙ split ∙ ap (λ (n : ℕ). n % size) order ∙ sym (mod-add-mod (groups + low * power % size) size (power * 128 * high))

next_power : (count : ℕ) → 2 ^ (7 * (count + 1)) ≡ 2 ^ (7 * count) * 128
next_power count = let e : 7 * (count + 1) ≡ 7 * count + 7 = omega arith in rw e (pow-add 2 (7 * count) 7)

regroup : {X Y Z : Type 0} (read : Result (X × List ℕ) RunFault) (f : X → Y) (g : Y → Z) (h : X → Z) → ((x : X) → g (f x) ≡ h x) → go_on (go_on read (λ x. value (f x))) (λ y. value (g y)) ≡ go_on read (λ x. value (h x))
regroup (Ok (x, rest)) f g h same = rw same refl
regroup (Err fault) f g h same = refl

pub open-last : (groups count byte low : ℕ) (more : List ℕ) → count ≤ 9 → byte < 128 → low ≡ byte % 128 →
    open_varint groups count (byte ∷ more) ≡ Ok ((groups + low * 2 ^ (7 * count) % 2 ^ 64) % 2 ^ 64, more)
open-last groups count byte low more h lt is =
    let e : 10 - count ≡ suc (9 - count) = omega arith in
    let w : groups_within (10 - count) (byte ∷ more) ≡ Ok (byte, more) = rw e (within-last (9 - count) byte more lt) in
    let low-is : byte ≡ low = omega arith in
    rw w (ap (λ (n : ℕ). number_and n more) (last_group groups byte low (2 ^ (7 * count)) (2 ^ 64) low-is))

pub open-long : (groups byte : ℕ) (more : List ℕ) → 128 ≤ byte → open_varint groups 9 (byte ∷ more) ≡ Err LongVarint
open-long groups byte more h = rw (within-more 0 byte more h, within-none) refl

pub open-more : (groups count byte low : ℕ) (more : List ℕ) → count < 9 → 128 ≤ byte → low ≡ byte % 128 →
    open_varint groups count (byte ∷ more) ≡ open_varint ((groups + low * 2 ^ (7 * count) % 2 ^ 64) % 2 ^ 64) (count + 1) more
open-more groups count byte low more h le is =
    let e : 10 - count ≡ suc (9 - count) = omega arith in
    let e' : 10 - (count + 1) ≡ 9 - count = omega arith in
    let w : groups_within (10 - count) (byte ∷ more) ≡ mapped (λ high. byte % 128 + 128 * high) (groups_within (9 - count)) more = rw e (within-more (9 - count) byte more le) in
    let p : 2 ^ (7 * (count + 1)) ≡ 2 ^ (7 * count) * 128 = next_power count in
    rw (w, e', p) (regroup (groups_within (9 - count) more) (λ high. byte % 128 + 128 * high) (λ high. (groups + 2 ^ (7 * count) * high) % 2 ^ 64) (λ high. ((groups + low * 2 ^ (7 * count) % 2 ^ 64) % 2 ^ 64 + 2 ^ (7 * count) * 128 * high) % 2 ^ 64)
    (λ high. next_group groups (byte % 128) low (2 ^ (7 * count)) high (2 ^ 64) is))

-- ---- a piece

as_read : {X Y : Type 0} (read : Result (X × List ℕ) RunFault) (f g : X → Y) → ((x : X) → f x ≡ g x) → go_on read (λ x. value (f x)) ≡ go_on read (λ x. value (g x))
as_read (Ok (x, rest)) f g same = rw same refl
as_read (Err fault) f g same = refl

as_it_is : (read : Result (List ℕ × List ℕ) RunFault) → read ≡ go_on read (λ others. value ([] ++ others))
as_it_is (Ok (x, rest)) = refl
as_it_is (Err fault) = refl

first_open : (high : ℕ) → (0 + 2 ^ (7 * 0) * high) % 2 ^ 64 ≡ high % 2 ^ 64
first_open high = let e : 0 + 1 * high ≡ high = omega arith in ap (λ (n : ℕ). n % 2 ^ 64) e

-- a number that hasn't begun
pub open_varints-fresh : (left : ℕ) (more : List ℕ) → open_varints 0 0 left more ≡ varints left more
unfolding open_varints varints
open_varints-fresh zero more = refl
open_varints-fresh (suc left) more = ap (λ (read : Result (ℕ × List ℕ) RunFault). go_on read (λ number. mapped (λ others. number ∷ others) (varints left))) (as_read (groups_within 10 more) (λ high. (0 + 2 ^ (7 * 0) * high) % 2 ^ 64) (λ high. high % 2 ^ 64) first_open)

open_varints-step : (groups count left : ℕ) (bytes : List ℕ) → open_varints groups count (suc left) bytes ≡ go_on (open_varint groups count bytes) (λ number. mapped (λ others. number ∷ others) (varints left))
unfolding open_varints
open_varints-step groups count left bytes = refl

pub Absorbed-nothing : (groups count asked : ℕ) → Absorbed groups count asked [] [] groups count
Absorbed-nothing groups count asked = record {
  reads = λ more. let e : asked - 0 ≡ asked = omega arith in rw e (as_it_is (open_varints groups count asked more));
  fewer = omega arith;
  nearer = omega arith;
}

module _ (groups count asked : ℕ) (piece numbers : List ℕ) (groups' count' byte groups'' count'' : ℕ) (at : Absorbed groups count asked piece numbers groups' count') (left : ℕ) (asks : asked - length numbers ≡ suc left) where
  read_on : (back : List ℕ) → open_varints groups count asked (piece ++ byte ∷ back) ≡ mapped (λ others. numbers ++ others) (λ bytes. go_on (open_varint groups' count' bytes) (λ number. mapped (λ others. number ∷ others) (varints left))) (byte ∷ back)
  read_on back = at.reads (byte ∷ back) ∙ rw (asks, open_varints-step groups' count' left (byte ∷ back)) refl

  pub Absorbed-more : count' ≤ 9 → Pushed groups' count' byte groups'' count'' (Ok None) → Absorbed groups count asked (piece ++ byte ∷ []) numbers groups'' count''
  Absorbed-more short pushed = record {
    reads = λ more. rw append_assoc (read_on more ∙ rw (pushed.0 more, asks, open_varints-step groups'' count'' left more) refl);
    fewer = omega (arith, at.fewer, length-append piece (byte ∷ []));
    nearer = omega (arith, at.nearer, pushed.1, length-append piece (byte ∷ []));
  }

  pub Absorbed-ended : (number : ℕ) → count' ≤ 9 → Pushed groups' count' byte groups'' count'' (Ok (Some number)) → Absorbed groups count asked (piece ++ byte ∷ []) (numbers ++ number ∷ []) groups'' count''
  Absorbed-ended number short pushed = record {
    reads = λ more.
        let k : asked - length (numbers ++ number ∷ []) ≡ left = omega (arith, length-append numbers (number ∷ [])) in
        rw (append_assoc piece (byte ∷ []) more, k, pushed.1, pushed.2, open_varints-fresh left more) (read_on more ∙ rw (pushed.0 more) (regroup (varints left more) (λ others. number ∷ others) (λ others. numbers ++ others) (λ others. (numbers ++ number ∷ []) ++ others) (λ others. sym (append_assoc numbers (number ∷ []) others))));
    fewer = omega (arith, at.fewer, length-append piece (byte ∷ []), length-append numbers (number ∷ []));
    nearer = omega (arith, at.nearer, pushed.2, short, length-append piece (byte ∷ []), length-append numbers (number ∷ []));
  }

  pub Absorbed-long : (fault : RunFault) (back : List ℕ) → Pushed groups' count' byte groups'' count'' (Err fault) → (more : List ℕ) → open_varints groups count asked ((piece ++ byte ∷ back) ++ more) ≡ Err LongVarint
  Absorbed-long fault back pushed more = rw append_assoc (read_on (back ++ more) ∙ rw (pushed.1 (back ++ more)) refl)

-- ---- the ends of a piece

pub open_varints-nothing : (groups count : ℕ) (out bytes : List ℕ) → length out ≡ 0 → open_varints groups count (length out) bytes ≡ value out bytes
unfolding open_varints
open_varints-nothing groups count [] bytes e = refl
open_varints-nothing groups count (x ∷ out) bytes e = absurd (omega arith)

pub open_varints-ends : (groups count asked : ℕ) → count ≤ 9 → 0 < asked → open_varints groups count asked [] ≡ Err StreamEnds
open_varints-ends groups count asked short h =
    let e : asked ≡ suc (asked - 1) = omega arith in
    let room : 10 - count ≡ suc (9 - count) = omega arith in
    rw (e, open_varints-step groups count (asked - 1) [], room, within-ends (9 - count)) refl

-- ---- one number

one_of : (read : Result (ℕ × List ℕ) RunFault) → read ≡ go_on (go_on read (λ number. mapped (λ others. number ∷ others) (value []))) (λ numbers. value (get_or numbers 0 0))
one_of (Ok (number, rest)) = refl
one_of (Err fault) = refl

pub varint-varints : (bytes : List ℕ) → varint bytes ≡ mapped (λ numbers. get_or numbers 0 0) (varints 1) bytes
unfolding varints
varint-varints bytes = one_of (varint bytes)
