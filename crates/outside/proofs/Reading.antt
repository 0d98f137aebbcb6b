-- Reading just so many bytes, piece by piece.
use Rattle.std.proofs.Common.{sym, ◌≡◌, ℕ, ◌+◌, ◌-◌, ◌≤◌, Bool, true, false, cond, leb, List, [], ◌∷◌, ◌++◌, length, take, drop, get_or, suc, Ok, Err, refl, ap, ◌∙◌, arith, length-append}
use Rattle.std.proofs.Math.Seq.{take-append-add, drop-append-add}
use Rattle.std.proofs.Math.Dec.{leb-zero}
use Rattle.outside.specs.declared.run_fault.RunFault.TheVariants.{StreamEnds}
use Rattle.outside.specs.Reading.{go_on, value, mapped, exactly, byte}

-- nothing is asked for
pub exactly-nothing : (into bytes : List ℕ) → length into ≡ 0 → exactly (length into) bytes ≡ value into bytes
exactly-nothing [] bytes e = rw leb-zero refl
exactly-nothing (x ∷ into) bytes e = absurd (omega arith)

exactly_by : (test : Bool) (got front back : List ℕ) → cond test (Ok (got ++ front, back)) (Err StreamEnds) ≡ go_on (cond test (Ok (front, back)) (Err StreamEnds)) (λ others. value (got ++ others))
exactly_by true got front back = refl
exactly_by false got front back = refl

-- the first of these bytes, and then the others
pub exactly-piece : (got : List ℕ) (asked : ℕ) (more : List ℕ) → length got ≤ asked → exactly asked (got ++ more) ≡ mapped (λ others. got ++ others) (exactly (asked - length got)) more
exactly-piece got asked more h =
    let test : leb asked (length (got ++ more)) ≡ leb (asked - length got) (length more) = grind (arith, length-append got more) in
    let is : asked ≡ length got + (asked - length got) = omega arith in
    let front : take asked (got ++ more) ≡ got ++ take (asked - length got) more = ap (λ (n : ℕ). take n (got ++ more)) is ∙ take-append-add got more (asked - length got) in
    let back : drop asked (got ++ more) ≡ drop (asked - length got) more = ap (λ (n : ℕ). drop n (got ++ more)) is ∙ drop-append-add got more (asked - length got) in
    rw (test, front, back) (exactly_by (leb (asked - length got) (length more)) got (take (asked - length got) more) (drop (asked - length got) more))

-- ---- one

first_byte : (first : ℕ) (rest : List ℕ) (test : Bool) → test ≡ true → go_on (cond test (Ok (first ∷ [], rest)) (Err StreamEnds)) (λ bytes. value (get_or bytes 0 0)) ≡ Ok (first, rest)
first_byte first rest true e = refl
first_byte first rest false e = absurd cc

pub byte-exactly : (bytes : List ℕ) → byte bytes ≡ mapped (λ bytes. get_or bytes 0 0) (exactly 1) bytes
byte-exactly [] = refl
byte-exactly (first ∷ rest) = let t : leb 1 (suc (length rest)) ≡ true = grind (arith) in sym (first_byte first rest (leb 1 (suc (length rest))) t)
