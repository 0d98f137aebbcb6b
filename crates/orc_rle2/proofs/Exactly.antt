-- Just so many bytes, in front of others.
use Rattle.std.proofs.Common.{◌≡◌, ℕ, true, false, leb, List, ◌++◌, length, take, drop, Result, Ok, Err, refl, sym, ap, ◌∙◌, arith, inl, inr, length-append}
use Rattle.std.proofs.lemmas.Bool.{cases_lt, le-leb, lt-leb}
use Rattle.std.proofs.lemmas.List.{take-append-drop, take_at, drop_at, length-take-le}
use Rattle.outside.specs.declared.run_fault.RunFault.{RunFault}
use Rattle.outside.specs.Reading.{exactly}
use Rattle.outside.specs.ReadingLaws.{read_is}

abbrev read_of : {X : Type 0} → X × List ℕ → Result (X × List ℕ) RunFault
read_of p = Ok p

pub exactly-whole : (bytes rest : List ℕ) → exactly (length bytes) (bytes ++ rest) ≡ Ok (bytes, rest)
exactly-whole bytes rest =
    let t : leb (length bytes) (length (bytes ++ rest)) ≡ true = le-leb (length bytes) (length (bytes ++ rest)) (omega (arith, length-append bytes rest)) in
    rw (t, take_at bytes rest (length bytes) refl, drop_at bytes rest (length bytes) refl) refl

pub exactly-only : (count : ℕ) (bytes got rest : List ℕ) → exactly count bytes ≡ Ok (got, rest) → (bytes ≡ got ++ rest) × (length got ≡ count)
exactly-only count bytes got rest e =
    elim (cases_lt (length bytes) count) [
      | inl few ↦
          let t : leb count (length bytes) ≡ false = lt-leb count (length bytes) few in
          let no = rw t at e in
          absurd (let none : Err _ ≡ read_of (got, rest) = no in cc)
      | inr enough ↦
          let t : leb count (length bytes) ≡ true = le-leb count (length bytes) enough in
          let yes = rw t at e in
          let same = read_is (take count bytes, drop count bytes) (got, rest) yes in
          let front : take count bytes ≡ got = ap (λ (p : List ℕ × List ℕ). p.0) same in
          let back : drop count bytes ≡ rest = ap (λ (p : List ℕ × List ℕ). p.1) same in
          (sym (take-append-drop count bytes) ∙ rw (front, back) refl, ap length (sym front) ∙ length-take-le count bytes enough)
    ]
