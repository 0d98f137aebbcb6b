-- A varint of a message is one of a stream.
use Rattle.std.proofs.Common.{◌≡◌, ℕ, ◌+◌, ◌*◌, ◌%◌, ◌^◌, ◌<◌, ◌≤◌, List, [], ◌∷◌, ◌++◌, take, refl, sym, ap, subst, ◌∙◌, append_assoc, append-nil, ℤ, Bool}
use Rattle.std.specs.List.{AllByRecursion}
use Rattle.outside.specs.Varint.{groups_of, IsVarint, AreVarints, none, one}
use Rattle.orc_proto.specs.Varint.{IsClosed, groups, SpellsVarint}
use Rattle.std.proofs.lemmas.List.{map-append}
use Rattle.orc_integers.specs.Integers.{integer}
use Rattle.rle_writer.specs.Written.{Adds, AreIntegers}

record Parts (bytes : List ℕ) : Type 0 where
  front : List ℕ
  last : ℕ
  parts : bytes ≡ front ++ last ∷ []
  goes_on : AllByRecursion (λ byte. 128 ≤ byte) front
  ends : last < 128

parts_of : (bytes : List ℕ) → IsClosed bytes → Parts bytes
parts_of [] closed = absurd closed
parts_of (b ∷ []) closed = record { front = []; last = b; parts = refl; goes_on = tt; ends = closed }
parts_of (b ∷ c ∷ bytes) closed =
    let p = parts_of (c ∷ bytes) closed.1 in
    record { front = b ∷ p.front; last = p.last; parts = ap (λ (l : List ℕ). b ∷ l) p.parts; goes_on = (closed.0, p.goes_on); ends = p.ends }

groups_same : (bytes : List ℕ) → groups bytes ≡ groups_of bytes
groups_same [] = refl
groups_same (b ∷ bytes) = ap (λ (n : ℕ). b % 128 + 128 * n) (groups_same bytes)

pub varint_of : (bytes : List ℕ) (number : ℕ) → SpellsVarint bytes number → IsVarint bytes number
varint_of bytes number spelled =
    let p = parts_of bytes spelled.closed in
    record { front = p.front; last = p.last; parts = p.parts; goes_on = p.goes_on; ends = p.ends; short = spelled.short; is = spelled.low_bits ∙ ap (λ (n : ℕ). n % 2 ^ 64) (groups_same bytes) }

-- the front of the room where it was written
pub put_written : (room : List ℕ) (len wrote number : ℕ) (before after : List ℕ) → len ≡ wrote → SpellsVarint (take wrote room) number → after ≡ before ++ take len room → Adds IsVarint before after number
put_written room len wrote number before after same spelled written =
    (take len room, written, varint_of (take len room) number (subst (λ (n : ℕ). SpellsVarint (take n room) number) (sym same) spelled))

-- one varint more
AreVarints-more : {front : List ℕ} {numbers : List ℕ} (bytes : List ℕ) (number : ℕ) → AreVarints front numbers → IsVarint bytes number → AreVarints (front ++ bytes) (numbers ++ number ∷ [])
AreVarints-more bytes number none is = subst (λ (l : List ℕ). AreVarints l (number ∷ [])) (append-nil bytes) (one is none)
AreVarints-more bytes number (one {bytes = first} {more = rest} {number = head} {others = others} was more) is =
    subst (λ (l : List ℕ). AreVarints l (head ∷ (others ++ number ∷ []))) (sym (append_assoc first rest bytes)) (one was (AreVarints-more bytes number more is))

pub integers-none : (signed : Bool) (before : List ℕ) → Adds (AreIntegers signed) before before []
integers-none signed before = ([], sym (append-nil before), ([], none, refl))

pub integers-more : (signed : Bool) (first before after : List ℕ) (values : List ℤ) (value : ℤ) (number : ℕ) → Adds (AreIntegers signed) first before values → Adds IsVarint before after number → integer signed number ≡ value
    → Adds (AreIntegers signed) first after (values ++ value ∷ [])
integers-more signed first before after values value number written adds is =
    let old = written.0 in
    let bytes = adds.0 in
    let numbers = written.2.0 in (
      old ++ bytes,
      adds.1 ∙ ap (λ (l : List ℕ). l ++ bytes) written.1 ∙ append_assoc first old bytes,
      (
        numbers ++ number ∷ [],
        AreVarints-more bytes number written.2.1 adds.2,
        map-append (integer signed) numbers (number ∷ []) ∙ ap (λ (l : List ℤ). l ++ integer signed number ∷ []) written.2.2 ∙ ap (λ (z : ℤ). values ++ z ∷ []) is,
      ),
    )
