-- A field is read as what it spells, and what is read is spelled so.
use Rattle.std.proofs.Common.{◌≡◌, ℕ, ◌+◌, ◌*◌, ◌/◌, ◌%◌, ◌<◌, ◌≤◌, false, cond, ltb, eqb, List, ◌++◌, length, take, drop, Ok, Err, refl, sym, ap, subst, ◌∙◌, inl, inr, append_assoc, length-append, length-take, take-append-drop, arith}
use Rattle.std.proofs.lemmas.Bool.{ltb-false, le-ltb, eqb-true}
use Rattle.std.proofs.lemmas.Bool.Decides.{eqb_tells}
use Rattle.std.proofs.lemmas.List.{take_at, drop_at}
use Rattle.orc_proto.specs.declared.fault.WireFault.TheVariants.{Truncated, BadKey}
use Rattle.orc_proto.specs.Varint.{SpellsVarint}
use Rattle.orc_proto.specs.Message.{Content, VARINT, I64, LEN, I32, Entry, wire_type, SpellsContent, SpellsField, greatest_number}
use Rattle.orc_proto.specs.Reading.{◌>>=◌, varint_at, bytes_at, number_at, content_at, field_at}
use Rattle.orc_proto.proofs.Steps.{both_read, cond_is, same_read}
use Rattle.orc_proto.proofs.Items.{Reads}
use Rattle.orc_proto.proofs.Varints.{varint_found, varint_again, varint_has_bytes}

-- ---- bytes of a known count

pub record IsFront (count : ℕ) (left xs rest : List ℕ) : Type 0 where
  pub joined : left ≡ xs ++ rest
  pub len : length xs ≡ count

bytes_found : (count offset : ℕ) (left xs rest : List ℕ) → bytes_at count offset left ≡ Ok (xs, rest) → IsFront count left xs rest
unfolding bytes_at
bytes_found count offset left xs rest e =
    elim (cond_is (ltb (length left) count) (Err (Truncated offset)) (Ok (take count left, drop count left)) (Ok (xs, rest)) e) [
      | inl short ↦ absurd (let bad = short.1 in cc)
      | inr long ↦
          let enough : count ≤ length left = ltb-false _ _ long.0 in
          let same = same_read (take count left, drop count left) (xs, rest) long.1 in
          let front : take count left ≡ xs = ap (λ (p : List ℕ × List ℕ). p.0) same in
          let back : drop count left ≡ rest = ap (λ (p : List ℕ × List ℕ). p.1) same in
          record { joined = rw (← front, ← back) (sym (take-append-drop count left)); len = rw (← front) (omega (arith, length-take count left)) }
    ]

bytes_again : (count offset : ℕ) (xs rest : List ℕ) → length xs ≡ count → bytes_at count offset (xs ++ rest) ≡ Ok (xs, rest)
unfolding bytes_at
bytes_again count offset xs rest len =
    let long : ltb (length (xs ++ rest)) count ≡ false = le-ltb _ _ (omega (arith, length-append xs rest)) in
    rw (long, take_at xs rest count len, drop_at xs rest count len) refl

-- ---- values

pub record IsContent (wire : ℕ) (left : List ℕ) (content : Content) (rest : List ℕ) : Type 0 where
  pub spelling : List ℕ
  pub spelled : SpellsContent spelling content
  pub joined : left ≡ spelling ++ rest
  pub wire_is : wire ≡ wire_type content

is_varint : (offset wire : ℕ) (left : List ℕ) (content : Content) (rest : List ℕ) → wire ≡ 0 → ◌>>=◌ {B = Content × List ℕ} (varint_at offset left) (λ x. Ok (VARINT x.0, x.1)) ≡ Ok (content, rest) → IsContent wire left content rest
is_varint offset wire left content rest w e =
    let b = both_read (varint_at offset left) (λ x. Ok (VARINT x.0, x.1)) (content, rest) e in
    let found = varint_found offset left b.0.0 b.0.1 b.1 in
    let same = same_read (VARINT b.0.0, b.0.1) (content, rest) b.2 in
    subst (λ (p : Content × List ℕ). IsContent wire left p.0 p.1) same (record { spelling = found.0; spelled = found.1; joined = found.2; wire_is = w })

is_eight : (offset wire : ℕ) (left : List ℕ) (content : Content) (rest : List ℕ) → wire ≡ 1 → ◌>>=◌ {B = Content × List ℕ} (bytes_at 8 offset left) (λ x. Ok (I64 x.0, x.1)) ≡ Ok (content, rest) → IsContent wire left content rest
is_eight offset wire left content rest w e =
    let b = both_read (bytes_at 8 offset left) (λ x. Ok (I64 x.0, x.1)) (content, rest) e in
    let found = bytes_found 8 offset left b.0.0 b.0.1 b.1 in
    let same = same_read (I64 b.0.0, b.0.1) (content, rest) b.2 in
    subst (λ (p : Content × List ℕ). IsContent wire left p.0 p.1) same (record { spelling = b.0.0; spelled = (refl, found.len); joined = found.joined; wire_is = w })

is_four : (offset wire : ℕ) (left : List ℕ) (content : Content) (rest : List ℕ) → wire ≡ 5 → ◌>>=◌ {B = Content × List ℕ} (bytes_at 4 offset left) (λ x. Ok (I32 x.0, x.1)) ≡ Ok (content, rest) → IsContent wire left content rest
is_four offset wire left content rest w e =
    let b = both_read (bytes_at 4 offset left) (λ x. Ok (I32 x.0, x.1)) (content, rest) e in
    let found = bytes_found 4 offset left b.0.0 b.0.1 b.1 in
    let same = same_read (I32 b.0.0, b.0.1) (content, rest) b.2 in
    subst (λ (p : Content × List ℕ). IsContent wire left p.0 p.1) same (record { spelling = b.0.0; spelled = (refl, found.len); joined = found.joined; wire_is = w })

is_bytes : (offset wire : ℕ) (left : List ℕ) (content : Content) (rest : List ℕ) → wire ≡ 2 → ◌>>=◌ {B = Content × List ℕ} (varint_at offset left) (λ len. ◌>>=◌ {B = Content × List ℕ} (bytes_at len.0 offset len.1) (λ x. Ok (LEN x.0, x.1))) ≡ Ok (content, rest) → IsContent wire left content rest
is_bytes offset wire left content rest w e =
    let a = both_read (varint_at offset left) (λ len. bytes_at len.0 offset len.1 >>= λ x. Ok (LEN x.0, x.1)) (content, rest) e in
    let len = varint_found offset left a.0.0 a.0.1 a.1 in
    let b = both_read (bytes_at a.0.0 offset a.0.1) (λ x. Ok (LEN x.0, x.1)) (content, rest) a.2 in
    let front = bytes_found a.0.0 offset a.0.1 b.0.0 b.0.1 b.1 in
    let same = same_read (LEN b.0.0, b.0.1) (content, rest) b.2 in
    let spelled : SpellsVarint len.0 (length b.0.0) = subst (λ (n : ℕ). SpellsVarint len.0 n) (sym front.len) len.1 in
    let joined : left ≡ (len.0 ++ b.0.0) ++ b.0.1 = len.2 ∙ ap (λ (xs : List ℕ). len.0 ++ xs) front.joined ∙ sym (append_assoc len.0 b.0.0 b.0.1) in
    subst (λ (p : Content × List ℕ). IsContent wire left p.0 p.1) same (record { spelling = len.0 ++ b.0.0; spelled = (len.0, spelled, refl); joined = joined; wire_is = w })

content_found : (offset wire : ℕ) (left : List ℕ) (content : Content) (rest : List ℕ) → content_at offset wire left ≡ Ok (content, rest) → IsContent wire left content rest
unfolding content_at
content_found offset wire left content rest e =
    elim (cond_is (eqb wire 0) _ _ (Ok (content, rest)) e) [
      | inl w ↦ is_varint offset wire left content rest (eqb-true wire 0 w.0) w.1
      | inr n0 ↦ elim (cond_is (eqb wire 1) _ _ (Ok (content, rest)) n0.1) [
        | inl w ↦ is_eight offset wire left content rest (eqb-true wire 1 w.0) w.1
        | inr n1 ↦ elim (cond_is (eqb wire 2) _ _ (Ok (content, rest)) n1.1) [
          | inl w ↦ is_bytes offset wire left content rest (eqb-true wire 2 w.0) w.1
          | inr n2 ↦ elim (cond_is (eqb wire 5) _ _ (Ok (content, rest)) n2.1) [
            | inl w ↦ is_four offset wire left content rest (eqb-true wire 5 w.0) w.1
            | inr n5 ↦ absurd (let bad = n5.1 in cc)
          ]
        ]
      ]
    ]

content_again : (offset : ℕ) (spelling rest : List ℕ) (content : Content) → SpellsContent spelling content → content_at offset (wire_type content) (spelling ++ rest) ≡ Ok (content, rest)
unfolding content_at
content_again offset spelling rest (VARINT n) spelled = rw (varint_again offset spelling rest n spelled) refl
content_again offset spelling rest (I64 xs) spelled = rw (spelled.0, bytes_again 8 offset xs rest spelled.1) refl
content_again offset spelling rest (LEN xs) (len, spelled, joined) =
    rw (joined, append_assoc len xs rest, varint_again offset len (xs ++ rest) (length xs) spelled, bytes_again (length xs) offset xs rest refl) refl
content_again offset spelling rest (I32 xs) spelled = rw (spelled.0, bytes_again 4 offset xs rest spelled.1) refl

-- ---- fields

record IsNumber (number : ℕ) (read : ℕ) : Type 0 where
  same : number ≡ read
  at_least_one : 1 ≤ read
  at_most : read ≤ greatest_number

number_found : (offset number read : ℕ) → number_at offset number ≡ Ok read → IsNumber number read
unfolding number_at
number_found offset number read e =
    elim (cond_is (eqb number 0) (Err (BadKey offset)) (cond (ltb greatest_number number) (Err (BadKey offset)) (Ok number)) (Ok read) e) [
      | inl bad ↦ absurd (let no = bad.1 in cc)
      | inr some ↦ elim (cond_is (ltb greatest_number number) (Err (BadKey offset)) (Ok number) (Ok read) some.1) [
        | inl bad ↦ absurd (let no = bad.1 in cc)
        | inr small ↦
            let most : number ≤ greatest_number = ltb-false _ _ small.0 in
            let same = same_read number read small.1 in
            elim (eqb_tells number 0) [
              | inl z ↦ absurd (let no = z.0 in let yes = some.0 in cc)
              | inr z ↦
                  let nonzero = z.1 in
                  record { same = same; at_least_one = omega arith; at_most = rw (← same) most }
            ]
      ]
    ]

number_again : (offset number : ℕ) → 1 ≤ number → number ≤ greatest_number → number_at offset number ≡ Ok number
unfolding number_at
number_again offset number some most =
    elim (eqb_tells number 0) [
      | inl z ↦ absurd (let no = z.1 in omega arith)
      | inr z ↦ rw (z.0, le-ltb greatest_number number most) refl
    ]

field_found : (offset : ℕ) (left : List ℕ) (field : Entry) (rest : List ℕ) → field_at offset left ≡ Ok (field, rest) → (spelling : List ℕ) × SpellsField spelling field × (left ≡ spelling ++ rest)
unfolding field_at
field_found offset left field rest e =
    let k = both_read (varint_at offset left) (λ key. number_at offset (key.0 / 8) >>= λ number. content_at offset (key.0 % 8) key.1 >>= λ content. Ok (record { number = number; value = content.0 }, content.1)) (field, rest) e in
    let key = varint_found offset left k.0.0 k.0.1 k.1 in
    let m = both_read (number_at offset (k.0.0 / 8)) (λ number. content_at offset (k.0.0 % 8) k.0.1 >>= λ content. Ok (record { number = number; value = content.0 }, content.1)) (field, rest) k.2 in
    let number = number_found offset (k.0.0 / 8) m.0 m.1 in
    let v = both_read (content_at offset (k.0.0 % 8) k.0.1) (λ content. Ok (record { number = m.0; value = content.0 }, content.1)) (field, rest) m.2 in
    let content = content_found offset (k.0.0 % 8) k.0.1 v.0.0 v.0.1 v.1 in
    let made : Entry = record { number = m.0; value = v.0.0 } in
    let same = same_read (made, v.0.1) (field, rest) v.2 in
    let key_is : k.0.0 ≡ 8 * m.0 + wire_type v.0.0 = omega (arith, number.same, content.wire_is) in
    let joined : left ≡ (key.0 ++ content.spelling) ++ v.0.1 = key.2 ∙ ap (λ (xs : List ℕ). key.0 ++ xs) content.joined ∙ sym (append_assoc key.0 content.spelling v.0.1) in
    let spelled : SpellsField (key.0 ++ content.spelling) made =
    record {
      at_least_one = number.at_least_one;
      at_most = number.at_most;
      key = key.0;
      value = content.spelling;
      key_spelled = subst (λ (n : ℕ). SpellsVarint key.0 n) key_is key.1;
      value_spelled = content.spelled;
      joined = refl;
    } in
    subst (λ (p : Entry × List ℕ). (spelling : List ℕ) × SpellsField spelling p.0 × (left ≡ spelling ++ p.1)) same (key.0 ++ content.spelling, spelled, joined)

wire_type-small : (content : Content) → wire_type content < 8
wire_type-small (VARINT n) = omega arith
wire_type-small (I64 xs) = omega arith
wire_type-small (LEN xs) = omega arith
wire_type-small (I32 xs) = omega arith

field_again : (offset : ℕ) (spelling rest : List ℕ) (field : Entry) → SpellsField spelling field → field_at offset (spelling ++ rest) ≡ Ok (field, rest)
unfolding field_at
field_again offset spelling rest field spelled =
    let small = wire_type-small field.value in
    let number : (8 * field.number + wire_type field.value) / 8 ≡ field.number = omega arith in
    let wire : (8 * field.number + wire_type field.value) % 8 ≡ wire_type field.value = omega arith in
    rw (
      spelled.joined,
      append_assoc spelled.key spelled.value rest,
      varint_again offset spelled.key (spelled.value ++ rest) (8 * field.number + wire_type field.value) spelled.key_spelled,
      number,
      wire,
      number_again offset field.number spelled.at_least_one spelled.at_most,
      content_again offset spelled.value rest field.value spelled.value_spelled,
    ) refl

field_has_bytes : (spelling : List ℕ) (field : Entry) → SpellsField spelling field → 1 ≤ length spelling
field_has_bytes spelling field spelled =
    let some = varint_has_bytes spelled.key (8 * field.number + wire_type field.value) spelled.key_spelled in
    omega (arith, ap length spelled.joined, length-append spelled.key spelled.value)

pub fields_read : Reads SpellsField field_at
fields_read = record { again = field_again; found = field_found; has_bytes = field_has_bytes }
