-- The PostScript that is written.
use Rattle.std.proofs.Common.{◌≡◌, ℕ, ◌+◌, ◌*◌, ◌^◌, ◌<◌, ◌≤◌, List, [], ◌∷◌, ◌++◌, length, ap, subst, ◌∙◌, append_assoc, length-append, arith}
use Rattle.orc_proto.specs.Message.{VARINT, LEN, Entry}
use Rattle.orc_proto.specs.Varint.{shortest}
use Rattle.orc_proto.specs.Laws.{ShortestSpells}
use Rattle.orc_tail.specs.Messages.{magic}
use Rattle.orc_tail.specs.Laws.{PostScriptsAreRead}
use Rattle.message_writer.specs.Written.{Adds, AddsPacked, number_spelling, bytes_spelling, packed}
use Rattle.footer_writer.specs.Ends.{IsPostScript, EndsFile}
use Rattle.footer_writer.proofs.Wholes.{field, field_more}

pub postscript_read : {a b c d e f : List ℕ} {version : List ℕ} (len : ℕ) → PostScriptsAreRead → a ≡ [] → Adds a b 1 (VARINT len) → Adds b c 2 (VARINT 0) → AddsPacked c d 4 version
    → Adds d e 5 (VARINT 0) → Adds e f 8000 (LEN magic) → IsPostScript f len
postscript_read {f = f} len read none x y z u v =
    let packs : Entry = record { number = 4; value = LEN z.bytes } in
    let last : Entry = record { number = 8000; value = LEN magic } in
    let four = field 1 len ∷ field 2 0 ∷ packs ∷ field 5 0 ∷ [] in
    read f (field 1 len ∷ field 2 0 ∷ packs ∷ field 5 0 ∷ last ∷ [])
    (field_more four (field_more (field 1 len ∷ field 2 0 ∷ packs ∷ []) (field_more (field 1 len ∷ field 2 0 ∷ []) (field_more (field 1 len ∷ []) (field_more [] none x) y) z.added) u) v)

few : ShortestSpells → (n : ℕ) → n < 2 ^ 64 → length (shortest n) ≤ 10
few spells n fits = let spelled = spells n fits in spelled.short

few_of_number : ShortestSpells → (number value : ℕ) → number ≤ 8000 → value < 2 ^ 64 → length (number_spelling number value) ≤ 20
few_of_number spells number value small fits =
    omega (arith, length-append (shortest (8 * number)) (shortest value), few spells (8 * number) (omega arith), few spells value fits)

few_of_bytes : ShortestSpells → (number : ℕ) (bytes : List ℕ) → number ≤ 8000 → length bytes ≤ 20 → length (bytes_spelling number bytes) ≤ 40
few_of_bytes spells number bytes small fits =
    omega (
      arith,
      length-append (shortest (8 * number + 2)) (shortest (length bytes) ++ bytes),
      length-append (shortest (length bytes)) bytes,
      few spells (8 * number + 2) (omega arith),
      few spells (length bytes) (omega arith),
    )

few_of_version : ShortestSpells → length (packed (0 ∷ 12 ∷ [])) ≤ 20
few_of_version spells =
    omega (arith, length-append (shortest 0) (packed (12 ∷ [])), length-append (shortest 12) [], few spells 0 (omega arith), few spells 12 (omega arith))

-- it has at most 255 bytes
pub postscript_short : {a b c d e f : List ℕ} (len : ℕ) → len < 2 ^ 64 → ShortestSpells → a ≡ [] → b ≡ a ++ number_spelling 1 len → c ≡ b ++ number_spelling 2 0
    → d ≡ c ++ bytes_spelling 4 (packed (0 ∷ 12 ∷ [])) → e ≡ d ++ number_spelling 5 0 → f ≡ e ++ bytes_spelling 8000 magic → length f ≤ 255
postscript_short {a} {b} {c} {d} {e} {f} len fits spells none x y z u v =
    omega (
      arith,
      ap length none,
      ap length x,
      length-append a (number_spelling 1 len),
      few_of_number spells 1 len (omega arith) fits,
      ap length y,
      length-append b (number_spelling 2 0),
      few_of_number spells 2 0 (omega arith) (omega arith),
      ap length z,
      length-append c (bytes_spelling 4 (packed (0 ∷ 12 ∷ []))),
      few_of_bytes spells 4 (packed (0 ∷ 12 ∷ [])) (omega arith) (few_of_version spells),
      ap length u,
      length-append d (number_spelling 5 0),
      few_of_number spells 5 0 (omega arith) (omega arith),
      ap length v,
      length-append e (bytes_spelling 8000 magic),
      few_of_bytes spells 8000 magic (omega arith) (omega arith),
    )

pub ends_file : (footer postscript lent joined after : List ℕ) (len last : ℕ) → IsPostScript postscript len → len ≡ length footer → length postscript ≤ 255 → lent ≡ postscript
    → joined ≡ footer ++ lent → last ≡ length postscript → after ≡ joined ++ last ∷ [] → EndsFile after footer
ends_file footer postscript lent joined after len last is_postscript counted short same behind is_last ended = record {
  postscript = postscript;
  is_postscript = subst (λ (n : ℕ). IsPostScript postscript n) counted is_postscript;
  short = short;
  joined =
      ended ∙ ap (λ (xs : List ℕ). xs ++ last ∷ []) (behind ∙ ap (λ (xs : List ℕ). footer ++ xs) same) ∙ append_assoc footer postscript (last ∷ [])
      ∙ ap (λ (n : ℕ). footer ++ (postscript ++ n ∷ [])) is_last;
}
