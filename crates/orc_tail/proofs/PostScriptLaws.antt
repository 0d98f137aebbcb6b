-- What a PostScript's fields give.
use Rattle.std.proofs.Common.{◌≡◌, ℕ, Bool, true, false, List, [], ◌∷◌, ◌++◌, Result, Ok, refl, ap, ◌∙◌, map, arith}
use Rattle.std.specs.Prelude.{◌==◌, if◌then◌else◌, bytes_eq}
use Rattle.orc_proto.specs.declared.fault.WireFault.{WireFault}
use Rattle.orc_proto.specs.Message.{Content, VARINT, I64, LEN, I32, Entry}
use Rattle.orc_proto.specs.Laws.{all_read, MessagesAreRead}
use Rattle.orc_tail.specs.declared.postscript.PostScript.{PostScript}
use Rattle.orc_tail.specs.Reading.{fields_from}
use Rattle.orc_tail.specs.Messages.{magic, postscript_value, postscript_field, postscript_of}
use Rattle.orc_tail.specs.Laws.{varints_of, bytes_in, bytes_of, last_or, PostScriptsAreRead}
use Rattle.orc_tail.proofs.MessageLaws.{read_as, field_step}

abbrev is_magic : List ℕ → Bool
is_magic xs = bytes_eq xs magic

length_step : (s : PostScript) (number n : ℕ) → (postscript_value s number (VARINT n)).footer_length ≡ (if number == 1 then n else s.footer_length)
length_step s number n = grind arith

compression_step : (s : PostScript) (number n : ℕ) → (postscript_value s number (VARINT n)).compression ≡ (if number == 2 then n else s.compression)
compression_step s number n = grind arith

magic_stays : (one two : Bool) (s : PostScript) (n : ℕ) → (if one then record s { footer_length = n } else (if two then record s { compression = n } else s)).is_orc ≡ s.is_orc
magic_stays true two s n = refl
magic_stays false true s n = refl
magic_stays false false s n = refl

length_stays : (is found : Bool) (s : PostScript) → (if is then record s { is_orc = found } else s).footer_length ≡ s.footer_length
length_stays true found s = refl
length_stays false found s = refl

compression_stays : (is found : Bool) (s : PostScript) → (if is then record s { is_orc = found } else s).compression ≡ s.compression
compression_stays true found s = refl
compression_stays false found s = refl

magic_found : (is : Bool) (s : PostScript) (xs : List ℕ) (rest : List (List ℕ))
    → last_or (if is then record s { is_orc = is_magic xs } else s).is_orc (map is_magic rest) ≡ last_or s.is_orc (map is_magic ((if is then xs ∷ [] else []) ++ rest))
magic_found true s xs rest = refl
magic_found false s xs rest = refl

magic_step : (s : PostScript) (number : ℕ) (v : Content) (rest : List (List ℕ))
    → last_or (postscript_value s number v).is_orc (map is_magic rest) ≡ last_or s.is_orc (map is_magic (bytes_in 8000 number v ++ rest))
magic_step s number (VARINT n) rest = ap (λ (found : Bool). last_or found (map is_magic rest)) (magic_stays (number == 1) (number == 2) s n)
magic_step s number (LEN xs) rest = magic_found (number == 8000) s xs rest
magic_step s number (I64 xs) rest = refl
magic_step s number (I32 xs) rest = refl

abbrev postscript_by : PostScript → List Entry → PostScript
postscript_by s fields = record {
  footer_length = last_or s.footer_length (varints_of 1 fields);
  compression = last_or s.compression (varints_of 2 fields);
  is_orc = last_or s.is_orc (map is_magic (bytes_of 8000 fields));
}

same_postscript : (len len' compression compression' : ℕ) (found found' : Bool) → len ≡ len' → compression ≡ compression' → found ≡ found'
    → read_as PostScript (record { footer_length = len; compression = compression; is_orc = found }) ≡ Ok (record { footer_length = len'; compression = compression'; is_orc = found' })
same_postscript len len' compression compression' found found' a b c = rw (a, b, c) refl

postscript_fold : (s : PostScript) (fields : List Entry) → fields_from postscript_field s (all_read fields) ≡ Ok (postscript_by s fields)
postscript_fold s [] = refl
postscript_fold s (field ∷ fields) =
    postscript_fold (postscript_value s field.number field.value) fields ∙ same_postscript _ _ _ _ _ _
    (field_step postscript_value (λ s. s.footer_length) 1 length_step (λ s number xs. length_stays (number == 8000) (is_magic xs) s) (λ _ _ _. refl) (λ _ _ _. refl) s field.number field.value (varints_of 1 fields))
    (field_step postscript_value (λ s. s.compression) 2 compression_step (λ s number xs. compression_stays (number == 8000) (is_magic xs) s) (λ _ _ _. refl) (λ _ _ _. refl) s field.number field.value (varints_of 2 fields))
    (magic_step s field.number field.value (bytes_of 8000 fields))

-- what the last gives is the last of what each gives
last_of_map : (none : List ℕ) (found : List (List ℕ)) → last_or (is_magic none) (map is_magic found) ≡ is_magic (last_or none found)
last_of_map none [] = refl
last_of_map none (xs ∷ found) = last_of_map xs found

pub postscripts_are_read : MessagesAreRead → PostScriptsAreRead
unfolding postscript_of
postscripts_are_read read bytes fields message =
    ap (λ (items : List (Result Entry WireFault)). fields_from postscript_field (record { footer_length = 0; compression = 0; is_orc = false }) items) (read bytes fields message)
    ∙ postscript_fold (record { footer_length = 0; compression = 0; is_orc = false }) fields
    ∙ same_postscript _ _ _ _ _ _ refl refl (last_of_map [] (bytes_of 8000 fields))
