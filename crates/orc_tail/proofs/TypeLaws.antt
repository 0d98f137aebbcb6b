-- What a type's fields give.
use Rattle.std.proofs.Common.{◌≡◌, ℕ, Bool, true, false, ◌&&◌, List, [], ◌∷◌, ◌++◌, Result, Ok, Err, refl, sym, ap, subst, ◌∙◌, arith}
use Rattle.std.specs.Prelude.{◌==◌, if◌then◌else◌}
use Rattle.std.proofs.lemmas.List.{append_assoc, append-nil}
use Rattle.orc_proto.specs.declared.fault.WireFault.{WireFault}
use Rattle.orc_proto.specs.Message.{Content, VARINT, I64, LEN, I32, Entry, PackedNumbers}
use Rattle.orc_proto.specs.Reading.{fields_of, numbers_of}
use Rattle.orc_proto.specs.Laws.{all_read, MessagesAreRead, ReadIsMessage, PackedAreRead, ReadIsPacked}
use Rattle.orc_tail.specs.declared.fault.TailFault.{TailFault}
use Rattle.orc_tail.specs.declared.fault.TailFault.TheVariants.{Wire}
use Rattle.orc_tail.specs.Reading.{◌>>=◌, fields_from, numbers_from, behind}
use Rattle.orc_tail.specs.Messages.{TypeMessage, type_value, type_field, type_of}
use Rattle.orc_tail.specs.Laws.{number_in, varints_of, bytes_in, bytes_of, last_or, Packs, GivesNumbers, Repeated, singular, TypesAreRead, TypesAreMessages}
use Rattle.orc_tail.proofs.MessageLaws.{read_as, refused_by}

numbers_all : (numbers : List ℕ) → numbers_from (all_read numbers) ≡ Ok numbers
numbers_all [] = refl
numbers_all (n ∷ numbers) = ap (λ (r : Result (List ℕ) TailFault). r >>= λ ns. Ok (n ∷ ns)) (numbers_all numbers)

last_append : (none : ℕ) (xs ys : List ℕ) → last_or (last_or none xs) ys ≡ last_or none (xs ++ ys)
last_append none [] ys = refl
last_append none (x ∷ xs) ys = last_append x xs ys

same_type : (kind kind' : ℕ) (subtypes subtypes' : List ℕ) (names names' : List (List ℕ)) → kind ≡ kind' → subtypes ≡ subtypes' → names ≡ names'
    → read_as TypeMessage (record { kind = kind; subtypes = subtypes; names = names }) ≡ Ok (record { kind = kind'; subtypes = subtypes'; names = names' })
same_type kind kind' subtypes subtypes' names names' a b c = rw (a, b, c) refl

-- a type after one field, which gives these numbers
abbrev type_by : TypeMessage → ℕ → Content → List ℕ → TypeMessage
type_by s number value numbers = record {
  kind = last_or s.kind (number_in 1 number value);
  subtypes = s.subtypes ++ numbers;
  names = s.names ++ bytes_in 3 number value;
}

kind_or_subtype : (number : ℕ) → (number == 1 && number == 2) ≡ false
kind_or_subtype number = grind arith

subtypes_or_name : (number : ℕ) → (number == 2 && number == 3) ≡ false
subtypes_or_name number = grind arith

varint_step : (one two : Bool) (s : TypeMessage) (n : ℕ) → (one && two) ≡ false
    → (if one then Ok (record s { kind = n }) else (if two then Ok (record s { subtypes = s.subtypes ++ n ∷ [] }) else read_as TypeMessage s))
    ≡ Ok (record { kind = last_or s.kind (if one then n ∷ [] else []); subtypes = s.subtypes ++ (if two then n ∷ [] else []); names = s.names ++ [] })
varint_step true true s n both = absurd (let no : true ≡ false = both in cc)
varint_step true false s n both = same_type _ _ _ _ _ _ refl (sym (append-nil s.subtypes)) (sym (append-nil s.names))
varint_step false true s n both = same_type _ _ _ _ _ _ refl refl (sym (append-nil s.names))
varint_step false false s n both = same_type _ _ _ _ _ _ refl (sym (append-nil s.subtypes)) (sym (append-nil s.names))

packed_step : (s : TypeMessage) (xs numbers : List ℕ) → numbers_of xs ≡ all_read numbers → behind s.subtypes (numbers_from (numbers_of xs)) ≡ Ok (s.subtypes ++ numbers)
packed_step s xs numbers read = ap (λ (r : Result (List ℕ) TailFault). behind s.subtypes r) (ap (λ (items : List (Result ℕ WireFault)). numbers_from items) read ∙ numbers_all numbers)

bytes_step : PackedAreRead → (two three : Bool) (s : TypeMessage) (xs numbers : List ℕ) → (two && three) ≡ false → Packs two xs numbers
    → (if two then (behind s.subtypes (numbers_from (numbers_of xs)) >>= λ ns. Ok (record s { subtypes = ns })) else (if three then Ok (record s { names = s.names ++ xs ∷ [] }) else read_as TypeMessage s))
    ≡ Ok (record { kind = s.kind; subtypes = s.subtypes ++ numbers; names = s.names ++ (if three then xs ∷ [] else []) })
bytes_step packed true true s xs numbers both packs = absurd (let no : true ≡ false = both in cc)
bytes_step packed true false s xs numbers both packs =
    ap (λ (r : Result (List ℕ) TailFault). r >>= λ ns. read_as TypeMessage (record s { subtypes = ns })) (packed_step s xs numbers (packed xs numbers packs))
    ∙ same_type _ _ _ _ _ _ refl refl (sym (append-nil s.names))
bytes_step packed false true s xs numbers both none = same_type _ _ _ _ _ _ refl (sym (ap (λ (ns : List ℕ). s.subtypes ++ ns) none ∙ append-nil s.subtypes)) refl
bytes_step packed false false s xs numbers both none = same_type _ _ _ _ _ _ refl (sym (ap (λ (ns : List ℕ). s.subtypes ++ ns) none ∙ append-nil s.subtypes)) (sym (append-nil s.names))

none_step : (s : TypeMessage) (numbers : List ℕ) → numbers ≡ [] → read_as TypeMessage s ≡ Ok (record { kind = s.kind; subtypes = s.subtypes ++ numbers; names = s.names ++ [] })
none_step s numbers none = same_type _ _ _ _ _ _ refl (sym (ap (λ (ns : List ℕ). s.subtypes ++ ns) none ∙ append-nil s.subtypes)) (sym (append-nil s.names))

type_step : PackedAreRead → (s : TypeMessage) (number : ℕ) (value : Content) (numbers : List ℕ) → GivesNumbers 2 number value numbers
    → type_value s number value ≡ Ok (type_by s number value numbers)
type_step packed s number (VARINT n) numbers gives =
    varint_step (number == 1) (number == 2) s n (kind_or_subtype number)
    ∙ same_type _ _ _ _ _ _ refl (ap (λ (ns : List ℕ). s.subtypes ++ ns) (sym gives)) refl
type_step packed s number (LEN xs) numbers gives = bytes_step packed (number == 2) (number == 3) s xs numbers (subtypes_or_name number) gives
type_step packed s number (I64 xs) numbers gives = none_step s numbers gives
type_step packed s number (I32 xs) numbers gives = none_step s numbers gives

type_fold : PackedAreRead → (s : TypeMessage) (fields : List Entry) (numbers : List ℕ) → Repeated 2 fields numbers
    → fields_from type_field s (all_read fields) ≡ Ok (record { kind = last_or s.kind (varints_of 1 fields); subtypes = s.subtypes ++ numbers; names = s.names ++ bytes_of 3 fields })
type_fold packed s [] numbers none = none_step s numbers none
type_fold packed s (field ∷ fields) numbers (first, rest, gives, others, joined) =
    ap (λ (r : Result TypeMessage TailFault). r >>= λ t. fields_from type_field t (all_read fields)) (type_step packed s field.number field.value first gives)
    ∙ type_fold packed (type_by s field.number field.value first) fields rest others
    ∙ same_type _ _ _ _ _ _ (last_append s.kind (number_in 1 field.number field.value) (varints_of 1 fields))
    (append_assoc s.subtypes first rest ∙ ap (λ (ns : List ℕ). s.subtypes ++ ns) (sym joined))
    (append_assoc s.names (bytes_in 3 field.number field.value) (bytes_of 3 fields))

pub types_are_read : MessagesAreRead → PackedAreRead → TypesAreRead
unfolding type_of
types_are_read read packed bytes fields numbers message repeated =
    ap (λ (items : List (Result Entry WireFault)). fields_from type_field (record { kind = 0; subtypes = []; names = [] }) items) (read bytes fields message)
    ∙ type_fold packed (record { kind = 0; subtypes = []; names = [] }) fields numbers repeated

-- ---- and only a message with such fields is read as a type

whole_numbers : (items : List (Result ℕ WireFault)) (numbers : List ℕ) → numbers_from items ≡ Ok numbers → items ≡ all_read numbers
whole_numbers [] numbers same = let is : [] ≡ numbers = cc in ap (λ (ns : List ℕ). all_read ns) is
whole_numbers (Err e ∷ items) numbers same = absurd (let no : refused_by (List ℕ) (Wire e) ≡ read_as (List ℕ) numbers = same in cc)
whole_numbers (Ok n ∷ items) numbers same =
    elim (numbers_from items) as (λ r. numbers_from items ≡ r → (r >>= λ ns. read_as (List ℕ) (n ∷ ns)) ≡ Ok numbers → Ok n ∷ items ≡ all_read numbers) [
      | Ok rest ↦ λ is all.
          let those : n ∷ rest ≡ numbers = cc in
          ap (λ (l : List (Result ℕ WireFault)). Ok n ∷ l) (whole_numbers items rest is) ∙ ap (λ (ns : List ℕ). all_read ns) those
      | Err e ↦ λ is fails. absurd (let no : refused_by (List ℕ) e ≡ read_as (List ℕ) numbers = fails in cc)
    ] refl same

-- what is made of the fields behind, once a field was read
abbrev type_from : List (Result Entry WireFault) → Result TypeMessage TailFault → Result TypeMessage TailFault
type_from items r = r >>= λ u. fields_from type_field u items

packs_some : ReadIsPacked → (s t : TypeMessage) (xs : List ℕ) (items : List (Result Entry WireFault)) (r : Result (List ℕ) TailFault)
    → numbers_from (numbers_of xs) ≡ r → type_from items (behind s.subtypes r >>= λ ns. read_as TypeMessage (record s { subtypes = ns })) ≡ Ok t
    → (first : List ℕ) × PackedNumbers xs first
packs_some only s t xs items (Ok numbers) is same = (numbers, only xs numbers (whole_numbers (numbers_of xs) numbers is))
packs_some only s t xs items (Err e) is same = absurd (let no : refused_by TypeMessage e ≡ read_as TypeMessage t = same in cc)

packs_first : ReadIsPacked → (two three : Bool) (s t : TypeMessage) (xs : List ℕ) (items : List (Result Entry WireFault))
    → type_from items (if two then (behind s.subtypes (numbers_from (numbers_of xs)) >>= λ ns. Ok (record s { subtypes = ns }))
    else (if three then Ok (record s { names = s.names ++ xs ∷ [] }) else read_as TypeMessage s)) ≡ Ok t
    → (first : List ℕ) × Packs two xs first
packs_first only true three s t xs items same = packs_some only s t xs items (numbers_from (numbers_of xs)) refl same
packs_first only false three s t xs items same = ([], refl)

gives_first : ReadIsPacked → (s t : TypeMessage) (number : ℕ) (value : Content) (items : List (Result Entry WireFault))
    → type_from items (type_value s number value) ≡ Ok t → (first : List ℕ) × GivesNumbers 2 number value first
gives_first only s t number (VARINT n) items same = (number_in 2 number (VARINT n), refl)
gives_first only s t number (LEN xs) items same = packs_first only (number == 2) (number == 3) s t xs items same
gives_first only s t number (I64 xs) items same = ([], refl)
gives_first only s t number (I32 xs) items same = ([], refl)

record TypeCame (items : List (Result Entry WireFault)) (s t : TypeMessage) : Type 0 where
  pub fields : List Entry
  pub whole : items ≡ all_read fields
  pub numbers : List ℕ
  pub repeated : Repeated 2 fields numbers
  pub subtypes : t.subtypes ≡ s.subtypes ++ numbers

type_came : PackedAreRead → ReadIsPacked → (items : List (Result Entry WireFault)) (s t : TypeMessage) → fields_from type_field s items ≡ Ok t → TypeCame items s t
type_came packed only [] s t same = record {
  fields = [];
  whole = refl;
  numbers = [];
  repeated = refl;
  subtypes = let is : s ≡ t = cc in ap (λ (u : TypeMessage). u.subtypes) (sym is) ∙ sym (append-nil s.subtypes);
}
type_came packed only (Err e ∷ items) s t same = absurd (let no : refused_by TypeMessage (Wire e) ≡ read_as TypeMessage t = same in cc)
type_came packed only (Ok field ∷ items) s t same =
    let f = gives_first only s t field.number field.value items same in
    let c = type_came packed only items (type_by s field.number field.value f.0) t
    (ap (type_from items) (sym (type_step packed s field.number field.value f.0 f.1)) ∙ same) in record {
      fields = field ∷ c.fields;
      whole = ap (λ (l : List (Result Entry WireFault)). Ok field ∷ l) c.whole;
      numbers = f.0 ++ c.numbers;
      repeated = (f.0, c.numbers, f.1, c.repeated, refl);
      subtypes = c.subtypes ∙ append_assoc s.subtypes f.0 c.numbers;
    }

pub types_are_messages : MessagesAreRead → ReadIsMessage → PackedAreRead → ReadIsPacked → TypesAreMessages
unfolding type_of
types_are_messages read only packed only_packed bytes t same =
    let c = type_came packed only_packed (fields_of bytes) (record { kind = 0; subtypes = []; names = [] }) t same in
    let message = only bytes c.fields c.whole in
    let all = types_are_read read packed bytes c.fields c.numbers message c.repeated in
    let is : t ≡ record { kind = singular 1 c.fields; subtypes = c.numbers; names = bytes_of 3 c.fields } = same_read t _ (sym same ∙ all) in record {
      fields = c.fields;
      message = message;
      kind = ap (λ (u : TypeMessage). u.kind) is;
      subtypes = subst (Repeated 2 c.fields) (sym c.subtypes) c.repeated;
      names = ap (λ (u : TypeMessage). u.names) is;
    }
  where
    same_read : (t u : TypeMessage) → read_as TypeMessage t ≡ read_as TypeMessage u → t ≡ u
    same_read t u same = cc
