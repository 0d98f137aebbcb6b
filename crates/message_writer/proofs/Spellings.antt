-- What is written is spelled.
use Rattle.std.proofs.Common.{◌≡◌, ℕ, ◌+◌, ◌*◌, ◌^◌, ◌<◌, ◌≤◌, List, [], ◌∷◌, ◌++◌, length, refl, subst, sym, ap, ◌∙◌, drop, get_or, suc, Fits, w64, Result, Ok, Err, append_assoc, arith}
use Rattle.std.proofs.Math.ListN.{drop_of_length-le}
use Rattle.std.proofs.lemmas.List.{append-nil}
use Rattle.std.specs.Prelude.{IfOk}
use Rattle.orc_proto.specs.Varint.{SpellsVarint, shortest}
use Rattle.orc_proto.specs.Message.{VARINT, LEN, PackedNumbers}
use Rattle.orc_proto.specs.Laws.{ShortestSpells}
use Rattle.message_writer.specs.Written.{number_spelling, bytes_spelling, packed, Adds}

no_more : (n : ℕ) → n ≡ n + 0
no_more n = omega arith

pub number_added : ShortestSpells → (before after : List ℕ) (field number : ℕ) → 1 ≤ field → field ≤ 536870911 → number < 2 ^ 64
    → after ≡ before ++ number_spelling field number → Adds before after field (VARINT number)
number_added spells before after field number some most fits written = record {
  spelling = number_spelling field number;
  spelled = record {
    at_least_one = some;
    at_most = most;
    key = shortest (8 * field);
    value = shortest number;
    key_spelled = subst (λ (n : ℕ). SpellsVarint (shortest (8 * field)) n) (no_more (8 * field)) (spells (8 * field) (omega arith));
    value_spelled = spells number fits;
    joined = refl;
  };
  joined = written;
}

pub bytes_added : ShortestSpells → (before after : List ℕ) (field : ℕ) (bytes : List ℕ) → 1 ≤ field → field ≤ 536870911 → length bytes < 2 ^ 64
    → after ≡ before ++ bytes_spelling field bytes → Adds before after field (LEN bytes)
bytes_added spells before after field bytes some most fits written = record {
  spelling = bytes_spelling field bytes;
  spelled = record {
    at_least_one = some;
    at_most = most;
    key = shortest (8 * field + 2);
    value = shortest (length bytes) ++ bytes;
    key_spelled = spells (8 * field + 2) (omega arith);
    value_spelled = (shortest (length bytes), spells (length bytes) fits, refl);
    joined = refl;
  };
  joined = written;
}

-- packed numbers that fit in 64 bits are spelled
pub packed_spells : ShortestSpells → (numbers : List ℕ) → ((i : ℕ) → Fits w64 (get_or numbers i 0)) → PackedNumbers (packed numbers) numbers
packed_spells spells [] fit = refl
packed_spells spells (number ∷ numbers) fit =
    let first : Fits w64 number = fit 0 in
    (shortest number, packed numbers, spells number first.fits, packed_spells spells numbers (λ i. fit (suc i)), refl)

-- all numbers were packed
pub all_packed : (bytes numbers : List ℕ) (count : ℕ) → length numbers ≤ count → bytes ++ packed (drop count numbers) ≡ packed numbers
    → PackedNumbers (packed numbers) numbers → PackedNumbers bytes numbers
all_packed bytes numbers count all so_far spelled =
    let nothing : drop count numbers ≡ [] = drop_of_length-le numbers all in
    let same : bytes ≡ packed numbers = sym (append-nil bytes) ∙ ap (λ (rest : List ℕ). bytes ++ packed rest) (sym nothing) ∙ so_far in
    subst (λ (xs : List ℕ). PackedNumbers xs numbers) (sym same) spelled

-- what holds of a value that was answered gives another thing that does
pub ok_then : {X E : Type 0} {P Q : X → Type 0} (r : Result X E) → ((x : X) → P x → Q x) → IfOk r P → IfOk r Q
ok_then (Ok x) f holds = f x holds
ok_then (Err e) f holds = holds

-- one part was written behind another
pub joined_twice : (first second keyed before after : List ℕ) → keyed ≡ before ++ first → after ≡ keyed ++ second → after ≡ before ++ (first ++ second)
joined_twice first second keyed before after one two = two ∙ ap (λ (xs : List ℕ). xs ++ second) one ∙ append_assoc before first second

pub joined_thrice : (key len bytes keyed counted before after : List ℕ) → keyed ≡ before ++ key → counted ≡ keyed ++ len → after ≡ counted ++ bytes → after ≡ before ++ (key ++ (len ++ bytes))
joined_thrice key len bytes keyed counted before after one two three =
    joined_twice key (len ++ bytes) keyed before after one (joined_twice len bytes counted keyed after two three)
