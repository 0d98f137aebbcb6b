-- The number of a kind that is read is the one that it was read by; numbers without a kind aren't of those that are read.
use Rattle.std.proofs.Common.{◌≡◌, ℕ, ◌==◌, ◌||◌, Bool, true, false, Option, Some, None, if◌then◌else◌, refl, sym, ap, ◌∙◌}
use Rattle.std.proofs.lemmas.Bool.{eqb-true}
use Rattle.std.proofs.lemmas.Option.{same_Some}
use Rattle.scan_columns.specs.declared.kind.ReadKind.{ReadKind}
use Rattle.scan_columns.specs.declared.kind.ReadKind.TheVariants.{Boolean, Short, Int, Long, String}
use Rattle.fragment_meaning.specs.ScanColumns.{is_read_kind}
use Rattle.scan_columns.specs.Kinds.{kind_number, kind_of_number}

-- `kind_of_number` by the answers of its tests
abbrev by_tests : Bool → Bool → Bool → Bool → Bool → Option ReadKind
by_tests zero two three four seven =
    if zero then Some Boolean
    else (if two then Some Short
    else (if three then Some Int
    else (if four then Some Long
    else (if seven then Some String else None))))

numbered : (n m : ℕ) (k found : ReadKind) → (n == m) ≡ true → kind_number found ≡ m → Some found ≡ Some k → kind_number k ≡ n
numbered n m k found t is same = ap kind_number (sym (same_Some found k same)) ∙ is ∙ sym (eqb-true n m t)

kind_by : (n : ℕ) (k : ReadKind) (zero two three four seven : Bool)
    → (n == 0) ≡ zero → (n == 2) ≡ two → (n == 3) ≡ three → (n == 4) ≡ four → (n == 7) ≡ seven
    → by_tests zero two three four seven ≡ Some k → kind_number k ≡ n
kind_by n k true two three four seven t a b c d same = numbered n 0 k Boolean t refl same
kind_by n k false true three four seven t a b c d same = numbered n 2 k Short a refl same
kind_by n k false false true four seven t a b c d same = numbered n 3 k Int b refl same
kind_by n k false false false true seven t a b c d same = numbered n 4 k Long c refl same
kind_by n k false false false false true t a b c d same = numbered n 7 k String d refl same
kind_by n k false false false false false t a b c d same = absurd cc

pub is_kind : (n : ℕ) (k : ReadKind) → kind_of_number n ≡ Some k → kind_number k ≡ n
is_kind n k same = kind_by n k (n == 0) (n == 2) (n == 3) (n == 4) (n == 7) refl refl refl refl refl same

abbrev read_by : Bool → Bool → Bool → Bool → Bool → Bool
read_by zero two three four seven = zero || (two || three || four) || seven

unread_by : (zero two three four seven : Bool) → by_tests zero two three four seven ≡ None → read_by zero two three four seven ≡ false
unread_by true two three four seven is = absurd cc
unread_by false true three four seven is = absurd cc
unread_by false false true four seven is = absurd cc
unread_by false false false true seven is = absurd cc
unread_by false false false false true is = absurd cc
unread_by false false false false false is = refl

pub isnt_read : (n : ℕ) → kind_of_number n ≡ None → is_read_kind n ≡ false
isnt_read n is = unread_by (n == 0) (n == 2) (n == 3) (n == 4) (n == 7) is

pub is_read : (k : ReadKind) → is_read_kind (kind_number k) ≡ true
is_read Boolean = refl
is_read Short = refl
is_read Int = refl
is_read Long = refl
is_read String = refl
