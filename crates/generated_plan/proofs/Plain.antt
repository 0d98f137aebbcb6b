-- The plan over a generated file is plain.
use Rattle.std.proofs.Common.{◌≡◌, ℕ, zero, suc, ◌+◌, ◌<◌, ◌≤◌, ◌^◌, List, [], ◌∷◌, ◌++◌, length, position, bytes_eq, le-leb, ne_eqb, Bool, true, false, ◌&&◌, Some, None, refl, ap, ◌∙◌, arith, codes}
use Rattle.std.specs.Char.{is_ascii_digit}
use Rattle.std.specs.Fmt.{decimal}
use Rattle.std.specs.List.{list_all}
use Rattle.std.specs.Str.{all_ascii_digits}
use Rattle.std.specs.Str.Parse.{digits_value}
use Rattle.std.proofs.lemmas.Bool.Decides.{nat_tests}
use Rattle.std.proofs.lemmas.Fmt.{digits_decimal, length-decimal-le}
use Rattle.std.proofs.lemmas.List.Elements.{All-cons, All-nil}
use Rattle.std.proofs.lemmas.List.Folds.{list_all-append}
use Rattle.std.proofs.lemmas.List.{length-append}
use Rattle.std.proofs.lemmas.Str.Parse.{IsNumeralModel, numerals_by_value, tells_all_ascii_digits}
use Rattle.fragment_plan.specs.declared.fragment.Scan.{Scan}
use Rattle.fragment_plan.specs.declared.fragment.FoldKind.{FoldKind}
use Rattle.fragment_plan.specs.declared.fragment.FoldKind.TheVariants as fold
use Rattle.fragment_plan.specs.declared.shape.Shape.{Shape}
use Rattle.fragment_plan.specs.declared.fragment.Work.TheVariants as work
use Rattle.plan_words.specs.Names.{is_name_byte, is_name, is_file_name}
use Rattle.plan_text.specs.Plain.{IsDistinct, IsFold, IsPlain, IsScan, AreEarlier, ArePlain, named, places_of}
use Rattle.generated_plan.specs.Text.{file_name}
use Rattle.generated_plan.specs.Fragments.{plan_over, below, holds}

-- ---- the file's name

abbrev digits_told : List ℕ → Type 0
digits_told ds = all_ascii_digits ds ≡ true

own : IsNumeralModel digits_told (digits_value 10)
own = numerals_by_value digits_told tells_all_ascii_digits

pub both : (a b : Bool) → (a && b) ≡ true → (a ≡ true) × (b ≡ true)
both true b h = (refl, h)
both false b h = absurd cc

digit-stands : (b : ℕ) → is_ascii_digit b ≡ true → is_name_byte b ≡ true
digit-stands b h = grind (arith, nat_tests)

digits-stand : (ds : List ℕ) → all_ascii_digits ds ≡ true → list_all is_name_byte ds ≡ true
digits-stand [] h = refl
digits-stand (b ∷ ds) h = let parts = both (is_ascii_digit b) (all_ascii_digits ds) h in rw (digit-stands b parts.0) (digits-stand ds parts.1)

number-stands : (n : ℕ) → n < 2 ^ 32 → list_all is_name_byte (decimal n) ≡ true
number-stands n h = digits-stand (decimal n) (digits_decimal own n (omega (arith, h)))

stand-on : (xs ys : List ℕ) → list_all is_name_byte xs ≡ true → list_all is_name_byte ys ≡ true → list_all is_name_byte (xs ++ ys) ≡ true
stand-on xs ys h k = list_all-append is_name_byte xs ys ∙ ap (λ (t : Bool). t && list_all is_name_byte ys) h ∙ k

-- its parts
name-is : (first second : List ℕ) → list_all is_name_byte first ≡ true → list_all is_name_byte second ≡ true → length first ≤ 10 → length second ≤ 10
    → is_file_name (codes "gen-" ++ (first ++ (codes "-" ++ (second ++ codes ".orc")))) ≡ true
name-is first second h k short little =
    let bytes = stand-on first (codes "-" ++ (second ++ codes ".orc")) h (stand-on second (codes ".orc") k refl) in
    let len : length (first ++ (codes "-" ++ (second ++ codes ".orc"))) ≡ length first + suc (length second + 4) =
    length-append first (codes "-" ++ (second ++ codes ".orc")) ∙ ap (λ (n : ℕ). length first + suc n) (length-append second (codes ".orc")) in
    let within : suc (suc (suc (suc (length (first ++ (codes "-" ++ (second ++ codes ".orc"))))))) ≤ 64 = rw len (omega (arith, short, little)) in
    rw bytes (rw (ne_eqb (suc (suc (suc (suc (length (first ++ (codes "-" ++ (second ++ codes ".orc")))))))) 0 (λ e. omega (arith, e))) (rw (le-leb _ _ within) refl))

pub file_name_is : (number rows : ℕ) → number < 2 ^ 32 → rows < 2 ^ 32 → is_file_name (file_name number rows) ≡ true
unfolding file_name
file_name_is number rows few some =
    name-is (decimal number) (decimal rows) (number-stands number few) (number-stands rows some)
    (length-decimal-le 10 number (omega arith) (omega (arith, few)) (omega (arith, few))) (length-decimal-le 10 rows (omega arith) (omega (arith, some)) (omega (arith, some)))

-- ---- columns

distinct-id : IsDistinct (codes "id" ∷ [])
distinct-id zero lt = refl
distinct-id (suc k) lt = absurd (omega (arith, lt))

distinct-qty : IsDistinct (codes "qty" ∷ [])
distinct-qty zero lt = refl
distinct-qty (suc k) lt = absurd (omega (arith, lt))

distinct-city : IsDistinct (codes "city" ∷ [])
distinct-city zero lt = refl
distinct-city (suc k) lt = absurd (omega (arith, lt))

distinct-even : IsDistinct (codes "even" ∷ codes "id" ∷ [])
distinct-even zero lt = refl
distinct-even (suc zero) lt = refl
distinct-even (suc (suc k)) lt = absurd (omega (arith, lt))

distinct-note : IsDistinct (codes "id" ∷ codes "note" ∷ [])
distinct-note zero lt = refl
distinct-note (suc zero) lt = refl
distinct-note (suc (suc k)) lt = absurd (omega (arith, lt))

-- ---- fragments

none-earlier : (earlier : ℕ) → AreEarlier earlier []
none-earlier earlier = record { below = All-nil (λ (n : ℕ). n < earlier); few = omega arith }

both-earlier : AreEarlier 3 (1 ∷ 2 ∷ [])
both-earlier = record {
  below = All-cons (λ (n : ℕ). n < 3) 1 (2 ∷ []) (omega arith) (All-cons (λ (n : ℕ). n < 3) 2 [] (omega arith) (All-nil (λ (n : ℕ). n < 3)));
  few = omega arith;
}

-- a scan that nothing waits for, behind fragments of other names
scan-plain : (names : List (List ℕ)) (shapes : List Shape) (name : List ℕ) (scan : Scan) → is_name name ≡ true → position (bytes_eq name) names ≡ None
    → length names < 1000 → IsScan scan → IsPlain names shapes (record { name = name; work = work.Scan scan; after = [] })
scan-plain names shapes name scan named fresh room is = record {
  name_is = named;
  fresh = fresh;
  room = room;
  work_is = is;
  whole = refl;
  after_is = none-earlier (length names);
}

module _ (file : List ℕ) (file_is : is_file_name file ≡ true) where
  -- a scan of one column and without tests
  one-column : (folded : FoldKind) (column : List ℕ) → is_name column ≡ true → IsDistinct (column ∷ []) → IsFold folded → named 0 (places_of folded) ≡ Some 1
      → IsScan (record { file = file; columns = column ∷ []; fold = folded; tests = [] })
  one-column folded column is distinct fold_is places = record {
    file_is = file_is;
    columns_are = rw is refl;
    distinct = distinct;
    few = omega arith;
    fold_is = fold_is;
    behind = 1;
    fold_names = places;
    tests_name = refl;
    tests_few = omega arith;
    tests_are = tt;
  }

  all-rows : IsScan (record { file = file; columns = []; fold = fold.Count; tests = [] })
  all-rows = record {
    file_is = file_is;
    columns_are = refl;
    distinct = λ k lt. absurd (omega (arith, lt));
    few = omega arith;
    fold_is = tt;
    behind = 0;
    fold_names = refl;
    tests_name = refl;
    tests_few = omega arith;
    tests_are = tt;
  }

  even-rows : (most : ℕ) → most < 2 ^ 63
      → IsScan (record { file = file; columns = codes "even" ∷ codes "id" ∷ []; fold = fold.Count; tests = holds 0 ∷ below 1 most ∷ [] })
  even-rows most fits = record {
    file_is = file_is;
    columns_are = refl;
    distinct = distinct-even;
    few = omega arith;
    fold_is = tt;
    behind = 0;
    fold_names = refl;
    tests_name = refl;
    tests_few = omega arith;
    tests_are = ((tt, refl), ((fits, refl), tt));
  }

  first-rows : (most : ℕ) → most < 2 ^ 63
      → IsScan (record { file = file; columns = codes "id" ∷ codes "note" ∷ []; fold = fold.Rows (0 ∷ 1 ∷ []); tests = below 0 most ∷ [] })
  first-rows most fits = record {
    file_is = file_is;
    columns_are = refl;
    distinct = distinct-note;
    few = omega arith;
    fold_is = (omega arith, omega arith);
    behind = 2;
    fold_names = refl;
    tests_name = refl;
    tests_few = omega arith;
    tests_are = ((fits, refl), tt);
  }

  pub plain_over : (number : ℕ) → number < 2 ^ 32 → ArePlain [] (plan_over file number)
  plain_over number few = (
    scan-plain _ _ (codes "n") _ refl refl (omega arith) all-rows,
    (
      scan-plain _ _ (codes "s") _ refl refl (omega arith) (one-column (fold.Sum 0) (codes "id") refl distinct-id tt refl),
      (
        scan-plain _ _ (codes "q") _ refl refl (omega arith) (one-column (fold.Sum 0) (codes "qty") refl distinct-qty tt refl),
        (
          record {
            name_is = refl;
            fresh = refl;
            room = omega arith;
            work_is = (both-earlier, omega arith);
            whole = refl;
            after_is = none-earlier 3;
          },
          (
            scan-plain _ _ (codes "g") _ refl refl (omega arith) (one-column (fold.Group 0) (codes "city") refl distinct-city tt refl),
            (
              scan-plain _ _ (codes "f") _ refl refl (omega arith) (even-rows (number + 1000) (omega (arith, few))),
              (scan-plain _ _ (codes "r") _ refl refl (omega arith) (first-rows (number + 3) (omega (arith, few))), tt),
            ),
          ),
        ),
      ),
    ),
  )
