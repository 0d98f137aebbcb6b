-- The plan over a generated file is read as its fragments.
use Rattle.std.proofs.Common.{◌≡◌, ℕ, ◌+◌, ◌*◌, ◌<◌, ◌≤◌, ◌^◌, ◌==◌, ◌&&◌, not, nat_le, leb-true, true, List, [], ◌∷◌, ◌++◌, length, Ok, refl, sym, subst, arith, append-nil, codes}
use Rattle.std.specs.Fmt.{decimal}
use Rattle.std.specs.List.{list_all}
use Rattle.std.proofs.lemmas.Fmt.{length-decimal-le}
use Rattle.std.proofs.lemmas.List.{length-append}
use Rattle.fragment_plan.specs.Plan.{plan_of}
use Rattle.plan_words.specs.Names.{is_name_byte, is_name, is_hidden, is_file_name}
use Rattle.plan_text.specs.Laws.{PlansAreRead}
use Rattle.plan_text.specs.Written.{plan_text}
use Rattle.generated_plan.specs.Text.{file_name, generated_plan, plan_lines, text_of}
use Rattle.generated_plan.specs.Fragments.{plan_over}
use Rattle.generated_plan.specs.Laws.{GeneratedPlansAreRead}
use Rattle.generated_plan.proofs.Plain.{both, file_name_is, plain_over}

-- ---- the text

text-is : (file : List ℕ) (number : ℕ) → plan_text (plan_over file number) ≡ text_of (plan_lines file number)
text-is file number = rw (append-nil file, append-nil (decimal (number + 1000)), append-nil (decimal (number + 3))) refl

-- ---- its length

abbrev AreShort : List (List ℕ) → Type 0
AreShort [] = Unit {0}
AreShort (line ∷ lines) = (length line ≤ 200) × AreShort lines

text-short : (lines : List (List ℕ)) → AreShort lines → length (text_of lines) ≤ 201 * length lines
text-short [] h = omega arith
text-short (line ∷ lines) h = omega (arith, length-append line (10 ∷ text_of lines), text-short lines h.1, h.0)

digits-few : (n : ℕ) → n < 2 ^ 33 → length (decimal n) ≤ 20
digits-few n h = length-decimal-le 20 n (omega arith) (omega (arith, h)) (omega (arith, h))

text-len : (file : List ℕ) (number : ℕ) → number < 2 ^ 32 → length file ≤ 64 → length (text_of (plan_lines file number)) ≤ 1048576
text-len file number few short =
    let even = length-append file (codes " where even = true and id < " ++ decimal (number + 1000)) in
    let first = length-append file (codes " where id < " ++ decimal (number + 3)) in
    let thousand = digits-few (number + 1000) (omega (arith, few)) in
    let three = digits-few (number + 3) (omega (arith, few)) in
    omega (
      arith,
      text-short (plan_lines file number) (
        omega (arith, short),
        (
          omega (arith, short),
          (
            omega (arith, short),
            (
              omega arith,
              (
                omega (arith, short),
                (omega (arith, even, short, thousand), (omega (arith, first, short, three), tt)),
              ),
            ),
          ),
        ),
      ),
    )

name-short : (bytes : List ℕ) → is_file_name bytes ≡ true → length bytes ≤ 64
name-short bytes h =
    let named = both (is_name bytes) (not (is_hidden bytes)) h in
    let within = both (not (length bytes == 0) && nat_le (length bytes) 64) (list_all is_name_byte bytes) named.0 in
    leb-true (length bytes) 64 (both (not (length bytes == 0)) (nat_le (length bytes) 64) within.0).1

pub generated_read : PlansAreRead → GeneratedPlansAreRead
unfolding generated_plan
generated_read read number rows few some =
    let file = file_name number rows in
    let is = file_name_is number rows few some in
    let same = text-is file number in
    let fits = subst (λ (text : List ℕ). length text ≤ 1048576) (sym same) (text-len file number few (name-short file is)) in
    subst (λ (text : List ℕ). plan_of text ≡ Ok (plan_over file number)) same (read (plan_over file number) (plain_over file is number few) fits)
