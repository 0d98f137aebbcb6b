-- Numbers above a base, and their patches.
use Rattle.std.proofs.Common.{◌≡◌, ℕ, zero, suc, ◌+◌, ◌*◌, ◌/◌, ◌%◌, ◌^◌, ◌<◌, ◌≤◌, List, [], ◌∷◌, ◌++◌, length, map, get_or, set, take, Option, Some, None, Bool, true, false, eqb, ltb, refl, sym, ap, subst, ◌∙◌, append_assoc, length-append, arith}
use Rattle.std.specs.Prelude.{◌&&◌, IfSome}
use Rattle.std.proofs.Math.Nat.{mul-add-mod_self_right, mul-add-div_right, div-add-mod, div-eq_of_lt, mod-eq_of_lt, lt-div-mul-add, pow-le-pow_right}
use Rattle.std.proofs.Math.Seq.{set-append_seam, get_or-append_seam}
use Rattle.std.proofs.lemmas.Nat.{pow_pos, mod_below}
use Rattle.std.proofs.lemmas.Bool.{ne_eqb, lt-ltb}
use Rattle.std.specs.List.{AllByRecursion}
use Rattle.orc_rle2.specs.declared.patches.Shape.{Shape}
use Rattle.orc_rle2.specs.Patches.{gap_of, patch_of, only_moves, patched_value, patched}
use Rattle.rle2_writer.specs.Entries.{Entries, none, low, high}
use Rattle.rle2_writer.proofs.PackedBits.{below_more}

-- ---- an entry

gap_is : (gap patch p : ℕ) → patch < 2 ^ p → gap < 256 → (gap * 2 ^ p + patch) / 2 ^ p % 2 ^ 8 ≡ gap
gap_is gap patch p h k =
    let z : gap + 0 ≡ gap = omega arith in
    let e : (gap * 2 ^ p + patch) / 2 ^ p ≡ gap = mul-add-div_right (pow_pos p) gap patch ∙ ap (λ (n : ℕ). gap + n) (div-eq_of_lt h) ∙ z in
    ap (λ (n : ℕ). n % 256) e ∙ omega arith

patch_is : (gap patch p : ℕ) → patch < 2 ^ p → (gap * 2 ^ p + patch) % 2 ^ p ≡ patch
patch_is gap patch p h = mul-add-mod_self_right gap (2 ^ p) patch ∙ mod-eq_of_lt h

-- ---- a number and its bits above a width

turned : (p q r n : ℕ) → p * q + r ≡ n → r + q * p ≡ n
turned p q r n e = omega (arith, e)

whole_is : (width number : ℕ) → number < 2 ^ 64 → (number % 2 ^ width % 2 ^ width + number / 2 ^ width * 2 ^ width) % 2 ^ 64 ≡ number
whole_is width number h =
    let below : number % 2 ^ width < 2 ^ width = mod_below number (2 ^ width) (pow_pos width) in
    let same : number % 2 ^ width % 2 ^ width ≡ number % 2 ^ width = mod-eq_of_lt below in
    let parts : 2 ^ width * (number / 2 ^ width) + number % 2 ^ width ≡ number = div-add-mod number (2 ^ width) in
    let all : number % 2 ^ width + number / 2 ^ width * 2 ^ width ≡ number = turned (2 ^ width) (number / 2 ^ width) (number % 2 ^ width) number parts in
    ap (λ (n : ℕ). (n + number / 2 ^ width * 2 ^ width) % 2 ^ 64) same ∙ ap (λ (n : ℕ). n % 2 ^ 64) all ∙ omega arith

no_more : (p q r n : ℕ) → q ≡ 0 → p * q + r ≡ n → r ≡ n
no_more p q r n e parts = let z : p * 0 + r ≡ r = omega arith in sym z ∙ sym (ap (λ (x : ℕ). p * x + r) e) ∙ parts

low_is : (width number : ℕ) → number / 2 ^ width ≡ 0 → number % 2 ^ width ≡ number
low_is width number e =
    let parts : 2 ^ width * (number / 2 ^ width) + number % 2 ^ width ≡ number = div-add-mod number (2 ^ width) in
    no_more (2 ^ width) (number / 2 ^ width) (number % 2 ^ width) number e parts

-- the lowest bits of each number
abbrev pub low_bits : ℕ → List ℕ → List ℕ
low_bits width numbers = map (λ number. number % 2 ^ width) numbers

pub low_fits : (width : ℕ) (numbers : List ℕ) (k : ℕ) → get_or (low_bits width numbers) k 0 < 2 ^ width
low_fits width [] k = pow_pos width
low_fits width (n ∷ numbers) zero = mod_below n (2 ^ width) (pow_pos width)
low_fits width (n ∷ numbers) (suc k) = low_fits width numbers k

pub entries_fit : {width patches gap : ℕ} {numbers entries : List ℕ} → Entries width patches gap numbers entries → (k : ℕ) → get_or entries k 0 < 2 ^ (8 + patches)
entries_fit {width = _} {patches = p} (none gap) k = pow_pos (8 + p)
entries_fit (low gap number numbers entries e more) k = entries_fit more k
entries_fit {width = w} {patches = p} (high gap number numbers entries some fits near more) zero = below_more gap 8 p (number / 2 ^ w) near fits
entries_fit (high gap number numbers entries some fits near more) (suc k) = entries_fit more k

-- ---- entries, one by one

take_one_more : (count first : ℕ) (others : List ℕ) → take (count + 1) (first ∷ others) ≡ first ∷ take count others
take_one_more count first others = let e : count + 1 ≡ suc count = omega arith in ap (λ (n : ℕ). take n (first ∷ others)) e

zero_times : (n : ℕ) → 0 * n ≡ 0
zero_times n = omega arith

no_bits_above : (number p : ℕ) → number / 2 ^ p ≡ 0 → number < 2 ^ p
no_bits_above number p e =
    let h : number < number / 2 ^ p * 2 ^ p + 2 ^ p = lt-div-mul-add (pow_pos p) in
    let z : number / 2 ^ p * 2 ^ p ≡ 0 = ap (λ (n : ℕ). n * 2 ^ p) e ∙ zero_times (2 ^ p) in
    omega (arith, h, z)

pub next_none : (width patches gap : ℕ) (numbers : List ℕ) → length numbers ≡ 0 → Entries width patches gap numbers []
next_none width patches gap [] e = none gap
next_none width patches gap (n ∷ numbers) e = absurd (omega (arith, e))

pub next_low : (width patches gap number count : ℕ) (numbers others into : List ℕ) → numbers ≡ number ∷ others → number / 2 ^ width ≡ 0 → Entries width patches (gap + 1) others (take count into) → Entries width patches gap numbers (take count into)
next_low width patches gap number count numbers others into is zero_above more = subst (λ (l : List ℕ). Entries width patches gap l (take count into)) (sym is) (low gap number others (take count into) zero_above more)

pub next_high : (width patches gap number entry count : ℕ) (numbers others into : List ℕ) → numbers ≡ number ∷ others → 0 < number / 2 ^ width → gap < 256 → number / 2 ^ width / 2 ^ patches ≡ 0 → entry ≡ gap * 2 ^ patches + number / 2 ^ width
    → Entries width patches 1 others (take count into) → Entries width patches gap numbers (take (count + 1) (entry ∷ into))
next_high width patches gap number entry count numbers others into is some near small entry_is more =
    let run = high gap number others (take count into) some (no_bits_above (number / 2 ^ width) patches small) near more in
    let listed : take (count + 1) (entry ∷ into) ≡ (gap * 2 ^ patches + number / 2 ^ width) ∷ take count into = take_one_more count entry into ∙ ap (λ (n : ℕ). n ∷ take count into) entry_is in
    subst (λ (l : List ℕ). Entries width patches gap l (take (count + 1) (entry ∷ into))) (sym is)
    (subst (λ (l : List ℕ). Entries width patches gap (number ∷ others) l) (sym listed) run)

pub fits_wider : (number n m : ℕ) → number < 2 ^ n → n ≤ m → number < 2 ^ m
fits_wider number n m h within = let some : 0 < 2 = omega arith in omega (arith, h, pow-le-pow_right some within)

pub all_fit : (numbers : List ℕ) → ((k : ℕ) → get_or numbers k 0 < 2 ^ 64) → AllByRecursion (λ number. number < 2 ^ 64) numbers
all_fit [] h = tt
all_fit (n ∷ numbers) h = (h 0, all_fit numbers (λ k. h (suc k)))

-- ---- all patches

seam : (front numbers : List ℕ) (number : ℕ) → front ++ number ∷ numbers ≡ (front ++ number ∷ []) ++ numbers
seam front numbers number = sym (append_assoc front (number ∷ []) numbers)

one_more : (front : List ℕ) (number count : ℕ) → length front ≡ count → length (front ++ number ∷ []) ≡ count + 1
one_more front number count e = omega (arith, e, length-append front (number ∷ []))

and_false : (b : Bool) → (b && false) ≡ false
and_false true = refl
and_false false = refl

never_moves : (gap patch : ℕ) → 0 < patch → (eqb gap 255 && eqb patch 0) ≡ false
never_moves gap patch h = let t : eqb patch 0 ≡ false = ne_eqb patch 0 (λ e. absurd (omega (arith, e, h))) in rw t (and_false (eqb gap 255))

-- an entry that patches the number behind a front
patch_once : (shape : Shape) (position gap number : ℕ) (entries front behind : List ℕ) → shape.gaps ≡ 8 → length front ≡ position + gap → 0 < number / 2 ^ shape.values → number / 2 ^ shape.values < 2 ^ shape.patches → gap < 256 → number < 2 ^ 64
    → patched shape position ((gap * 2 ^ shape.patches + number / 2 ^ shape.values) ∷ entries) (front ++ number % 2 ^ shape.values ∷ behind) ≡ patched shape (length front) entries (front ++ number ∷ behind)
patch_once shape position gap number entries front behind eight len some fits near below =
    let w = shape.values in
    let p = shape.patches in
    let patch = number / 2 ^ w in
    let entry = gap * 2 ^ p + patch in
    let g : gap_of shape entry ≡ gap = ap (λ (n : ℕ). entry / 2 ^ p % 2 ^ n) eight ∙ gap_is gap patch p fits near in
    let q : patch_of shape entry ≡ patch = patch_is gap patch p fits in
    let moves : only_moves shape entry ≡ false = never_moves (gap_of shape entry) (patch_of shape entry) (omega (arith, q, some)) in
    let at : position + gap_of shape entry ≡ length front = ap (λ (n : ℕ). position + n) g ∙ sym len in
    let values = front ++ number % 2 ^ w ∷ behind in
    let inside : ltb (position + gap_of shape entry) (length values) ≡ true = lt-ltb (position + gap_of shape entry) (length values) (omega (arith, at, length-append front (number % 2 ^ w ∷ behind))) in
    let value : patched_value w (patch_of shape entry) (get_or values (length front) 0) ≡ number =
    ap (λ (n : ℕ). patched_value w n (get_or values (length front) 0)) q ∙ ap (patched_value w patch) (get_or-append_seam front (number % 2 ^ w) behind 0) ∙ whole_is w number below in
    let is : set values (position + gap_of shape entry) (patched_value w (patch_of shape entry) (get_or values (position + gap_of shape entry) 0)) ≡ front ++ number ∷ behind =
    ap (λ (n : ℕ). set values n (patched_value w (patch_of shape entry) (get_or values n 0))) at ∙ ap (set values (length front)) value ∙ set-append_seam front (number % 2 ^ w) behind number in
    rw moves (rw inside (ap (λ (l : List ℕ). patched shape (position + gap_of shape entry) entries l) is ∙ ap (λ (n : ℕ). patched shape n entries (front ++ number ∷ behind)) at))

pub patched_all : (shape : Shape) {gap : ℕ} {numbers entries : List ℕ} → shape.gaps ≡ 8 → Entries shape.values shape.patches gap numbers entries → AllByRecursion (λ number. number < 2 ^ 64) numbers → (position : ℕ) (front : List ℕ) → length front ≡ position + gap
    → patched shape position entries (front ++ low_bits shape.values numbers) ≡ Some (front ++ numbers)
patched_all shape eight (none gap) below position front len = refl
patched_all shape eight (low gap number numbers entries e more) below position front len =
    ap (λ (n : ℕ). patched shape position entries (front ++ n ∷ low_bits shape.values numbers)) (low_is shape.values number e)
    ∙ ap (patched shape position entries) (seam front (low_bits shape.values numbers) number)
    ∙ patched_all shape eight more below.1 position (front ++ number ∷ []) (one_more front number (position + gap) len ∙ omega arith)
    ∙ ap (λ (l : List ℕ). Some l) (sym (seam front numbers number))
patched_all shape eight (high gap number numbers entries some fits near more) below position front len =
    patch_once shape position gap number entries front (low_bits shape.values numbers) eight len some fits near below.0
    ∙ ap (patched shape (length front) entries) (seam front (low_bits shape.values numbers) number)
    ∙ patched_all shape eight more below.1 (length front) (front ++ number ∷ []) (one_more front number (length front) refl)
    ∙ ap (λ (l : List ℕ). Some l) (sym (seam front numbers number))

pub IfSome-then : {T : Type 0} (r : Option T) {P Q : T → Type 0} → IfSome r P → ((x : T) → P x → Q x) → IfSome r Q
IfSome-then (Some x) h f = f x h
IfSome-then None h f = tt
