-- A file's last bytes say where its footer lies as the whole file does, and so the reads follow the plan.
use Rattle.std.proofs.Common.{◌≡◌, ℕ, zero, suc, ◌+◌, ◌-◌, ◌<◌, ◌≤◌, Bool, true, false, cond, eqb, ltb, ◌||◌, List, [], ◌∷◌, length, get_or, take, drop, Option, Some, None, Result, Ok, Err, refl, ◌∙◌, ap, subst, arith}
use Rattle.std.specs.Prelude.{All, slice_get, slice_range, option_map}
use Rattle.std.proofs.lemmas.Bool.Decides.{nat_tests}
use Rattle.std.proofs.lemmas.Bool.{or_parts, ltb-false, le-ltb, lt-ltb}
use Rattle.std.proofs.lemmas.List.{take_all, get_or-drop, drop-drop, length-drop}
use Rattle.outside.specs.declared.file_ref.FileRef.{FileRef}
use Rattle.outside.specs.Files.{File, Files, AreFiles, HasBytes, range_of}
use Rattle.outside.specs.Followed.{known, joined, and_then}
use Rattle.orc_tail.specs.declared.fault.TailFault.{TailFault}
use Rattle.orc_tail.specs.declared.fault.TailFault.TheVariants.{TooLarge, TooShort}
use Rattle.orc_tail.specs.declared.postscript.Span.{Span}
use Rattle.orc_tail.specs.declared.stripe.Stripe.{Stripe}
use Rattle.orc_tail.specs.Reading.{◌>>=◌}
use Rattle.orc_tail.specs.Messages.{postscript_of}
use Rattle.orc_tail.specs.Tail.{greatest_len, last_byte, postscript_bytes, or_not_orc, span_before, footer_span, tail_of_footer, tail}
use Rattle.orc_tail.specs.Reads.{end_len, end_at, footer_reads, tail_reads, tail_plan, range_plan, span_plan, footer_plan, stripe_footer_plan}
use Rattle.orc_tail.specs.StripeFooter.{footer_at, stripe_footer_in, stripe_footer}

cond_same : {A : Type 0} (t : Bool) (x y z : A) → (t ≡ false → y ≡ z) → cond t x y ≡ cond t x z
cond_same true x y z h = refl
cond_same false x y z h = h refl

-- the place of the footer depends on the last byte and the PostScript alone
span_by : (len : ℕ) (a b : List ℕ) → last_byte a ≡ last_byte b → (last_byte a + 1 ≤ len → postscript_bytes a ≡ postscript_bytes b) → footer_span len a ≡ footer_span len b
unfolding footer_span
span_by len a b same_byte same_postscript =
    cond_same _ (Err TooShort) (or_not_orc (postscript_of (postscript_bytes a)) >>= span_before len (last_byte a)) (or_not_orc (postscript_of (postscript_bytes b)) >>= span_before len (last_byte a))
    (λ t. ap (λ (xs : List ℕ). or_not_orc (postscript_of xs) >>= span_before len (last_byte a)) (same_postscript (ltb-false _ _ (or_parts (eqb len 0) (ltb len (last_byte a + 1)) t).1)))
    ∙ ap (λ (p : ℕ). cond (eqb len 0 || ltb len (p + 1)) (Err TooShort) (or_not_orc (postscript_of (postscript_bytes b)) >>= span_before len p)) same_byte

abbrev window : ℕ → List ℕ → List ℕ
window len bytes = slice_range bytes (end_at len) (end_at len + end_len len)

window_is : (len : ℕ) (bytes : List ℕ) → len ≡ length bytes → window len bytes ≡ drop (end_at len) bytes
window_is len bytes e = take_all _ _ (omega (arith, length-drop (end_at len) bytes))

get_end : (bytes : List ℕ) (n a b : ℕ) → n + a ≡ b → get_or (drop n bytes) a 0 ≡ get_or bytes b 0
get_end bytes n a b e = get_or-drop n bytes a 0 ∙ ap (λ (k : ℕ). get_or bytes k 0) e

-- the last byte is the same, and where the file has the PostScript so is that
window_span : (len : ℕ) (bytes : List ℕ) → len ≡ length bytes → 0 < len → All (λ b. b < 256) bytes → footer_span len (window len bytes) ≡ footer_span len bytes
window_span len bytes e some fits =
    let w : window len bytes ≡ drop (end_at len) bytes = window_is len bytes e in
    let p = last_byte bytes in
    let small : p < 256 = fits (length bytes - 1) 0 (omega arith) in
    let counted : length (drop (end_at len) bytes) ≡ end_len len = omega (arith, length-drop (end_at len) bytes) in
    let same_byte : last_byte (drop (end_at len) bytes) ≡ p = get_end bytes (end_at len) _ _ (omega arith) in
    ap (λ (xs : List ℕ). footer_span len xs) w
    ∙ span_by len (drop (end_at len) bytes) bytes same_byte (λ room.
    rw (same_byte, counted, drop-drop) (ap (λ (k : ℕ). take k (drop (end_at len + (end_len len - 1 - p)) bytes)) (omega arith) ∙ ap (λ (k : ℕ). take (length bytes - 1 - (length bytes - 1 - p)) (drop k bytes)) (omega arith)))

at_place : {X : Type 0} (P : X → Type 0) (xs : List X) (n : ℕ) (x : X) → All P xs → slice_get xs n ≡ Some x → P x
at_place P [] n x all e = absurd cc
at_place P (y ∷ ys) zero x all e = let same : y ≡ x = cc in subst P same (all 0 y (omega arith))
at_place P (y ∷ ys) (suc n) x all e = at_place P ys n x (λ k d lt. all (suc k) d (omega arith)) e

file_fits : (files : Files) (found : Option File) (bytes : List ℕ) → ((f : File) → found ≡ Some f → All (λ b. b < 256) f.1) → option_map (λ (f : File). f.1) found ≡ Some bytes → All (λ b. b < 256) bytes
file_fits files None bytes each e = absurd cc
file_fits files (Some f) bytes each e = let same : f.1 ≡ bytes = cc in subst (λ (xs : List ℕ). All (λ b. b < 256) xs) same (each f refl)

-- told files hold bytes
told_fits : (told : Option Files) → ((files : Files) → told ≡ Some files → AreFiles files) → (file : FileRef) (bytes : List ℕ) → HasBytes told file bytes → All (λ b. b < 256) bytes
told_fits None lawful file bytes has = let none = has.bytes_are in absurd cc
told_fits (Some files) lawful file bytes has =
    file_fits files (slice_get files file.number) bytes (λ f found. at_place (λ (f : File). All (λ b. b < 256) f.1) files file.number f (lawful files refl).bytes found) has.bytes_are

-- too long a file
pub long_plan : (file : FileRef) (bytes : List ℕ) → file.len ≡ length bytes → greatest_len < file.len → known (Err TooLarge) ≡ tail_plan file bytes
unfolding tail_plan tail tail_reads
long_plan file bytes e long =
    let test : ltb greatest_len file.len ≡ true = lt-ltb _ _ long in
    rw (← e, test) refl

-- an empty file
pub empty_plan : (file : FileRef) (bytes : List ℕ) → file.len ≡ length bytes → file.len ≡ 0 → known (Err TooShort) ≡ tail_plan file bytes
unfolding tail_plan tail tail_reads footer_span
empty_plan file bytes e none = rw (← e, none) refl

above-not_eqb : (n : ℕ) → 0 < n → eqb n 0 ≡ false
above-not_eqb n some = grind (arith, nat_tests)

-- the last bytes, and then the footer
after_span : (file : FileRef) (bytes : List ℕ) (r : Result Span TailFault) → joined r (range_of file (end_at file.len) (end_len file.len) ∷ []) (λ span. footer_plan file span bytes)
    ≡ record { answer = r >>= λ span. tail_of_footer file.len (slice_range bytes span.at (span.at + span.len)); reads = range_of file (end_at file.len) (end_len file.len) ∷ footer_reads file r }
after_span file bytes (Ok span) = refl
after_span file bytes (Err e) = refl

pub read_plan : (told : Option Files) → ((files : Files) → told ≡ Some files → AreFiles files) → (file : FileRef) → 0 < file.len → file.len ≤ greatest_len → (bytes : List ℕ) → HasBytes told file bytes
    → and_then (span_plan file bytes) (λ span. footer_plan file span bytes) ≡ tail_plan file bytes
unfolding tail_plan tail tail_reads
read_plan told lawful file some small bytes has =
    let e : file.len ≡ length bytes = has.len_is in
    let test : ltb greatest_len file.len ≡ false = le-ltb _ _ small in
    let nonempty = above-not_eqb file.len some in
    ap (λ (r : Result Span TailFault). joined r (range_of file (end_at file.len) (end_len file.len) ∷ []) (λ span. footer_plan file span bytes)) (window_span file.len bytes e some (told_fits told lawful file bytes has))
    ∙ after_span file bytes (footer_span file.len bytes) ∙ rw (← e, test, nonempty) refl

-- a stripe's footer
pub stripe_plan : (file : FileRef) (stripe : Stripe) (bytes : List ℕ)
    → and_then (range_plan file (footer_at stripe) stripe.footer_len bytes) (λ footer. known (stripe_footer_in stripe footer)) ≡ stripe_footer_plan file stripe bytes
unfolding stripe_footer_plan stripe_footer
stripe_plan file stripe bytes = refl
