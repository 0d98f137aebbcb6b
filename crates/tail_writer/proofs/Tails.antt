-- A file that ends with a written tail.
use Rattle.std.proofs.Common.{◌≡◌, ℕ, ◌+◌, ◌-◌, ◌≤◌, true, false, List, [], ◌∷◌, ◌++◌, length, take, drop, Ok, Err, refl, ap, sym, subst, ◌∙◌, append_assoc, length-append, arith}
use Rattle.std.proofs.Math.Seq.{get_or-append_seam}
use Rattle.std.proofs.lemmas.Bool.{le-ltb, ne_eqb}
use Rattle.std.proofs.lemmas.List.{drop_at, take_at}
use Rattle.std.specs.Prelude.{slice_index, slice_range, ◌==◌, ◌||◌, nat_lt, if◌then◌else◌}
use Rattle.orc_tail.specs.declared.fault.TailFault.TheVariants.{TooShort}
use Rattle.orc_tail.specs.declared.columns.TopColumn.{TopColumn}
use Rattle.orc_tail.specs.declared.tail.Tail.{Tail}
use Rattle.orc_tail.specs.Reading.{◌>>=◌}
use Rattle.orc_tail.specs.Messages.{FooterMessage, footer_of, postscript_of}
use Rattle.orc_tail.specs.Tail.{greatest_len, most_stripes, last_byte, postscript_bytes, or_not_orc, span_before, footer_span, top_columns, stripes_within, stripes_end_by, tail_of_footer, tail}
use Rattle.footer_writer.specs.Ends.{IsPostScript, EndsFile}
use Rattle.tail_writer.specs.Tails.{IsTail}

-- the middle of three parts
middle : (a b c xs : List ℕ) (i j : ℕ) → xs ≡ a ++ (b ++ c) → length a ≡ i → i + length b ≡ j → slice_range xs i j ≡ b
middle a b c xs i j whole begins ends =
    let count : length b ≡ j - i = omega (arith, ends) in
    ap (λ (ys : List ℕ). take (j - i) (drop i ys)) whole ∙ ap (λ (ys : List ℕ). take (j - i) ys) (drop_at a (b ++ c) i begins) ∙ take_at b c (j - i) count

-- the last byte
last_is : (a xs : List ℕ) (p : ℕ) → xs ≡ a ++ p ∷ [] → last_byte xs ≡ p
last_is a xs p whole =
    let len : length xs - 1 ≡ length a = omega (arith, ap length whole, length-append a (p ∷ [])) in
    ap (λ (n : ℕ). slice_index xs n) len ∙ ap (λ (ys : List ℕ). slice_index ys (length a)) whole ∙ get_or-append_seam a p [] 0

-- where the footer lies, by the last byte and the bytes in front of it
span_from : (len p at footer_len : ℕ) (postscript : List ℕ) → IsPostScript postscript footer_len → len ≡ at + footer_len + p + 1
    → (if len == 0 || nat_lt len (p + 1) then Err TooShort else (or_not_orc (postscript_of postscript) >>= span_before len p)) ≡ Ok (record { at = at; len = footer_len })
unfolding span_before
span_from len p at footer_len postscript is_postscript counted =
    let some : (len == 0) ≡ false = ne_eqb len 0 (λ none. omega (arith, none, counted)) in
    let room : nat_lt len (p + 1) ≡ false = le-ltb len (p + 1) (omega (arith, counted)) in
    let inside : nat_lt len (footer_len + p + 1) ≡ false = le-ltb len (footer_len + p + 1) (omega (arith, counted)) in
    let begins : len - (footer_len + p + 1) ≡ at = omega (arith, counted) in
    rw (some, room, is_postscript, inside, begins) refl

span_is : (file postscript : List ℕ) (p at footer_len : ℕ) → last_byte file ≡ p → postscript_bytes file ≡ postscript → IsPostScript postscript footer_len
    → length file ≡ at + footer_len + p + 1 → footer_span (length file) file ≡ Ok (record { at = at; len = footer_len })
unfolding footer_span
span_is file postscript p at footer_len last bytes is_postscript len =
    span_from (length file) (last_byte file) at footer_len (postscript_bytes file) (subst (λ (xs : List ℕ). IsPostScript xs footer_len) (sym bytes) is_postscript)
    (omega (arith, len, last))

tail_is : (file footer : List ℕ) (at len : ℕ) (found : Tail) → length file ≤ greatest_len → footer_span (length file) file ≡ Ok (record { at = at; len = len })
    → slice_range file at (at + len) ≡ footer → tail_of_footer (length file) footer ≡ Ok found → tail file ≡ Ok found
unfolding tail
tail_is file footer at len found small span there read = rw (le-ltb greatest_len (length file) small, span, there, read) refl

footer_tail : (len : ℕ) (footer : List ℕ) (message : FooterMessage) (columns : List TopColumn) → footer_of footer ≡ Ok message → top_columns message.types ≡ Ok columns
    → length message.stripes ≤ most_stripes → stripes_end_by len message.stripes ≡ true → tail_of_footer len footer ≡ Ok (record { stripes = message.stripes; columns = columns })
unfolding tail_of_footer stripes_within
footer_tail len footer message columns read tops few inside = rw (read, tops, le-ltb most_stripes (length message.stripes) few, inside) refl

-- a file that ends with a footer, a PostScript for it and the PostScript's length
pub tail_read : (bytes footer : List ℕ) (message : FooterMessage) (columns : List TopColumn) → EndsFile bytes footer → footer_of footer ≡ Ok message → top_columns message.types ≡ Ok columns
    → IsTail bytes message.stripes columns
tail_read bytes footer message columns ends read tops front small few inside =
    let file = front ++ bytes in
    let p = length ends.postscript in
    let parts : file ≡ front ++ (footer ++ (ends.postscript ++ p ∷ [])) = ap (λ (xs : List ℕ). front ++ xs) ends.joined in
    let before : file ≡ (front ++ footer) ++ (ends.postscript ++ p ∷ []) = parts ∙ sym (append_assoc front footer (ends.postscript ++ p ∷ [])) in
    let all_but : file ≡ ((front ++ footer) ++ ends.postscript) ++ p ∷ [] = before ∙ sym (append_assoc (front ++ footer) ends.postscript (p ∷ [])) in
    let joined : length (front ++ footer) ≡ length front + length footer = length-append front footer in
    let len : length file ≡ length front + length footer + p + 1 =
    omega (arith, ap length all_but, length-append ((front ++ footer) ++ ends.postscript) (p ∷ []), length-append (front ++ footer) ends.postscript, joined) in
    let last : last_byte file ≡ p = last_is ((front ++ footer) ++ ends.postscript) file p all_but in
    let bytes_are : postscript_bytes file ≡ ends.postscript =
    middle (front ++ footer) ends.postscript (p ∷ []) file (length file - 1 - last_byte file) (length file - 1) before (omega (arith, len, last, joined)) (omega (arith, len, last)) in
    tail_is file footer (length front) (length footer) (record { stripes = message.stripes; columns = columns }) small
    (span_is file ends.postscript p (length front) (length footer) last bytes_are ends.is_postscript len)
    (middle front footer (ends.postscript ++ p ∷ []) file (length front) (length front + length footer) parts refl refl)
    (footer_tail (length file) footer message columns read tops few inside)
