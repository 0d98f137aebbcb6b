-- Where the parts of a stripe lie.
use Rattle.std.proofs.Common.{◌≡◌, ℕ, ◌+◌, ◌-◌, ◌≤◌, List, [], ◌∷◌, ◌++◌, length, map, take, drop, refl, ap, sym, ◌∙◌, append_assoc, length-append, arith}
use Rattle.std.proofs.lemmas.List.{drop_at, take_at}
use Rattle.std.proofs.lemmas.List.Sums.{sum_by-cons}
use Rattle.std.specs.Prelude.{slice_range, sum_by}
use Rattle.orc_tail.specs.declared.stripe.Stripe.{Stripe}
use Rattle.orc_tail.specs.declared.encoding.Encoding.{Encoding}
use Rattle.orc_tail.specs.StripeFooter.{footer_at, placed}
use Rattle.footer_writer.specs.declared.stream_part.StreamPart.{StreamPart}
use Rattle.footer_writer.specs.Views.{Stream, part_view}
use Rattle.footer_writer.specs.Made.{IsStripeFooter}
use Rattle.file_writer.specs.Stripes.{joined_texts, bytes_at, HasStripe}

-- the middle of three parts
middle : (a b c xs : List ℕ) (i j : ℕ) → xs ≡ a ++ (b ++ c) → length a ≡ i → i + length b ≡ j → slice_range xs i j ≡ b
middle a b c xs i j whole begins ends =
    let count : length b ≡ j - i = omega (arith, ends) in
    ap (λ (ys : List ℕ). take (j - i) (drop i ys)) whole ∙ ap (λ (ys : List ℕ). take (j - i) ys) (drop_at a (b ++ c) i begins) ∙ take_at b c (j - i) count

same_bytes : (x y : List ℕ) (xs ys : List (List ℕ)) → x ≡ y → xs ≡ ys → x ∷ xs ≡ y ∷ ys
same_bytes x y xs ys first others = rw (first, others) refl

head_same : (x y : ℕ) (xs ys : List ℕ) → x ∷ xs ≡ y ∷ ys → x ≡ y
head_same x y xs ys same = cc

tail_same : (x y : ℕ) (xs ys : List ℕ) → x ∷ xs ≡ y ∷ ys → xs ≡ ys
tail_same x y xs ys same = cc

-- each stream has its text
streams_have : (file front rest : List ℕ) (at : ℕ) (streams : List StreamPart) (texts : List (List ℕ)) → map (λ s. s.len) streams ≡ map length texts → length front ≡ at
    → file ≡ front ++ (joined_texts texts ++ rest) → bytes_at file (placed at (map part_view streams)) ≡ texts
streams_have file front rest at [] [] lengths begins whole = refl
streams_have file front rest at [] (text ∷ texts) lengths begins whole = absurd (let known = lengths in cc)
streams_have file front rest at (s ∷ streams) [] lengths begins whole = absurd (let known = lengths in cc)
streams_have file front rest at (s ∷ streams) (text ∷ texts) lengths begins whole =
    let len : s.len ≡ length text = head_same s.len (length text) (map (λ s. s.len) streams) (map length texts) lengths in
    let others : map (λ s. s.len) streams ≡ map length texts = tail_same s.len (length text) (map (λ s. s.len) streams) (map length texts) lengths in
    let split : file ≡ front ++ (text ++ (joined_texts texts ++ rest)) = whole ∙ ap (λ (xs : List ℕ). front ++ xs) (append_assoc text (joined_texts texts) rest) in
    let next : file ≡ (front ++ text) ++ (joined_texts texts ++ rest) = split ∙ sym (append_assoc front text (joined_texts texts ++ rest)) in
    let ends : length (front ++ text) ≡ at + s.len = omega (arith, length-append front text, begins, len) in
    same_bytes _ text _ texts (middle front text (joined_texts texts ++ rest) file at (at + s.len) split begins (omega (arith, len)))
    (streams_have file (front ++ text) rest (at + s.len) streams texts others ends next)

-- the streams have as many bytes as their texts
summed : (streams : List StreamPart) (texts : List (List ℕ)) → map (λ s. s.len) streams ≡ map length texts → sum_by (λ (s : Stream). s.len) (map part_view streams) ≡ length (joined_texts texts)
summed [] [] lengths = refl
summed [] (text ∷ texts) lengths = absurd (let known = lengths in cc)
summed (s ∷ streams) [] lengths = absurd (let known = lengths in cc)
summed (s ∷ streams) (text ∷ texts) lengths =
    let len : s.len ≡ length text = head_same s.len (length text) (map (λ s. s.len) streams) (map length texts) lengths in
    let others : map (λ s. s.len) streams ≡ map length texts = tail_same s.len (length text) (map (λ s. s.len) streams) (map length texts) lengths in
    let more : sum_by (λ (s : Stream). s.len) (part_view s ∷ map part_view streams) ≡ s.len + sum_by (λ (s : Stream). s.len) (map part_view streams) =
    sum_by-cons (λ (s : Stream). s.len) (part_view s) (map part_view streams) in
    let counted : s.len + sum_by (λ (s : Stream). s.len) (map part_view streams) ≡ length text + length (joined_texts texts) =
    ap (λ (n : ℕ). n + sum_by (λ (s : Stream). s.len) (map part_view streams)) len ∙ ap (λ (n : ℕ). length text + n) (summed streams texts others) in
    more ∙ counted ∙ sym (length-append text (joined_texts texts))

fitting : (total body_len index_len size : ℕ) → total ≡ size → body_len ≡ size → total ≤ index_len + body_len
fitting total body_len index_len size one two = omega (arith, one, two)

pub has_stripe : (before body footer lent joined after : List ℕ) (stripe : Stripe) (streams : List StreamPart) (encodings : List Encoding) (rows : ℕ)
    → IsStripeFooter footer streams encodings → lent ≡ footer → joined ≡ before ++ body → after ≡ joined ++ lent → stripe.at ≡ length before → stripe.index_len ≡ 0
    → stripe.body_len ≡ length body → stripe.footer_len ≡ length footer → stripe.rows ≡ rows → HasStripe before after stripe body streams encodings rows
has_stripe before body footer lent joined after stripe streams encodings rows is same first second at no_index body_len footer_len counted =
    let split : after ≡ (before ++ body) ++ footer = second ∙ ap (λ (xs : List ℕ). xs ++ lent) first ∙ ap (λ (xs : List ℕ). (before ++ body) ++ xs) same in
    let whole : after ≡ before ++ (body ++ footer) = split ∙ append_assoc before body footer in
    let two : length (before ++ body) ≡ length before + length body = length-append before body in
    let behind_body : (rest : List ℕ) → after ++ rest ≡ (before ++ body) ++ (footer ++ rest) =
    λ rest. ap (λ (xs : List ℕ). xs ++ rest) split ∙ append_assoc (before ++ body) footer rest in
    record {
      footer = footer;
      joined = whole;
      begins = at;
      ends = omega (arith, ap length split, length-append (before ++ body) footer, two, at, no_index, body_len, footer_len);
      counted = counted;
      body_len = body_len;
      body_lies = λ rest.
          middle before body (footer ++ rest) (after ++ rest) stripe.at (footer_at stripe) (behind_body rest ∙ append_assoc before body (footer ++ rest)) (sym at)
          (omega (arith, no_index, body_len));
      footer_lies = λ rest lie.
          is (after ++ rest) stripe
          (middle (before ++ body) footer rest (after ++ rest) (footer_at stripe) (footer_at stripe + stripe.footer_len) (behind_body rest)
          (omega (arith, two, at, no_index, body_len)) (omega (arith, footer_len))) lie;
      streams_fit = λ texts are.
          fitting (sum_by (λ (s : Stream). s.len) (map part_view streams)) stripe.body_len stripe.index_len (length (joined_texts texts)) (summed streams texts are.lengths)
          (body_len ∙ ap length are.body_is);
      streams_lie = λ rest texts are.
          streams_have (after ++ rest) before (footer ++ rest) stripe.at streams texts are.lengths (sym at)
          (behind_body rest ∙ append_assoc before body (footer ++ rest) ∙ ap (λ (xs : List ℕ). before ++ (xs ++ (footer ++ rest))) are.body_is);
    }
