-- The reading calls, step by step: a range, what its bytes decide, and the plan of the whole.
use Rattle.std.proofs.Common.{◌≡◌, ℕ, ◌<◌, ◌≤◌, List, [], ◌++◌, Option, Some, Result, Ok, Err, refl, sym, subst}
use Rattle.outside.specs.declared.file_ref.FileRef.{FileRef}
use Rattle.outside.specs.Files.{Files, AreFiles}
use Rattle.outside.specs.Reads.{ReadEntry}
use Rattle.outside.specs.Followed.{Followed, known, and_then}
use Rattle.outside.specs.FollowedLaws.{Followed-stopped, Followed-then, Followed-same}
use Rattle.orc_tail.specs.declared.fault.TailFault.{TailFault}
use Rattle.orc_tail.specs.declared.fault.TailFault.TheVariants.{TooLarge, TooShort}
use Rattle.orc_tail.specs.declared.postscript.Span.{Span}
use Rattle.orc_tail.specs.declared.stripe.Stripe.{Stripe}
use Rattle.orc_tail.specs.declared.stripe_footer.StripeFooter.{StripeFooter}
use Rattle.orc_tail.specs.declared.tail.Tail.{Tail}
use Rattle.orc_tail.specs.Reading.{Gives}
use Rattle.orc_tail.specs.Tail.{greatest_len, footer_span, tail_of_footer}
use Rattle.orc_tail.specs.StripeFooter.{footer_at, stripe_footer_in}
use Rattle.orc_tail.specs.Reads.{ending, end_at, end_len, range_plan, span_plan, footer_plan, tail_plan, stripe_footer_plan}
use Rattle.orc_tail.proofs.Decided.{IsDecided, decided_err, decided_span, decided_tail, decided_footer_in}
use Rattle.orc_tail.proofs.Exits.{exact_exit, given_exit}
use Rattle.orc_tail.proofs.Plans.{long_plan, empty_plan, read_plan, stripe_plan}

-- a range that couldn't be read ends the call
stopped : {S Y : Type 0} (went : S → List ReadEntry → S → Type 0) (count : S → ℕ) (told : Option Files) (file : FileRef) (at len : ℕ) (judged : List ℕ → Result Y TailFault) (before after : S) (e : TailFault)
    → Followed went count told file ending (range_plan file at len) before after (Err e)
    → Followed went count told file ending (λ bytes. and_then (range_plan file at len bytes) (λ range. known (judged range))) before after (Err e)
stopped went count told file at len judged before after e followed = Followed-stopped (range_plan file at len) (λ bytes range. known (judged range)) e followed

-- a range that was read decides the answer
decided_by : {S Y : Type 0} (went : S → List ReadEntry → S → Type 0) (count : S → ℕ) (told : Option Files) (file : FileRef) (at len : ℕ) (judged : List ℕ → Result Y TailFault) (before after : S) (range : List ℕ) (answer : Result Y TailFault)
    → ((front back : List ReadEntry) → went before front after → went after back after → went before (front ++ back) after) → went after [] after
    → Followed went count told file ending (range_plan file at len) before after (Ok range) → IsDecided (judged range) → Gives (λ y. y) answer (judged range)
    → Followed went count told file ending (λ bytes. and_then (range_plan file at len bytes) (λ read. known (judged read))) before after answer
decided_by went count told file at len judged before after range answer on nowhere followed is_decided given =
    Followed-then (range_plan file at len) (λ bytes read. known (judged read)) range answer on followed (given_exit went count told file after (judged range) answer nowhere is_decided given)

-- the last bytes
pub span_stopped : {S : Type 0} (went : S → List ReadEntry → S → Type 0) (count : S → ℕ) (told : Option Files) (file : FileRef) (before after : S) (e : TailFault)
    → Followed went count told file ending (range_plan file (end_at file.len) (end_len file.len)) before after (Err e)
    → Followed went count told file ending (span_plan file) before after (Err e)
span_stopped went count told file before after e followed = stopped went count told file (end_at file.len) (end_len file.len) (footer_span file.len) before after e followed

pub span_then : {S : Type 0} (went : S → List ReadEntry → S → Type 0) (count : S → ℕ) (told : Option Files) (file : FileRef) (before after : S) (last : List ℕ) (answer : Result Span TailFault)
    → ((front back : List ReadEntry) → went before front after → went after back after → went before (front ++ back) after) → went after [] after
    → Followed went count told file ending (range_plan file (end_at file.len) (end_len file.len)) before after (Ok last) → answer ≡ footer_span file.len last
    → Followed went count told file ending (span_plan file) before after answer
span_then went count told file before after last answer on nowhere followed same =
    subst (λ (r : Result Span TailFault). Followed went count told file ending (span_plan file) before after r) (sym same)
    (Followed-then (range_plan file (end_at file.len) (end_len file.len)) (λ bytes read. known (footer_span file.len read)) last (footer_span file.len last) on followed
    (exact_exit went count told file after (footer_span file.len last) nowhere (decided_span file.len last)))

-- the footer
pub footer_stopped : {S : Type 0} (went : S → List ReadEntry → S → Type 0) (count : S → ℕ) (told : Option Files) (file : FileRef) (span : Span) (before after : S) (e : TailFault)
    → Followed went count told file ending (range_plan file span.at span.len) before after (Err e)
    → Followed went count told file ending (footer_plan file span) before after (Err e)
footer_stopped went count told file span before after e followed = stopped went count told file span.at span.len (tail_of_footer file.len) before after e followed

pub footer_then : {S : Type 0} (went : S → List ReadEntry → S → Type 0) (count : S → ℕ) (told : Option Files) (file : FileRef) (span : Span) (before after : S) (footer : List ℕ) (answer : Result Tail TailFault)
    → ((front back : List ReadEntry) → went before front after → went after back after → went before (front ++ back) after) → went after [] after
    → Followed went count told file ending (range_plan file span.at span.len) before after (Ok footer) → Gives (λ y. y) answer (tail_of_footer file.len footer)
    → Followed went count told file ending (footer_plan file span) before after answer
footer_then went count told file span before after footer answer on nowhere followed given =
    decided_by went count told file span.at span.len (tail_of_footer file.len) before after footer answer on nowhere followed (decided_tail file.len footer) given

-- a stripe's footer
pub stripe_stopped : {S : Type 0} (went : S → List ReadEntry → S → Type 0) (count : S → ℕ) (told : Option Files) (file : FileRef) (stripe : Stripe) (before after : S) (e : TailFault)
    → Followed went count told file ending (range_plan file (footer_at stripe) stripe.footer_len) before after (Err e)
    → Followed went count told file ending (stripe_footer_plan file stripe) before after (Err e)
stripe_stopped went count told file stripe before after e followed =
    Followed-same (λ bytes. and_then (range_plan file (footer_at stripe) stripe.footer_len bytes) (λ range. known (stripe_footer_in stripe range))) (stripe_footer_plan file stripe) (λ bytes has. stripe_plan file stripe bytes)
    (stopped went count told file (footer_at stripe) stripe.footer_len (stripe_footer_in stripe) before after e followed)

pub stripe_then : {S : Type 0} (went : S → List ReadEntry → S → Type 0) (count : S → ℕ) (told : Option Files) (file : FileRef) (stripe : Stripe) (before after : S) (footer : List ℕ) (answer : Result StripeFooter TailFault)
    → ((front back : List ReadEntry) → went before front after → went after back after → went before (front ++ back) after) → went after [] after
    → Followed went count told file ending (range_plan file (footer_at stripe) stripe.footer_len) before after (Ok footer) → Gives (λ y. y) answer (stripe_footer_in stripe footer)
    → Followed went count told file ending (stripe_footer_plan file stripe) before after answer
stripe_then went count told file stripe before after footer answer on nowhere followed given =
    Followed-same (λ bytes. and_then (range_plan file (footer_at stripe) stripe.footer_len bytes) (λ range. known (stripe_footer_in stripe range))) (stripe_footer_plan file stripe) (λ bytes has. stripe_plan file stripe bytes)
    (decided_by went count told file (footer_at stripe) stripe.footer_len (stripe_footer_in stripe) before after footer answer on nowhere followed (decided_footer_in stripe footer) given)

-- the whole tail
pub tail_long : {S : Type 0} (went : S → List ReadEntry → S → Type 0) (count : S → ℕ) (told : Option Files) (file : FileRef) (s : S) → went s [] s → greatest_len < file.len
    → Followed went count told file ending (tail_plan file) s s (Err TooLarge)
tail_long went count told file s nowhere long =
    Followed-same (λ _. known (Err TooLarge)) (tail_plan file) (λ bytes has. long_plan file bytes has.len_is long) (exact_exit went count told file s (Err TooLarge) nowhere (decided_err {A = Tail} TooLarge refl))

pub tail_empty : {S : Type 0} (went : S → List ReadEntry → S → Type 0) (count : S → ℕ) (told : Option Files) (file : FileRef) (s : S) → went s [] s → file.len ≡ 0
    → Followed went count told file ending (tail_plan file) s s (Err TooShort)
tail_empty went count told file s nowhere none =
    Followed-same (λ _. known (Err TooShort)) (tail_plan file) (λ bytes has. empty_plan file bytes has.len_is none) (exact_exit went count told file s (Err TooShort) nowhere (decided_err {A = Tail} TooShort refl))

pub tail_stopped : {S : Type 0} (went : S → List ReadEntry → S → Type 0) (count : S → ℕ) (told : Option Files) (lawful : (files : Files) → told ≡ Some files → AreFiles files) (file : FileRef) (before after : S) (e : TailFault)
    → 0 < file.len → file.len ≤ greatest_len → Followed went count told file ending (span_plan file) before after (Err e) → Followed went count told file ending (tail_plan file) before after (Err e)
tail_stopped went count told lawful file before after e some small followed =
    Followed-same (λ bytes. and_then (span_plan file bytes) (λ span. footer_plan file span bytes)) (tail_plan file) (read_plan told lawful file some small) (Followed-stopped (span_plan file) (λ bytes span. footer_plan file span bytes) e followed)

pub tail_then : {S : Type 0} (went : S → List ReadEntry → S → Type 0) (count : S → ℕ) (told : Option Files) (lawful : (files : Files) → told ≡ Some files → AreFiles files) (file : FileRef) (before between after : S) (span : Span) (answer : Result Tail TailFault)
    → 0 < file.len → file.len ≤ greatest_len → ((front back : List ReadEntry) → went before front between → went between back after → went before (front ++ back) after)
    → Followed went count told file ending (span_plan file) before between (Ok span) → Followed went count told file ending (footer_plan file span) between after answer
    → Followed went count told file ending (tail_plan file) before after answer
tail_then went count told lawful file before between after span answer some small on first second =
    Followed-same (λ bytes. and_then (span_plan file bytes) (λ s. footer_plan file s bytes)) (tail_plan file) (read_plan told lawful file some small) (Followed-then (span_plan file) (λ bytes s. footer_plan file s bytes) span answer on first second)
