-- Which reads of a file lead to its tail, and to a stripe's footer, where no read fails. Source: this
-- project's own.
use Rattle.std.specs.Prelude.{ℕ, ◌+◌, ◌-◌, min, ◌||◌, List, [], ◌∷◌, Result, Ok, Err, nat_lt, ◌==◌, if◌then◌else◌, slice_range}
use Rattle.outside.specs.declared.file_ref.FileRef.{FileRef}
use Rattle.outside.specs.declared.file_ref.FileRange.{FileRange}
use Rattle.outside.specs.Files.{range_of}
use Rattle.outside.specs.Followed.{Ending, decided, read_failed, refused, Plan, known, reading}
use Rattle.orc_tail.specs.declared.fault.TailFault.{TailFault}
use Rattle.orc_tail.specs.declared.fault.TailFault.TheVariants as fault
use Rattle.orc_tail.specs.declared.postscript.Span.{Span}
use Rattle.orc_tail.specs.declared.stripe.Stripe.{Stripe}
use Rattle.orc_tail.specs.declared.stripe_footer.StripeFooter.{StripeFooter}
use Rattle.orc_tail.specs.declared.tail.Tail.{Tail}
use Rattle.orc_tail.specs.Tail.{greatest_len, footer_span, tail_of_footer, tail}
use Rattle.orc_tail.specs.StripeFooter.{footer_at, stripe_footer}

-- how a reading call with this fault ended
abbrev pub ending : TailFault → Ending
ending (fault.Read failed) = read_failed
ending fault.NoMemory = refused
ending fault = decided

-- a file's last bytes, which hold the PostScript: 256, or all where there are fewer
abbrev pub end_len : ℕ → ℕ
end_len len = min len 256

abbrev pub end_at : ℕ → ℕ
end_at len = len - end_len len

-- the footer's bytes, in one read, unless the PostScript refuses the file
abbrev pub footer_reads : FileRef → Result Span TailFault → List FileRange
footer_reads file (Ok span) = range_of file span.at span.len ∷ []
footer_reads file (Err e) = []

-- the last bytes, in one read, unless the file is too long or empty; and then the footer
unfoldable pub tail_reads : FileRef → List ℕ → List FileRange
tail_reads file bytes =
    if nat_lt greatest_len file.len || file.len == 0 then []
    else range_of file (end_at file.len) (end_len file.len) ∷ footer_reads file (footer_span file.len bytes)

unfoldable pub tail_plan : FileRef → List ℕ → Plan Tail TailFault
tail_plan file bytes = record { answer = tail bytes; reads = tail_reads file bytes }

-- the stripe footer, in one read
unfoldable pub stripe_footer_plan : FileRef → Stripe → List ℕ → Plan StripeFooter TailFault
stripe_footer_plan file stripe bytes = record {
  answer = stripe_footer bytes stripe;
  reads = range_of file (footer_at stripe) stripe.footer_len ∷ [];
}

-- a range, in one read
abbrev pub range_plan : FileRef → ℕ → ℕ → List ℕ → Plan (List ℕ) TailFault
range_plan file at len bytes = reading file at len (known (Ok (slice_range bytes at (at + len))))

-- the range of the footer, by the last bytes alone
abbrev pub span_plan : FileRef → List ℕ → Plan Span TailFault
span_plan file bytes =
    reading file (end_at file.len) (end_len file.len)
    (known (footer_span file.len (slice_range bytes (end_at file.len) (end_at file.len + end_len file.len))))

-- the tail, by the footer alone
abbrev pub footer_plan : FileRef → Span → List ℕ → Plan Tail TailFault
footer_plan file span bytes =
    reading file span.at span.len (known (tail_of_footer file.len (slice_range bytes span.at (span.at + span.len))))
