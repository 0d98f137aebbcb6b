-- What is given to be written, as messages. Source: this project's own.
use Rattle.std.specs.Prelude.{List, [], map}
use Rattle.orc_tail.specs.declared.stripe.Stripe.{Stripe}
use Rattle.orc_tail.specs.declared.encoding.Encoding.{Encoding}
use Rattle.orc_tail.specs.Messages.{TypeMessage, FooterMessage, StripeFooterMessage}
use Rattle.footer_writer.specs.declared.stream_part.StreamPart.{StreamPart}
use Rattle.footer_writer.specs.declared.file_type.FileType.{FileType}

-- a stream as a stripe footer's message tells it: what the list of its streams holds
abbrev pub item_of : {X : Type 0} → List X → Type 0
item_of {X} items = X

abbrev nothing : StripeFooterMessage
nothing = record { streams = []; encodings = [] }

abbrev pub Stream : Type 0
Stream = item_of nothing.streams

abbrev pub part_view : StreamPart → Stream
part_view part = record { kind = part.kind; column = part.column; len = part.len }

abbrev pub stripe_footer_message : List StreamPart → List Encoding → StripeFooterMessage
stripe_footer_message streams encodings = record { streams = map part_view streams; encodings = encodings }

abbrev pub file_type_view : FileType → TypeMessage
file_type_view t = record { kind = t.kind; subtypes = t.subtypes.items; names = map (λ name. name.now) t.names.items }

abbrev pub footer_message : List Stripe → List FileType → FooterMessage
footer_message stripes types = record { stripes = stripes; types = map file_type_view types }
