-- What the program's parts of a footer are as messages: lists in the place of vectors, and bytes in that of references.
-- Source: this project's own.
use Rattle.std.specs.Prelude.{map}
use Rattle.orc_tail.specs.declared.types.ColumnType.{ColumnType}
use Rattle.orc_tail.specs.declared.footer.Footer.{Footer}
use Rattle.orc_tail.specs.declared.stripe_footer.FooterParts.{FooterParts}
use Rattle.orc_tail.specs.Messages.{TypeMessage, FooterMessage, StripeFooterMessage}

abbrev pub type_view : ColumnType → TypeMessage
type_view t = record { kind = t.kind; subtypes = t.subtypes.items; names = map (λ name. name.now) t.names.items }

abbrev pub footer_view : Footer → FooterMessage
footer_view f = record { stripes = f.stripes.items; types = map type_view f.types.items }

abbrev pub stripe_footer_view : FooterParts → StripeFooterMessage
stripe_footer_view f = record { streams = f.streams.items; encodings = f.encodings.items }
