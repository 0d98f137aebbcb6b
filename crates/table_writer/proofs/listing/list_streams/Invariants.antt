use Rattle.std.proofs.Common.{◌≡◌, take, map}
use Rattle.stripe_writer.specs.Parts.{listed}
use Rattle.footer_writer.specs.Views.{part_view}
use Rattle.table_writer.proofs.listing.list_streams.Given as goal

abbrev pub invariant-loop-i : goal.invariant-loop-i
invariant-loop-i l = map part_view l.streams.items ≡ listed (take l.i l.parts)
