use Rattle.std.proofs.Common.{[], map, take}
use Rattle.orc_tail.specs.Messages.{footer_field}
use Rattle.footer_writer.specs.Views.{file_type_view}
use Rattle.footer_writer.specs.Made.{Makes}
use Rattle.footer_writer.proofs.footer.write_footer.Given as goal

abbrev pub invariant-loop-stripe : goal.invariant-loop-stripe
invariant-loop-stripe l =
    Makes footer_field (record { stripes = []; types = [] }) l.footer.items (record { stripes = take l.stripe-index l.stripes; types = [] })

abbrev pub invariant-loop-file_type : goal.invariant-loop-file_type
invariant-loop-file_type l =
    Makes footer_field (record { stripes = []; types = [] }) l.footer.items (record { stripes = l.stripes; types = map file_type_view (take l.file_type-index l.types) })
