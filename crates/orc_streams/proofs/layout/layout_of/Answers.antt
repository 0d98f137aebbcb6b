use Rattle.orc_streams.proofs.Layouts.{laid_out_is}
use Rattle.orc_streams.proofs.layout.layout_of.Goals as goal

pub returns : goal.returns
returns c =
    laid_out_is c.args.footer.now c.args.column c.encoding_of-encoding.result c.kind_of.result c.spelling_of.result c.count_of_kinds-kinds.result
    c.stored_span.result c.stored_span-2.result c.stored_span-3.result c.stored_span-4.result
    c.encoding_of-encoding.ensures c.kind_of.ensures c.spelling_of.ensures c.count_of_kinds-kinds.ensures
    c.stored_span.ensures c.stored_span-2.ensures c.stored_span-3.ensures c.stored_span-4.ensures
