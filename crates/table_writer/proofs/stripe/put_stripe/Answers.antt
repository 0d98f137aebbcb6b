use Rattle.std.proofs.Common.{List, map, ap, ◌∙◌}
use Rattle.footer_writer.specs.declared.stream_part.StreamPart.{StreamPart}
use Rattle.footer_writer.specs.Views.{part_view}
use Rattle.table_writer.proofs.Standing.{has_table}
use Rattle.table_writer.proofs.stripe.put_stripe.Goals as goal

pub returns-in-Ok-clause-ok : goal.returns-in-Ok-clause-ok
returns-in-Ok-clause-ok c =
    has_table c.args.file.now.items c.push_stripe.new.file.items c.in_ok-body.body.items c.in-Ok.stripe c.deref.result.now c.args.encodings.now c.args.rows c.args.columns.now c.args.parts.now
    c.a_column_is_there.ensures.all c.requires.stand c.requires.columns c.in_ok-body.ensures
    (ap (λ (l : List StreamPart). map part_view l) c.deref.ensures.value ∙ c.in_ok-streams.ensures) c.in-Ok.ensures.ok
