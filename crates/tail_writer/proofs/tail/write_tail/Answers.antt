use Rattle.std.proofs.Common.{◌≡◌, ◌∙◌, List, map, Ok, ap}
use Rattle.orc_tail.specs.Messages.{TypeMessage}
use Rattle.orc_tail.specs.Tail.{top_columns}
use Rattle.footer_writer.specs.declared.file_type.FileType.{FileType}
use Rattle.footer_writer.specs.Views.{file_type_view, footer_message}
use Rattle.tail_writer.specs.Columns.{types_of, top_columns_from}
use Rattle.tail_writer.proofs.Numbers.{columns_read}
use Rattle.tail_writer.proofs.Tails.{tail_read}
use Rattle.tail_writer.proofs.tail.write_tail.Goals as goal

pub returns-clause-tail : goal.returns-clause-tail
returns-clause-tail c =
    let columns = c.args.columns.now in
    let types : map file_type_view c.deref.result.now ≡ types_of columns = ap (λ (ts : List FileType). map file_type_view ts) c.deref.ensures.value ∙ c.in_ok-types.ensures in
    tail_read c.in_ok-tail.tail.items c.in_ok-footer.footer.items (footer_message c.args.stripes.now c.deref.result.now) (top_columns_from 1 columns) c.in_ok-tail.ensures
    c.in_ok-footer.ensures.message (ap (λ (ts : List TypeMessage). top_columns ts) types ∙ columns_read columns)

pub returns-clause-told : goal.returns-clause-told
returns-clause-told c =
    let types : map file_type_view c.deref.result.now ≡ types_of c.args.columns.now = ap (λ (ts : List FileType). map file_type_view ts) c.deref.ensures.value ∙ c.in_ok-types.ensures in
    record {
      footer = c.in_ok-footer.footer.items;
      ends = c.in_ok-tail.ensures;
      is_read = c.in_ok-footer.ensures.message ∙ ap (λ (ts : List TypeMessage). Ok (record { stripes = c.args.stripes.now; types = ts })) types;
      told = c.in_ok-footer.ensures.rows;
    }
