use Rattle.std.proofs.Common.{◌∙◌, length}
use Rattle.column_writer.proofs.Rows.{ends_front, some_ends, text_popped}
use Rattle.column_writer.proofs.kept.pop_text.Goals as goal

pub pop_end-requires : goal.pop_end-requires
pop_end-requires c = some_ends c.args.texts.now c.into_parts-bytes.result.1.items c.into_parts-bytes.result.0.items (c.into_parts-bytes.ensures.texts ∙ c.replace.ensures.value) c.requires

pub new-requires : goal.new-requires
new-requires c = ends_front c.into_parts-bytes.result.1.items c.pop_end.new.ends.items c.pop_end.ensures.0 (length c.into_parts-bytes.result.0.items) c.pop_end.ensures.1 c.into_parts-bytes.ensures.ends

pub returns : goal.returns
returns c = rw c.new.ensures (text_popped c.args.texts.now c.into_parts-bytes.result.1.items c.pop_end.new.ends.items c.into_parts-bytes.result.0.items c.pop_end.ensures.0 (c.into_parts-bytes.ensures.texts ∙ c.replace.ensures.value) c.pop_end.ensures.1)
