use Rattle.column_writer.proofs.Streams.{spell_texts}
use Rattle.column_writer.proofs.texts.text_streams.Goals as goal

pub returns : goal.returns
returns c =
    spell_texts c.args.version c.in_ok-lengths.lengths c.in_ok-bytes.bytes c.args.texts.now c.in_ok-lens.lens.items c.in_ok-lens.ensures (rw c.deref.ensures.value at c.in_ok-lengths.ensures) c.in_ok-bytes.ensures
