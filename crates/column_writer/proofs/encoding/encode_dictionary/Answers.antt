use Rattle.std.proofs.Common.{arith, refl, ◌∙◌}
use Rattle.column_writer.proofs.Streams.{dictionary_spelled}
use Rattle.column_writer.proofs.encoding.encode_dictionary.Goals as goal

pub returns : goal.returns
returns c =
    let made = c.in_ok-dictionary.ensures in
    (refl, dictionary_spelled c.args.version c.len-dictionary_size.result c.in_ok-body.body c.in_ok-streams.streams.lengths c.in_ok-streams.streams.bytes c.in_ok-dictionary.dictionary.entries c.args.texts.now made.0 c.deref.result.now c.len-dictionary_size.ensures c.in_ok-streams.ensures (c.deref.ensures.value ∙ made.1) c.in_ok-body.ensures made.2 (omega (arith, made.3, c.requires)))
