use Rattle.std.proofs.Common.{rules}
use Rattle.orc_values.specs.TextsLaws.{length-texts_from}
use Rattle.orc_values.proofs.texts.Texts.len.Goals as goal

pub returns : goal.returns
returns c =
    let s = c.self.inside in
    let seen = length-texts_from 0 s.ends.items s.bytes.items in
    rw (← c.self.view_is) (rw seen (search rules))
