use Rattle.std.specs.Prelude.{[], ◌∷◌}
use Rattle.buffer_word.specs.KeyWord.{key_word}
use Rattle.pool_rule.specs.declared.geometry.WordName.TheVariants.{KeyOf}
use Rattle.pool_rule.specs.declared.word_step.WordStep.TheVariants.{Counted, Looked, Uncounted}
use Rattle.cache_lookup.specs.Tries.{held, refused, changed}
use Rattle.cache_lookup.proofs.ways.pin_way.Goals as goal

pub returns-in-Ok-clause-made : goal.returns-in-Ok-clause-made
returns-in-Ok-clause-made g c =
    let made = c.in-Ok.ensures.made in
    (Counted c.args.header made.0 ∷ Looked (KeyOf c.args.header) (key_word c.args.key) ∷ [], made.2, held made.0 c.in-Ok.pin made.1 c.in-Ok.ensures.header)

pub returns-in-Err-Busy-clause-made : goal.returns-in-Err-Busy-clause-made
returns-in-Err-Busy-clause-made g c =
    let made = (rw c.in-Err-Busy.field-0-is at c.in-Err-Busy.ensures.made) in
    (Counted c.args.header c.in-Err-Busy.word ∷ Uncounted c.args.header made.0 ∷ [], made.2, refused c.in-Err-Busy.word made.0 made.1)

pub returns-in-Err-Other-clause-made : goal.returns-in-Err-Other-clause-made
returns-in-Err-Other-clause-made g c =
    let made = (rw c.in-Err-Other.field-0-is at c.in-Err-Other.ensures.made) in
    let other = c.in-Err-Other.field-0-0 in
    (Counted c.args.header made.0 ∷ Looked (KeyOf c.args.header) other ∷ Uncounted c.args.header made.1 ∷ [], made.4, changed made.0 other made.1 made.2 made.3)
