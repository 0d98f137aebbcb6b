use Rattle.std.proofs.Common.{◌≡◌, ◌∙◌, ℕ, List, length, map, unsigned_abs, sym, ap}
use Rattle.std.proofs.lemmas.List.{with_items_is}
use Rattle.orc_values.specs.Texts.{texts_from}
use Rattle.orc_values.specs.TextsLaws.{slices-ends}
use Rattle.row_texts.proofs.lengths.laid_texts.Goals as goal

pub returns : goal.returns
returns c =
    let lens = map unsigned_abs c.args.lengths.now in
    let ends : List ℕ = c.lay_ends.new.ends in
    let bytes = c.args.bytes.items in
    let len : length ends ≡ c.args.ends.len = c.lay_ends.auto.ends ∙ c.deref_mut.ensures.len in
    c.new.ensures ∙ ap (λ (l : List ℕ). texts_from 0 l bytes) (with_items_is c.args.ends ends len ∙ c.lay_ends.ensures.ends) ∙ sym (slices-ends 0 lens bytes)
