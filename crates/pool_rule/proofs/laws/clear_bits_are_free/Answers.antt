use Rattle.std.proofs.Common.{◌∙◌, sym}
use Rattle.pool_rule.proofs.laws.clear_bits_are_free.Goals as goal

pub returns : goal.returns
returns c files setup words views log pool h m inside =
    let is = h.bits m inside in
    let parts = (c.owners_are_parts.ensures pool m).none in
    ((λ clear. parts.0 (sym is ∙ clear)), λ free. is ∙ parts.1 free)
