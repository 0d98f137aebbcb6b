use Rattle.std.proofs.Common.{rules, ◌==◌, not}
use Rattle.std.proofs.lemmas.Fn.{filter_same}
use Rattle.pool_model.proofs.sequence.Sequence+u32.remove_all.Goals as goal

pub returns : goal.returns
returns c =
    rw (← c.self.view_is)
    (filter_same _ (λ s. not (s == c.args.item)) _ (λ x b f' k. search rules) _ _ c.retain.ensures.filtered)
