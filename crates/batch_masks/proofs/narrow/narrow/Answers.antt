use Rattle.std.proofs.Common.{Bool, List, not, map, ap, ◌∙◌}
use Rattle.orc_values.specs.Column.{is_present}
use Rattle.batch_masks.specs.Kept.{both}
use Rattle.batch_masks.proofs.Masks.{map-map}
use Rattle.batch_masks.proofs.narrow.narrow.Goals as goal

pub returns-in-IsNull : goal.returns-in-IsNull
returns-in-IsNull c =
    rw c.in-IsNull.is (c.narrow_unset.ensures ∙ ap (λ (l : List Bool). both c.args.mask.now (map not l)) c.present.ensures ∙ ap (both c.args.mask.now) (map-map not is_present c.args.column.now))
