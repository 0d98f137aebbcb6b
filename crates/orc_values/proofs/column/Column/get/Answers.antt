use Rattle.std.proofs.Common.{◌≡◌, ◌∙◌, Bool, List, take, ap}
use Rattle.orc_values.specs.ColumnLaws.{length-column_of}
use Rattle.orc_values.specs.Woven.{present_count}
use Rattle.orc_values.proofs.ColumnRows.{place_seen}
use Rattle.orc_values.proofs.column.Column.get.Goals as goal

pub place_of-requires-clause-row : goal.place_of-requires-clause-row
place_of-requires-clause-row c =
    let s = c.self.inside in
    rw c.deref.ensures.value (rw length-column_of at (rw (← c.self.view_is) at c.requires))

pub get_behind-requires-clause-before : goal.get_behind-requires-clause-before
get_behind-requires-clause-before c =
    let s = c.self.inside in
    let before : c.place_of.result ≡ present_count (take c.args.row s.present.items) = c.place_of.ensures ∙ ap (λ (l : List Bool). present_count (take c.args.row l)) c.deref.ensures.value in
    rw (← c.self.view_is) (place_seen s.present.items s.values c.args.row c.place_of.result c.self.invariant before)
