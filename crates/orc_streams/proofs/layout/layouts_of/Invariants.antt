use Rattle.std.proofs.Common.{◌≡◌, map, take}
use Rattle.orc_streams.specs.Layout.{layout_in}
use Rattle.orc_streams.proofs.layout.layouts_of.Given as goal

abbrev pub invariant-loop-column : goal.invariant-loop-column
invariant-loop-column l = l.layouts.items ≡ map (layout_in l.footer) (take l.column-index l.columns)
