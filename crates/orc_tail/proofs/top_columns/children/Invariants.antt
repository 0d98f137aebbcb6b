use Rattle.std.proofs.Common.{◌≡◌, ◌++◌, drop, map}
use Rattle.orc_tail.specs.Tail.{children}
use Rattle.orc_tail.specs.Views.{type_view}
use Rattle.orc_tail.proofs.top_columns.children.Given as goal

abbrev pub invariant-loop-i : goal.invariant-loop-i
invariant-loop-i l =
    l.columns.items ++ children (map type_view l.types) (drop l.i l.numbers) (drop l.i (map (λ name. name.now) l.names)) ≡ children (map type_view l.types) l.numbers (map (λ name. name.now) l.names)
