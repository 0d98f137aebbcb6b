use Rattle.std.proofs.Common.{◌≡◌, length, sym, arith, false}
use Rattle.std.specs.Option.{is_some}
use Rattle.orc_columns.proofs.Decoders.{none_held, int_run-ends}
use Rattle.row_flags.specs.OptionalLaws.{lacking_ok, lacking_ends}
use Rattle.orc_columns.proofs.integers.Integers.fill.Goals as goal
use Rattle.orc_columns.proofs.integers.Integers.fill.Goals.{then-is_empty, else-is_empty}

pub returns-then-is_none-clause-fills : goal.returns-then-is_none-clause-fills
returns-then-is_none-clause-fills g c = λ fresh.
    let lacks : is_some c.self.inside.stream ≡ false = c.if-is_none.ensures in
    let none = none_held c.self.inside.stream c.self.inside.runs c.args.self.now (sym c.self.view_is) c.self.invariant lacks in
    elim c.if-is_empty.branch [
      | then-is_empty w ↦ rw w.result-is (lacking_ok _ _ _ _ _ c.args.self.now.stream c.args.feed.now c.args.self.now.held c.args.out.now none.0 (g.met.F.Feed.fed_nothing c.args.feed.now) none.1 (grind (arith, w.if-is_empty.ensures)))
      | else-is_empty w ↦ rw w.result-is (lacking_ends _ _ _ _ _ c.args.self.now.stream c.args.feed.now c.args.self.now.held (length c.args.out.now) none.0 (g.met.F.Feed.fed_nothing c.args.feed.now) none.1 (int_run-ends c.args.self.now.version c.args.self.now.signed) (grind (arith, w.if-is_empty.ensures)))
    ]
