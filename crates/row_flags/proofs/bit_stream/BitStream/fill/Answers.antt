use Rattle.std.proofs.Common.{◌≡◌, length, sym, arith, false, ◌∙◌}
use Rattle.std.specs.Option.{is_some}
use Rattle.row_flags.proofs.Decoders.{no_bits_held, bit_run-ends}
use Rattle.row_flags.specs.OptionalLaws.{lacking_ok, lacking_ends}
use Rattle.row_flags.proofs.bit_stream.BitStream.fill.Goals as goal
use Rattle.row_flags.proofs.bit_stream.BitStream.fill.Goals.{then-is_empty, else-is_empty}

pub returns-after-is_empty-clause-fills : goal.returns-after-is_empty-clause-fills
returns-after-is_empty-clause-fills g c = λ fresh.
    let lacks : is_some c.self.inside.stream ≡ false = sym c.is_some.ensures ∙ c.if-is_some.false in
    let none = no_bits_held c.self.inside.stream c.self.inside.bits c.args.self.now (sym c.self.view_is) c.self.invariant lacks in
    elim c.if-is_empty.branch [
      | then-is_empty w ↦ rw w.result-is (lacking_ok _ _ _ _ _ c.args.self.now.stream c.args.feed.now c.args.self.now.held c.args.out.now none.0 (g.met.F.Feed.fed_nothing c.args.feed.now) none.1 (grind (arith, w.if-is_empty.ensures)))
      | else-is_empty w ↦ rw w.result-is (lacking_ends _ _ _ _ _ c.args.self.now.stream c.args.feed.now c.args.self.now.held (length c.args.out.now) none.0 (g.met.F.Feed.fed_nothing c.args.feed.now) none.1 bit_run-ends (grind (arith, w.if-is_empty.ensures)))
    ]
