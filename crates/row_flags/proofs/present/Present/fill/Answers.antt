use Rattle.std.proofs.Common.{ap, ◌∙◌}
use Rattle.outside.specs.Reading.{placed}
use Rattle.row_flags.specs.Decoders.{PresentOf}
use Rattle.row_flags.proofs.FlagBatches.{next_flags_seen, all_set_seen}
use Rattle.row_flags.proofs.present.Present.fill.Goals as goal

pub returns-in-Flags-clause-fills : goal.returns-in-Flags-clause-fills
returns-in-Flags-clause-fills g c =
    let f = g.F.Feed in
    let i = c.self.inside in
    next_flags_seen f.rest f.fed f.fault_count i.stream i.state i.bits c.fill.new.self c.args.self.now c.args.feed.now c.fill.new.feed _
    (placed c.fill.new.out c.fill.result) c.self.view_is c.in-Flags.is c.self.invariant (λ fresh. ap (λ (o : PresentOf). o.fault) c.self.view_is ∙ fresh) c.fill.ensures.fills

pub returns-in-Empty-clause-fills : goal.returns-in-Empty-clause-fills
returns-in-Empty-clause-fills g c = λ fresh.
    let f = g.F.Feed in
    let i = c.self.inside in
    all_set_seen f.rest f.fed f.fault_count i.stream i.state i.bits c.args.self.now c.args.feed.now _ c.set_all.new.flags c.self.view_is c.in-Empty.is (g.met.F.Feed.fed_nothing c.args.feed.now) c.set_all.ensures
