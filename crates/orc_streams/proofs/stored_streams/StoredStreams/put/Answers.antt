use Rattle.std.proofs.Common.{ap, Some, List, ℕ}
use Rattle.orc_streams.proofs.Stored.{replaced, left_elsewhere}
use Rattle.orc_streams.proofs.stored_streams.StoredStreams.put.Goals as goal

pub returns-clause-here : goal.returns-clause-here
returns-clause-here c =
    ap (λ (b : List ℕ). Some b) (replaced c.args.self.now.streams.items c.args.stream 0 (record { bytes = c.args.bytes; taken = 0 }) c.requires.room)

pub returns-clause-others : goal.returns-clause-others
returns-clause-others c = λ other ne.
    ap (λ (b : List ℕ). Some b) (left_elsewhere c.args.self.now.streams.items c.args.stream 0 (record { bytes = c.args.bytes; taken = 0 }) c.requires.room other ne)
