use Rattle.std.proofs.Common.{sym, ◌∙◌}
use Rattle.column_writer.proofs.Streams.{all_set, present_of_bits}
use Rattle.column_writer.proofs.present.present_stream.Goals as goal

pub returns-then-count_present-flags : goal.returns-then-count_present-flags
returns-then-count_present-flags c = rw (c.new-then-count_present-flags.ensures ∙ c.new.ensures.items) (all_set c.args.flags.now (sym c.count_present.ensures ∙ c.if-count_present-flags.true))

pub returns : goal.returns
returns c = rw c.new-2.ensures (present_of_bits c.in_ok-stream.stream.items c.args.flags.now c.in_ok-stream.ensures)
