use Rattle.orc_columns.proofs.OtherStreams.{leave_a_column, leave_a_stream}
use Rattle.orc_columns.proofs.laws.takes_leave_other_streams.Goals as goal

pub returns-clause-column : goal.returns-clause-column
returns-clause-column g c = leave_a_column g.F.Feed.rest g.F.Feed.fed g.met.F.Feed.fed_lost

pub returns-clause-stream : goal.returns-clause-stream
returns-clause-stream g c = leave_a_stream g.F.Feed.rest g.F.Feed.fed g.met.F.Feed.fed_lost
