use Rattle.board_history.proofs.Counting.{numbers_count}
use Rattle.board_history.proofs.laws.numbers_count_stops.Goals as goal

pub returns : goal.returns
returns c = numbers_count
