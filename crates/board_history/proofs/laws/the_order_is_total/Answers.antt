use Rattle.board_history.proofs.Orders.{before_itself, before_far, before_other}
use Rattle.board_history.proofs.Counting.{first_is_one, last_is_one}
use Rattle.board_history.proofs.laws.the_order_is_total.Goals as goal

pub returns : goal.returns
returns c = record { irreflexive = before_itself; transitive = before_far; total = before_other; first = first_is_one; last = last_is_one }
