use Rattle.board_history.proofs.Counting.{ends_once, started_balance}
use Rattle.board_history.proofs.laws.fragments_end_once.Goals as goal

pub returns : goal.returns
returns c = record {
  once = λ plan executors room es f legal. ends_once plan room executors es f legal;
  balance = λ plan executors room es legal. started_balance plan room executors es legal;
}
