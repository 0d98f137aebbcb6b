-- Totals of a history, event by event.
use Rattle.std.proofs.Common.{◌≡◌, ◌+◌, ◌≤◌, List, length}
use Rattle.board_history.specs.declared.event.BoardEvent.{BoardEvent}
use Rattle.ledgers.specs.declared.board_totals.BoardTotals.{BoardTotals}
use Rattle.board_history.specs.Totals.{total, offers, starts, kills, finishes, give_ups}

-- what was counted of the events before `rest`, of all events
pub record CountedTo (t : BoardTotals) (rest all : List BoardEvent) : Type 0 where
  pub offered : t.offered + total offers rest ≡ total offers all
  pub started : t.started + total starts rest ≡ total starts all
  pub killed : t.killed + total kills rest ≡ total kills all
  pub finished : t.finished + total finishes rest ≡ total finishes all
  pub gave_up : t.gave_up + total give_ups rest ≡ total give_ups all
  pub few_offered : t.offered + length rest ≤ length all
  pub few_started : t.started + length rest ≤ length all
  pub few_killed : t.killed + length rest ≤ length all
  pub few_finished : t.finished + length rest ≤ length all
  pub few_gave_up : t.gave_up + length rest ≤ length all
  pub no_inline : t.inline_runs ≡ 0
