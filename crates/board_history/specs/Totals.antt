-- How often each thing happened in a history (this project's own).
use Rattle.std.specs.Prelude.{ℕ, ◌+◌, ◌<◌, List, [], ◌∷◌}
use Rattle.board_history.specs.declared.event.BoardEvent.{BoardEvent}
use Rattle.board_history.specs.declared.event.BoardEvent.TheVariants as event
use Rattle.ledgers.specs.declared.board_totals.BoardTotals.{BoardTotals}

-- how many events are of a kind, which gives 1 of it and 0 of another
abbrev pub total : (BoardEvent → ℕ) → List BoardEvent → ℕ
total kind [] = 0
total kind (e ∷ es) = kind e + total kind es

abbrev pub offers : BoardEvent → ℕ
offers (event.Offered f) = 1
offers other = 0

abbrev pub starts : BoardEvent → ℕ
starts (event.Started a) = 1
starts other = 0

abbrev pub kills : BoardEvent → ℕ
kills (event.Preempted victim made_for) = 1
kills other = 0

abbrev pub finishes : BoardEvent → ℕ
finishes (event.Finished a) = 1
finishes other = 0

abbrev pub give_ups : BoardEvent → ℕ
give_ups (event.GaveUp a) = 1
give_ups other = 0

-- how often each thing happened; on a board no fragment is run inline
abbrev pub totals_of : List BoardEvent → BoardTotals
totals_of es = record {
  offered = total offers es;
  started = total starts es;
  killed = total kills es;
  finished = total finishes es;
  gave_up = total give_ups es;
  inline_runs = 0;
}

-- with one event more
abbrev pub counted : BoardTotals → BoardEvent → BoardTotals
counted t e = record {
  offered = t.offered + offers e;
  started = t.started + starts e;
  killed = t.killed + kills e;
  finished = t.finished + finishes e;
  gave_up = t.gave_up + give_ups e;
  inline_runs = t.inline_runs;
}

-- each count of a history is below a number
pub record AllBelow (n : ℕ) (t : BoardTotals) : Type 0 where
  pub offered : t.offered < n
  pub started : t.started < n
  pub killed : t.killed < n
  pub finished : t.finished < n
  pub gave_up : t.gave_up < n
