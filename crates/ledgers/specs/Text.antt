-- The two printed lines of a run's counts. Each ends with byte 0A. Source: this project's own.
use Rattle.std.specs.Prelude.{ℕ, List, [], ◌∷◌, ◌++◌, codes, take}
use Rattle.std.specs.Fmt.{decimal}
use Rattle.ledgers.specs.declared.board_totals.BoardTotals.{BoardTotals}
use Rattle.ledgers.specs.declared.cache_totals.CacheTotals.{CacheTotals}
use Rattle.ledgers.specs.declared.line.Line.{Line}

-- how ranges were got through the cache, and how many buffers were evicted and moved for them
abbrev pub cache_text : CacheTotals → List ℕ
cache_text c =
    codes "cache hit " ++ decimal c.hit ++ codes " filled " ++ decimal c.filled ++ codes " bypass " ++ decimal c.bypass
    ++ codes " evicted " ++ decimal c.evicted ++ codes " moved " ++ decimal c.moved ++ 10 ∷ []

-- how attempts ended
abbrev pub ends_text : BoardTotals → List ℕ
ends_text b = codes " killed " ++ decimal b.killed ++ codes " finished " ++ decimal b.finished ++ codes " gaveup " ++ decimal b.gave_up

-- what happened on the board
abbrev pub board_text : BoardTotals → List ℕ
board_text b =
    codes "board offered " ++ decimal b.offered ++ codes " started " ++ decimal b.started ++ ends_text b ++ codes " inline "
    ++ decimal b.inline_runs ++ 10 ∷ []

-- both lines
abbrev pub totals_text : CacheTotals → BoardTotals → List ℕ
totals_text c b = cache_text c ++ board_text b

-- the text that was put together so far
abbrev pub held : Line → List ℕ
held line = take line.len line.bytes
