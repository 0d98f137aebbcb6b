-- Runs: that whole runs spell values, where they break, and what a decoder holds between two calls.
--
-- A format of runs is a relation `Run`, which says what bytes spell what values, with a case for each form,
-- and a reader of one run, which says what the first fault is where no whole run stands. Source: the runs are those
-- of the Apache ORC specification v1; that the fewest are read, and what follows is ignored, is this project's own.
use Rattle.std.specs.Prelude.{◌≡◌, ℕ, ◌<◌, ◌≤◌, ◌⊎◌, List, [], ◌++◌, length, Ok, Err}
use Rattle.outside.specs.declared.run_fault.RunFault.{RunFault}
use Rattle.outside.specs.Reading.{Reader}

module _ {V : Type 0} (Run : List ℕ → List V → Type 0) where
  -- whole runs, one after the other: their bytes and their values
  pub data Joined : List ℕ → List V → Type 0 where
    none : Joined [] []
    one : {bytes more : List ℕ} {values others : List V} → Run bytes values → Joined more others → Joined (bytes ++ more) (values ++ others)

  -- The fewest whole runs that hold so many values: no run for no value, and else all but the last hold fewer.
  pub data Fewest : ℕ → List ℕ → List V → Type 0 where
    no_run : Fewest 0 [] []
    runs : {count : ℕ} {front last : List ℕ} {before values : List V} → Joined front before → length before < count
        → Run last values → count ≤ length (before ++ values) → Fewest count (front ++ last) (before ++ values)

  -- Between two calls of a decoder: the fewest runs for the values given so far are the front of the stream,
  -- they also hold the values that the decoder holds, and the rest of the stream stands behind them.
  pub record Between (start : List ℕ) (given held : List V) (rest : List ℕ) : Type 0 where
    pub used : List ℕ
    pub parts : start ≡ used ++ rest
    pub fewest : Fewest (length given) used (given ++ held)

  -- A stream spells these values, as the first of the fewest runs that hold so many; the rest is what these runs leave.
  abbrev pub Spells : List ℕ → List V → List ℕ → Type 0
  Spells stream values rest = (held : List V) × Between stream values held rest

  -- A stream doesn't spell so many values: whole runs hold fewer, and then this is the fault of what follows.
  pub record Breaks (read : Reader (List V)) (stream : List ℕ) (count : ℕ) (fault : RunFault) : Type 0 where
    pub used : List ℕ
    pub rest : List ℕ
    pub values : List V
    pub parts : stream ≡ used ++ rest
    pub joined : Joined used values
    pub fewer : length values < count
    pub broken : read rest ≡ Err fault

  -- The reader gives the one run that is the front of the bytes, where there is one; a run has a value.
  pub record IsReaderOf (read : Reader (List V)) : Type 0 where
    pub whole : (bytes rest : List ℕ) (values : List V) → Run bytes values → read (bytes ++ rest) ≡ Ok (values, rest)
    pub only : (bytes rest : List ℕ) (values : List V) → read bytes ≡ Ok (values, rest)
        → (run : List ℕ) × Run run values × (bytes ≡ run ++ rest)
    pub some : (bytes : List ℕ) (values : List V) → Run bytes values → 0 < length values

  -- no spelling of a run is a proper front of the spelling of another
  abbrev pub BeginsNoOther : Type 0
  BeginsNoOther = (front back : List ℕ) (values others : List V) → Run front values → Run (front ++ back) others → back ≡ []

  -- a stream spells so many values, or it breaks before them
  abbrev pub SpellsOrBreaks : Reader (List V) → List ℕ → ℕ → Type 0
  SpellsOrBreaks read stream count =
      ((values : List V) × (rest : List ℕ) × (length values ≡ count) × Spells stream values rest)
      ⊎ ((fault : RunFault) × Breaks read stream count fault)

  -- of every stream one of the two holds, and never both
  pub record IsDecided (read : Reader (List V)) : Type 0 where
    pub either : (stream : List ℕ) (count : ℕ) → SpellsOrBreaks read stream count
    pub not_both : (stream rest : List ℕ) (values : List V) (count : ℕ) (fault : RunFault)
        → Spells stream values rest → count ≤ length values → Breaks read stream count fault → ⊥
