-- What the store, the source and the sink in memory that may fail show. Source: this project's own.
use Rattle.std.specs.Prelude.{ℕ, List, Option}
use Rattle.outside.specs.declared.file_ref.FileRange.{FileRange}
use Rattle.outside.specs.Failing.{FailingOf}

-- A store: the reads that it tells, the room for them, and its failing calls.
pub record StoreOf : Type 0 where
  pub reads : Option (List FileRange)
  pub room : ℕ
  pub failing : FailingOf

-- A source: what is left, and its failing calls.
pub record SourceOf : Type 0 where
  pub left : List ℕ
  pub failing : FailingOf

-- A sink: the content that it tells, the room for it, and its failing calls.
pub record SinkOf : Type 0 where
  pub content : Option (List ℕ)
  pub room : ℕ
  pub failing : FailingOf
