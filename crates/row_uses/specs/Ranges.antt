-- The ranges of streams of a file. Source: this project's own.
use Rattle.std.specs.Prelude.{List, [], ◌∷◌}
use Rattle.outside.specs.declared.file_ref.FileRef.{FileRef}
use Rattle.outside.specs.declared.file_ref.FileRange.{FileRange}
use Rattle.outside.specs.Files.{range_of}
use Rattle.orc_streams.specs.Openings.{StreamSpan}

-- one for each, in their order
abbrev pub ranges_at : FileRef → List StreamSpan → List FileRange
ranges_at file [] = []
ranges_at file (s ∷ ss) = range_of file s.span.at s.span.len ∷ ranges_at file ss
