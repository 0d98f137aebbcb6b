-- What a call did, deed by deed. Source: this project's own.
use Rattle.std.specs.Prelude.{List, Option}
use Rattle.outside.specs.declared.file_ref.FileRange.{FileRange}
use Rattle.pool_model.specs.Content.{Files}
use Rattle.held_ranges.specs.Deeds.{Deed, Keys}
use Rattle.held_ranges.specs.Moments.{Moment, Ran, SameDesk, keys_of}

-- Some deeds were done, of which, and of the keys that slots then hold, this is so.
pub record Went (files : Option Files) {W S : Type 0} (reads : S → Option (List FileRange)) (m n : Moment W S)
    (So : List Deed → Keys → Type 0) : Type 0 where
  pub deeds : List Deed
  pub ran : Ran files reads m deeds n
  pub so : So deeds (keys_of n.slots)
  pub same : SameDesk m.desk n.desk
