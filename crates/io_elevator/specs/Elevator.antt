-- What is seen of an elevator, and what it did. Source: this project's own.
use Rattle.std.specs.Prelude.{◌≡◌, ℕ, List, Option}
use Rattle.outside.specs.declared.file_ref.FileRange.{FileRange}
use Rattle.outside.specs.declared.store.Store.{Ghosts}
use Rattle.pool_model.specs.Content.{Files}
use Rattle.orc_streams.specs.Acts.{Act}
use Rattle.held_ranges.specs.declared.desk.Desk.{Desk}
use Rattle.held_ranges.specs.Deeds.{Deed}
use Rattle.held_ranges.specs.Moments.{Moment, Ran, SameDesk, keys_of, moment}
use Rattle.io_elevator.specs.declared.elevator.Elevator.{Elevator}
use Rattle.io_elevator.specs.Books.{Books, Fits, cursor_at}
use Rattle.io_elevator.specs.Sound.{cursors_of, rest_at}

module _ {W S : Type 0} where
  -- a desk with other references, and what stands behind those
  abbrev pub named : Desk W S → Desk W S → Desk W S
  named n d =
      record {
        cache = n.cache;
        seat = record { ref_ptr = n.seat.ref_ptr; ghost_name = n.seat.ghost_name; now = d.seat.now };
        evictor = record { ref_ptr = n.evictor.ref_ptr; ghost_name = n.evictor.ghost_name; now = d.evictor.now };
        store = record { ref_ptr = n.store.ref_ptr; ghost_name = n.store.ghost_name; now = d.store.now };
        totals = record { ref_ptr = n.totals.ref_ptr; ghost_name = n.totals.ghost_name; now = d.totals.now };
      }

  -- the same of a moment
  abbrev pub as_named : Desk W S → Moment W S → Moment W S
  as_named n m = moment (named n m.desk) m.slots

module _ {W S : Type 0} {G : Ghosts S W} where
  -- its cache, seat, evictor, store and counts
  abbrev pub desk_of : Elevator W S G → Desk W S
  desk_of e = record { cache = e.cache; seat = e.seat; evictor = e.evictor; store = e.store; totals = e.totals }

  abbrev pub moment_of : Elevator W S G → Moment W S
  moment_of e = moment (desk_of e) e.scratch.now.slots.items

  abbrev pub books_of : Elevator W S G → Books
  books_of e = record { cursors = cursors_of e.scratch.now.streams.items; keys = keys_of e.scratch.now.slots.items }

  -- what is left of a stream, where its file is told; a stream that there isn't has no bytes
  abbrev pub rest_of : Option Files → Elevator W S G → ℕ → Option (List ℕ)
  rest_of files e stream = rest_at files (cursor_at (books_of e).cursors stream)

  -- It made these acts, in their order, by deeds that fit them: its references are the same, and at the pool, the store and the
  -- counts each deed was done.
  pub record Did (files : Option Files) (reads : S → Option (List FileRange)) (first : Elevator W S G) (acts : List Act)
      (last : Elevator W S G) : Type 0 where
    pub same : SameDesk (desk_of first) (desk_of last)
    pub scratch : last.scratch.ghost_name ≡ first.scratch.ghost_name
    pub chunk : last.chunk ≡ first.chunk
    pub deeds : List Deed
    pub fits : Fits first.chunk (books_of first) acts deeds (books_of last)
    pub ran : Ran files reads (moment_of first) deeds (as_named (desk_of first) (moment_of last))
