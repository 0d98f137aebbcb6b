use Rattle.std.proofs.Common.{ℕ, [], ◌∷◌, ap, subst}
use Rattle.std.specs.Prelude.{◌++◌}
use Rattle.orc_streams.specs.Acts.{closes}
use Rattle.io_elevator.specs.Laws.{did_joined}
use Rattle.held_ranges.specs.Moments.{keys_of}
use Rattle.io_elevator.specs.Books.{Fits}
use Rattle.io_elevator.specs.Elevator.{as_named, books_of, desk_of, moment_of}
use Rattle.scan_inline.specs.ThroughLaws.{through_ran}
use Rattle.scan_inline.proofs.Growth.{ran_counted}
use Rattle.scan_inline.proofs.Slots.{all_none}
use Rattle.scan_inline.proofs.through.scan_and_end.Goals as goal

pub returns-clause-counted : goal.returns-clause-counted
returns-clause-counted g c =
    let first = c.args.elevator.now in
    let between = c.scan_by-outcome.new.elevator in
    let last = c.end.new.self in
    let scanned = c.scan_by-outcome.ensures.acts in
    let did = did_joined g.W.World.files g.S.Store.reads first between last scanned.0 (closes ∷ []) scanned.1 c.end.ensures.acts in
    ran_counted g.W.World.files g.S.Store.reads (moment_of first) (as_named (desk_of first) (moment_of last)) did.deeds c.reads_are_counted.ensures c.steps_are_counted.ensures c.requires.fit did.ran

pub returns-clause-steps : goal.returns-clause-steps
returns-clause-steps g c =
    let first = c.args.elevator.now in
    let between = c.scan_by-outcome.new.elevator in
    let last = c.end.new.self in
    let scanned = c.scan_by-outcome.ensures.acts in
    let did = did_joined g.W.World.files g.S.Store.reads first between last scanned.0 (closes ∷ []) scanned.1 c.end.ensures.acts in
    c.steps_are_counted.ensures (moment_of first) (as_named (desk_of first) (moment_of last)) did.deeds did.ran

pub returns-clause-did : goal.returns-clause-did
returns-clause-did g c =
    let first = c.args.elevator.now in
    let between = c.scan_by-outcome.new.elevator in
    let last = c.end.new.self in
    let scanned = c.scan_by-outcome.ensures.acts in
    let did = did_joined g.W.World.files g.S.Store.reads first between last scanned.0 (closes ∷ []) scanned.1 c.end.ensures.acts in
    let begun = all_none 65 (moment_of first).slots first.slots c.requires.idle in
    let ended = all_none 65 (moment_of last).slots last.slots c.end.ensures.idle in
    λ scan is.
    record {
      acts = scanned.0;
      are = scanned.2 scan is;
      deeds = did.deeds;
      before = books_of first;
      after = books_of last;
      unheld = ap keys_of begun;
      fits = subst (λ (chunk : ℕ). Fits chunk (books_of first) (scanned.0 ++ closes ∷ []) did.deeds (books_of last)) first.chunk_is.is did.fits;
      ran = through_ran g.W.World.files g.S.Store.reads did.deeds (moment_of first) (as_named (desk_of first) (moment_of last)) begun ended did.ran;
    }
