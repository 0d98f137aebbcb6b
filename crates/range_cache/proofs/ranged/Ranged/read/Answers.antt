use Rattle.std.proofs.Common.{◌≡◌, ℕ, ◌+◌, ◌-◌, ◌≤◌, List, length, take, drop, ap, ◌∙◌, arith}
use Rattle.std.specs.Prelude.{Option, slice_range}
use Rattle.std.proofs.lemmas.List.{drop-drop, drop-take, take-take}
use Rattle.buffer_word.specs.declared.key_word.Key.{Key}
use Rattle.pool_model.specs.Content.{Files}
use Rattle.buffer_pool.specs.Pools.{AreBytesOf, seat_id, sizes_of, view}
use Rattle.cache_lookup.specs.Callers.{as_before}
use Rattle.range_cache.specs.declared.ranged.Grip.{Grip}
use Rattle.range_cache.specs.declared.ranged.Grip.TheVariants as grip
use Rattle.range_cache.specs.Caches.{pool_of}
use Rattle.range_cache.specs.Ranges.{ScratchFits, key_of_grip}
use Rattle.range_cache.proofs.Loads.{loads_same}
use Rattle.range_cache.proofs.ranged.Ranged.read.Goals as goal

-- a part of a range is a range
part : (xs : List ℕ) (first n at len : ℕ) → at + len ≤ n → slice_range (slice_range xs first (first + n)) at (at + len) ≡ slice_range xs (first + at) (first + at + len)
part xs first n at len fits =
    let m : ℕ = n - at in
    let e1 : first + n - first ≡ at + m = omega (arith, fits) in
    let e2 : at + len - at ≡ len = omega arith in
    let e3 : len ≡ first + at + len - (first + at) = omega arith in
    ap (λ k. take k (drop at (take (first + n - first) (drop first xs)))) e2
    ∙ (ap (λ k. take len (drop at (take k (drop first xs)))) e1
    ∙ (ap (take len) (drop-take at m (drop first xs))
    ∙ (take-take len m (drop at (drop first xs)) (omega (arith, fits))
    ∙ (ap (take len) (drop-drop at first xs) ∙ ap (λ k. take k (drop (first + at) xs)) e3))))

-- what a bypass copies from its scratch
copied : (files : Option Files) (h : Grip) (key : Key) (scratch into : List ℕ) (at len : ℕ) → h ≡ grip.Bypass key → ScratchFits files h scratch → at + len ≤ (key_of_grip h).len → into ≡ slice_range scratch at (at + len) → AreBytesOf files (key_of_grip h) at len into
copied files (grip.Pin pin) key scratch into at len e fits inside is file told = absurd (let no : ⊥ = cc in no)
copied files (grip.Bypass k) key scratch into at len e fits inside is file told =
    is ∙ (ap (λ s. slice_range s at (at + len)) (fits.1 file told) ∙ part file k.at k.len at len inside)

pub returns-in-Bypass-clause-content : goal.returns-in-Bypass-clause-content
returns-in-Bypass-clause-content g c =
    copied g.W.World.files c.args.self.now.held c.in-Bypass.field-0 c.args.scratch.now c.copy_from_slice.new.self c.args.at (length c.args.into.now) c.in-Bypass.is c.requires.scratch c.requires.range c.copy_from_slice.ensures.after

pub returns-in-Bypass-clause-same : goal.returns-in-Bypass-clause-same
returns-in-Bypass-clause-same g c = as_before (view c.args.seat.now)

pub returns-in-Pin-clause-same : goal.returns-in-Pin-clause-same
returns-in-Pin-clause-same g c =
    let made = c.read.ensures.made in
    loads_same g.W.World.files (sizes_of (pool_of c.args.cache.now)) (seat_id c.args.seat.now) (view c.args.seat.now) _ made.0 (view c.args.seat.now) (view c.read.new.seat) made.1.loads (as_before (view c.args.seat.now))
