-- The laws of what an elevator did. Source: this project's own.
use Rattle.std.proofs.Common.{◌≡◌, ℕ, ◌+◌, List, [], ◌∷◌, refl, sym, ap, ◌∙◌, subst, arith}
use Rattle.std.specs.Prelude.{◌++◌, Option}
use Rattle.outside.specs.declared.file_ref.FileRange.{FileRange}
use Rattle.outside.specs.declared.store.Store.{Ghosts}
use Rattle.outside.specs.Feed.{Lost, Taken, gave, taken_of}
use Rattle.outside.specs.FeedLaws.{Lost-nothing, Lost-then, taken_of-append, taken_of-sum}
use Rattle.outside.specs.Reads.{ReadEntry}
use Rattle.pool_model.specs.Content.{Files}
use Rattle.orc_streams.specs.Acts.{Act, read_acts, take_acts}
use Rattle.range_cache.specs.declared.cache.Cache.{Cache}
use Rattle.range_cache.specs.Caches.{pool_of}
use Rattle.range_cache.specs.Ranges.{IsDone}
use Rattle.evicting_fetch.specs.Fetches.{FailsToFetch, Fetches}
use Rattle.evicting_fetch.specs.Victims.{TakesVictims}
use Rattle.held_ranges.specs.declared.desk.Desk.{Desk}
use Rattle.held_ranges.specs.Deeds.{Deed, drops, gets, misses}
use Rattle.held_ranges.specs.Moments.{Does, IsReadOut, Moment, Ran, SameDesk}
use Rattle.cut_streams.specs.declared.cursor.Cursor.{Cursor}
use Rattle.cut_streams.specs.Streams.{moved}
use Rattle.io_elevator.specs.declared.elevator.Elevator.{Elevator}
use Rattle.io_elevator.specs.Books.{Fits, cursor_at}
use Rattle.io_elevator.specs.Elevator.{Did, as_named, books_of, desk_of, moment_of, rest_of}
use Rattle.io_elevator.specs.FittingLaws.{fits_join, fits_moved, fits_sum, read_acts_join, reads_keep, take_acts_join}
use Rattle.io_elevator.specs.Sound.{rest_at}

pub same_desk : {W S : Type 0} (d : Desk W S) → SameDesk d d
same_desk d = record { cache = refl; seat = refl; evictor = refl; store = refl; totals = refl; id = refl }

pub same_then : {W S : Type 0} (a b c : Desk W S) → SameDesk a b → SameDesk b c → SameDesk a c
same_then a b c p q =
    record {
      cache = q.cache ∙ p.cache;
      seat = q.seat ∙ p.seat;
      evictor = q.evictor ∙ p.evictor;
      store = q.store ∙ p.store;
      totals = q.totals ∙ p.totals;
      id = q.id ∙ p.id;
    }

module _ (files : Option Files) {W S : Type 0} (reads : S → Option (List FileRange)) where
  -- ---- deeds by other references

  does_named : (n : Desk W S) (d : Deed) (m k : Moment W S) → m.desk.cache.now ≡ n.cache.now → Does files reads d m k
      → Does files reads d (as_named n m) (as_named n k) × (k.desk.cache.now ≡ n.cache.now)
  does_named n (gets slot key) m k e x =
      let g = x.1 in (
        (
          x.0,
          record {
            same = record { cache = refl; seat = refl; evictor = refl; store = refl; totals = refl; id = g.same.id };
            between = g.between;
            id = g.id;
            fetched = subst (λ (c : Cache W). Fetches files (pool_of c) m.desk.seat.now g.between key x.0) e g.fetched;
            victims = subst (λ (c : Cache W). TakesVictims files (pool_of c) m.desk.seat.now g.between key m.desk.evictor.now
                k.desk.evictor.now (x.0).how) e g.victims;
            kept = g.kept;
            unmoved = g.unmoved;
            out = subst (λ (c : Cache W). IsReadOut files (pool_of c) g.between k.desk.seat.now x.0 (x.0).how) e g.out;
            read = g.read;
            counted = g.counted;
          },
          x.2,
        ),
        g.same.cache ∙ e,
      )
  does_named n (misses key) m k e x =
      let g = x.0 in (
        (
          record {
            same = record { cache = refl; seat = refl; evictor = refl; store = refl; totals = refl; id = g.same.id };
            failed = subst (λ (c : Cache W). FailsToFetch files (pool_of c) m.desk.seat.now k.desk.seat.now key) e g.failed;
            kept = g.kept;
            unread = g.unread;
            uncounted = g.uncounted;
          },
          x.1,
        ),
        g.same.cache ∙ e,
      )
  does_named n (drops slot key) m k e x =
      let g = x.3 in (
        (
          x.0,
          x.1,
          x.2,
          record {
            same = record { cache = refl; seat = refl; evictor = refl; store = refl; totals = refl; id = g.same.id };
            done = subst (λ (c : Cache W). IsDone files (pool_of c) m.desk.seat.now k.desk.seat.now (x.0).ranged) e g.done;
            kept = g.kept;
            unread = g.unread;
            uncounted = g.uncounted;
          },
          x.4,
        ),
        g.same.cache ∙ e,
      )

  pub ran_named : (n : Desk W S) (ds : List Deed) (m k : Moment W S) → m.desk.cache.now ≡ n.cache.now → Ran files reads m ds k
      → Ran files reads (as_named n m) ds (as_named n k)
  ran_named n [] m k e x = ap (λ (y : Moment W S). as_named n y) x
  ran_named n (d ∷ ds) m k e x =
      let one = does_named n d m x.0 e x.1 in
      (as_named n x.0, one.0, ran_named n ds x.0 k one.1 x.2)

  ran_then : (ds es : List Deed) (m k n : Moment W S) → Ran files reads m ds k → Ran files reads k es n → Ran files reads m (ds ++ es) n
  ran_then [] es m k n e r = subst (λ (x : Moment W S). Ran files reads x es n) e r
  ran_then (d ∷ ds) es m k n r s = (r.0, r.1, ran_then ds es r.0 k n r.2 s)

module _ (files : Option Files) {W S : Type 0} {G : Ghosts S W} (reads : S → Option (List FileRange)) where
  -- ---- acts

  pub did_nothing : (r : Elevator W S G) → Did files reads r [] r
  did_nothing r = record { same = same_desk (desk_of r); scratch = refl; chunk = refl; deeds = []; fits = (refl, refl); ran = refl }

  pub did_joined : (first between last : Elevator W S G) (front back : List Act) → Did files reads first front between
      → Did files reads between back last → Did files reads first (front ++ back) last
  did_joined first between last front back p q =
      let back' = subst (λ (c : ℕ). Fits c (books_of between) back q.deeds (books_of last)) p.chunk q.fits in
      record {
        same = same_then (desk_of first) (desk_of between) (desk_of last) p.same q.same;
        scratch = q.scratch ∙ p.scratch;
        chunk = q.chunk ∙ p.chunk;
        deeds = p.deeds ++ q.deeds;
        fits = fits_join first.chunk first.chunk_is.some (books_of first) (books_of between) (books_of last) front back p.deeds q.deeds
            p.fits back';
        ran = ran_then files reads p.deeds q.deeds (moment_of first) (as_named (desk_of first) (moment_of between))
            (as_named (desk_of first) (moment_of last)) p.ran
            (ran_named files reads (desk_of first) q.deeds (moment_of between) (as_named (desk_of between) (moment_of last)) p.same.cache
            q.ran);
      }

  pub went_on : (first between last : Elevator W S G) (front back : List ReadEntry) → Did files reads first (read_acts front) between
      → Did files reads between (read_acts back) last → Did files reads first (read_acts (front ++ back)) last
  went_on first between last front back p q =
      subst (λ (acts : List Act). Did files reads first acts last) (sym (read_acts_join front back))
      (did_joined first between last (read_acts front) (read_acts back) p q)

  pub reads_leave : (first last : Elevator W S G) (entries : List ReadEntry) (stream : ℕ) → Did files reads first (read_acts entries) last
      → rest_of files last stream ≡ rest_of files first stream
  reads_leave first last entries stream p =
      ap (λ (cs : List Cursor). rest_at files (cursor_at cs stream))
      (reads_keep first.chunk first.chunk_is.some (books_of first) (books_of last) entries p.deeds p.fits)

  -- ---- takes

  -- by takes, of which each stream has lost its bytes
  pub record Fed (first : Elevator W S G) (ts : List Taken) (last : Elevator W S G) : Type 0 where
    pub did : Did files reads first (take_acts ts) last
    pub lost : (stream : ℕ) → Lost (taken_of stream ts) (rest_of files first stream) (rest_of files last stream)

  pub fed_nothing : (r : Elevator W S G) → Fed r [] r
  fed_nothing r = record { did = did_nothing r; lost = λ stream. Lost-nothing (rest_of files r stream) }

  pub fed_joined : (first between last : Elevator W S G) (xs ys : List Taken) → Fed first xs between → Fed between ys last
      → Fed first (xs ++ ys) last
  fed_joined first between last xs ys p q =
      record {
        did = subst (λ (acts : List Act). Did files reads first acts last) (sym (take_acts_join xs ys))
            (did_joined first between last (take_acts xs) (take_acts ys) p.did q.did);
        lost = λ stream.
            let rest : Elevator W S G → Option (List ℕ) = λ e. rest_of files e stream in
            subst (λ (n : ℕ). Lost n (rest first) (rest last)) (sym (taken_of-append stream xs ys))
            (Lost-then (taken_of stream xs) (taken_of stream ys) (rest first) (rest between) (rest last) (p.lost stream) (q.lost stream));
      }

  pub fed_sum : (first last : Elevator W S G) (before after : List Taken) (stream m n : ℕ)
      → Fed first (before ++ gave stream m ∷ gave stream n ∷ after) last → Fed first (before ++ gave stream (m + n) ∷ after) last
  fed_sum first last before after stream m n p =
      record {
        did = record {
          same = p.did.same;
          scratch = p.did.scratch;
          chunk = p.did.chunk;
          deeds = p.did.deeds;
          fits = fits_sum first.chunk first.chunk_is.some (books_of first) (books_of last) before after stream m n p.did.deeds p.did.fits;
          ran = p.did.ran;
        };
        lost = λ other.
            subst (λ (k : ℕ). Lost k (rest_of files first other) (rest_of files last other))
            (taken_of-sum other stream m n before after) (p.lost other);
      }

  pub takes_leave : (first last : Elevator W S G) (ts : List Taken) (stream : ℕ) → Fed first ts last → taken_of stream ts ≡ 0
      → rest_of files last stream ≡ rest_of files first stream
  takes_leave first last ts stream p none =
      let c : Cursor = cursor_at (books_of first).cursors stream in
      let e = (fits_moved first.chunk first.chunk_is.some (books_of first) (books_of last) ts p.did.deeds stream p.did.fits).0 in
      let same : c.taken + 0 ≡ c.taken = omega arith in
      ap (λ (x : Cursor). rest_at files x)
      (e ∙ ap (λ (k : ℕ). moved c k) none ∙ ap (λ (k : ℕ). record { range = c.range; taken = k }) same)
