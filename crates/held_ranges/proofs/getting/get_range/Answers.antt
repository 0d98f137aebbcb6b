use Rattle.std.proofs.Common.{ℕ, sym, ap, ◌∙◌, subst, refl}
use Rattle.std.specs.Prelude.{◌⊎◌}
use Rattle.buffer_word.specs.declared.key_word.Key.{Key}
use Rattle.buffer_pool.specs.Pools.{IsContentOf, buffer_key}
use Rattle.ledgers.specs.declared.cache_totals.How2.{How2}
use Rattle.ledgers.specs.CacheTotals.{noted}
use Rattle.range_cache.specs.Fetches.{Reads}
use Rattle.range_cache.specs.Ranges.{IsHit}
use Rattle.held_ranges.proofs.getting.get_range.Goals as goal

pub read_out-requires-clause-bytes : goal.read_out-requires-clause-bytes
read_out-requires-clause-bytes g c =
    let r = c.in_ok-ranged in
    let P : Key → Type 0 = λ k. IsHit r.ranged.how ⊎ IsContentOf g.W.World.files (buffer_key k) c.fetch.new.scratch in
    subst P (sym r.ensures.got.key_is) r.ensures.bytes

pub returns-clause-got : goal.returns-clause-got
returns-clause-got g c =
    let r = c.in_ok-ranged in
    let R : ℕ → Type 0 = λ file. Reads (g.S.Store.reads c.args.desk.now.store.now) (g.S.Store.reads c.fetch.new.store) (record { file = file; at = c.args.key.at; len = c.args.key.len }) r.ranged.how in
    record {
      same = record { cache = refl; seat = refl; evictor = refl; store = refl; totals = refl; id = c.read_out.ensures.seat.same ∙ r.ensures.seat.same };
      between = c.fetch.new.seat;
      id = r.ensures.seat.same;
      fetched = r.ensures.fetched;
      victims = r.ensures.victims;
      kept = r.ensures.hit;
      unmoved = r.ensures.got.moved;
      out = c.read_out.ensures.out;
      read = subst R (sym c.requires.file.number) r.ensures.reads;
      counted = c.note.ensures ∙ ap (λ (how : How2). noted how r.ranged.evicted r.ranged.moved c.args.desk.now.totals.now) c.counted_as.ensures;
    }
