-- The policy: an entry for each header that has one. Source: after LRFU (Lee and others, 2001); the stepped form is this project's own.
use Rattle.std.specs.Prelude.{◌==◌, ℕ, ◌+◌, ◌-◌, ◌*◌, ◌/◌, ◌^◌, min, max, if◌then◌else◌, List, Option, Some, None, slice_index_or}
use Rattle.std.specs.Prelude.{slice_set}
use Rattle.lrfu_policy.specs.declared.entry.Entry.{Entry}

-- the entries by header, and after how many ticks touches count for half
pub record Ranking : Type 0 where
  pub half_life : ℕ
  pub entries : List (Option Entry)

-- with that entry for the header, or none; the others stay
abbrev pub with_entry : ℕ → Option Entry → Ranking → Ranking
with_entry header entry p = record { half_life = p.half_life; entries = slice_set p.entries header entry }

-- how many half-lives end before a tick; without a half-life none does
abbrev pub half_lives : ℕ → ℕ → ℕ
half_lives half_life tick = if half_life == 0 then 0 else tick / half_life

-- what touches add: 2^32 each, to what is left of the earlier ones, up to 2^63
abbrev pub touched : ℕ → ℕ → ℕ
touched left touches = min (left + touches * 2 ^ 32) (2 ^ 63)

-- an entry, where it is of this key
abbrev pub with_key : ℕ → Option Entry → Option Entry
with_key key None = None
with_key key (Some e) = if e.key == key then Some e else None

-- The entry of a key after a sync with these touches and that last tick, from the entry of the same key that was there, if
-- one was: its touches are halved for each half-life that has ended since.
abbrev pub synced : ℕ → ℕ → ℕ → ℕ → Option Entry → Entry
synced half_life key touches last None =
    record { key = key; s = touched 0 touches; e = half_lives half_life last; last = last }
synced half_life key touches last (Some old) = record {
  key = key;
  s = touched (old.s / 2 ^ (half_lives half_life (max last old.last) - old.e)) touches;
  e = half_lives half_life (max last old.last);
  last = max last old.last;
}

-- the policy after a sync of a header's key
abbrev pub with_touches : ℕ → ℕ → ℕ → ℕ → Ranking → Ranking
with_touches header key touches last p =
    with_entry header (Some (synced p.half_life key touches last (with_key key (slice_index_or p.entries header None)))) p
