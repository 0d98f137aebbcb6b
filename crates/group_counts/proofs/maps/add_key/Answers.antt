use Rattle.std.proofs.Common.{◌∙◌, sym, ap, ℕ, ℤ, to_z, of_z}
use Rattle.std.specs.BTreeMap.{insert_entry, is_at}
use Rattle.std.specs.Int.{w64}
use Rattle.std.specs.Map.{set_value}
use Rattle.std.specs.Ordering.{int_cmp}
use Rattle.std.proofs.lemmas.Cmp.{int_cmp_total}
use Rattle.std.proofs.lemmas.Int.{to_z-of_z}
use Rattle.group_counts.proofs.Adding.{added-absent, added-present}
use Rattle.group_counts.proofs.maps.add_key.Goals as goal

pub returns-in-Some : goal.returns-in-Some
returns-in-Some c =
    let key = to_z-of_z w64 c.args.key c.ranges.key in
    let written = rw key at (c.get_mut.follows.holds c.saturating_add.result).0 in
    let found = rw key at c.in-Some.ensures.value in
    written ∙ ap (λ (n : ℕ). set_value (is_at (int_cmp c.args.key)) c.args.counts.now.entries n) c.saturating_add.ensures ∙ added-present int_cmp int_cmp_total c.args.counts.now.entries c.args.key c.args.more c.in-Some.count.now c.in-Some.ensures.ordered (sym found)

pub returns-in-Ok : goal.returns-in-Ok
returns-in-Ok c =
    let key = to_z-of_z w64 c.args.key c.ranges.key in
    let absent = rw key at c.in-None.ensures.value in
    c.in-Ok.ensures.entries
    ∙ ap (λ m. insert_entry int_cmp m.entries (to_z w64 (of_z w64 c.args.key)) c.args.more) c.get_mut.follows.holds-at-none
    ∙ ap (λ (k : ℤ). insert_entry int_cmp c.args.counts.now.entries k c.args.more) key
    ∙ added-absent int_cmp c.args.counts.now.entries c.args.key c.args.more (sym absent)
