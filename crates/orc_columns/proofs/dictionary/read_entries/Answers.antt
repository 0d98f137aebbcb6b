use Rattle.std.proofs.Common.{◌≡◌, List, length, map, unsigned_abs, Err, ℤ, refl, ◌∙◌, ap}
use Rattle.std.proofs.lemmas.Result.{err_from_is_err_and}
use Rattle.orc_values.specs.Texts.{running_ends}
use Rattle.orc_columns.specs.declared.fault.ColumnFault.TheVariants.{NoMemory}
use Rattle.orc_columns.specs.Batches.{EntriesRead, EntriesFail}
use Rattle.orc_columns.specs.Entries.{LengthsRead}
use Rattle.orc_columns.specs.Turns.{alone}
use Rattle.orc_columns.proofs.Drawing.{Draws-front, Draws-fault, Draws-stops}
use Rattle.orc_columns.proofs.WholeDictionary.{ends_within, dictionary_read, dictionary_fault}
use Rattle.orc_columns.proofs.dictionary.read_entries.Goals as goal

pub returns-in_err-total-clause-draws : goal.returns-in_err-total-clause-draws
returns-in_err-total-clause-draws g c =
    let f = g.F.Feed in
    let m = g.met.F.Feed in
    let plan = c.args.plan in
    let version = c.args.version in
    let size = plan.dictionary_size in
    let p = err_from_is_err_and c.from_residual.result c.from_residual.ensures.1 in
    rw (p.1, p.2) (Draws-front f.rest f.fed f.fault_count plan m.fed_lost m.fed_nothing m.fed_joined (alone plan.dictionary) c.args.feed.now c.entry_lengths.new.feed
    (EntriesRead version size) (EntriesFail version size) (Err c.in_err-total.field-0.0)
    (Draws-fault f.rest f.fed f.fault_count plan m.fed_lost m.fed_nothing m.fed_joined c.args.feed.now c.entry_lengths.new.feed
    (LengthsRead version size) (EntriesRead version size) (EntriesFail version size) (EntriesFail version size) c.in_err-total.field-0.0
    (λ b fault tells fails. fails) c.in_err-total.ensures.draws))

pub returns-in_err-ends-clause-draws : goal.returns-in_err-ends-clause-draws
returns-in_err-ends-clause-draws g c =
    let f = g.F.Feed in
    let m = g.met.F.Feed in
    let plan = c.args.plan in
    let version = c.args.version in
    let size = plan.dictionary_size in
    let p = err_from_is_err_and c.from_residual-in_err-ends.result c.from_residual-in_err-ends.ensures.1 in
    rw (p.1, p.2) (Draws-front f.rest f.fed f.fault_count plan m.fed_lost m.fed_nothing m.fed_joined (alone plan.dictionary) c.args.feed.now c.entry_lengths.new.feed
    (EntriesRead version size) (EntriesFail version size) (Err NoMemory)
    (Draws-stops f.rest f.fed f.fault_count plan m.fed_lost m.fed_nothing m.fed_joined c.args.feed.now c.entry_lengths.new.feed
    (LengthsRead version size) (EntriesRead version size) (EntriesFail version size) (EntriesFail version size) c.entry_lengths.new.lengths.items NoMemory (λ no. no)
    (λ b a tells goes. tt) c.in_ok-total.ensures.draws))

pub returns-in_err-read_bytes-clause-draws : goal.returns-in_err-read_bytes-clause-draws
returns-in_err-read_bytes-clause-draws g c =
    let f = g.F.Feed in
    let m = g.met.F.Feed in
    let plan = c.args.plan in
    let numbers : List ℤ = c.entry_lengths.new.lengths.items in
    let p = err_from_is_err_and c.from_residual-in_err-read_bytes.result c.from_residual-in_err-read_bytes.ensures.1 in
    rw (p.1, p.2) (dictionary_fault f.rest f.fed f.fault_count plan m.fed_lost m.fed_nothing m.fed_joined c.args.version plan.dictionary_size plan.dictionary_len c.in_ok-total.total numbers c.in_ok-total.ensures.total
    c.args.feed.now c.entry_lengths.new.feed c.read_bytes.new.feed (λ s tells. (c.requires.lens s tells).1) c.in_ok-total.ensures.draws c.in_err-read_bytes.field-0.0 (c.in_err-read_bytes.ensures.dictionary plan c.requires.differ refl))

pub new-requires : goal.new-requires
new-requires g c =
    let f = g.F.Feed in
    let m = g.met.F.Feed in
    let numbers : List ℤ = c.entry_lengths.new.lengths.items in
    let ends : c.in_ok-ends.ends.items ≡ running_ends 0 (map unsigned_abs numbers) = c.in_ok-ends.ensures.ends ∙ ap (λ (l : List ℤ). running_ends 0 (map unsigned_abs l)) c.deref.ensures.value in
    ends_within f.rest f.fed f.fault_count c.args.plan m.fed_lost m.fed_nothing m.fed_joined numbers c.args.plan.dictionary_len c.in_ok-total.total (length c.read_bytes.new.bytes.items) c.in_ok-ends.ends.items c.in_ok-total.ensures.total ends c.in_ok-read_bytes.ensures.len

pub returns-in_err-entries-clause-draws : goal.returns-in_err-entries-clause-draws
returns-in_err-entries-clause-draws g c =
    let f = g.F.Feed in
    let m = g.met.F.Feed in
    let plan = c.args.plan in
    let version = c.args.version in
    let size = plan.dictionary_size in
    let numbers : List ℤ = c.entry_lengths.new.lengths.items in
    let ends : c.in_ok-ends.ends.items ≡ running_ends 0 (map unsigned_abs numbers) = c.in_ok-ends.ensures.ends ∙ ap (λ (l : List ℤ). running_ends 0 (map unsigned_abs l)) c.deref.ensures.value in
    let p = err_from_is_err_and c.from_residual-in_err-entries.result c.from_residual-in_err-entries.ensures.1 in
    rw (p.1, p.2) (Draws-stops f.rest f.fed f.fault_count plan m.fed_lost m.fed_nothing m.fed_joined c.args.feed.now c.read_bytes.new.feed
    (EntriesRead version size) (EntriesRead version size) (EntriesFail version size) (EntriesFail version size) c.new.result NoMemory (λ no. no)
    (λ b a tells goes. tt)
    (dictionary_read f.rest f.fed f.fault_count plan m.fed_lost m.fed_nothing m.fed_joined version size plan.dictionary_len c.in_ok-total.total numbers c.in_ok-total.ensures.total
    c.args.feed.now c.entry_lengths.new.feed c.read_bytes.new.feed (λ s tells. (c.requires.lens s tells).1) c.in_ok-total.ensures.draws
    c.in_ok-ends.ends.items c.read_bytes.new.bytes.items c.new.result ends c.new.ensures (c.in_ok-read_bytes.ensures.dictionary plan c.requires.differ refl)))

pub returns-clause-draws : goal.returns-clause-draws
returns-clause-draws g c =
    let f = g.F.Feed in
    let m = g.met.F.Feed in
    let plan = c.args.plan in
    let numbers : List ℤ = c.entry_lengths.new.lengths.items in
    let ends : c.in_ok-ends.ends.items ≡ running_ends 0 (map unsigned_abs numbers) = c.in_ok-ends.ensures.ends ∙ ap (λ (l : List ℤ). running_ends 0 (map unsigned_abs l)) c.deref.ensures.value in
    dictionary_read f.rest f.fed f.fault_count plan m.fed_lost m.fed_nothing m.fed_joined c.args.version plan.dictionary_size plan.dictionary_len c.in_ok-total.total numbers c.in_ok-total.ensures.total
    c.args.feed.now c.entry_lengths.new.feed c.read_bytes.new.feed (λ s tells. (c.requires.lens s tells).1) c.in_ok-total.ensures.draws
    c.in_ok-ends.ends.items c.read_bytes.new.bytes.items c.in_ok-entries.entries ends (c.in_ok-entries.ensures ∙ c.new.ensures) (c.in_ok-read_bytes.ensures.dictionary plan c.requires.differ refl)
