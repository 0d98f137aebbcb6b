use Rattle.std.proofs.Common.{ap}
use Rattle.std.proofs.lemmas.Result.{err_from_is_err_and}
use Rattle.orc_columns.specs.Batches.{ValuesBegin, ValuesFailAtStart, EntriesRead, EntriesFail}
use Rattle.orc_columns.specs.Column.{entries}
use Rattle.row_flags.specs.Decoders.{BitsOf}
use Rattle.orc_columns.specs.Decoders.{IntegersOf}
use Rattle.orc_columns.proofs.Beginnings.{bits_begin, numbers_begin, texts_begin, dictionary_begins}
use Rattle.orc_columns.proofs.Drawing.{Draws-done, Draws-ok, Draws-fault, Draws-no_memory}
use Rattle.orc_columns.proofs.value_reader.start_values.Goals as goal

pub returns-in-Bits-clause-draws : goal.returns-in-Bits-clause-draws
returns-in-Bits-clause-draws g c =
    let f = g.F.Feed in
    let m = g.met.F.Feed in
    let size = c.args.plan.dictionary_size in
    Draws-done f.rest f.fed f.fault_count c.args.plan m.fed_lost m.fed_nothing m.fed_joined c.args.feed.now (ValuesBegin size) (ValuesFailAtStart size c.args.spelling) _
    (λ s tells. bits_begin size s c.new.result (ap (λ (b : BitsOf). b.held) c.new.ensures))

pub returns-in_err-room-in-Integers-clause-draws : goal.returns-in_err-room-in-Integers-clause-draws
returns-in_err-room-in-Integers-clause-draws g c =
    let f = g.F.Feed in
    let m = g.met.F.Feed in
    let size = c.args.plan.dictionary_size in
    let p = err_from_is_err_and c.from_residual.result c.from_residual.ensures.1 in
    rw (p.1, p.2) (Draws-no_memory f.rest f.fed f.fault_count c.args.plan m.fed_lost m.fed_nothing m.fed_joined c.args.feed.now (ValuesBegin size) (ValuesFailAtStart size c.args.spelling))

pub returns-in_ok-room-in-Integers-clause-draws : goal.returns-in_ok-room-in-Integers-clause-draws
returns-in_ok-room-in-Integers-clause-draws g c =
    let f = g.F.Feed in
    let m = g.met.F.Feed in
    let size = c.args.plan.dictionary_size in
    Draws-done f.rest f.fed f.fault_count c.args.plan m.fed_lost m.fed_nothing m.fed_joined c.args.feed.now (ValuesBegin size) (ValuesFailAtStart size c.args.spelling) _
    (λ s tells. numbers_begin size s c.new-in-Integers-2.result (ap (λ (i : IntegersOf). i.held) c.new-in-Integers-2.ensures))

pub returns-in_err-room-in-Texts-clause-draws : goal.returns-in_err-room-in-Texts-clause-draws
returns-in_err-room-in-Texts-clause-draws g c =
    let f = g.F.Feed in
    let m = g.met.F.Feed in
    let size = c.args.plan.dictionary_size in
    let p = err_from_is_err_and c.from_residual-in_err-room-in-Texts.result c.from_residual-in_err-room-in-Texts.ensures.1 in
    rw (p.1, p.2) (Draws-no_memory f.rest f.fed f.fault_count c.args.plan m.fed_lost m.fed_nothing m.fed_joined c.args.feed.now (ValuesBegin size) (ValuesFailAtStart size c.args.spelling))

pub returns-in_ok-room-in-Texts-clause-draws : goal.returns-in_ok-room-in-Texts-clause-draws
returns-in_ok-room-in-Texts-clause-draws g c =
    let f = g.F.Feed in
    let m = g.met.F.Feed in
    let size = c.args.plan.dictionary_size in
    Draws-done f.rest f.fed f.fault_count c.args.plan m.fed_lost m.fed_nothing m.fed_joined c.args.feed.now (ValuesBegin size) (ValuesFailAtStart size c.args.spelling) _
    (λ s tells. texts_begin size s c.new-in-Texts-2.result c.args.plan.body c.args.plan.body_len c.new-in-Texts-3.result (ap (λ (i : IntegersOf). i.held) c.new-in-Texts-2.ensures) (c.requires.lens s tells).0)

pub returns-in_err-entries-in-Dictionary-clause-draws : goal.returns-in_err-entries-in-Dictionary-clause-draws
returns-in_err-entries-in-Dictionary-clause-draws g c =
    let f = g.F.Feed in
    let m = g.met.F.Feed in
    let size = c.args.plan.dictionary_size in
    let p = err_from_is_err_and c.from_residual-in_err-entries-in-Dictionary.result c.from_residual-in_err-entries-in-Dictionary.ensures.1 in
    rw (p.1, p.2, c.in-Dictionary.is) (Draws-fault f.rest f.fed f.fault_count c.args.plan m.fed_lost m.fed_nothing m.fed_joined c.args.feed.now c.read_entries.new.feed
    (EntriesRead c.in-Dictionary.version size) (ValuesBegin size) (EntriesFail c.in-Dictionary.version size) (ValuesFailAtStart size _) c.in_err-entries-in-Dictionary.field-0.0
    (λ b fault tells fails. entries fails)
    c.in_err-entries-in-Dictionary.ensures.draws)

pub returns-in_ok-room-in-Dictionary-clause-draws : goal.returns-in_ok-room-in-Dictionary-clause-draws
returns-in_ok-room-in-Dictionary-clause-draws g c =
    let f = g.F.Feed in
    let m = g.met.F.Feed in
    let size = c.args.plan.dictionary_size in
    let i = c.new-in-Dictionary-2.result in
    rw c.in-Dictionary.is (Draws-ok f.rest f.fed f.fault_count c.args.plan m.fed_lost m.fed_nothing m.fed_joined c.args.feed.now c.read_entries.new.feed
    (EntriesRead c.in-Dictionary.version size) (ValuesBegin size) (EntriesFail c.in-Dictionary.version size) (ValuesFailAtStart size _) c.in_ok-entries-in-Dictionary.entries _
    (λ b a tells read. dictionary_begins size b a i c.in-Dictionary.version c.in_ok-entries-in-Dictionary.entries (ap (λ (i : IntegersOf). i.held) c.new-in-Dictionary-2.ensures) (ap (λ (i : IntegersOf). i.version) c.new-in-Dictionary-2.ensures) read)
    c.in_ok-entries-in-Dictionary.ensures.draws)
