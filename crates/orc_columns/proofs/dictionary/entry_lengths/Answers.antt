use Rattle.std.proofs.Common.{List, ℤ, ap, subst}
use Rattle.std.specs.Prelude.{IfErr}
use Rattle.std.proofs.lemmas.Result.{err_from_is_err_and}
use Rattle.orc_columns.specs.Batches.{LengthsGoOn, LengthsBreak, AreRefused, EntriesFail}
use Rattle.orc_columns.specs.Decoders.{IntegersOf}
use Rattle.orc_columns.specs.Entries.{LengthsRead}
use Rattle.orc_columns.proofs.Drawing.{Draws-fault, Draws-no_memory}
use Rattle.orc_columns.proofs.TextLengths.{lengths_break, lengths_judged}
use Rattle.orc_columns.proofs.WholeDictionary.{refuse_at_start, entries_judged}
use Rattle.orc_columns.proofs.dictionary.entry_lengths.Goals as goal

pub returns-in_err-room-clause-draws : goal.returns-in_err-room-clause-draws
returns-in_err-room-clause-draws g c =
    let f = g.F.Feed in
    let m = g.met.F.Feed in
    let plan = c.args.plan in
    let p = err_from_is_err_and c.from_residual.result c.from_residual.ensures.1 in
    rw (p.1, p.2) (Draws-no_memory f.rest f.fed f.fault_count plan m.fed_lost m.fed_nothing m.fed_joined c.args.feed.now
    (LengthsRead c.args.version plan.dictionary_size) (EntriesFail c.args.version plan.dictionary_size))

pub returns-in_err-push_all_lengths-clause-draws : goal.returns-in_err-push_all_lengths-clause-draws
returns-in_err-push_all_lengths-clause-draws g c =
    let f = g.F.Feed in
    let m = g.met.F.Feed in
    let plan = c.args.plan in
    let i = c.new-integers.result in
    let new = c.push_all_lengths.new.integers in
    let is = c.new-integers.ensures in
    let p = err_from_is_err_and c.from_residual-in_err-push_all_lengths.result c.from_residual-in_err-push_all_lengths.ensures.1 in
    rw (p.1, p.2) (Draws-fault f.rest f.fed f.fault_count plan m.fed_lost m.fed_nothing m.fed_joined c.args.feed.now c.push_all_lengths.new.feed
    (LengthsGoOn i new) (LengthsRead c.args.version plan.dictionary_size) (LengthsBreak i plan.dictionary_size) (EntriesFail c.args.version plan.dictionary_size) c.in_err-push_all_lengths.field-0.0
    (λ b fault tells breaks. refuse_at_start f.rest f.fed f.fault_count plan m.fed_lost m.fed_nothing m.fed_joined i c.args.version plan.dictionary_size plan.dictionary_len b fault (ap (λ (i : IntegersOf). i.held) is) (ap (λ (i : IntegersOf). i.version) is) (c.requires.lens b tells).1
    (lengths_break i plan.dictionary_size plan.dictionary_len b fault (ap (λ (i : IntegersOf). i.signed) is) breaks))
    (c.in_err-push_all_lengths.ensures.draws plan c.requires.differ (ap (λ (i : IntegersOf). i.stream) is) (ap (λ (i : IntegersOf). i.fault) is)))

pub returns-clause-draws : goal.returns-clause-draws
returns-clause-draws g c =
    let f = g.F.Feed in
    let m = g.met.F.Feed in
    let plan = c.args.plan in
    let i = c.new-integers.result in
    let new = c.push_all_lengths.new.integers in
    let is = c.new-integers.ensures in
    let numbers : List ℤ = c.push_all_lengths.new.into.items in
    let unsigned = ap (λ (i : IntegersOf). i.signed) is in
    let judged : IfErr c.total_of.result (AreRefused numbers plan.dictionary_len) = subst (λ (l : List ℤ). IfErr c.total_of.result (AreRefused l plan.dictionary_len)) c.deref.ensures.value c.total_of.ensures.refused in
    entries_judged f.rest f.fed f.fault_count plan m.fed_lost m.fed_nothing m.fed_joined i new c.args.version plan.dictionary_size plan.dictionary_len c.args.feed.now c.push_all_lengths.new.feed numbers c.total_of.result
    (ap (λ (i : IntegersOf). i.held) is) (ap (λ (i : IntegersOf). i.version) is) unsigned c.in_ok-push_all_lengths.ensures.len (λ s tells. (c.requires.lens s tells).1)
    (lengths_judged f.rest f.fed f.fault_count plan m.fed_lost m.fed_nothing m.fed_joined i new plan.dictionary_size plan.dictionary_len c.args.feed.now c.push_all_lengths.new.feed numbers c.total_of.result unsigned c.in_ok-push_all_lengths.ensures.len judged
    (c.in_ok-push_all_lengths.ensures.draws plan c.requires.differ (ap (λ (i : IntegersOf). i.stream) is) (ap (λ (i : IntegersOf). i.fault) is)))
