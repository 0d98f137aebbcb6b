use Rattle.std.proofs.Common.{◌≡◌, ℕ, List, length, drop, Ok, ℤ, refl, ◌∙◌, ap, subst, arith}
use Rattle.std.proofs.lemmas.Result.{err_from_is_err_and}
use Rattle.orc_columns.specs.Batches.{LengthsGoOn, LengthsBreak}
use Rattle.orc_columns.specs.Draws.{Draws}
use Rattle.orc_columns.proofs.Drawing.{Draws-done}
use Rattle.orc_columns.proofs.WholeDictionary.{no_lengths, lengths_more, lengths_stop}
use Rattle.orc_columns.specs.Turns.{alone}
use Rattle.orc_columns.proofs.entry_lengths.push_all_lengths.Goals as goal

pub loop-open-init : goal.loop-open-init
loop-open-init g c =
    let f = g.F.Feed in
    let m = g.met.F.Feed in
    let i = c.args.integers.now in
    let items : List ℤ = c.args.into.now.items in
    record {
      asked = omega (arith, ap length c.requires.none);
      stream = refl;
      version = refl;
      signed = refl;
      whole = λ fresh. fresh;
      draws = λ plan differ on fresh. Draws-done f.rest f.fed f.fault_count plan m.fed_lost m.fed_nothing m.fed_joined c.args.feed.now (LengthsGoOn i i) (LengthsBreak i (length items)) items (λ s tells. no_lengths i s items c.requires.none);
    }

pub returns-in_err-push_lengths-clause-draws : goal.returns-in_err-push_lengths-clause-draws
returns-in_err-push_lengths-clause-draws g c = λ plan differ on fresh.
    let f = g.F.Feed in
    let m = g.met.F.Feed in
    let l = c.loop-open in
    let i = c.args.integers.now in
    let p = err_from_is_err_and c.from_residual.result c.from_residual.ensures.1 in
    rw (p.1, p.2) (lengths_stop f.rest f.fed f.fault_count plan m.fed_lost m.fed_nothing m.fed_joined i l.integers c.push_lengths.new.integers (length l.into.items) c.min-asked.result c.args.count c.args.feed.now l.feed c.push_lengths.new.feed
    l.into.items c.in_err-push_lengths.field-0.0 l.invariant.version l.invariant.signed (omega (arith, l.invariant.asked, c.min-asked.ensures))
    (l.invariant.draws plan differ on fresh) (c.in_err-push_lengths.ensures.draws plan differ (l.invariant.stream ∙ on) (l.invariant.whole fresh)))

pub loop-open-preserved : goal.loop-open-preserved
loop-open-preserved g c =
    let f = g.F.Feed in
    let m = g.met.F.Feed in
    let l = c.loop-open in
    let i = c.args.integers.now in
    let e = c.push_lengths.ensures in
    record {
      asked = omega (arith, l.invariant.asked, c.min-asked.ensures, c.in_ok-push_lengths.ensures.len);
      stream = e.stream ∙ l.invariant.stream;
      version = e.version ∙ l.invariant.version;
      signed = e.signed ∙ l.invariant.signed;
      whole = λ fresh. c.in_ok-push_lengths.ensures.whole (l.invariant.whole fresh);
      draws = λ plan differ on fresh. lengths_more f.rest f.fed f.fault_count plan m.fed_lost m.fed_nothing m.fed_joined i l.integers c.push_lengths.new.integers (length l.into.items) c.min-asked.result c.args.feed.now l.feed c.push_lengths.new.feed
          l.into.items (drop (length l.into.items) c.push_lengths.new.into.items) c.push_lengths.new.into.items l.invariant.version l.invariant.signed c.in_ok-push_lengths.ensures.kept
          (l.invariant.draws plan differ on fresh) (c.in_ok-push_lengths.ensures.draws plan differ (l.invariant.stream ∙ on) (l.invariant.whole fresh));
    }

pub returns-clause-draws : goal.returns-clause-draws
returns-clause-draws g c = λ plan differ on fresh.
    let f = g.F.Feed in
    let l = c.loop-open in
    let i = c.args.integers.now in
    let all : length l.into.items ≡ c.args.count = omega (arith, l.invariant.asked) in
    subst (λ (k : ℕ). Draws f.rest f.fed f.fault_count plan (alone plan.length) c.args.feed.now l.feed (LengthsGoOn i l.integers) (LengthsBreak i k) (Ok l.into.items)) all (l.invariant.draws plan differ on fresh)
