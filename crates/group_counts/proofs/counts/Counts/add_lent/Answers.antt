use Rattle.std.proofs.Common.{◌∙◌, sym, ap, ℕ, ℤ, List}
use Rattle.std.proofs.lemmas.Result.{on_ok_weaker}
use Rattle.group_counts.specs.Entries.{entries_of, by_bytes}
use Rattle.group_counts.proofs.Joined.{add-null, add-false, add-true, add-number, add-text}
use Rattle.group_counts.proofs.counts.Counts.add_lent.Goals as goal

pub returns-in-Null : goal.returns-in-Null
returns-in-Null c =
    let f = c.self.inside in
    rw (c.in-Null.is, c.more.ensures, ← c.self.view_is) (sym (add-null f.nulls f.falses f.trues f.numbers.entries (by_bytes f.texts.entries) c.args.count))

pub returns-in-Int : goal.returns-in-Int
returns-in-Int c =
    let f = c.self.inside in
    on_ok_weaker c.add_number.result (λ e. rw (c.in-Int.is, ← c.self.view_is)
    (ap (λ (l : List (ℤ × ℕ)). entries_of f.nulls f.falses f.trues l (by_bytes f.texts.entries)) e ∙ sym (add-number f.nulls f.falses f.trues f.numbers.entries (by_bytes f.texts.entries) c.args.count c.in-Int.number))) c.add_number.ensures

pub returns-in-Text : goal.returns-in-Text
returns-in-Text c =
    let f = c.self.inside in
    on_ok_weaker c.add_text.result (λ e. rw (c.in-Text.is, ← c.self.view_is)
    (ap (λ (l : List (List ℕ × ℕ)). entries_of f.nulls f.falses f.trues f.numbers.entries l) e ∙ sym (add-text f.nulls f.falses f.trues f.numbers.entries (by_bytes f.texts.entries) c.args.count c.in-Text.text.now))) c.add_text.ensures

pub returns-then-truth : goal.returns-then-truth
returns-then-truth c =
    let f = c.self.inside in
    rw (c.in-Bool.is, c.if-truth.true, c.more-then-truth.ensures, ← c.self.view_is) (sym (add-true f.nulls f.falses f.trues f.numbers.entries (by_bytes f.texts.entries) c.args.count))

pub returns-else-truth : goal.returns-else-truth
returns-else-truth c =
    let f = c.self.inside in
    rw (c.in-Bool.is, c.if-truth.false, c.more-in-Bool.ensures, ← c.self.view_is) (sym (add-false f.nulls f.falses f.trues f.numbers.entries (by_bytes f.texts.entries) c.args.count))
