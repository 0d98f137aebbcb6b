use Rattle.std.proofs.Common.{◌∙◌, ap, refl}
use Rattle.std.proofs.lemmas.Result.{on_ok_weaker}
use Rattle.orc_values.specs.Shown.{shown}
use Rattle.group_counts.specs.Order.{value_cmp}
use Rattle.group_counts.specs.Tally.{added, added_all}
use Rattle.group_counts.specs.Entries.{Entries}
use Rattle.group_counts.proofs.Moved.{value-later}
use Rattle.group_counts.proofs.counts.Counts.add_seen.Goals as goal

pub returns : goal.returns
returns c = on_ok_weaker c.add-2.result (λ e.
    ap (λ (l : Entries). added_all value_cmp l c.add.new.self) e
    ∙ value-later c.args.self.now c.add.new.self (shown c.args.key) 1
    ∙ ap (λ (l : Entries). added value_cmp (added_all value_cmp c.args.self.now l) (shown c.args.key) 1) (c.if-add.ensures.refused refl)) c.add-2.ensures
