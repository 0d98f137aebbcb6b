use Rattle.std.proofs.Common.{rules, ◌≡◌, ◌∙◌, length, replicate, sym}
use Rattle.fold_rows.proofs.Counting.{none_in_front}
use Rattle.fold_rows.proofs.picks.push_kept.Goals as goal

pub push_each-requires : goal.push_each-requires
push_each-requires c =
    let made : c.deref_mut.result.now ≡ replicate (length c.args.places.now) 0 = search rules in
    record {
      places = c.requires.places;
      rows = c.requires.rows;
      befores = made ∙ sym (none_in_front c.args.columns.now c.args.places.now);
    }
