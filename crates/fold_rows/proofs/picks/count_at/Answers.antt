use Rattle.std.proofs.Common.{◌≡◌, ◌<◌, ◌∙◌, ℕ, [], List, length, take, sym, ap, arith}
use Rattle.std.proofs.lemmas.List.{get_or_read}
use Rattle.std.proofs.lemmas.List.Elements.{All-get_or}
use Rattle.orc_values.specs.declared.value.Value.{Value}
use Rattle.orc_values.specs.Column.{present_of}
use Rattle.orc_values.specs.Woven.{present_count}
use Rattle.fold_rows.proofs.picks.count_at.Goals as goal

pub count_on-requires : goal.count_on-requires
count_on-requires c =
    let none : List Value = [] in
    let columns = c.args.columns.now in
    let column = get_or_read columns c.args.place c.index-columns-place.result c.requires.place c.index-columns-place.is none in
    let len = All-get_or (λ column. c.args.row < length column) columns c.args.place none c.requires.place c.requires.row in
    record {
      order = c.requires.order;
      row = omega (arith, len, ap (λ (l : List Value). length l) column);
      before = c.requires.before ∙ sym (ap (λ (l : List Value). present_count (take c.args.earlier (present_of l))) column);
    }

pub returns : goal.returns
returns c =
    let none : List Value = [] in
    let columns = c.args.columns.now in
    let column = get_or_read columns c.args.place c.index-columns-place.result c.requires.place c.index-columns-place.is none in
    c.count_on.ensures ∙ ap (λ (l : List Value). present_count (take c.args.row (present_of l))) column
