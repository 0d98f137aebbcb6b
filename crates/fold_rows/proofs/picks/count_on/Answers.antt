use Rattle.std.proofs.Common.{◌≡◌, ◌+◌, ◌<◌, ◌^◌, ◌∙◌, Bool, List, length, slice_range, take, sym, ap, arith}
use Rattle.std.proofs.lemmas.List.{length-map, length-take}
use Rattle.orc_values.specs.Column.{is_present, present_of}
use Rattle.orc_values.specs.Woven.{present_count}
use Rattle.orc_values.specs.WovenLaws.{present_count-le}
use Rattle.fold_rows.proofs.Counting.{all_in_front, front_and_on}
use Rattle.fold_rows.proofs.picks.count_on.Goals as goal

pub returns-then-count-len : goal.returns-then-count-len
returns-then-count-len c =
    let flags : List Bool = present_of c.args.column.now in
    let long : length flags ≡ length c.args.column.now = length-map c.args.column.now is_present in
    let all : present_count flags ≡ length flags = sym c.count.ensures ∙ c.if-count-len.true ∙ c.len.ensures ∙ sym long in
    sym (all_in_front flags c.args.row all (omega (arith, long, c.requires.row)))

pub overflow_add-result : goal.overflow_add-result
overflow_add-result c =
    let flags : List Bool = present_of c.args.column.now in
    let on : c.count_between.result ≡ present_count (slice_range flags c.args.earlier c.args.row) =
    c.count_between.ensures ∙ ap (λ (l : List Bool). present_count (slice_range l c.args.earlier c.args.row)) c.present.ensures in
    omega (arith, front_and_on flags c.args.earlier c.args.row c.requires.order, on, c.requires.before, present_count-le (take c.args.row flags), length-take c.args.row flags, c.ranges.row.fits)

pub returns : goal.returns
returns c =
    let flags : List Bool = present_of c.args.column.now in
    let on : c.count_between.result ≡ present_count (slice_range flags c.args.earlier c.args.row) =
    c.count_between.ensures ∙ ap (λ (l : List Bool). present_count (slice_range l c.args.earlier c.args.row)) c.present.ensures in
    omega (arith, front_and_on flags c.args.earlier c.args.row c.requires.order, on, c.requires.before)
