use Rattle.std.proofs.Common.{◌≡◌, ◌<◌, ◌∙◌, [], length, map, get_or, ap, sym, List}
use Rattle.std.proofs.lemmas.List.{get_or_read}
use Rattle.std.proofs.lemmas.List.Elements.{All-get_or}
use Rattle.orc_values.specs.declared.value.Value.{Value}
use Rattle.batch_masks.specs.Kept.{both}
use Rattle.batch_masks.specs.Checks.{check_holds}
use Rattle.batch_masks.proofs.Passing.{passes_more, passes-none}
use Rattle.batch_masks.proofs.mask.narrow_all.Goals as goal

pub loop-one-init : goal.loop-one-init
loop-one-init c = c.requires.all ∙ passes-none 0 (length c.args.mask.now) c.args.columns.now

pub narrow-requires : goal.narrow-requires
narrow-requires c =
    let none : List Value = [] in
    let tests = c.args.tests.now in
    let columns = c.args.columns.now in
    let one = c.one-item.result in
    let within = rw (sym c.one-item.is) at (All-get_or (λ t. t.column < length columns) tests c.loop-one.one-index one c.loop-one-test.true c.requires.within) in
    let column = get_or_read columns one.column c.index-columns-one.result within c.index-columns-one.is none in
    let len = All-get_or (λ column. length column ≡ length c.args.mask.now) columns one.column none within c.requires.rows in
    record { rows = c.loop-one.auto.mask ∙ sym len ∙ sym (ap (λ (l : List Value). length l) column) }

pub loop-one-preserved : goal.loop-one-preserved
loop-one-preserved c =
    let none : List Value = [] in
    let tests = c.args.tests.now in
    let columns = c.args.columns.now in
    let one = c.one-item.result in
    let i = c.loop-one.one-index in
    let within = All-get_or (λ t. t.column < length columns) tests i one c.loop-one-test.true c.requires.within in
    let len = All-get_or (λ column. length column ≡ length c.args.mask.now) columns (get_or tests i one).column none within c.requires.rows in
    let more = passes_more tests i (length c.args.mask.now) one columns c.loop-one.mask c.loop-one-test.true within len c.loop-one.invariant in
    let here = rw (sym c.one-item.is) at within in
    let column = get_or_read columns one.column c.index-columns-one.result here c.index-columns-one.is none in
    c.narrow.ensures ∙ ap (λ (l : List Value). both c.loop-one.mask (map (check_holds one.check) l)) column ∙ (rw (sym c.one-item.is) at more)
