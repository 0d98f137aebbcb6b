use Rattle.std.proofs.Common.{List, [], ℕ, ◌<◌, ◌∙◌, sym, ap, map, length, get_or, arith}
use Rattle.std.proofs.lemmas.List.{length-map, get_or-map}
use Rattle.orc_tail.specs.Tail.{child}
use Rattle.orc_tail.specs.Views.{type_view}
use Rattle.orc_tail.proofs.Children.{goes_on}
use Rattle.orc_tail.proofs.top_columns.children.Goals as goal

pub loop-i-preserved : goal.loop-i-preserved
loop-i-preserved c =
    let types = map type_view c.args.types.now in
    let named : c.loop-i.i < length c.args.names.now = omega (arith, c.requires.named) in
    let name_is = c.new.ensures ∙ c.in_ok-name.ensures.items ∙ sym (get_or-map (λ name. name.now) c.args.names.now c.loop-i.i (record { ref_ptr = (0, 0); now = [] }) [] named) in
    let pushed_is = c.child.ensures ∙ ap (λ (name : List ℕ). child types (get_or c.args.numbers.now c.loop-i.i 0) name) name_is in
    rw c.in_ok-push.ensures.items (goes_on types c.args.numbers.now (map (λ name. name.now) c.args.names.now) c.loop-i.i [] c.loop-i.columns.items _ c.child.result c.loop-i-test.true (rw length-map named) pushed_is c.loop-i.invariant)
