use Rattle.std.proofs.Common.{◌≡◌, ◌-◌, arith, List, ℕ, length, length-drop, drop, slice_range, ap, sym, ◌∙◌}
use Rattle.std.specs.Str.{bytes_eq}
use Rattle.std.proofs.lemmas.List.{length-take-le}
use Rattle.std.proofs.lemmas.Map.Text.{is_eq-slice_cmp}
use Rattle.std.proofs.lemmas.Slice.Eq.{bytes_eq-Decides}
use Rattle.batch_masks.proofs.Masks.{not_same}
use Rattle.batch_masks.proofs.narrow.is_between.Goals as goal

pub returns-then-end-start : goal.returns-then-end-start
returns-then-end-start c =
    let a = c.args in
    let text = slice_range a.bytes.now a.start a.end in
    let literal = a.literal.now in
    let len : length text ≡ a.end - a.start = length-take-le (a.end - a.start) (drop a.start a.bytes.now) (omega (arith, length-drop a.start a.bytes.now, c.requires.within)) in
    not_same text literal (bytes_eq text literal) (bytes_eq-Decides text literal)
    (λ e. c.if-end-start.true (omega (arith, len, ap (λ (l : List ℕ). length l) e, c.requires.order)))
    ∙ sym (is_eq-slice_cmp text literal)
