use Rattle.std.proofs.Common.{arith, get_or, List, ℕ, ap, sym, ◌∙◌}
use Rattle.std.specs.Str.{bytes_eq}
use Rattle.std.proofs.lemmas.List.{ext_get_or}
use Rattle.std.proofs.lemmas.Map.Text.{is_eq-slice_cmp}
use Rattle.std.proofs.lemmas.Slice.Eq.{bytes_eq-Decides}
use Rattle.batch_masks.proofs.Masks.{not_same, are_same}
use Rattle.batch_masks.proofs.narrow.is_same.Goals as goal

pub returns-then-byte-literal : goal.returns-then-byte-literal
returns-then-byte-literal c =
    let xs = c.args.text.now in
    let ys = c.args.literal.now in
    not_same xs ys (bytes_eq xs ys) (bytes_eq-Decides xs ys) (λ e. c.if-byte-literal.true (ap (λ (l : List ℕ). get_or l c.loop-place.place 0) e))
    ∙ sym (is_eq-slice_cmp xs ys)

pub returns : goal.returns
returns c =
    let xs = c.args.text.now in
    let ys = c.args.literal.now in
    are_same xs ys (bytes_eq xs ys) (bytes_eq-Decides xs ys)
    (ext_get_or 0 xs ys c.requires (λ k lt. c.loop-place.invariant k (omega (arith, lt, c.loop-place-test.false, c.loop-place.auto.place-end))))
    ∙ sym (is_eq-slice_cmp xs ys)
