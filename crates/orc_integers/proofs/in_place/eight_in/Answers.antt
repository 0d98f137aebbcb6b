use Rattle.std.proofs.Common.{◌≡◌, ◌++◌, sym}
use Rattle.std.proofs.lemmas.List.{take-append-drop}
use Rattle.orc_integers.proofs.Numbers.{integers-short}
use Rattle.orc_integers.proofs.in_place.eight_in.Goals as goal

pub returns-in-Some : goal.returns-in-Some
returns-in-Some c =
    let bytes = c.args.bytes.now in
    let e = c.in-Some.ensures.cases in
    let parts : bytes ≡ c.in-Some.eight.now ++ c.in-Some.left.now = rw (e.0, e.1) (sym (take-append-drop 8 bytes)) in
    rw (parts, c.copy_from_slice.ensures.after, c.short_values.ensures)
    (integers-short c.args.signed c.in-Some.eight.now c.in-Some.left.now (c.are_short.ensures c.if-are_short.true))
