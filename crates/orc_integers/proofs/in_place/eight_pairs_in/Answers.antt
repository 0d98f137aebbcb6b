use Rattle.std.proofs.Common.{◌≡◌, ◌++◌, sym}
use Rattle.std.proofs.lemmas.List.{take-append-drop}
use Rattle.orc_integers.proofs.Numbers.{integers-pairs}
use Rattle.orc_integers.proofs.in_place.eight_pairs_in.Goals as goal

pub returns-in-Some : goal.returns-in-Some
returns-in-Some c =
    let bytes = c.args.bytes.now in
    let e = c.in-Some.ensures.cases in
    let parts : bytes ≡ c.in-Some.pairs.now ++ c.in-Some.left.now = rw (e.0, e.1) (sym (take-append-drop 16 bytes)) in
    rw (parts, c.copy_from_slice.ensures.after, c.pair_values.ensures)
    (integers-pairs c.args.signed c.in-Some.pairs.now c.in-Some.left.now (c.are_pairs.ensures c.if-are_pairs.true))
