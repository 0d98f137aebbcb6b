use Rattle.std.proofs.Common.{◌<◌, ℕ, List, All, length, subst, ap, arith}
use Rattle.std.proofs.lemmas.List.Elements.{All-tail}
use Rattle.fold_rows.proofs.Counting.{rest_behind}
use Rattle.fold_rows.proofs.picks.+go_on.Goals as goal

pub go_on-requires : goal.go_on-requires
go_on-requires t c =
    let columns = c.args.columns.now in
    let place = c.in-Some.place.now in
    let places = c.in-Some.places.now in
    let places_are = c.in-Some.ensures.cases.0 in
    let befores_are = c.in-Some-split_first_mut.ensures.cases.0 in (
      omega (arith, ap (λ (l : List ℕ). length l) places_are),
      (
        All-tail (λ place. place < length columns) place places (subst (λ (l : List ℕ). All (λ place. place < length columns) l) places_are c.requires.places),
        (
          c.requires.order,
          (c.requires.row, rest_behind columns c.args.earlier c.args.places.now place places c.args.befores.now c.in-Some-split_first_mut.before.now c.in-Some-split_first_mut.befores.now places_are befores_are c.requires.befores),
        ),
      ),
    )
