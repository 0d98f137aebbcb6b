use Rattle.std.proofs.Common.{◌≡◌, List, ℕ, subst}
use Rattle.std.specs.Prelude.{IfSome}
use Rattle.pool_rule.specs.declared.view.View.{View}
use Rattle.pool_rule.specs.Rule.{StandsFor}
use Rattle.pool_rule.specs.Seats.{spent}
use Rattle.pool_rule.proofs.Learn.{if_value}
use Rattle.pool_rule.proofs.Lists.{elem_is}
use Rattle.pool_rule.proofs.laws.known_words_stand.Goals as goal

pub returns : goal.returns
returns c files g id word found v known stood knows =
    let s = stood.5 in
    let is = elem_is stood.2 id v spent s.seat_is in
    let K : View → Type 0 = λ u. IfSome u.known (λ ws. stood.1 ≡ ws) in
    let same : stood.1 ≡ known = if_value _ v.known known knows (subst K is (s.stands.seats id).knows) in
    let P : List ℕ → Type 0 = λ ws. StandsFor files stood.0 ws stood.2 stood.3 stood.4 in
    (stood.0, stood.2, stood.3, stood.4, s.geometry, subst P same s.stands, s.seat_is)
