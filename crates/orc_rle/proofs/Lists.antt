-- What is given of a list.
use Rattle.std.proofs.Common.{◌≡◌, ℕ, ◌<◌, List, [], ◌∷◌, ◌++◌, length, ap, ◌∙◌, arith}

-- what is given is some of what is held, where there is room
pub some_given : {V : Type 0} (held more rest : List V) (room : ℕ) → held ≡ more ++ rest → 0 < length held → (length more < room → rest ≡ []) → 0 < room → 0 < length more
some_given held [] rest room is some all asked =
    let none : length held ≡ 0 = ap length is ∙ ap length (all asked) in
    absurd (omega arith)
some_given held (x ∷ more) rest room is some all asked = omega arith
