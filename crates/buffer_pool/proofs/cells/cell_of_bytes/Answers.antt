use Rattle.std.proofs.Common.{◌≡◌, ℕ, ◌-◌, ◌*◌, List, length, get_or, take, drop, refl, ap, ◌∙◌, arith}
use Rattle.std.specs.Prelude.{slice_range}
use Rattle.std.proofs.lemmas.List.{get_or-take, length-drop, take_all}
use Rattle.std.specs.Int.{from_le_bytes, w64}
use Rattle.buffer_pool.specs.Made.{cell_in}
use Rattle.buffer_pool.proofs.cells.cell_of_bytes.Goals as goal

eight_bytes : (xs ys : List ℕ) → get_or xs 0 0 ≡ get_or ys 0 0 → get_or xs 1 0 ≡ get_or ys 1 0 → get_or xs 2 0 ≡ get_or ys 2 0 → get_or xs 3 0 ≡ get_or ys 3 0 → get_or xs 4 0 ≡ get_or ys 4 0 → get_or xs 5 0 ≡ get_or ys 5 0 → get_or xs 6 0 ≡ get_or ys 6 0 → get_or xs 7 0 ≡ get_or ys 7 0 → from_le_bytes w64 xs ≡ from_le_bytes w64 ys
eight_bytes xs ys e₀ e₁ e₂ e₃ e₄ e₅ e₆ e₇ = rw (e₀, e₁, e₂, e₃, e₄, e₅, e₆, e₇) refl

first_eight : (ys : List ℕ) → from_le_bytes w64 (take 8 ys) ≡ from_le_bytes w64 ys
first_eight ys = eight_bytes (take 8 ys) ys (get_or-take 8 ys 0 0 (omega arith)) (get_or-take 8 ys 1 0 (omega arith)) (get_or-take 8 ys 2 0 (omega arith)) (get_or-take 8 ys 3 0 (omega arith)) (get_or-take 8 ys 4 0 (omega arith)) (get_or-take 8 ys 5 0 (omega arith)) (get_or-take 8 ys 6 0 (omega arith)) (get_or-take 8 ys 7 0 (omega arith))

-- the bytes from a place on
rest_is : (bytes : List ℕ) (at : ℕ) → slice_range bytes at (length bytes) ≡ drop at bytes
rest_is bytes at = take_all (length bytes - at) (drop at bytes) (omega (arith, length-drop at bytes))

pub returns-in-Some : goal.returns-in-Some
unfolding cell_in
returns-in-Some c =
    let rest = slice_range c.args.bytes.now (8 * c.args.number) (length c.args.bytes.now) in
    c.from_le_bytes.ensures ∙ (ap (from_le_bytes w64) c.in-Some.ensures.cases.same ∙ (first_eight rest ∙ ap (from_le_bytes w64) (rest_is c.args.bytes.now (8 * c.args.number))))

pub returns-in-None : goal.returns-in-None
unfolding cell_in
returns-in-None c = c.last_cell.ensures ∙ ap (from_le_bytes w64) (rest_is c.args.bytes.now (8 * c.args.number))
