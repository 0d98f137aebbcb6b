-- A cell of a new buffer is filled: no other buffer's cells change.
use Rattle.std.proofs.Common.{◌≡◌, ◌≢◌, ℕ, ◌+◌, ◌*◌, ◌/◌, ◌^◌, ◌<◌, ◌≤◌, List, length, get_or, set, refl, sym, ap, ◌∙◌, subst, inl, inr, arith}
use Rattle.std.specs.Prelude.{Option, None, Some, IfSome, ◌⊎◌}
use Rattle.std.proofs.lemmas.Bool.{cases_eq, cases_lt}
use Rattle.std.proofs.lemmas.Nat.{pow_pos}
use Rattle.std.proofs.lemmas.List.{get_or-set_same, get_or-set_other, length-set}
use Rattle.std.proofs.Math.Nat.{mul-le-mul_left, mul_comm, mul_assoc, mul-add}
use Rattle.pool_model.specs.declared.block.Block.{Block}
use Rattle.pool_model.specs.declared.buffer.Buffer.{Buffer}
use Rattle.pool_model.specs.declared.buffer.Target.{Target}
use Rattle.pool_model.specs.declared.pool.PlainPool.{PlainPool}
use Rattle.pool_model.specs.Block.{covers, bytes_in, cells_for, Within}
use Rattle.pool_model.specs.Buffer.{filled}
use Rattle.pool_model.specs.Pool.{buffer_at, buffer_covers, target_covers, owners}
use Rattle.pool_rule.specs.declared.geometry.Geometry.{Geometry}
use Rattle.pool_rule.specs.Headers.{HasContent, AreCells}
use Rattle.pool_rule.specs.Layout.{IsBlockIn, IsGeometry, block_cells, places_of}
use Rattle.pool_rule.proofs.Blocks.{covers_within}
use Rattle.pool_rule.proofs.Lists.{total-two}

-- ---- blocks apart

-- of two blocks without a minimum block in common, one ends before the other begins
intervals : (p s q t : ℕ) → 0 < s → 0 < t → ((m : ℕ) → (p ≤ m) × (m < p + s) → (q ≤ m) × (m < q + t) → ⊥) → (p + s ≤ q) ⊎ (q + t ≤ p)
intervals p s q t some_s some_t apart =
    elim (cases_lt p q) [
      | inl before ↦ elim (cases_lt q (p + s)) [ inl clash ↦ absurd (apart q (omega (arith, before), clash) (omega arith, omega (arith, some_t))) | inr ends ↦ inl ends ]
      | inr from ↦ elim (cases_lt p (q + t)) [ inl clash ↦ absurd (apart p (omega arith, omega (arith, some_s)) (from, clash)) | inr ends ↦ inr ends ]
    ]

-- cells of blocks of which one ends before the other begins
later_cells : (p s q n j k : ℕ) → p + s ≤ q → j < s * n → p * n + j ≢ q * n + k
later_cells p s q n j k ends less e =
    let up = mul-le-mul_left n ends in
    let a : n * (p + s) ≡ p * n + s * n = let u = mul_comm n p in let t = mul_comm n s in let d = mul-add n p s in omega (arith, u, t, d) in
    let b : n * q ≡ q * n = mul_comm n q in
    let r : p * n + s * n ≤ q * n = subst (λ (z : ℕ × ℕ). z.0 ≤ z.1) (λ i. (a i, b i)) up in
    omega (arith, r, less, e)

-- a block's cells are as many as its minimum blocks have
pub cells_in_block : (g : Geometry) (b : Block) → g.min_block ≡ 8 * block_cells g → cells_for (bytes_in g.min_block b) ≡ 2 ^ b.order * block_cells g
unfolding cells_for
cells_in_block g b eights =
    let size : ℕ = 2 ^ b.order in
    let n : ℕ = block_cells g in
    let product : g.min_block * 2 ^ b.order ≡ 8 * (2 ^ b.order * block_cells g) = ap (λ k. k * 2 ^ b.order) eights ∙ (mul_assoc 8 (block_cells g) (2 ^ b.order) ∙ ap (λ k. 8 * k) (mul_comm (block_cells g) (2 ^ b.order))) in
    omega (arith, product)

-- the cell of a block that has so many bytes is one of its minimum blocks'
pub cell_in_block : (g : Geometry) (b : Block) (len done : ℕ) → g.min_block ≡ 8 * block_cells g → len ≤ bytes_in g.min_block b → done < cells_for len → done < 2 ^ b.order * block_cells g
unfolding cells_for
cell_in_block g b len done eights fits less =
    let is = cells_in_block g b eights in
    let n : (bytes_in g.min_block b + 7) / 8 ≡ 2 ^ b.order * block_cells g = is in
    omega (arith, fits, less, n)

-- and lies within all of them
pub cell_in_arenas : (g : Geometry) (b : Block) (done : ℕ) → IsBlockIn g b → done < 2 ^ b.order * block_cells g → b.place * block_cells g + done < places_of g * block_cells g
cell_in_arenas g b done is less =
    let up = mul-le-mul_left (block_cells g) is.inside in
    let a = mul_comm (block_cells g) (b.place + 2 ^ b.order) in
    let c = mul_comm (block_cells g) (places_of g) in
    let d = mul_comm (block_cells g) b.place in
    let e = mul_comm (block_cells g) (2 ^ b.order) in
    let f = mul-add (block_cells g) b.place (2 ^ b.order) in
    omega (arith, up, a, c, d, e, f, less)

-- of which there are at most 2 ^ 25
pub few_cells : (g : Geometry) → IsGeometry g → places_of g * block_cells g ≤ 4096 * 8192
few_cells g h =
    let cells : block_cells g ≤ 8192 = omega (arith, h.min_block) in
    let places : places_of g ≤ 4096 = omega (arith, h.arenas) in
    let one = mul-le-mul_left (places_of g) cells in
    let two = mul-le-mul_left 8192 places in
    omega (arith, one, two)

module _ (g : Geometry) (eights : g.min_block ≡ 8 * block_cells g) where
  apart_cells : (b c : Block) (j k : ℕ) → ((m : ℕ) → Within b m → Within c m → ⊥) → j < 2 ^ b.order * block_cells g → k < 2 ^ c.order * block_cells g → b.place * block_cells g + j ≢ c.place * block_cells g + k
  apart_cells b c j k apart hj hk e =
      elim (intervals b.place (2 ^ b.order) c.place (2 ^ c.order) (pow_pos b.order) (pow_pos c.order) apart) [
        | inl ends ↦ later_cells b.place (2 ^ b.order) c.place (block_cells g) j k ends hj e
        | inr ends ↦ later_cells c.place (2 ^ c.order) b.place (block_cells g) k j ends hk (sym e)
      ]

  -- cells stay where the block has no minimum block in common with the one whose cell changes
  cells_stay : (b c : Block) (cells : List ℕ) (cell cell' : ℕ → ℕ) (done : ℕ) → ((m : ℕ) → Within b m → Within c m → ⊥) → length cells ≡ cells_for (bytes_in g.min_block c) → done < 2 ^ b.order * block_cells g → ((n : ℕ) → n ≢ b.place * block_cells g + done → cell' n ≡ cell n) → AreCells g cell c cells → AreCells g cell' c cells
  cells_stay b c cells cell cell' done apart all less same are j there =
      let bound : j < 2 ^ c.order * block_cells g = omega (arith, there, all, cells_in_block g c eights) in
      are j there ∙ sym (same (c.place * block_cells g + j) (λ e. apart_cells b c done j apart less bound (sym e)))

  -- two headers' blocks have no minimum block in common
  headers_apart : (pool : PlainPool) (h1 h2 : ℕ) (x y : Buffer) → ((m : ℕ) → owners pool m ≤ 1) → h1 ≢ h2 → h1 < length pool.buffers → h2 < length pool.buffers → buffer_at pool h1 ≡ Some x → buffer_at pool h2 ≡ Some y → (m : ℕ) → buffer_covers m h1 (Some x) + buffer_covers m h2 (Some y) ≤ 1
  unfolding owners
  headers_apart pool h1 h2 x y once apart in1 in2 e1 e2 m =
      let two = total-two (buffer_covers m) pool.buffers h1 h2 None None apart in1 in2 refl in
      let a : buffer_covers m h1 (get_or pool.buffers h1 None) ≡ buffer_covers m h1 (Some x) = ap (buffer_covers m h1) e1 in
      let b : buffer_covers m h2 (get_or pool.buffers h2 None) ≡ buffer_covers m h2 (Some y) = ap (buffer_covers m h2) e2 in
      omega (arith, two, a, b, once m)

  -- a buffer's cells and its target's stay, where another header's block has the cell
  pub content_stays : (pool : PlainPool) (h1 h2 : ℕ) (x y : Buffer) (places key : ℕ) (cell cell' : ℕ → ℕ) (done : ℕ) → ((m : ℕ) → owners pool m ≤ 1) → h1 ≢ h2 → h1 < length pool.buffers → h2 < length pool.buffers → buffer_at pool h1 ≡ Some x → buffer_at pool h2 ≡ Some y → length y.cells ≡ cells_for (bytes_in g.min_block y.block) → IfSome y.target (λ (t : Target). length t.cells ≡ cells_for (bytes_in g.min_block t.block)) → done < 2 ^ x.block.order * block_cells g → ((n : ℕ) → n ≢ x.block.place * block_cells g + done → cell' n ≡ cell n) → HasContent g key cell y → HasContent g key cell' y
  content_stays pool h1 h2 x y places key cell cell' done once apart in1 in2 e1 e2 all all_target less same c =
      let sum = headers_apart pool h1 h2 x y once apart in1 in2 e1 e2 in
      record {
        key_packs = c.key_packs;
        key_is = c.key_is;
        cells = cells_stay x.block y.block y.cells cell cell' done (λ m w1 w2. let s = sum m in let a = covers_within x.block m w1 in let b = covers_within y.block m w2 in omega (arith, s, a, b)) all less same c.cells;
        target_cells = of_target y.target sum all_target c.target_cells;
      }
    where
      of_target : (t : Option Target) → ((m : ℕ) → buffer_covers m h1 (Some x) + (covers y.block m + target_covers m t) ≤ 1) → IfSome t (λ (z : Target). length z.cells ≡ cells_for (bytes_in g.min_block z.block)) → IfSome t (λ (z : Target). AreCells g cell z.block z.cells) → IfSome t (λ (z : Target). AreCells g cell' z.block z.cells)
      of_target None sum all are = tt
      of_target (Some t) sum all are =
          cells_stay x.block t.block t.cells cell cell' done (λ m w1 w2. let s = sum m in let a = covers_within x.block m w1 in let b = covers_within t.block m w2 in omega (arith, s, a, b)) all less same are

  -- the buffer whose cell is filled
  pub content_filled : (x : Buffer) (key value : ℕ) (cell cell' : ℕ → ℕ) → length x.cells ≡ cells_for (bytes_in g.min_block x.block) → x.target ≡ None → x.done < length x.cells → cell' (x.block.place * block_cells g + x.done) ≡ value → ((n : ℕ) → n ≢ x.block.place * block_cells g + x.done → cell' n ≡ cell n) → HasContent g key cell x → HasContent g key cell' (filled value x)
  content_filled x key value cell cell' all no_target less here same c =
      record {
        key_packs = c.key_packs;
        key_is = c.key_is;
        cells = λ j there.
            let inside : j < length x.cells = omega (arith, there, length-set x.cells x.done value) in
            elim (cases_eq j x.done) [
              | inl it ↦
                  let a : get_or (set x.cells x.done value) j 0 ≡ value = ap (λ k. get_or (set x.cells x.done value) k 0) it ∙ get_or-set_same x.cells x.done value 0 less in
                  a ∙ (sym here ∙ ap (λ k. cell' (x.block.place * block_cells g + k)) (sym it))
              | inr other ↦
                  get_or-set_other x.cells x.done j value 0 other ∙ (c.cells j inside ∙ sym (same (x.block.place * block_cells g + j) (λ e. other (omega (arith, e)))))
            ];
        target_cells = let P : Option Target → Type 0 = λ o. IfSome o (λ (t : Target). AreCells g cell' t.block t.cells) in subst P (sym no_target) tt;
      }
