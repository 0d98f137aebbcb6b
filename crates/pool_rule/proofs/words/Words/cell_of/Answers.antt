use Rattle.std.proofs.Common.{◌≡◌, ℕ, ◌+◌, ◌*◌, ◌^◌, ◌<◌, subst, arith}
use Rattle.pool_model.specs.declared.block.Block.{Block}
use Rattle.pool_model.specs.Block.{bytes_in, cells_for}
use Rattle.pool_rule.specs.declared.geometry.Geometry.{Geometry}
use Rattle.pool_rule.specs.Layout.{IsBlockIn, IsGeometry, block_cells, places_of}
use Rattle.pool_rule.proofs.Cells.{cell_in_arenas, cells_in_block, few_cells}
use Rattle.pool_rule.proofs.Eights.{eights}
use Rattle.pool_rule.proofs.words.Words.cell_of.Goals as goal

-- the cell lies within all arenas, whichever of the two names the sizes have
inside : (g h : Geometry) (b : Block) (cell : ℕ) → g ≡ h → IsGeometry g → IsBlockIn g b → cell < cells_for (bytes_in g.min_block b) → b.place * block_cells h + cell < places_of g * block_cells g
inside g h b cell same sizes is less =
    let C : ℕ → Type 0 = λ n. cell < n in
    let within : cell < 2 ^ b.order * block_cells g = subst C (cells_in_block g b (eights g sizes)) less in
    let P : Geometry → Type 0 = λ x. b.place * block_cells x + cell < places_of g * block_cells g in
    subst P same (cell_in_arenas g b cell is within)

pub overflow_add-result : goal.overflow_add-result
overflow_add-result g c =
    let geometry = c.args.self.now.table.shared.key.geometry in
    let within = inside geometry c.args.self.now.geometry c.args.block c.args.cell c.args.self.now.told c.args.self.now.sized c.requires.block c.requires.cell in
    let few = few_cells geometry c.args.self.now.sized in
    omega (arith, within, few)

pub returns-clause-inside : goal.returns-clause-inside
returns-clause-inside g c =
    inside c.args.self.now.table.shared.key.geometry c.args.self.now.geometry c.args.block c.args.cell c.args.self.now.told c.args.self.now.sized c.requires.block c.requires.cell
