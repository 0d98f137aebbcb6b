use Rattle.std.proofs.Common.{ℕ, ◌<◌, ◌≤◌, ap, ◌∙◌, sym, subst, arith}
use Rattle.pool_model.specs.Block.{cells_for}
use Rattle.pool_rule.specs.declared.aim.Aim.TheVariants.{StoreCell}
use Rattle.pool_rule.specs.Plays.{IsAllowed, told_by}
use Rattle.pool_rule.specs.Layout.{cell_word}
use Rattle.pool_rule.proofs.Allowed.{fill_allowed}
use Rattle.pool_rule.proofs.TableSeats.{still_made}
use Rattle.pool_rule.proofs.words.Words.store_cell.Goals as goal

pub store-requires-clause-allowed : goal.store-requires-clause-allowed
store-requires-clause-allowed g c =
    let shared = c.args.self.now.table.shared in
    let seat = c.args.seat.now in
    let same = c.cell_of-cell.ensures.same in
    let P : ℕ → Type 0 = λ i. IsAllowed g.W.World.files shared.key seat.id seat.me.0 i (λ _. c.args.value) (λ _. told_by g.W.World.files shared.key.geometry seat.id (StoreCell c.args.header c.args.block c.args.key c.args.done c.args.value) c.args.value) in
    subst P (sym (c.cell_index-index.ensures.same ∙ ap (cell_word shared.key.geometry) same)) (fill_allowed g.W.World.files shared.key c.args.self.now.few seat.id seat.me.0 c.requires.seat.live.numbers c.every_run_is_lawful.ensures c.args.self.now.sized c.args.header c.requires.header c.args.block c.args.key c.args.done c.args.value c.requires.claim c.requires.more c.requires.cell)

pub returns-clause-seat : goal.returns-clause-seat
returns-clause-seat g c =
    let shared = c.args.self.now.table.shared in
    still_made shared.table_id g.W.World.files shared.key.geometry c.args.seat.now.id _ c.args.seat.now c.store.new.seat c.requires.seat c.store.ensures.seat c.store.ensures.told.1

room : (len bytes done : ℕ) → len ≤ bytes → done < cells_for len → done < cells_for bytes
unfolding cells_for
room len bytes done fits less = omega (arith, fits, less)

pub cell_of-cell-requires-clause-cell : goal.cell_of-cell-requires-clause-cell
cell_of-cell-requires-clause-cell g c = room c.args.key.len _ c.args.done c.requires.fits c.requires.more
