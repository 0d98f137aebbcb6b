-- What a cell of a pinned buffer holds.
use Rattle.std.proofs.Common.{◌≡◌, ℕ, ◌+◌, ◌*◌, ◌<◌, ◌≤◌, List, [], length, get_or, refl, sym, ap, ◌∙◌, subst, arith}
use Rattle.std.specs.Prelude.{Option, None, Some}
use mathlib.Core.Option.{some}
use lib.ListN.{get_elem?}
use Rattle.pool_model.specs.declared.block.Block.{Block}
use Rattle.pool_model.specs.declared.buffer.Buffer.{Buffer}
use Rattle.pool_model.specs.declared.buffer.BufferKey.{BufferKey}
use Rattle.pool_model.specs.declared.buffer.BufferMode.{BufferMode}
use Rattle.pool_model.specs.declared.buffer.BufferMode.TheVariants.{New, Live, Moving, Evicted}
use Rattle.pool_model.specs.declared.buffer.Target.{Target}
use Rattle.pool_model.specs.declared.pool.PlainPool.{PlainPool}
use Rattle.pool_model.specs.declared.setting.Setting.{Setting}
use Rattle.pool_model.specs.declared.step.Step.{Step}
use Rattle.pool_model.specs.Block.{bytes_in, cells_for}
use Rattle.pool_model.specs.Buffer.{Holds}
use Rattle.pool_model.specs.Content.{Files, FirstCells, IsCell, cells_of}
use Rattle.pool_model.specs.Lawful.{HoldersFit, HoldsContent, IsLawfulBuffer}
use Rattle.pool_model.specs.Laws.{EveryRunIsLawful}
use Rattle.pool_model.specs.Pool.{buffer_at}
use Rattle.pool_rule.specs.declared.geometry.Setup.{Setup}
use Rattle.pool_rule.specs.declared.view.Hold.{Hold}
use Rattle.pool_rule.specs.declared.view.Hold.TheVariants.{Pinned}
use Rattle.pool_rule.specs.declared.view.View.{View}
use Rattle.pool_rule.specs.Headers.{HoldFits}
use Rattle.pool_rule.specs.Layout.{block_cells, cell_word}
use Rattle.pool_rule.specs.Rule.{StandsFor, cells_in, setting_of}
use Rattle.pool_rule.specs.Seats.{mark_at}
use Rattle.pool_rule.specs.WordSteps.{TellsCell}
use Rattle.pool_rule.proofs.Counting.{some_value}
use Rattle.pool_rule.proofs.Frame.{is_view}
use Rattle.pool_rule.proofs.Story.{story_lawful}

no_holder : (seat : ℕ) (holders : List ℕ) → holders ≡ [] → Holds seat holders → ⊥
no_holder seat holders e held = let P : List ℕ → Type 0 = λ l. Holds seat l in let f : Holds seat [] = subst P e held in cc

-- a held buffer's cells are its key's content
held_content : (w : Setting) (seat : ℕ) (m : BufferMode) (holders : List ℕ) (key : BufferKey) (cells : List ℕ) (t : Option Target) (done : ℕ) → HoldersFit m holders → Holds seat holders → HoldsContent w m key cells t done → FirstCells w.files key cells (cells_of key)
held_content w seat Live holders key cells t done fit held c = c
held_content w seat New holders key cells t done fit held c = absurd (no_holder seat holders fit held)
held_content w seat Moving holders key cells t done fit held c = absurd (no_holder seat holders fit held)
held_content w seat Evicted holders key cells t done fit held c = absurd (no_holder seat holders fit held)

pinned_in : (seat : ℕ) (o : Option Buffer) (b : Block) (key : BufferKey) → HoldFits seat o (Pinned b (Some key)) → (y : Buffer) × (o ≡ Some y) × Holds seat y.holders × (y.block ≡ b) × (y.key ≡ Some key)
pinned_in seat None b key fits = absurd fits
pinned_in seat (Some y) b key fits = (y, refl, fits.0, fits.1, fits.2)

room : (len bytes j : ℕ) → len ≤ bytes → j < cells_for len → j < cells_for bytes
unfolding cells_for
room len bytes j fits less = omega (arith, fits, less)

pub cell_told : (law : EveryRunIsLawful) (files : Option Files) (setup : Setup) (words : List ℕ) (views : List View) (log : List Step) (pool : PlainPool) (h : StandsFor files setup words views log pool) (id : ℕ) (v : View) (at : get_elem? views id ≡ some v) (live : 0 < length v.numbers) (cell : ℕ) → TellsCell files setup.geometry cell (get_or words (cell_word setup.geometry cell) 0) v
cell_told law files setup words views log pool h id v at live cell header b key j inside hold less place =
    let g = setup.geometry in
    let is = is_view files setup words views log pool h id v at live in
    let V : View → Type 0 = λ u. HoldFits id (buffer_at pool header) (mark_at u header).hold in
    let H : Hold → Type 0 = λ x. HoldFits id (buffer_at pool header) x in
    let p = pinned_in id (buffer_at pool header) b key (subst H hold (subst V is ((h.headers header inside).each_seat id).0)) in
    let y : Buffer = p.0 in
    let lawful : IsLawfulBuffer (setting_of files g) (length pool.grants) y = some_value _ (buffer_at pool header) y p.1 ((story_lawful law files g (length views) log pool h.story).buffers header) in
    let of_key = some_value _ y.key key p.4 lawful.key in
    let content = held_content (setting_of files g) id y.mode y.holders key y.cells y.target y.done lawful.holders p.2 of_key.content in
    let there : j < length y.cells = let all = lawful.all_cells in let r = room key.len (bytes_in g.min_block y.block) j of_key.fits less in rw all r in
    let words_are = some_value _ (buffer_at pool header) y p.1 (h.headers header inside).content in
    let here : get_or y.cells j 0 ≡ get_or words (cell_word g cell) 0 = words_are.cells j there ∙ ap (λ n. cells_in g words n) (ap (λ (z : Block). z.place * block_cells g + j) p.3 ∙ sym place) in
    let C : ℕ → Type 0 = λ n. IsCell files key j n in
    (subst C here (content j less), of_key.is_range)
