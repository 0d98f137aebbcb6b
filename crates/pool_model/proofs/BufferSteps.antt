-- Each step on one buffer keeps it lawful.
use Rattle.std.proofs.Common.{◌≡◌, ℕ, ◌+◌, ◌*◌, ◌^◌, ◌<◌, ◌≤◌, List, [], length, refl, arith, ap, inl, inr}
use Rattle.std.specs.Prelude.{Bool, filter, ◌∷◌, ◌++◌, not, ◌==◌, Option, Some, IsSomeAnd, IfSome, slice_index, slice_set}
use Rattle.std.proofs.lemmas.Bool.{cases_eq}
use Rattle.std.proofs.lemmas.List.{get_or-set_same, get_or-set_other, length-set}
use Rattle.pool_model.specs.declared.block.Block.{Block}
use Rattle.pool_model.specs.declared.buffer.Buffer.{Buffer}
use Rattle.pool_model.specs.declared.buffer.BufferKey.{BufferKey}
use Rattle.pool_model.specs.declared.buffer.BufferMode.{BufferMode}
use Rattle.pool_model.specs.declared.buffer.BufferMode.TheVariants.{New, Live, Moving, Evicted}
use Rattle.pool_model.specs.declared.buffer.Target.{Target}
use Rattle.pool_model.specs.declared.setting.Setting.{Setting}
use Rattle.pool_model.specs.Block.{IsBlock, cells_for, bytes_in}
use Rattle.pool_model.specs.Buffer.{AreCellsOf, Fits, IsIdle, opened, CanName, named, CanFill, filled, CanPublish, published, CanPin, pinned, unpinned, evicting, moving, CanCopy, copied, CanSettle, live_at, CanCancel}
use Rattle.pool_model.specs.Content.{Files, IsCell, FirstCells, cells_of}
use Rattle.pool_model.specs.Lawful.{HoldersFit, IsTarget, HoldsContent, IsKeyOf, IsLawfulBuffer}
use Rattle.pool_model.proofs.Options.{value_of, at_value, if_value, if_each}

-- a key that fits a block has no more cells than the block
pub cells_fit : (setting : Setting) (key : BufferKey) (b : Block) → Fits setting key b → cells_of key ≤ cells_for (bytes_in setting.min_block b)
unfolding cells_for
cells_fit setting key b h = omega arith

-- the next cell is the key's, and then one cell more is
pub FirstCells-set : (files : Option Files) (key : BufferKey) (cells : List ℕ) (n v : ℕ) → n < length cells → FirstCells files key cells n → IsCell files key n v → FirstCells files key (slice_set cells n v) (n + 1)
FirstCells-set files key cells n v within before here j h bytes told =
    elim (cases_eq j n) [
      | inl same ↦ rw same (rw (get_or-set_same cells n v 0 within) (here bytes told))
      | inr other ↦ rw (get_or-set_other cells n j v 0 other) (before j (omega arith) bytes told)
    ]

-- a key stays a buffer's key where the buffer has the same block, mode, cells, target and count
keyed_as : (w : Setting) (b : Buffer) (holders : List ℕ) → IfSome b.key (IsKeyOf w b) → IfSome b.key (IsKeyOf w (record b { holders = holders }))
keyed_as w b holders k =
    if_each (IsKeyOf w b) (IsKeyOf w (record b { holders = holders })) b.key
    (λ key e l. record { fits = l.fits; is_range = l.is_range; content = l.content }) k

held-lawful : (w : Setting) (places : ℕ) (b : Buffer) (holders : List ℕ) → IsLawfulBuffer w places b → HoldersFit b.mode holders → IsLawfulBuffer w places (record b { holders = holders })
held-lawful w places b holders l fit =
    record {
      is_block = l.is_block;
      all_cells = l.all_cells;
      holders = fit;
      claim = l.claim;
      target = l.target;
      has_key = l.has_key;
      key = keyed_as w b holders l.key;
    }

FirstCells-all : (files : Option Files) (key : BufferKey) (cells : List ℕ) (n all : ℕ) → n ≡ all → FirstCells files key cells n → FirstCells files key cells all
FirstCells-all files key cells n all e h = rw e at h

pub opened-lawful : (w : Setting) (places : ℕ) (block : Block) (seat : ℕ) (cells : List ℕ) → IsBlock w.greatest_order places block → AreCellsOf w block cells → IsLawfulBuffer w places (opened block seat cells)
opened-lawful w places block seat cells is_block all_cells =
    record { is_block = is_block; all_cells = all_cells; holders = refl; claim = refl; target = refl; has_key = refl; key = tt }

pub named-lawful : (w : Setting) (places seat : ℕ) (key : BufferKey) (b : Buffer) → IsLawfulBuffer w places b → CanName w seat key b → IsLawfulBuffer w places (named key b)
named-lawful w places seat key b l can =
    let none_done : b.done ≡ 0 = rw (can.0, can.2) at l.has_key in
    record {
      is_block = l.is_block;
      all_cells = l.all_cells;
      holders = l.holders;
      claim = l.claim;
      target = l.target;
      has_key = rw can.0 tt;
      key = record { fits = can.3; is_range = can.4; content = rw can.0 (rw none_done (λ j h. absurd (omega (arith, h)))) };
    }

pub filled-lawful : (w : Setting) (places seat value : ℕ) (b : Buffer) → IsLawfulBuffer w places b → CanFill w seat value b → IsLawfulBuffer w places (filled value b)
filled-lawful w places seat value b l can =
    let next = value_of _ b.key can.2 in
    let key = next.0 in
    let keyed : IsKeyOf w b key = if_value (IsKeyOf w b) b.key key next.1 l.key in
    let before : FirstCells w.files key b.cells b.done = rw can.0 at keyed.content in
    let cell : IsCell w.files key b.done value = at_value (λ k. IsCell w.files k b.done value) b.key key next.1 can.3 in
    let within : b.done < length b.cells = omega (arith, next.2, cells_fit w key b.block keyed.fits, l.all_cells) in
    record {
      is_block = l.is_block;
      all_cells = rw length-set l.all_cells;
      holders = l.holders;
      claim = l.claim;
      target = l.target;
      has_key = rw (can.0, next.1) tt;
      key = rw next.1 (record { fits = keyed.fits; is_range = keyed.is_range; content = rw can.0 (FirstCells-set w.files key b.cells b.done value within before cell) });
    }

pub published-lawful : (w : Setting) (places seat : ℕ) (b : Buffer) → IsLawfulBuffer w places b → CanPublish seat b → IsLawfulBuffer w places (published seat b)
published-lawful w places seat b l can =
    let last = value_of _ b.key can.2 in
    let key = last.0 in
    let keyed : IsKeyOf w b key = if_value (IsKeyOf w b) b.key key last.1 l.key in
    let content : FirstCells w.files key b.cells b.done = rw can.0 at keyed.content in
    record {
      is_block = l.is_block;
      all_cells = l.all_cells;
      holders = tt;
      claim = refl;
      target = rw can.0 at l.target;
      has_key = rw last.1 refl;
      key = rw last.1 (record { fits = keyed.fits; is_range = keyed.is_range; content = FirstCells-all w.files key _ b.done (cells_of key) last.2 content });
    }

pub pinned-lawful : (w : Setting) (places seat : ℕ) (b : Buffer) → IsLawfulBuffer w places b → CanPin seat b → IsLawfulBuffer w places (pinned seat b)
pinned-lawful w places seat b l can = held-lawful w places b (b.holders ++ seat ∷ []) l (rw can.0 tt)

HoldersFit-filter : (mode : BufferMode) (test : ℕ → Bool) (holders : List ℕ) → HoldersFit mode holders → HoldersFit mode (filter test holders)
HoldersFit-filter Live test holders h = tt
HoldersFit-filter New test holders h = ap (filter test) h
HoldersFit-filter Moving test holders h = ap (filter test) h
HoldersFit-filter Evicted test holders h = ap (filter test) h

pub unpinned-lawful : (w : Setting) (places seat : ℕ) (b : Buffer) → IsLawfulBuffer w places b → IsLawfulBuffer w places (unpinned seat b)
unpinned-lawful w places seat b l =
    held-lawful w places b (filter (λ s. not (s == seat)) b.holders) l (HoldersFit-filter b.mode (λ s. not (s == seat)) b.holders l.holders)

pub evicting-lawful : (w : Setting) (places seat : ℕ) (b : Buffer) → IsLawfulBuffer w places b → IsIdle b → IsLawfulBuffer w places (evicting seat b)
evicting-lawful w places seat b l idle =
    record {
      is_block = l.is_block;
      all_cells = l.all_cells;
      holders = idle.1;
      claim = refl;
      target = rw idle.0 at l.target;
      has_key = rw idle.0 at l.has_key;
      key =
          if_each (IsKeyOf w b) (IsKeyOf w (evicting seat b)) b.key
          (λ key e k. record { fits = k.fits; is_range = k.is_range; content = rw idle.0 at k.content }) l.key;
    }

pub moving-lawful : (w : Setting) (places seat : ℕ) (target : Block) (cells : List ℕ) (b : Buffer) → IsLawfulBuffer w places b → IsIdle b → IsBlock w.greatest_order places target → target.order ≡ b.block.order → AreCellsOf w target cells → IsLawfulBuffer w places (moving seat target cells b)
moving-lawful w places seat target cells b l idle is_block same_order all_cells =
    record {
      is_block = l.is_block;
      all_cells = l.all_cells;
      holders = idle.1;
      claim = refl;
      target = record { is_block = is_block; same_order = same_order; all_cells = all_cells };
      has_key = rw idle.0 at l.has_key;
      key =
          if_each (IsKeyOf w b) (IsKeyOf w (moving seat target cells b)) b.key
          (λ key e k.
          record {
            fits = k.fits;
            is_range = k.is_range;
            content = (rw idle.0 at k.content, λ j h. absurd (omega (arith, h)));
          }) l.key;
    }

pub copied-lawful : (w : Setting) (places seat : ℕ) (b : Buffer) → IsLawfulBuffer w places b → CanCopy seat b → IsLawfulBuffer w places (copied b)
copied-lawful w places seat b l can =
    let next = value_of _ b.key can.2 in
    let key = next.0 in
    let keyed : IsKeyOf w b key = if_value (IsKeyOf w b) b.key key next.1 l.key in
    let whole : HoldsContent w Moving key b.cells b.target b.done = rw can.0 at keyed.content in
    let moves : IsSomeAnd b.target (IsTarget w places b.block) = rw can.0 at l.target in
    let found = value_of (IsTarget w places b.block) b.target moves in
    let t = found.0 in
    let before : FirstCells w.files key t.cells b.done = if_value (λ (x : Target). FirstCells w.files key x.cells b.done) b.target t found.1 whole.1 in
    let within : b.done < length t.cells = omega (arith, next.2, cells_fit w key b.block keyed.fits, found.2.all_cells, ap (λ o. cells_for (w.min_block * 2 ^ o)) found.2.same_order) in
    record {
      is_block = l.is_block;
      all_cells = l.all_cells;
      holders = l.holders;
      claim = l.claim;
      target = rw (can.0, found.1) (record { is_block = found.2.is_block; same_order = found.2.same_order; all_cells = rw length-set found.2.all_cells });
      has_key = rw (can.0, next.1) refl;
      key =
          rw next.1
          (record {
            fits = keyed.fits;
            is_range = keyed.is_range;
            content =
                rw (can.0, found.1)
                (whole.0, FirstCells-set w.files key t.cells b.done (slice_index b.cells b.done) within before (whole.0 b.done next.2));
          });
    }

pub settled-lawful : (w : Setting) (places seat : ℕ) (b : Buffer) (t : Target) → IsLawfulBuffer w places b → CanSettle seat b → b.target ≡ Some t → IsLawfulBuffer w places (live_at t.block t.cells b)
settled-lawful w places seat b t l can at_target =
    let last = value_of _ b.key can.2 in
    let key = last.0 in
    let keyed : IsKeyOf w b key = if_value (IsKeyOf w b) b.key key last.1 l.key in
    let whole : HoldsContent w Moving key b.cells b.target b.done = rw can.0 at keyed.content in
    let moves : IsSomeAnd b.target (IsTarget w places b.block) = rw can.0 at l.target in
    let is_target : IsTarget w places b.block t = at_value (IsTarget w places b.block) b.target t at_target moves in
    let content : FirstCells w.files key t.cells b.done = if_value (λ (x : Target). FirstCells w.files key x.cells b.done) b.target t at_target whole.1 in
    record {
      is_block = is_target.is_block;
      all_cells = is_target.all_cells;
      holders = tt;
      claim = refl;
      target = refl;
      has_key = rw last.1 refl;
      key = rw last.1 (record { fits = rw is_target.same_order keyed.fits; is_range = keyed.is_range; content = FirstCells-all w.files key _ b.done (cells_of key) last.2 content });
    }

pub cancelled-lawful : (w : Setting) (places seat : ℕ) (b : Buffer) → IsLawfulBuffer w places b → CanCancel seat b → IsLawfulBuffer w places (live_at b.block b.cells b)
cancelled-lawful w places seat b l can =
    record {
      is_block = l.is_block;
      all_cells = l.all_cells;
      holders = tt;
      claim = refl;
      target = refl;
      has_key = rw can.0 at l.has_key;
      key =
          if_each (IsKeyOf w b) (IsKeyOf w (live_at b.block b.cells b)) b.key
          (λ key e k.
          record {
            fits = k.fits;
            is_range = k.is_range;
            content = let whole : HoldsContent w Moving key b.cells b.target b.done = rw can.0 at k.content in whole.0;
          }) l.key;
    }
