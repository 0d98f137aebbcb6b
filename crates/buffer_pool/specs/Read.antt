-- What a read of a pinned buffer does.
use Rattle.std.specs.Prelude.{◌≡◌, ℕ, ◌+◌, ◌*◌, ◌/◌, ◌%◌, ◌<◌, List, length, Option, slice_index}
use Rattle.pool_model.specs.Content.{Files}
use Rattle.pool_rule.specs.declared.view.View.{View}
use Rattle.pool_rule.specs.Layout.{block_cells}
use Rattle.buffer_pool.specs.declared.pool.Pool.{Pool}
use Rattle.buffer_pool.specs.declared.token.Pin.{Pin}
use Rattle.buffer_pool.specs.Made.{AreMade, byte_of, cells_touched, load_steps}
use Rattle.buffer_pool.specs.Pools.{pin_block, sizes_of}

-- The steps loaded the pin's cells that hold a byte of the range from byte `at` of its key on, each once and in their order,
-- and found these; the bytes are those of the range in what was found.
pub record AreRead {W : Type 0} (files : Option Files) (pool : Pool W) (id : ℕ) (pin : Pin) (at : ℕ) (bytes found : List ℕ)
    (old new : View) : Type 0 where
  pub count : length found ≡ cells_touched (at % 8) (length bytes)
  pub loads : AreMade files (sizes_of pool) id (load_steps ((pin_block pin).place * block_cells (sizes_of pool) + at / 8) found) old new
  pub bytes_are : (i : ℕ) → i < length bytes → slice_index bytes i ≡ byte_of found (at % 8 + i)
