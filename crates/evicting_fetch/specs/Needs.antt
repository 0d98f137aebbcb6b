-- When a fetch releases headers: for a way where none was free, and for a block where none was seen. Source: this project's own.
use Rattle.std.specs.Prelude.{◌≡◌, ◌≢◌, ℕ, ◌+◌, ◌<◌, List, ◌++◌, ◌⊎◌, IsSomeAnd}
use Rattle.buffer_word.specs.declared.key_word.Key.{Key}
use Rattle.pool_model.specs.declared.block.Block.{Block}
use Rattle.pool_rule.specs.declared.geometry.Geometry.{Geometry}
use Rattle.pool_rule.specs.declared.word_step.WordStep.{WordStep}
use Rattle.pool_rule.specs.declared.word_step.WordStep.TheVariants.{HeaderReleased}
use Rattle.pool_rule.specs.Layout.{header_word}
use Rattle.cache_lookup.specs.Sets.{IsWay, first_way}
use Rattle.cache_lookup.specs.Trails.{Among, events, first_load}
use Rattle.cache_room.specs.Seeking.{SeeksRoom}
use Rattle.cache_room.specs.Tried.{releases}

-- No way of the key's set was free: the first load of each way's state gave another word than that of a released header without a count.
abbrev pub IsTaken : Geometry → Key → List WordStep → Type 0
IsTaken g key ss =
    (way : ℕ) → way < 8 → IsSomeAnd (first_load (header_word g (first_way g key + way)) (events g ss)) (λ word. word ≢ 8)

-- one of the ways was released, and no other header, and no way of the set was free
pub record IsForWay (g : Geometry) (key : Key) (ss : List WordStep) : Type 0 where
  pub header : ℕ
  pub way : IsWay g key header
  pub released : (b : Block) × (found : ℕ) × Among (HeaderReleased header b found) ss
  pub one : releases ss ≡ 1
  pub taken : IsTaken g key ss

-- By the first steps no header was released, or one for a way; and by the others headers only for a block: the first behind loads by which
-- no arena had one, and each further one where the arena of the block that came free before it showed none.
pub record IsNeeded (g : Geometry) (key : Key) (ss : List WordStep) : Type 0 where
  pub front : List WordStep
  pub back : List WordStep
  pub parts : ss ≡ front ++ back
  pub for_way : (releases front ≡ 0) ⊎ IsForWay g key front
  pub for_block : SeeksRoom g key.len back
