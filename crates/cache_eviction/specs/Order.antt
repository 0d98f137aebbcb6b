-- In which order headers are tried, and what a policy forgets then. Source: this project's own.
use Rattle.std.specs.Prelude.{◌≡◌, ℕ, ◌+◌, ◌<◌, Bool, true, false, List, [], ◌∷◌, ◌++◌, ◌⊎◌, Option, Some, None, slice_index_or}
use Rattle.std.specs.Ordering.{is_lt}
use Rattle.lrfu_policy.specs.declared.entry.Entry.{Entry}
use Rattle.lrfu_policy.specs.declared.rank.Rank.{Rank}
use Rattle.lrfu_policy.specs.Policy.{Ranking, with_entry}
use Rattle.lrfu_policy.specs.Rank.{is_above, rank_at, rank_cmp}
use Rattle.lrfu_policy.specs.Victim as victim
use Rattle.pool_model.specs.Content.{Files}
use Rattle.pool_rule.specs.declared.geometry.Geometry.{Geometry}
use Rattle.pool_rule.specs.declared.geometry.WordName.{WordName}
use Rattle.pool_rule.specs.declared.geometry.WordName.TheVariants.{Arena, State, KeyOf, Touches, Last, Clock}
use Rattle.pool_rule.specs.declared.view.View.{View}
use Rattle.pool_rule.specs.declared.word_step.WordStep.{WordStep}
use Rattle.pool_rule.specs.declared.word_step.WordStep.TheVariants.{Looked, LookedAtCell, Missed, Granted, Returned, Opened, Named}
use Rattle.pool_rule.specs.declared.word_step.WordStep.TheVariants.{Filled, Published, Counted, Uncounted, EvictBegun, HeaderReleased}
use Rattle.pool_rule.specs.declared.word_step.WordStep.TheVariants.{Updated}
use Rattle.buffer_pool.specs.Made.{AreMade}
use Rattle.cache_lookup.specs.Trails.{Among}

-- ---- the headers that steps try, and those that they release

-- a try begins with a load of the header's state
abbrev pub tried_word : WordName → List ℕ
tried_word (Arena i) = []
tried_word (State header) = header ∷ []
tried_word (KeyOf header) = []
tried_word (Touches header) = []
tried_word (Last header) = []
tried_word Clock = []

abbrev pub tried_by : WordStep → List ℕ
tried_by (Looked word found) = tried_word word
tried_by (LookedAtCell cell found) = []
tried_by (Missed word found) = []
tried_by (Granted b found) = []
tried_by (Returned b found) = []
tried_by (Opened header b cells) = []
tried_by (Named header b key found) = []
tried_by (Filled header b key done value found) = []
tried_by (Published header b key found) = []
tried_by (Counted header found) = []
tried_by (Uncounted header found) = []
tried_by (EvictBegun header found) = []
tried_by (HeaderReleased header b found) = []
tried_by (Updated word found left) = []

-- the headers whose states are loaded, in that order
abbrev pub tries : List WordStep → List ℕ
tries [] = []
tries (s ∷ ss) = tried_by s ++ tries ss

-- a header that is released has no entry any more
abbrev pub forgotten_by : WordStep → Ranking → Ranking
forgotten_by (Looked word found) p = p
forgotten_by (LookedAtCell cell found) p = p
forgotten_by (Missed word found) p = p
forgotten_by (Granted b found) p = p
forgotten_by (Returned b found) p = p
forgotten_by (Opened header b cells) p = p
forgotten_by (Named header b key found) p = p
forgotten_by (Filled header b key done value found) p = p
forgotten_by (Published header b key found) p = p
forgotten_by (Counted header found) p = p
forgotten_by (Uncounted header found) p = p
forgotten_by (EvictBegun header found) p = p
forgotten_by (HeaderReleased header b found) p = with_entry header None p
forgotten_by (Updated word found left) p = p

abbrev pub forgotten : List WordStep → Ranking → Ranking
forgotten [] p = p
forgotten (s ∷ ss) p = forgotten ss (forgotten_by s p)

-- ---- the order

-- Headers with an entry go by rank. Those without one go behind them, by number.
abbrev pub Precedes : Option Rank → Option Rank → ℕ → ℕ → Type 0
Precedes (Some p) (Some q) a b = is_lt (rank_cmp p q) ≡ true
Precedes (Some p) None a b = Unit {0}
Precedes None (Some q) a b = ⊥
Precedes None None a b = a < b

abbrev pub GoesBefore : List (Option Entry) → ℕ → ℕ → Type 0
GoesBefore entries a b = Precedes (rank_at entries a) (rank_at entries b) a b

-- it is one of so many headers from the first on
abbrev pub IsWithin : ℕ → ℕ → ℕ → Type 0
IsWithin first count header = victim.Among first count header

-- that header is the next of these: it wasn't tried yet, and each that goes before it was
pub record IsNext (first count : ℕ) (entries : List (Option Entry)) (done : List ℕ) (header : ℕ) : Type 0 where
  pub within : IsWithin first count header
  pub fresh : Among header done → ⊥
  pub earlier : (other : ℕ) → IsWithin first count other → GoesBefore entries other header → Among other done

-- each of them is the next after those before it
abbrev pub AreNext : ℕ → ℕ → List (Option Entry) → List ℕ → List ℕ → Type 0
AreNext first count entries done [] = Unit {0}
AreNext first count entries done (header ∷ headers) =
    IsNext first count entries done header × AreNext first count entries (done ++ header ∷ []) headers

-- each header of these was tried
abbrev pub AllTried : ℕ → ℕ → List WordStep → Type 0
AllTried first count ss = (header : ℕ) → IsWithin first count header → Among header (tries ss)

-- The steps tried headers of these in the policy's order, and `now` is the policy then: what they released is forgotten.
pub record IsInOrder (first count : ℕ) (p : Ranking) (ss : List WordStep) (now : Ranking) : Type 0 where
  pub order : AreNext first count p.entries [] (tries ss)
  pub policy : now ≡ forgotten ss p

-- ---- for those who try headers

-- one header was tried, and the policy forgot it if it was released
pub record IsOneTry (files : Option Files) (g : Geometry) (id : ℕ) (header : ℕ) (p now : Ranking) (old new : View) : Type 0 where
  pub ss : List WordStep
  pub made : AreMade files g id ss old new
  pub one : tries ss ≡ header ∷ []
  pub policy : now ≡ forgotten ss p
  pub either : (now ≡ p) ⊎ (now ≡ with_entry header None p)

-- headers were tried in the policy's order, and these are marked
pub record IsWalk (files : Option Files) (g : Geometry) (id : ℕ) (first count : ℕ) (p : Ranking) (start : View)
    (marks : List Bool) (now : Ranking) (v : View) : Type 0 where
  pub ss : List WordStep
  pub made : AreMade files g id ss start v
  pub in_order : IsInOrder first count p ss now
  pub marked : (i : ℕ) → i < count → slice_index_or marks i false ≡ true → Among (first + i) (tries ss)
  pub unmarked : (i : ℕ) → i < count → slice_index_or marks i false ≡ false → Among (first + i) (tries ss) → ⊥
  pub kept : (header : ℕ) → (Among header (tries ss) → ⊥) → rank_at now.entries header ≡ rank_at p.entries header
  pub fewer : (header : ℕ) (r : Rank) → rank_at now.entries header ≡ Some r → rank_at p.entries header ≡ Some r

-- these are the headers with an entry whose rank isn't above the given one
pub record IsUpTo (first count : ℕ) (p : Ranking) (after : Option Rank) (ss : List WordStep) : Type 0 where
  pub done : (header : ℕ) (r : Rank) → IsWithin first count header → rank_at p.entries header ≡ Some r
      → is_above after r ≡ false → Among header (tries ss)
  pub left : (header : ℕ) (r : Rank) → IsWithin first count header → rank_at p.entries header ≡ Some r
      → is_above after r ≡ true → Among header (tries ss) → ⊥

-- the victims up to one were tried
pub record IsVictimWalk (files : Option Files) (g : Geometry) (id : ℕ) (first count : ℕ) (p : Ranking) (start : View)
    (after : Option Rank) (marks : List Bool) (now : Ranking) (v : View) : Type 0 where
  pub walk : IsWalk files g id first count p start marks now v
  pub upto : IsUpTo first count p after walk.ss

-- all victims were tried
pub record IsWalkOn (files : Option Files) (g : Geometry) (id : ℕ) (first count : ℕ) (p : Ranking) (start : View)
    (marks : List Bool) (now : Ranking) (v : View) : Type 0 where
  pub walk : IsWalk files g id first count p start marks now v
  pub ranked : (header : ℕ) (r : Rank) → IsWithin first count header → rank_at p.entries header ≡ Some r → Among header (tries walk.ss)

-- the walk ended there
pub record IsWalkEnd (files : Option Files) (g : Geometry) (id : ℕ) (first count : ℕ) (p : Ranking) (start : View)
    (now : Ranking) (v : View) : Type 0 where
  pub ss : List WordStep
  pub made : AreMade files g id ss start v
  pub in_order : IsInOrder first count p ss now
