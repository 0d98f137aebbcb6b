-- In which order room is made for a range, and what the policy is then. Source: this project's own.
use Rattle.std.specs.Prelude.{◌≡◌, ℕ, Bool, true, false, List, [], ◌++◌, ◌⊎◌, Option, Some, None}
use Rattle.lrfu_policy.specs.Policy.{Ranking}
use Rattle.pool_model.specs.Content.{Files}
use Rattle.pool_rule.specs.declared.geometry.Geometry.{Geometry}
use Rattle.pool_rule.specs.declared.view.View.{View}
use Rattle.pool_rule.specs.declared.word_step.WordStep.{WordStep}
use Rattle.pool_rule.specs.declared.word_step.WordStep.TheVariants.{EvictBegun}
use Rattle.pool_rule.specs.Layout.{headers_of}
use Rattle.buffer_pool.specs.Made.{AreMade}
use Rattle.cache_consult.specs.Consults.{ConsultSteps}
use Rattle.cache_eviction.specs.Order.{AllTried, IsInOrder, IsWalkEnd, IsWalkOn}
use Rattle.cache_lookup.specs.Trails.{Among}
use Rattle.cache_placement.specs.declared.why.Placed.{Placed}
use Rattle.cache_placement.specs.declared.why.Placed.TheVariants.{Filled, Bypass}
use Rattle.cache_placement.specs.declared.why.Why.{Why}
use Rattle.cache_placement.specs.declared.why.Why.TheVariants.{NoRoom, Raced, Busy, SetFull, PolicyOut}

-- The policy was consulted by the first of these steps, and by the others headers of a range were tried in its order as it was then. `now`
-- is the policy after them: what they released is forgotten.
pub record IsSearch (g : Geometry) (first count : ℕ) (p : Ranking) (ss : List WordStep) (now : Ranking) : Type 0 where
  pub asking : List WordStep
  pub trying : List WordStep
  pub parts : ss ≡ asking ++ trying
  pub told : Ranking
  pub consulted : ConsultSteps (headers_of g) p asking told
  pub in_order : IsInOrder first count told trying now

-- they did so; or there were none, and the policy stays
abbrev pub IfSearched : Geometry → ℕ → ℕ → Ranking → List WordStep → Ranking → Type 0
IfSearched g first count p ss now = ((ss ≡ []) × (now ≡ p)) ⊎ IsSearch g first count p ss now

-- none of the steps begins an eviction
abbrev pub EvictsNone : List WordStep → Type 0
EvictsNone ss = (header found : ℕ) → Among (EvictBegun header found) ss → ⊥

-- where there is no room each header was tried, and where the set is full each of its ways was
abbrev pub FullBy : Geometry → ℕ → List WordStep → List WordStep → Option Why → Type 0
FullBy g first ways headers None = Unit {0}
FullBy g first ways headers (Some (NoRoom words)) = AllTried 0 (headers_of g) headers
FullBy g first ways headers (Some (Raced saw)) = Unit {0}
FullBy g first ways headers (Some (Busy word)) = Unit {0}
FullBy g first ways headers (Some (SetFull states)) = AllTried first 8 ways
FullBy g first ways headers (Some PolicyOut) = Unit {0}

abbrev pub why_of : Placed → Option Why
why_of (Filled pin) = None
why_of (Bypass why) = Some why

-- The steps of a call that makes room for a range whose set begins with that header: the ways of the set are searched, or they are not;
-- and then all headers are, or they are not. No other step of the call begins an eviction. `p` and `now` are the policy before and after.
pub record IsRanked (g : Geometry) (first : ℕ) (p : Ranking) (ss : List WordStep) (now : Ranking) (why : Option Why) : Type 0 where
  pub front : List WordStep
  pub ways : List WordStep
  pub mid : List WordStep
  pub headers : List WordStep
  pub end : List WordStep
  pub parts : ss ≡ front ++ (ways ++ (mid ++ (headers ++ end)))
  pub none_at_first : EvictsNone front
  pub none_between : EvictsNone mid
  pub none_at_last : EvictsNone end
  pub between : Ranking
  pub by_way : IfSearched g first 8 p ways between
  pub by_header : IfSearched g 0 (headers_of g) between headers now
  pub full : FullBy g first ways headers why

-- ---- by which steps

-- a range of headers was searched, each of them where `full` says so
pub record Searches (files : Option Files) (g : Geometry) (id first count : ℕ) (full : Bool) (p now : Ranking)
    (old new : View) : Type 0 where
  pub ss : List WordStep
  pub made : AreMade files g id ss old new
  pub search : IsSearch g first count p ss now
  pub all : full ≡ true → AllTried first count ss

-- all headers were searched, behind steps that evict none, or they were not
pub record SearchesIf (files : Option Files) (g : Geometry) (id : ℕ) (full : Bool) (p now : Ranking) (old new : View) : Type 0 where
  pub front : List WordStep
  pub ss : List WordStep
  pub made : AreMade files g id (front ++ ss) old new
  pub none_at_first : EvictsNone front
  pub search : IfSearched g 0 (headers_of g) p ss now
  pub all : full ≡ true → AllTried 0 (headers_of g) ss

abbrev pub Ranks : Option Files → Geometry → ℕ → ℕ → Ranking → Ranking → View → View → Option Why → Type 0
Ranks files g id first p now old new why = (ss : List WordStep) × AreMade files g id ss old new × IsRanked g first p ss now why

-- all victims were tried, or the walk ended with an answer
abbrev pub WalkLeft : {A : Type 0} → Option Files → Geometry → ℕ → ℕ → ℕ → Ranking → View → List Bool → Ranking → View → Option A → Type 0
WalkLeft files g id first count p start marks now v None = IsWalkOn files g id first count p start marks now v
WalkLeft files g id first count p start marks now v (Some answer) = IsWalkEnd files g id first count p start now v

abbrev pub is_no_room : Placed → Bool
is_no_room (Filled pin) = false
is_no_room (Bypass (NoRoom words)) = true
is_no_room (Bypass (Raced saw)) = false
is_no_room (Bypass (Busy word)) = false
is_no_room (Bypass (SetFull states)) = false
is_no_room (Bypass PolicyOut) = false

-- The walk ended, with all tried where `full` says so.
pub record EndsAll (files : Option Files) (g : Geometry) (id first count : ℕ) (full : Bool) (p : Ranking)
    (start : View) (now : Ranking) (v : View) : Type 0 where
  pub walk : IsWalkEnd files g id first count p start now v
  pub all : full ≡ true → AllTried first count walk.ss
