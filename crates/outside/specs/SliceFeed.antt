-- The feed over slices: its rests, and what a list of takes leaves of them.
use Rattle.std.specs.Prelude.{ℕ, ◌+◌, List, [], ◌∷◌, ◌++◌, map, Option, Some, slice_index_or}
use Rattle.std.proofs.Common.{subst}
use Rattle.std.specs.Borrow.{Bor}
use Rattle.outside.specs.declared.slice_feed.SliceFeed.{SliceFeed}
use Rattle.outside.specs.Feed.{Taken, Lost, gave, taken_of}
use Rattle.outside.specs.FeedLaws.{Lost-nothing, Lost-then, taken_of-append, taken_of-sum}

-- the bytes behind slices
abbrev pub bytes_of : List (Bor (List ℕ)) → List (List ℕ)
bytes_of slices = map (λ slice. slice.now) slices

-- what is left of a stream; one that isn't there has no bytes
abbrev pub rest_of : SliceFeed → ℕ → Option (List ℕ)
rest_of feed stream = Some (slice_index_or (bytes_of feed.rests.items) stream [])

-- each stream has lost what was taken of it
abbrev pub Fed : SliceFeed → List Taken → SliceFeed → Type 0
Fed first takes last = (stream : ℕ) → Lost (taken_of stream takes) (rest_of first stream) (rest_of last stream)

pub Fed-nothing : (feed : SliceFeed) → Fed feed [] feed
Fed-nothing feed stream = Lost-nothing (rest_of feed stream)

pub Fed-joined : (first between last : SliceFeed) (xs ys : List Taken) → Fed first xs between → Fed between ys last
    → Fed first (xs ++ ys) last
Fed-joined first between last xs ys one two stream =
    rw taken_of-append (Lost-then (taken_of stream xs) (taken_of stream ys) (rest_of first stream)
    (rest_of between stream) (rest_of last stream) (one stream) (two stream))

pub Fed-then : (first between last : SliceFeed) (x : Taken) (ys : List Taken) → Fed first (x ∷ []) between
    → Fed between ys last → Fed first (x ∷ ys) last
Fed-then first between last x ys one two = Fed-joined first between last (x ∷ []) ys one two

pub Fed-sum : (first last : SliceFeed) (before after : List Taken) (stream m n : ℕ)
    → Fed first (before ++ gave stream m ∷ gave stream n ∷ after) last
    → Fed first (before ++ gave stream (m + n) ∷ after) last
Fed-sum first last before after stream m n led other =
    subst (λ (k : ℕ). Lost k (rest_of first other) (rest_of last other)) (taken_of-sum other stream m n before after) (led other)
