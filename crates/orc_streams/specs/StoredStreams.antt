-- Streams in memory: what is left of each, and what a list of takes leaves. Source: this project's own.
use Rattle.std.specs.Prelude.{◌≡◌, ℕ, ◌+◌, List, [], ◌∷◌, ◌++◌, map, drop, Option, Some, slice_index_or}
use Rattle.std.proofs.Common.{subst, ap, ◌∙◌}
use Rattle.outside.specs.Feed.{Taken, Lost, gave, taken_of}
use Rattle.outside.specs.FeedLaws.{Lost-nothing, Lost-then, taken_of-append, taken_of-sum}
use Rattle.orc_streams.specs.declared.stored_streams.StoredStream.{StoredStream}
use Rattle.orc_streams.specs.declared.stored_streams.StoredStreams.{StoredStreams}

abbrev pub left_of : StoredStream → List ℕ
left_of stream = drop stream.taken stream.bytes.items

abbrev pub rests : List StoredStream → List (List ℕ)
rests streams = map (λ s. left_of s) streams

-- what is left of a stream; one that was never put has no bytes
abbrev pub rest_of : StoredStreams → ℕ → Option (List ℕ)
rest_of s stream = Some (slice_index_or (rests s.streams.items) stream [])

-- each stream has lost what was taken of it
abbrev pub Fed : StoredStreams → List Taken → StoredStreams → Type 0
Fed first takes last = (stream : ℕ) → Lost (taken_of stream takes) (rest_of first stream) (rest_of last stream)

pub Fed-nothing : (feed : StoredStreams) → Fed feed [] feed
Fed-nothing feed stream = Lost-nothing (rest_of feed stream)

pub Fed-joined : (first between last : StoredStreams) (xs ys : List Taken)
    → Fed first xs between → Fed between ys last → Fed first (xs ++ ys) last
Fed-joined first between last xs ys one two stream =
    rw taken_of-append (Lost-then (taken_of stream xs) (taken_of stream ys) (rest_of first stream) (rest_of between stream)
    (rest_of last stream) (one stream) (two stream))

pub Fed-then : (first between last : StoredStreams) (x : Taken) (ys : List Taken)
    → Fed first (x ∷ []) between → Fed between ys last → Fed first (x ∷ ys) last
Fed-then first between last x ys one two = Fed-joined first between last (x ∷ []) ys one two

pub Fed-sum : (first last : StoredStreams) (before after : List Taken) (stream m n : ℕ)
    → Fed first (before ++ gave stream m ∷ gave stream n ∷ after) last → Fed first (before ++ gave stream (m + n) ∷ after) last
Fed-sum first last before after stream m n led other =
    subst (λ (k : ℕ). Lost k (rest_of first other) (rest_of last other)) (taken_of-sum other stream m n before after) (led other)

-- a stream of which nothing was taken has the bytes that it had
pub same_left : {count : ℕ} {before after : List ℕ} → count ≡ 0 → Lost count (Some before) (Some after) → Some after ≡ Some before
same_left {count} {before} {after} none lost = ap (λ (bytes : List ℕ). Some bytes) (lost.1 ∙ ap (λ (n : ℕ). drop n before) none)
