-- Takes of streams in turn.
use Rattle.std.proofs.Common.{◌≡◌, ℕ, List, [], ◌∷◌, ◌++◌, Option, Some, None, refl, sym, ◌∙◌, ap, subst, append_assoc, append-nil}
use Rattle.outside.specs.Feed.{Taken, AllOf}
use Rattle.orc_columns.specs.Laws.{NeverBack}
use Rattle.row_flags.specs.Optional.{AllIn}
use Rattle.orc_columns.specs.Turns.{InTurn, alone}
use Rattle.row_flags.specs.FollowingLaws.{in_joined}

none_in : (stream : Option ℕ) → AllIn stream []
none_in None = refl
none_in (Some s) = tt

-- no take
pub InTurn-none : (streams : List (Option ℕ)) → InTurn streams []
InTurn-none [] = refl
InTurn-none (s ∷ streams) = ([], [], refl, none_in s, InTurn-none streams)

-- takes of one stream
pub InTurn-alone : (stream : Option ℕ) (takes : List Taken) → AllIn stream takes → InTurn (alone stream) takes
InTurn-alone stream takes all = (takes, [], sym (append-nil takes), all, refl)

pub alone-all : (stream : Option ℕ) (takes : List Taken) → InTurn (alone stream) takes → AllIn stream takes
alone-all stream takes (front, back, parts, all, none) =
    subst (λ (ts : List Taken). AllIn stream ts) (sym (parts ∙ ap (λ (ts : List Taken). front ++ ts) none ∙ append-nil front)) all

-- takes of some streams, and then of others
pub InTurn-joined : (xs ys : List (Option ℕ)) (front back : List Taken) → InTurn xs front → InTurn ys back → InTurn (xs ++ ys) (front ++ back)
InTurn-joined [] ys front back none b = subst (λ (ts : List Taken). InTurn ys (ts ++ back)) (sym none) b
InTurn-joined (x ∷ xs) ys front back (first, more, parts, all, others) b =
    (first, more ++ back, ap (λ (ts : List Taken). ts ++ back) parts ∙ append_assoc first more back, all, InTurn-joined xs ys more back others b)

-- of the streams behind there is no take
pub InTurn-front : (xs ys : List (Option ℕ)) (takes : List Taken) → InTurn xs takes → InTurn (xs ++ ys) takes
InTurn-front xs ys takes a = subst (λ (ts : List Taken). InTurn (xs ++ ys) ts) (append-nil takes) (InTurn-joined xs ys takes [] a (InTurn-none ys))

-- takes of one stream, and then more of it
pub alone-joined : (stream : Option ℕ) (front back : List Taken) → InTurn (alone stream) front → InTurn (alone stream) back → InTurn (alone stream) (front ++ back)
alone-joined stream front back a b = InTurn-alone stream (front ++ back) (in_joined stream front back (alone-all stream front a) (alone-all stream back b))

pub alone-twice : (stream : Option ℕ) (takes : List Taken) → InTurn (stream ∷ alone stream) takes → InTurn (alone stream) takes
alone-twice stream takes (front, back, parts, all, more) =
    subst (λ (ts : List Taken). InTurn (alone stream) ts) (sym parts) (InTurn-alone stream (front ++ back) (in_joined stream front back all (alone-all stream back more)))

all_behind : (stream : ℕ) (front back : List Taken) (take : Taken) → AllOf stream (front ++ take ∷ back) → AllOf stream back
all_behind stream [] back take all = all.1
all_behind stream (x ∷ front) back take all = all_behind stream front back take all.1

-- takes of one stream and then of another, cut at a take of the other
behind_other : (one other : ℕ) (ones others front back : List Taken) (take : Taken) → (one ≡ other → ⊥) → AllOf one ones → AllOf other others → take.stream ≡ other
    → front ++ take ∷ back ≡ ones ++ others → AllOf other back
behind_other one other [] others front back take differ all rest is parts = all_behind other front back take (subst (λ (ts : List Taken). AllOf other ts) (sym parts) rest)
behind_other one other (x ∷ ones) others [] back take differ all rest is parts =
    let same : take ≡ x = cc in
    absurd (differ (sym all.0 ∙ ap (λ (t : Taken). t.stream) (sym same) ∙ is))
behind_other one other (x ∷ ones) others (y ∷ front) back take differ all rest is parts =
    let tail : front ++ take ∷ back ≡ ones ++ others = cc in
    behind_other one other ones others front back take differ all.1 rest is tail

pub never_back : NeverBack
never_back one other front back take differ (ones, others, parts, all, more) is = behind_other one other ones others front back take differ all (alone-all (Some other) others more) is parts
