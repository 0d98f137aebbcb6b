-- Items one after the other, of any kind that is read as it is spelled.
use Rattle.std.proofs.Common.{◌≡◌, ℕ, zero, suc, ◌-◌, ◌<◌, ◌≤◌, List, [], ◌∷◌, ◌++◌, length, Result, Ok, Err, refl, sym, ap, subst, ◌∙◌, append_assoc, length-append, arith}
use Rattle.orc_proto.specs.declared.fault.WireFault.{WireFault}
use Rattle.orc_proto.specs.Message.{Joins}
use Rattle.orc_proto.specs.Reading.{item_then, items_within}
use Rattle.orc_proto.specs.Laws.{all_read, Outcome, whole, broken}

-- an item is read as it is spelled, what is read is spelled so, and a spelling has a byte
pub record Reads {X : Type 0} (Spells : List ℕ → X → Type 0) (item_at : ℕ → List ℕ → Result (X × List ℕ) WireFault) : Type 0 where
  pub again : (offset : ℕ) (spelling rest : List ℕ) (x : X) → Spells spelling x → item_at offset (spelling ++ rest) ≡ Ok (x, rest)
  pub found : (offset : ℕ) (left : List ℕ) (x : X) (rest : List ℕ) → item_at offset left ≡ Ok (x, rest) → (spelling : List ℕ) × Spells spelling x × (left ≡ spelling ++ rest)
  pub has_bytes : (spelling : List ℕ) (x : X) → Spells spelling x → 1 ≤ length spelling

items-step : {X : Type 0} (item_at : ℕ → List ℕ → Result (X × List ℕ) WireFault) (steps total : ℕ) (left : List ℕ) → 1 ≤ length left
    → items_within (suc steps) item_at total left ≡ item_then (item_at (total - length left) left) (λ others. items_within steps item_at total others)
unfolding items_within
items-step item_at steps total [] some = absurd (omega arith)
items-step item_at steps total (b ∷ left) some = refl

pub items-nil : {X : Type 0} (item_at : ℕ → List ℕ → Result (X × List ℕ) WireFault) (steps total : ℕ) → items_within steps item_at total [] ≡ []
unfolding items_within
items-nil item_at zero total = refl
items-nil item_at (suc steps) total = refl

-- what is left after an item is shorter
pub shorter : {X : Type 0} (Spells : List ℕ → X → Type 0) (item_at : ℕ → List ℕ → Result (X × List ℕ) WireFault) → Reads Spells item_at → (offset : ℕ) (left : List ℕ) (x : X) (rest : List ℕ)
    → item_at offset left ≡ Ok (x, rest) → length rest < length left
shorter Spells item_at reads offset left x rest e =
    let found = reads.found offset left x rest e in
    omega (arith, reads.has_bytes found.0 x found.1, ap length found.2, length-append found.0 rest)

then_same : {X : Type 0} (read : Result (X × List ℕ) WireFault) (f g : List ℕ → List (Result X WireFault)) → ((x : X) (rest : List ℕ) → read ≡ Ok (x, rest) → f rest ≡ g rest) → item_then read f ≡ item_then read g
then_same {X} (Ok x) f g same = ap (λ (others : List (Result X WireFault)). Ok x.0 ∷ others) (same x.0 x.1 refl)
then_same (Err fault) f g same = refl

-- as many steps as there are bytes are enough
pub enough : {X : Type 0} (Spells : List ℕ → X → Type 0) (item_at : ℕ → List ℕ → Result (X × List ℕ) WireFault) → Reads Spells item_at → (few many total : ℕ) (left : List ℕ)
    → length left ≤ few → length left ≤ many → items_within few item_at total left ≡ items_within many item_at total left
enough Spells item_at reads few many total [] h k = items-nil item_at few total ∙ sym (items-nil item_at many total)
enough Spells item_at reads zero many total (b ∷ left) h k = absurd (omega arith)
enough Spells item_at reads (suc few) zero total (b ∷ left) h k = absurd (omega arith)
enough {X} Spells item_at reads (suc few) (suc many) total (b ∷ left) h k =
    let same = λ (x : X) (rest : List ℕ) (e : item_at (total - length (b ∷ left)) (b ∷ left) ≡ Ok (x, rest)).
    let fewer = shorter Spells item_at reads (total - length (b ∷ left)) (b ∷ left) x rest e in
    enough Spells item_at reads few many total rest (omega (arith, fewer)) (omega (arith, fewer)) in
    items-step item_at few total (b ∷ left) (omega arith)
    ∙ then_same (item_at (total - length (b ∷ left)) (b ∷ left)) (λ others. items_within few item_at total others) (λ others. items_within many item_at total others) same
    ∙ sym (items-step item_at many total (b ∷ left) (omega arith))

-- ---- one step of a reader

-- nothing where no byte is left
pub items-none : {X : Type 0} (item_at : ℕ → List ℕ → Result (X × List ℕ) WireFault) (total : ℕ) (left : List ℕ) → length left ≡ 0 → items_within (length left) item_at total left ≡ []
items-none item_at total [] none = items-nil item_at 0 total
items-none item_at total (b ∷ left) none = absurd (omega arith)

-- an item, and then what is left after it
pub item_read : {X : Type 0} (Spells : List ℕ → X → Type 0) (item_at : ℕ → List ℕ → Result (X × List ℕ) WireFault) → Reads Spells item_at → (total : ℕ) (left : List ℕ) (x : X) (rest : List ℕ)
    → item_at (total - length left) left ≡ Ok (x, rest) → items_within (length left) item_at total left ≡ Ok x ∷ items_within (length rest) item_at total rest
item_read {X} Spells item_at reads total left x rest e =
    let fewer = shorter Spells item_at reads (total - length left) left x rest e in
    let one : items_within (suc (length left)) item_at total left ≡ Ok x ∷ items_within (length left) item_at total rest =
    items-step item_at (length left) total left (omega (arith, fewer)) ∙ rw e refl in
    enough Spells item_at reads (length left) (suc (length left)) total left (omega arith) (omega arith)
    ∙ one
    ∙ ap (λ (others : List (Result X WireFault)). Ok x ∷ others) (enough Spells item_at reads (length left) (length rest) total rest (omega (arith, fewer)) (omega arith))

-- a fault, and nothing after it
pub item_broken : {X : Type 0} (Spells : List ℕ → X → Type 0) (item_at : ℕ → List ℕ → Result (X × List ℕ) WireFault) → Reads Spells item_at → (total : ℕ) (left : List ℕ) (fault : WireFault)
    → 1 ≤ length left → item_at (total - length left) left ≡ Err fault → items_within (length left) item_at total left ≡ Err fault ∷ []
item_broken Spells item_at reads total left fault some e =
    enough Spells item_at reads (length left) (suc (length left)) total left (omega arith) (omega arith)
    ∙ items-step item_at (length left) total left some
    ∙ rw e refl

-- ---- all of them

joined_again : {X : Type 0} (Spells : List ℕ → X → Type 0) (item_at : ℕ → List ℕ → Result (X × List ℕ) WireFault) → Reads Spells item_at → (total : ℕ) (bytes : List ℕ) (xs : List X)
    → Joins Spells bytes xs → items_within (length bytes) item_at total bytes ≡ all_read xs
joined_again Spells item_at reads total bytes [] none = rw none (items-nil item_at 0 total)
joined_again {X} Spells item_at reads total bytes (x ∷ xs) (first, rest, spelled, others, joined) =
    let read : item_at (total - length bytes) bytes ≡ Ok (x, rest) = rw joined (reads.again (total - length (first ++ rest)) first rest x spelled) in
    item_read Spells item_at reads total bytes x rest read ∙ ap (λ (ys : List (Result X WireFault)). Ok x ∷ ys) (joined_again Spells item_at reads total rest xs others)

pub all_again : {X : Type 0} (Spells : List ℕ → X → Type 0) (item_at : ℕ → List ℕ → Result (X × List ℕ) WireFault) → Reads Spells item_at → (bytes : List ℕ) (xs : List X)
    → Joins Spells bytes xs → items_within (length bytes) item_at (length bytes) bytes ≡ all_read xs
all_again Spells item_at reads bytes xs joins = joined_again Spells item_at reads (length bytes) bytes xs joins

-- what is left breaks after some items
record Breaks {X : Type 0} (Spells : List ℕ → X → Type 0) (item_at : ℕ → List ℕ → Result (X × List ℕ) WireFault) (total : ℕ) (left : List ℕ) (items : List X) (fault : WireFault) : Type 0 where
  front : List ℕ
  rest : List ℕ
  joined : left ≡ front ++ rest
  whole : Joins Spells front items
  breaks : item_at (total - length rest) rest ≡ Err fault
  goes_on : 1 ≤ length rest

data Ends {X : Type 0} (Spells : List ℕ → X → Type 0) (item_at : ℕ → List ℕ → Result (X × List ℕ) WireFault) (total : ℕ) (left : List ℕ) : Type 0 where
  ends_whole : (items : List X) → Joins Spells left items → items_within (length left) item_at total left ≡ all_read items → Ends Spells item_at total left
  ends_broken : (items : List X) (fault : WireFault) → Breaks Spells item_at total left items fault → items_within (length left) item_at total left ≡ all_read items ++ Err fault ∷ [] → Ends Spells item_at total left

ends_then : {X : Type 0} (Spells : List ℕ → X → Type 0) (item_at : ℕ → List ℕ → Result (X × List ℕ) WireFault) → Reads Spells item_at → (total : ℕ) (left : List ℕ) (x : X) (rest : List ℕ)
    → item_at (total - length left) left ≡ Ok (x, rest) → Ends Spells item_at total rest → Ends Spells item_at total left
ends_then {X} Spells item_at reads total left x rest e (ends_whole items joins answers) =
    let found = reads.found (total - length left) left x rest e in
    ends_whole (x ∷ items) (found.0, rest, found.1, joins, found.2) (item_read Spells item_at reads total left x rest e ∙ ap (λ (ys : List (Result X WireFault)). Ok x ∷ ys) answers)
ends_then {X} Spells item_at reads total left x rest e (ends_broken items fault at answers) =
    let found = reads.found (total - length left) left x rest e in
    let joined : left ≡ (found.0 ++ at.front) ++ at.rest = found.2 ∙ ap (λ (ys : List ℕ). found.0 ++ ys) at.joined ∙ sym (append_assoc found.0 at.front at.rest) in
    ends_broken (x ∷ items) fault
    (record { front = found.0 ++ at.front; rest = at.rest; joined = joined; whole = (found.0, at.front, found.1, at.whole, refl); breaks = at.breaks; goes_on = at.goes_on })
    (item_read Spells item_at reads total left x rest e ∙ ap (λ (ys : List (Result X WireFault)). Ok x ∷ ys) answers)

ends_read : {X : Type 0} (Spells : List ℕ → X → Type 0) (item_at : ℕ → List ℕ → Result (X × List ℕ) WireFault) → Reads Spells item_at → (total : ℕ) (left : List ℕ) (read : Result (X × List ℕ) WireFault)
    → 1 ≤ length left → item_at (total - length left) left ≡ read → ((x : X) (rest : List ℕ) → length rest < length left → Ends Spells item_at total rest) → Ends Spells item_at total left
ends_read Spells item_at reads total left (Ok x) some e later =
    ends_then Spells item_at reads total left x.0 x.1 e (later x.0 x.1 (shorter Spells item_at reads (total - length left) left x.0 x.1 e))
ends_read Spells item_at reads total left (Err fault) some e later =
    ends_broken [] fault (record { front = []; rest = left; joined = refl; whole = refl; breaks = e; goes_on = some }) (item_broken Spells item_at reads total left fault some e)

ends : {X : Type 0} (Spells : List ℕ → X → Type 0) (item_at : ℕ → List ℕ → Result (X × List ℕ) WireFault) → Reads Spells item_at → (steps total : ℕ) (left : List ℕ) → length left ≤ steps → Ends Spells item_at total left
ends Spells item_at reads steps total [] h = ends_whole [] refl (items-nil item_at 0 total)
ends Spells item_at reads zero total (b ∷ left) h = absurd (omega arith)
ends Spells item_at reads (suc steps) total (b ∷ left) h =
    ends_read Spells item_at reads total (b ∷ left) (item_at (total - length (b ∷ left)) (b ∷ left)) (omega arith) refl
    (λ x rest fewer. ends Spells item_at reads steps total rest (omega arith))

outcome_of : {X : Type 0} (Spells : List ℕ → X → Type 0) (item_at : ℕ → List ℕ → Result (X × List ℕ) WireFault) (bytes : List ℕ)
    → Ends Spells item_at (length bytes) bytes → Outcome Spells item_at bytes (items_within (length bytes) item_at (length bytes) bytes)
outcome_of Spells item_at bytes (ends_whole items joins answers) = whole items joins answers
outcome_of Spells item_at bytes (ends_broken items fault at answers) =
    let offset : length bytes - length at.rest ≡ length at.front = omega (arith, ap length at.joined, length-append at.front at.rest) in
    broken items fault (record { front = at.front; rest = at.rest; joined = at.joined; whole = at.whole; breaks = rw (← offset) at.breaks; goes_on = at.goes_on }) answers

pub all_end : {X : Type 0} (Spells : List ℕ → X → Type 0) (item_at : ℕ → List ℕ → Result (X × List ℕ) WireFault) → Reads Spells item_at → (bytes : List ℕ)
    → Outcome Spells item_at bytes (items_within (length bytes) item_at (length bytes) bytes)
all_end Spells item_at reads bytes = outcome_of Spells item_at bytes (ends Spells item_at reads (length bytes) (length bytes) bytes (omega arith))

-- ---- answers that are all items

all_read-same : {X : Type 0} (xs ys : List X) → all_read xs ≡ all_read ys → xs ≡ ys
all_read-same [] [] e = refl
all_read-same [] (y ∷ ys) e = absurd cc
all_read-same (x ∷ xs) [] e = absurd cc
all_read-same {X} (x ∷ xs) (y ∷ ys) e =
    let head : x ≡ y = cc in
    let tail : all_read xs ≡ all_read ys = cc in
    let others = all_read-same xs ys tail in
    cc

all_read-whole : {X : Type 0} (xs ys : List X) (fault : WireFault) → all_read xs ≡ all_read ys ++ Err fault ∷ [] → ⊥
all_read-whole [] [] fault e = cc
all_read-whole [] (y ∷ ys) fault e = cc
all_read-whole (x ∷ xs) [] fault e = cc
all_read-whole {X} (x ∷ xs) (y ∷ ys) fault e =
    let tail : all_read xs ≡ all_read ys ++ Err fault ∷ [] = cc in
    all_read-whole xs ys fault tail

joins_of : {X : Type 0} (Spells : List ℕ → X → Type 0) (item_at : ℕ → List ℕ → Result (X × List ℕ) WireFault) (bytes : List ℕ) (answers : List (Result X WireFault)) (xs : List X)
    → Outcome Spells item_at bytes answers → answers ≡ all_read xs → Joins Spells bytes xs
joins_of {X} Spells item_at bytes answers xs (whole items joins e) h =
    subst (λ (ys : List X). Joins Spells bytes ys) (all_read-same items xs (sym e ∙ h)) joins
joins_of Spells item_at bytes answers xs (broken items fault at e) h = absurd (all_read-whole xs items fault (sym h ∙ e))

pub all_found : {X : Type 0} (Spells : List ℕ → X → Type 0) (item_at : ℕ → List ℕ → Result (X × List ℕ) WireFault) → Reads Spells item_at → (bytes : List ℕ) (xs : List X)
    → items_within (length bytes) item_at (length bytes) bytes ≡ all_read xs → Joins Spells bytes xs
all_found Spells item_at reads bytes xs e = joins_of Spells item_at bytes (items_within (length bytes) item_at (length bytes) bytes) xs (all_end Spells item_at reads bytes) e
