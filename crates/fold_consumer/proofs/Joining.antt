-- A fold of a walk's pieces is a fold of all its rows.
use Rattle.std.proofs.Common.{◌≡◌, ℕ, suc, ◌+◌, ◌-◌, ◌*◌, ◌<◌, ◌≤◌, ◌^◌, min, List, [], ◌∷◌, ◌++◌, length, replicate, Option, refl, sym, ap, subst, ◌∙◌, arith, inl, inr}
use Rattle.std.proofs.lemmas.List.{length-replicate}
use Rattle.outside.specs.declared.file_ref.FileRef.{FileRef}
use Rattle.outside.specs.Files.{Files}
use Rattle.orc_values.specs.declared.value.Value.{Value}
use Rattle.orc_tail.specs.declared.stripe.Stripe.{Stripe}
use Rattle.orc_streams.specs.declared.layout.ReadColumn.{ReadColumn}
use Rattle.orc_streams.specs.Acts.{Act}
use Rattle.orc_batches.specs.Batch.{Batch, Piece, IsBatch, AllWhole, AreCut, behind, joined, pieces_of}
use Rattle.orc_batches.specs.Batch.{columns as of_columns, count as of_count}
use Rattle.orc_batches.specs.Batch.AreCut.{whole as cut_whole, shorter as cut_shorter}
use Rattle.orc_rows.specs.Given.{kinds_in, no_rows, batches_in, values_in, AreStripePieces}
use Rattle.orc_rows.specs.Rows.{Rows, HaveRows}
use Rattle.orc_rows.specs.Rows.HaveRows.{none as have_none, next as have_next}
use Rattle.orc_walk.specs.StripeWalk.{IsStripeWalk, AreStripeWalks}
use Rattle.orc_walk.specs.StripeWalk.IsStripeWalk.{unread as walk_unread, by_footer as walk_by_footer}
use Rattle.orc_walk.specs.StripeWalk.AreStripeWalks.{none as walks_none, next as walks_next}
use Rattle.batch_masks.specs.Rows.{rows_of}
use Rattle.fragment_plan.specs.declared.fragment.Scan.{Scan}
use Rattle.fragment_plan.specs.declared.fragment.FoldKind.{FoldKind}
use Rattle.fragment_plan.specs.declared.fragment.FoldKind.TheVariants as kind
use Rattle.fold_rows.specs.declared.state.State.{State}
use Rattle.fold_rows.specs.States.{nothing, with_rows}
use Rattle.fragment_folds.specs.Folding.{FoldOf, begun, folded, rows_in}
use Rattle.fragment_meaning.specs.ScanColumns.{by_number, in_named_order}
use Rattle.fold_consumer.specs.Pieces.{piece_rows, rows_given, with_piece, with_pieces, Passes}
use Rattle.fold_consumer.specs.Laws.{FoldsTheRows}
use Rattle.fold_consumer.proofs.Rows.{rows_joined, rows_counted, rows_of-length}
use Rattle.fold_consumer.proofs.Orders.{Rect, batch_is_rect, rect_rows, none_is_rect, behind_is_rect, order_joined, same_width, order_long, none_named}

-- ---- which pieces a walk gives

-- a batch of the columns that are read, of which there are some; or a count, where there is none
abbrev IsPiece : List ReadColumn → Piece → Type 0
IsPiece read (of_columns batch) = Rect read (rows_in batch) batch × (0 < length read)
IsPiece read (of_count rows) = read ≡ []

abbrev pub ArePieces : List ReadColumn → List Piece → Type 0
ArePieces read [] = Unit {0}
ArePieces read (piece ∷ pieces) = IsPiece read piece × ArePieces read pieces

are_both : (read : List ReadColumn) (front back : List Piece) → ArePieces read front → ArePieces read back → ArePieces read (front ++ back)
are_both read [] back are also = also
are_both read (piece ∷ front) back are also = (are.0, are_both read front back are.1 also)

given_both : (front back : List Piece) → rows_given (front ++ back) ≡ rows_given front + rows_given back
given_both [] back = omega arith
given_both (piece ∷ front) back = let rest = given_both front back in omega arith

pieces_both : (front back : List Batch) → pieces_of (front ++ back) ≡ pieces_of front ++ pieces_of back
pieces_both [] back = refl
pieces_both (batch ∷ front) back = ap (λ (pieces : List Piece). of_columns batch ∷ pieces) (pieces_both front back)

-- so many rows of pieces of these columns
record Gives (read : List ReadColumn) (rows : ℕ) (pieces : List Piece) : Type 0 where
  given : rows_given pieces ≡ rows
  are : ArePieces read pieces

one_batch : (column : ReadColumn) (columns : List ReadColumn) (rows : ℕ) (batch : Batch) → IsBatch (kinds_in (column ∷ columns)) rows batch
    → (rows_in batch ≡ rows) × IsPiece (column ∷ columns) (of_columns batch)
one_batch column columns rows batch is =
    let rect = batch_is_rect (column ∷ columns) rows batch is in
    let many = rect_rows column columns rows batch rect in
    (many, (subst (λ (n : ℕ). Rect (column ∷ columns) n batch) (sym many) rect, omega arith))

whole_gives : (column : ReadColumn) (columns : List ReadColumn) (batches : List Batch) → AllWhole (kinds_in (column ∷ columns)) batches
    → Gives (column ∷ columns) (1024 * length batches) (pieces_of batches)
whole_gives column columns [] all = record { given = refl; are = tt }
whole_gives column columns (batch ∷ batches) all =
    let one = one_batch column columns 1024 batch all.0 in
    let rest = whole_gives column columns batches all.1 in
    record { given = sum (rows_in batch) (rows_given (pieces_of batches)) (length batches) one.0 rest.given; are = (one.1, rest.are) }
  where
    sum : (r g l : ℕ) → r ≡ 1024 → g ≡ 1024 * l → r + g ≡ 1024 * suc l
    sum r g l is also = omega arith

both_give : (read : List ReadColumn) (n m : ℕ) (front back : List Piece) → Gives read n front → Gives read m back → Gives read (n + m) (front ++ back)
both_give read n m front back p q = record {
  given = given_both front back ∙ ap (λ (k : ℕ). k + rows_given back) p.given ∙ ap (λ (k : ℕ). n + k) q.given;
  are = are_both read front back p.are q.are;
}

cut_gives : (column : ReadColumn) (columns : List ReadColumn) (rows : ℕ) (batches : List Batch) → AreCut (kinds_in (column ∷ columns)) rows batches
    → Gives (column ∷ columns) rows (pieces_of batches)
cut_gives column columns rows batches (cut_whole all count) = subst (λ (n : ℕ). Gives (column ∷ columns) n (pieces_of batches)) (sym count) (whole_gives column columns batches all)
cut_gives column columns rows batches (cut_shorter front last few all is some less count) =
    let one = one_batch column columns few last is in
    let end : Gives (column ∷ columns) few (of_columns last ∷ []) = record { given = alone (rows_in last) few one.0; are = (one.1, tt) } in
    let all_of = both_give (column ∷ columns) (1024 * length front) few (pieces_of front) (of_columns last ∷ []) (whole_gives column columns front all) end in
    subst (λ (n : ℕ). Gives (column ∷ columns) n (pieces_of (front ++ last ∷ []))) (sym count)
    (subst (λ (pieces : List Piece). Gives (column ∷ columns) (1024 * length front + few) pieces) (sym (pieces_both front (last ∷ []))) all_of)
  where
    alone : (r n : ℕ) → r ≡ n → r + 0 ≡ n
    alone r n is = omega arith

stripe_gives : (read : List ReadColumn) (rows : ℕ) (pieces : List Piece) → AreStripePieces read rows pieces → Gives read rows pieces
stripe_gives [] rows pieces are = subst (λ (ps : List Piece). Gives [] rows ps) (sym are) (record { given = alone rows; are = (refl, tt) })
  where
    alone : (n : ℕ) → n + 0 ≡ n
    alone n = omega arith
stripe_gives (column ∷ columns) rows pieces are =
    subst (λ (ps : List Piece). Gives (column ∷ columns) rows ps) (sym are.1) (cut_gives column columns rows are.0 are.2)

-- the rows of stripes
abbrev rows_in_all : List Stripe → ℕ
rows_in_all [] = 0
rows_in_all (stripe ∷ stripes) = stripe.rows + rows_in_all stripes

module _ (files : Option Files) (file : FileRef) where
  walk_gives : (read : List ReadColumn) (stripe : Stripe) (pieces : List Piece) (acts : List Act) → IsStripeWalk files file stripe read pieces acts → Gives read stripe.rows pieces
  walk_gives read stripe pieces acts (walk_unread are) = stripe_gives [] stripe.rows pieces are
  walk_gives read stripe pieces acts (walk_by_footer {column} {columns} footer entries rest own told are order) = stripe_gives (column ∷ columns) stripe.rows pieces are

  walks_give : (read : List ReadColumn) (stripes : List Stripe) (pieces : List Piece) (acts : List Act) → AreStripeWalks files file read stripes pieces acts
      → Gives read (rows_in_all stripes) pieces
  walks_give read stripes pieces acts walks_none = record { given = refl; are = tt }
  walks_give read stripes pieces acts (walks_next {stripe} {stripes = others} {pieces = front} {more} {acts = done} {rest} walk walks) =
      both_give read stripe.rows (rows_in_all others) front more (walk_gives read stripe front done walk) (walks_give read others more rest walks)

have_all : (bytes : List ℕ) (read : List ReadColumn) (stripes : List Stripe) (rows : Rows) → HaveRows bytes read stripes rows → rows.count ≡ rows_in_all stripes
have_all bytes read stripes rows have_none = refl
have_all bytes read stripes rows (have_next {stripe} {stripes = others} values more here have) = ap (λ (n : ℕ). stripe.rows + n) (have_all bytes read others more have)

-- ---- folding them

nothing_more : (fold : FoldKind) → with_rows fold (nothing fold) [] ≡ nothing fold
nothing_more (kind.Rows places) = refl
nothing_more kind.Count = refl
nothing_more (kind.Sum place) = refl
nothing_more (kind.Group place) = refl

begun_nothing : (scan : Scan) → folded (begun scan) [] ≡ begun scan
begun_nothing scan = ap (λ (s : State). begun_with s) (nothing_more scan.fold)
  where
    begun_with : State → FoldOf
    begun_with s = record { scan = scan; rows = 0; state = s }

abbrev Folds : Type 0
Folds = (f : FoldOf) (front back : List (List Value)) → folded (folded f front) back ≡ folded f (front ++ back)

module _ (one : Folds) (named : List ReadColumn) where
  abbrev given_so : FoldOf → ℕ → Batch → FoldOf
  given_so f n batch = folded f (rows_of n (in_named_order named batch))

  batch_folds : (f : FoldOf) (n : ℕ) (given batch : Batch) → Rect (by_number named) n given → Rect (by_number named) (rows_in batch) batch
      → with_piece named (given_so f n given) (of_columns batch) ≡ given_so f (n + rows_in batch) (behind given batch)
  batch_folds f n given batch is also =
      one f (rows_of n (in_named_order named given)) (rows_of (rows_in batch) (in_named_order named batch))
      ∙ ap (λ (rows : List (List Value)). folded f rows)
      (rows_joined n (rows_in batch) (in_named_order named given) (in_named_order named batch) (same_width (by_number named) named given batch) (order_long named n given is)
      ∙ ap (λ (b : Batch). rows_of (n + rows_in batch) b) (sym (order_joined (by_number named) named n (rows_in batch) given batch is also)))

  count_folds : (f : FoldOf) (n rows : ℕ) (given : Batch) → by_number named ≡ []
      → with_piece named (given_so f n given) (of_count rows) ≡ given_so f (n + rows) given
  count_folds f n rows given read =
      one f (rows_of n (in_named_order named given)) (replicate rows [])
      ∙ ap (λ (all : List (List Value)). folded f all)
      (ap (λ (b : Batch). rows_of n b ++ replicate rows []) none ∙ rows_counted n rows ∙ ap (λ (b : Batch). rows_of (n + rows) b) (sym none))
    where
      none : in_named_order named given ≡ []
      none = ap (λ (columns : List ReadColumn). in_named_order columns given) (none_named named read)

  pieces_fold : (f : FoldOf) (pieces : List Piece) (n : ℕ) (given : Batch) → ArePieces (by_number named) pieces → Rect (by_number named) n given
      → with_pieces named (given_so f n given) pieces ≡ given_so f (n + rows_given pieces) (joined given (batches_in pieces))
  pieces_fold f [] n given are is = let all : n ≡ n + 0 = omega arith in ap (λ (k : ℕ). given_so f k given) all
  pieces_fold f (of_columns batch ∷ pieces) n given are is =
      let at : (n + rows_in batch) + rows_given pieces ≡ n + (rows_in batch + rows_given pieces) = omega arith in
      ap (λ (g : FoldOf). with_pieces named g pieces) (batch_folds f n given batch is are.0.0)
      ∙ pieces_fold f pieces (n + rows_in batch) (behind given batch) are.1 (behind_is_rect (by_number named) n (rows_in batch) given batch is are.0.0)
      ∙ ap (λ (k : ℕ). given_so f k (joined (behind given batch) (batches_in pieces))) at
  pieces_fold f (of_count rows ∷ pieces) n given are is =
      let at : (n + rows) + rows_given pieces ≡ n + (rows + rows_given pieces) = omega arith in
      ap (λ (g : FoldOf). with_pieces named g pieces) (count_folds f n rows given are.0)
      ∙ pieces_fold f pieces (n + rows) given are.1 (counted_is_rect (by_number named) n rows given are.0 is)
      ∙ ap (λ (k : ℕ). given_so f k (joined given (batches_in pieces))) at
    where
      counted_is_rect : (read : List ReadColumn) (n m : ℕ) (batch : Batch) → read ≡ [] → Rect read n batch → Rect read (n + m) batch
      counted_is_rect [] n m [] none is = tt
      counted_is_rect [] n m (x ∷ xs) none is = absurd is
      counted_is_rect (column ∷ columns) n m batch none is = absurd cc

-- ---- where they are too many

piece_at_most : (named : List ReadColumn) (f : FoldOf) (piece : Piece) → (with_piece named f piece).rows ≤ f.rows + piece_rows piece
piece_at_most named f (of_columns batch) = at_most f.rows (length (rows_of (rows_in batch) (in_named_order named batch))) (rows_in batch) (rows_of-length (rows_in batch) (in_named_order named batch))
  where
    at_most : (r l n : ℕ) → l ≡ n → min (r + l) (2 ^ 64 - 1) ≤ r + n
    at_most r l n is = omega arith
piece_at_most named f (of_count rows) = at_most f.rows (length {A = List Value} (replicate rows [])) rows (counted rows)
  where
    at_most : (r l n : ℕ) → l ≡ n → min (r + l) (2 ^ 64 - 1) ≤ r + n
    at_most r l n is = omega arith

    counted : (n : ℕ) → length {A = List Value} (replicate n []) ≡ n
    counted n = length-replicate n []

passes_so_many : (named : List ReadColumn) (f : FoldOf) (pieces : List Piece) → Passes named f pieces → 2 ^ 63 ≤ f.rows + rows_given pieces
passes_so_many named f [] p = absurd p
passes_so_many named f (of_columns batch ∷ pieces) (inl here) = within f.rows (rows_in batch) (rows_given pieces) here
  where
    within : (r n g : ℕ) → 2 ^ 63 ≤ r + n → 2 ^ 63 ≤ r + (n + g)
    within r n g le = omega arith
passes_so_many named f (of_count rows ∷ pieces) (inl here) = absurd here
passes_so_many named f (piece ∷ pieces) (inr later) =
    within (with_piece named f piece).rows f.rows (piece_rows piece) (rows_given pieces) (piece_at_most named f piece)
    (passes_so_many named (with_piece named f piece) pieces later)
  where
    within : (w r n g : ℕ) → w ≤ r + n → 2 ^ 63 ≤ w + g → 2 ^ 63 ≤ r + (n + g)
    within w r n g most le = omega arith

passes_columns : (named : List ReadColumn) (f : FoldOf) (pieces : List Piece) → ArePieces (by_number named) pieces → Passes named f pieces → 0 < length (by_number named)
passes_columns named f [] are p = absurd p
passes_columns named f (of_columns batch ∷ pieces) are p = are.0.1
passes_columns named f (of_count rows ∷ pieces) are (inl here) = absurd here
passes_columns named f (of_count rows ∷ pieces) are (inr later) = passes_columns named (with_piece named f (of_count rows)) pieces are.1 later

-- ---- the law

pub walks_fold : Folds → (files : Option Files) (file : FileRef) (bytes : List ℕ) (scan : Scan) (named : List ReadColumn) (stripes : List Stripe) (pieces : List Piece)
    (acts : List Act) (count : ℕ) → AreStripeWalks files file (by_number named) stripes pieces acts
    → HaveRows bytes (by_number named) stripes (record { count = count; columns = values_in (by_number named) pieces })
    → FoldsTheRows scan named count pieces
walks_fold one files file bytes scan named stripes pieces acts count walks have =
    let gives = walks_give files file (by_number named) stripes pieces acts walks in
    let many : rows_given pieces ≡ count = gives.given ∙ sym (have_all bytes (by_number named) stripes (record { count = count; columns = values_in (by_number named) pieces }) have) in
    record {
      folds = ap (λ (f : FoldOf). with_pieces named f pieces) (sym (begun_nothing scan))
          ∙ pieces_fold one named (begun scan) pieces 0 (no_rows (by_number named)) gives.are (none_is_rect (by_number named))
          ∙ ap (λ (n : ℕ). folded (begun scan) (rows_of n (in_named_order named (values_in (by_number named) pieces)))) (from_none (rows_given pieces) count many);
      passes = λ p. (passes_columns named (begun scan) pieces gives.are p, enough (rows_given pieces) count many (passes_so_many named (begun scan) pieces p));
    }
  where
    from_none : (g n : ℕ) → g ≡ n → 0 + g ≡ n
    from_none g n is = omega arith

    enough : (g n : ℕ) → g ≡ n → 2 ^ 63 ≤ 0 + g → 2 ^ 63 ≤ n
    enough g n is le = omega arith
