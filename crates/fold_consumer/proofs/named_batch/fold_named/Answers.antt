use Rattle.std.proofs.Common.{◌≡◌, ◌∙◌, ℕ, ◌++◌, ap}
use Rattle.orc_batches.specs.Batch.{Batch}
use Rattle.batch_masks.specs.Rows.{rows_of}
use Rattle.fragment_folds.specs.Folding.{folded, rows_in}
use Rattle.fold_consumer.proofs.Named.{picked_so}
use Rattle.fold_consumer.specs.Pieces.{in_order}
use Rattle.fold_consumer.proofs.named_batch.fold_named.Goals as goal

pub fold_batch-requires-clause-rows : goal.fold_batch-requires-clause-rows
fold_batch-requires-clause-rows c =
    let named = c.args.named.now in
    let batch = c.args.columns.now in
    let picked = c.as_slice.result.now in
    let gathered : picked ≡ in_order c.args.read.now named batch =
    c.as_slice.ensures.value ∙ c.in_ok-picked.ensures.gathered ∙ ap (λ (items : Batch). items ++ in_order c.args.read.now named batch) c.in-Ok.ensures.items in
    (picked_so named c.args.read.now c.args.rows batch picked c.requires.read c.requires.batch gathered).rows

pub fold_batch-requires-clause-few : goal.fold_batch-requires-clause-few
fold_batch-requires-clause-few c =
    let named = c.args.named.now in
    let batch = c.args.columns.now in
    let picked = c.as_slice.result.now in
    let gathered : picked ≡ in_order c.args.read.now named batch =
    c.as_slice.ensures.value ∙ c.in_ok-picked.ensures.gathered ∙ ap (λ (items : Batch). items ++ in_order c.args.read.now named batch) c.in-Ok.ensures.items in
    rw (picked_so named c.args.read.now c.args.rows batch picked c.requires.read c.requires.batch gathered).many c.requires.few

pub returns-clause-folded : goal.returns-clause-folded
returns-clause-folded c =
    let named = c.args.named.now in
    let batch = c.args.columns.now in
    let picked = c.as_slice.result.now in
    let gathered : picked ≡ in_order c.args.read.now named batch =
    c.as_slice.ensures.value ∙ c.in_ok-picked.ensures.gathered ∙ ap (λ (items : Batch). items ++ in_order c.args.read.now named batch) c.in-Ok.ensures.items in
    let picks = picked_so named c.args.read.now c.args.rows batch picked c.requires.read c.requires.batch gathered in
    c.in_ok-fold_batch.ensures
    ∙ ap (λ (n : ℕ). folded c.args.fold.now (rows_of n picked)) picks.many
    ∙ ap (λ (b : Batch). folded c.args.fold.now (rows_of (rows_in batch) b)) picks.is
