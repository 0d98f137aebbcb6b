use Rattle.std.proofs.Common.{◌≡◌, ℕ, ◌+◌, ◌-◌, ◌*◌, ◌/◌, ◌%◌, ◌^◌, ◌<◌, Option, Some, cond, leb, sym, ap, ◌∙◌, subst, arith}
use Rattle.std.specs.Prelude.{bit_and, count_ones, MatchOption}
use Rattle.std.specs.Int.{w64, bit_not}
use Rattle.buddy_arena.specs.Block.{IsBlock, IsMask}
use Rattle.buddy_arena.specs.Candidates.{IsFoundBelow}
use Rattle.buddy_arena.specs.declared.windows.Candidate.{Candidate}
use Rattle.buddy_arena.proofs.BlockLemmas.{order_within}
use Rattle.buddy_arena.proofs.MaskLemmas.{clear_from_mask, mask_from_clear, movable_from_clear, clear_from_movable, count_shared}
use Rattle.buddy_arena.proofs.ScanLemmas.{block_at, found_here, found_past}
use Rattle.buddy_arena.proofs.windows.window.Goals.{then-fixed-bits-eq0, else-fixed-bits-eq0}
use Rattle.buddy_arena.proofs.windows.window.Goals as goal

-- the block's place fits 32 bits
place_fits : (index k : ℕ) → index < 64 / 2 ^ k → index * 2 ^ k % 2 ^ 32 ≡ index * 2 ^ k
place_fits index k h = let block = block_at 64 index k h in omega (arith, block.inside)

place_block : (index k : ℕ) → index < 64 / 2 ^ k → IsBlock 64 (index * 2 ^ k % 2 ^ 32) k
place_block index k h = subst (λ (x : ℕ). IsBlock 64 x k) (sym (place_fits index k h)) (block_at 64 index k h)

-- one block further: it is movable
step_here : (word movable k index place mask : ℕ) (best : Option Candidate) (r : Candidate) → movable < 2 ^ 64 → place ≡ index * 2 ^ k → IsBlock 64 place k → IsMask mask place k →
    mask ≡ (2 ^ 2 ^ k - 1) * 2 ^ place → bit_and (bit_and word (bit_not w64 movable)) mask ≡ 0 → IsFoundBelow 64 word movable k (index * 2 ^ k) best →
    MatchOption best (r ≡ record { place = place; taken = count_ones (bit_and word mask) })
    (λ b. r ≡ cond (leb b.taken (count_ones (bit_and word mask))) b (record { place = place; taken = count_ones (bit_and word mask) })) →
    IsFoundBelow 64 word movable k ((index + 1) * 2 ^ k) (Some r)
step_here word movable k index place mask best r fits at block is_mask value free found is =
    let clear = clear_from_mask (bit_and word (bit_not w64 movable)) mask place k is_mask free in
    let here = movable_from_clear word movable place k fits block clear in
    let count = ap (λ (x : ℕ). count_ones (bit_and word x)) value ∙ count_shared word place k in
    let next : place + 2 ^ k ≡ (index + 1) * 2 ^ k = omega arith in
    subst (λ (x : ℕ). IsFoundBelow 64 word movable k x (Some r)) next
    (found_here 64 word movable k place (count_ones (bit_and word mask)) block.aligned count best r here
    (subst (λ (x : ℕ). IsFoundBelow 64 word movable k x best) (sym at) found) is)

-- one block further: it isn't movable
step_past : (word movable k index place mask : ℕ) (best : Option Candidate) → movable < 2 ^ 64 → place ≡ index * 2 ^ k → IsBlock 64 place k → IsMask mask place k →
    (bit_and (bit_and word (bit_not w64 movable)) mask ≡ 0 → ⊥) → IsFoundBelow 64 word movable k (index * 2 ^ k) best →
    IsFoundBelow 64 word movable k ((index + 1) * 2 ^ k) best
step_past word movable k index place mask best fits at block is_mask some found =
    let next : place + 2 ^ k ≡ (index + 1) * 2 ^ k = omega arith in
    subst (λ (x : ℕ). IsFoundBelow 64 word movable k x best) next
    (found_past 64 word movable k place block.aligned
    (λ here. some (mask_from_clear (bit_and word (bit_not w64 movable)) mask place k is_mask (clear_from_movable word movable place k fits here)))
    best (subst (λ (x : ℕ). IsFoundBelow 64 word movable k x best) (sym at) found))

pub returns-then-order-gt-TOP_ORDER : goal.returns-then-order-gt-TOP_ORDER
returns-then-order-gt-TOP_ORDER c = λ p candidate.
    omega (arith, order_within c.args.order (omega (arith, candidate.block.inside)))

pub mask-bits-requires : goal.mask-bits-requires
mask-bits-requires c = place_block c.loop-index.index c.args.order c.loop-index-test.true

pub loop-index-preserved : goal.loop-index-preserved
loop-index-preserved c =
    let word = c.args.word in
    let movable = c.args.movable in
    let k = c.args.order in
    let index = c.loop-index.index in
    let block = place_block index k c.loop-index-test.true in
    let at = place_fits index k c.loop-index-test.true in
    let found = c.loop-index.invariant in
    elim c.if-fixed-bits-eq0.branch [
      | then-fixed-bits-eq0 w ↦
          subst (λ (x : Option Candidate). IsFoundBelow 64 c.args.word c.args.movable c.args.order ((c.loop-index.index + 1) * 2 ^ c.args.order) x) (sym w.best-is)
          (step_here word movable k index (index * 2 ^ k % 2 ^ 32) c.mask-bits.result c.loop-index.best w.cheaper.result (omega arith) at block
          c.mask-bits.ensures.mask c.mask-bits.ensures.value w.if-fixed-bits-eq0.true found w.cheaper.ensures)
      | else-fixed-bits-eq0 w ↦
          subst (λ (x : Option Candidate). IsFoundBelow 64 c.args.word c.args.movable c.args.order ((c.loop-index.index + 1) * 2 ^ c.args.order) x) (sym w.best-is)
          (step_past word movable k index (index * 2 ^ k % 2 ^ 32) c.mask-bits.result c.loop-index.best (omega arith) at block
          c.mask-bits.ensures.mask w.if-fixed-bits-eq0.false found)
    ]
