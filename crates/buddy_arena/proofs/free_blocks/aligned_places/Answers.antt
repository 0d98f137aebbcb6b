use Rattle.std.proofs.Common.{◌≡◌, ℕ, ◌+◌, ◌^◌, ◌<◌, true, ◌&&◌, eqb, leb, refl, sym, subst, rules, lit<}
use Rattle.std.specs.Int.{bit_at}
use Rattle.std.proofs.lemmas.Bool.{agree_below}
use Rattle.buddy_arena.specs.Block.{around, IsBlock}
use Rattle.buddy_arena.specs.Sets.{IsSetOf}
use Rattle.buddy_arena.proofs.SetLemmas.{aligned_set}
use Rattle.buddy_arena.proofs.free_blocks.aligned_places.Goals as goal

aligned_at : (set order k : ℕ) → order ≡ k → set < 2 ^ 64 → agree_below (λ p. eqb (bit_at set p) 1) (λ p. eqb (around p k) p && leb (p + 2 ^ k) 64) 64 ≡ true →
    IsSetOf set (λ p. IsBlock 64 p order)
aligned_at set order k same fits table = subst (λ (x : ℕ). IsSetOf set (λ p. IsBlock 64 p x)) (sym same) (aligned_set set k fits table)

pub returns-in-0 : goal.returns-in-0
returns-in-0 c = aligned_at 18446744073709551615 c.args.order 0 c.in-0.is (lit< tt) refl

pub returns-in-1 : goal.returns-in-1
returns-in-1 c = aligned_at 6148914691236517205 c.args.order 1 c.in-1.is (lit< tt) refl

pub returns-in-2 : goal.returns-in-2
returns-in-2 c = aligned_at 1229782938247303441 c.args.order 2 c.in-2.is (lit< tt) refl

pub returns-in-3 : goal.returns-in-3
returns-in-3 c = aligned_at 72340172838076673 c.args.order 3 c.in-3.is (lit< tt) refl

pub returns-in-4 : goal.returns-in-4
returns-in-4 c = aligned_at 281479271743489 c.args.order 4 c.in-4.is (lit< tt) refl

pub returns-in-5 : goal.returns-in-5
returns-in-5 c = aligned_at 4294967297 c.args.order 5 c.in-5.is (lit< tt) refl

pub returns-in_default : goal.returns-in_default
returns-in_default c =
    let top : c.args.order ≡ 6 = search rules in
    aligned_at 1 c.args.order 6 top (lit< tt) refl
