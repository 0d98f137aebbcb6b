-- The four flags: which numbers below 16 have more than one bit set.
use Rattle.std.proofs.Common.{◌≡◌, ℕ, ◌%◌, ◌<◌, Bool, not, ◌||◌, eqb, ltb, refl, ◌∙◌, subst, arith}
use Rattle.std.specs.Prelude.{bit_and, count_ones}
use Rattle.std.specs.Int.Count.{ones}
use Rattle.std.proofs.lemmas.Bool.{agree_below_at, ltb-true, ne_eqb}
use Rattle.std.proofs.lemmas.Nat.{and_mask}
use Rattle.buffer_word.specs.declared.state_word.Mode.{Mode}
use Rattle.buffer_word.specs.declared.state_word.Mode.TheVariants.{Released, New, Live, Moving, Evicted}
use Rattle.buffer_word.specs.declared.state_word.State.{State}
use Rattle.buffer_word.specs.StateWord.{flag_of, state_word, HasSeveralFlags}

no_flag : ℕ → Bool
no_flag f = not (eqb f 0 || eqb f 1 || eqb f 2 || eqb f 4 || eqb f 8)

table : (f : ℕ) → f < 16 → ltb 1 (count_ones (f % 16)) ≡ no_flag f
unfolding ones no_flag
table f h = agree_below_at (λ x. ltb 1 (count_ones (x % 16))) (λ x. not (eqb x 0 || eqb x 1 || eqb x 2 || eqb x 4 || eqb x 8)) 16 f refl h

-- a number below 16 that is no mode's flag has several bits set
pub other_flags : (f : ℕ) → f < 16 → (f ≡ 0 → ⊥) → (f ≡ 1 → ⊥) → (f ≡ 2 → ⊥) → (f ≡ 4 → ⊥) → (f ≡ 8 → ⊥) → HasSeveralFlags f
unfolding no_flag
other_flags f h n0 n1 n2 n4 n8 =
    ltb-true 1 (count_ones (f % 16)) (table f h ∙ rw (ne_eqb f 0 n0, ne_eqb f 1 n1, ne_eqb f 2 n2, ne_eqb f 4 n4, ne_eqb f 8 n8) refl)

flag_single : (m : Mode) → HasSeveralFlags (flag_of m) → ⊥
unfolding ones
flag_single New h = omega arith
flag_single Moving h = omega arith
flag_single Evicted h = omega arith
flag_single Released h = omega arith
flag_single Live h = omega arith

flag_below : (m : Mode) → flag_of m < 16
flag_below New = omega arith
flag_below Moving = omega arith
flag_below Evicted = omega arith
flag_below Released = omega arith
flag_below Live = omega arith

-- the low four bits of a state's word are its flag
pub word_flag : (s : State) → bit_and (state_word s) 15 ≡ flag_of s.mode
word_flag s =
    let below : flag_of s.mode < 16 = flag_below s.mode in
    and_mask (state_word s) 4 ∙ omega arith

-- so a state's word has one flag at most
pub word_single : (s : State) (word : ℕ) → word ≡ state_word s → HasSeveralFlags (bit_and word 15) → ⊥
word_single s word e h =
    flag_single s.mode (subst (λ (x : ℕ). HasSeveralFlags x) (word_flag s) (subst (λ (x : ℕ). HasSeveralFlags (bit_and x 15)) e h))

-- a mode's flag is one bit at most
pub flag_alone : (m : Mode) (f : ℕ) → f ≡ flag_of m → HasSeveralFlags f → ⊥
flag_alone m f e many = flag_single m (subst (λ (x : ℕ). HasSeveralFlags x) e many)
