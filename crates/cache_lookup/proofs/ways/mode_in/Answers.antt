use Rattle.std.proofs.Common.{◌≡◌, ℕ, ◌%◌, arith, sym, ap, ◌∙◌}
use Rattle.std.specs.Prelude.{Some, None}
use Rattle.buffer_word.specs.declared.state_word.Mode.{Mode}
use Rattle.buffer_word.specs.declared.state_word.Mode.TheVariants.{Released, New, Live, Moving, Evicted}
use Rattle.buffer_word.specs.StateWord.{flag_of, word_of}
use Rattle.cache_lookup.proofs.ways.mode_in.Goals as goal

flags : (m : Mode) (count order place : ℕ) → word_of count m order place % 16 ≡ flag_of m
flags Released count order place = omega arith
flags New count order place = omega arith
flags Live count order place = omega arith
flags Moving count order place = omega arith
flags Evicted count order place = omega arith

pub returns : goal.returns
returns c =
    let s = c.in-Some.state in
    ap (λ (n : ℕ). n % 16) c.in-Some.ensures.state.1 ∙ flags s.mode s.count s.order s.place

pub unreachable-requires : goal.unreachable-requires
unreachable-requires c =
    let s = c.requires in
    let is : None ≡ Some s.0 = sym c.in-None.is ∙ c.unpack.ensures.packed s.0 s.1 s.2 in
    let no : ⊥ = cc in no
