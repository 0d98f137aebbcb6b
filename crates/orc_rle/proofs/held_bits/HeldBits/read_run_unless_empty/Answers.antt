use Rattle.std.proofs.Common.{◌≡◌, Bool, List, [], ◌∷◌, ◌++◌, arith, ◌∙◌, length-append}
use Rattle.orc_rle.specs.BitRun.{bits_of}
use Rattle.orc_rle.proofs.BitRuns.{length-bits_of}
use Rattle.orc_rle.proofs.held_bits.HeldBits.read_run_unless_empty.Goals as goal

back_empty : (front back : List Bool) → front ++ back ≡ [] → back ≡ []
back_empty [] back e = e
back_empty (x ∷ front) back e = absurd cc

pub returns-clause-some : goal.returns-clause-some
returns-clause-some g c e =
    let held = c.read_byte_run_unless_empty.new.held in
    omega (arith, length-append c.none-self-inside.result (bits_of held), length-bits_of held, c.read_byte_run_unless_empty.ensures.some e)

pub returns-clause-same : goal.returns-clause-same
returns-clause-same g c e =
    let s = c.self.inside in
    rw (c.none-self-inside.ensures, c.read_byte_run_unless_empty.ensures.same e) (back_empty s.first (bits_of s.bytes) (c.self.view_is ∙ c.requires))
