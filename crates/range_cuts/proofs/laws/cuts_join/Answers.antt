use Rattle.std.proofs.Common.{◌≡◌, ℕ, ◌+◌, ◌-◌, ◌*◌, ap, ◌∙◌, arith}
use Rattle.std.specs.Prelude.{slice_range}
use Rattle.range_cuts.specs.Cuts.{begun, cuts_from}
use Rattle.range_cuts.specs.Laws.{bytes_of}
use Rattle.range_cuts.proofs.Cutting.{join, none_begun}
use Rattle.range_cuts.proofs.laws.cuts_join.Goals as goal

pub returns : goal.returns
returns c at len chunk file some =
    let e = none_begun chunk some in
    let f : begun chunk len - begun chunk 0 ≡ begun chunk len = omega (arith, e) in
    let g : at + 0 * chunk ≡ at = omega arith in
    ap (λ (i : ℕ). bytes_of file (cuts_from at len chunk i (begun chunk len - begun chunk 0))) e
    ∙ ap (λ (n : ℕ). bytes_of file (cuts_from at len chunk 0 n)) f
    ∙ join at len chunk file some (begun chunk len) 0 (omega arith)
    ∙ ap (λ (n : ℕ). slice_range file n (at + len)) g
