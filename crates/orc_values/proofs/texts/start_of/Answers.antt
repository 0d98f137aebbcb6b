use Rattle.std.proofs.Common.{◌≡◌, ◌-◌, ◌<◌, ◌∙◌, ℕ, suc, arith, ap, length, sym}
use Rattle.orc_values.specs.Texts.{start_of}
use Rattle.orc_values.specs.TextsLaws.{start_of-suc}
use Rattle.orc_values.proofs.texts.start_of.Goals as goal

pub returns : goal.returns
returns c =
    let e : suc (c.args.index - 1) ≡ c.args.index = omega arith in
    let h : c.args.index - 1 < length c.args.ends.now = omega (arith, c.requires) in
    sym (start_of-suc 0 c.args.ends.now (c.args.index - 1) 0 h) ∙ ap (λ (n : ℕ). start_of 0 c.args.ends.now n) e
