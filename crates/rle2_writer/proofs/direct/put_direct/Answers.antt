use Rattle.std.proofs.Common.{ℕ, List, ◌++◌, length, ap, subst, arith, ◌∙◌}
use Rattle.rle_writer.specs.Written.{Adds}
use Rattle.rle2_writer.specs.Packs.{Packs}
use Rattle.rle2_writer.proofs.Forms.{OnOk-then, direct_run}
use Rattle.rle2_writer.proofs.direct.put_direct.Goals as goal

pub returns : goal.returns
returns c =
    let before = c.args.out.now.items in
    let numbers = c.write_numbers.new.into in
    let code = c.code_for-code.result in
    OnOk-then c.put_packed.result c.put_packed.ensures (λ adds. direct_run c.args.signed before c.put.new.out.items c.put_packed.new.out.items code (length c.args.values.now) numbers c.args.values.now c.code_for-code.ensures.code c.requires.some c.requires.most
    (omega (arith, c.write_numbers.auto.into, c.split_at_mut-numbers.ensures.front_len)) c.write_numbers.ensures (λ k. omega (arith, c.greatest.ensures k, c.code_for-code.ensures.holds)) (c.in_ok-put.ensures.ok ∙ ap (λ (l : List ℕ). before ++ l) c.header.ensures)
    (subst (λ (n : ℕ). Adds (Packs n) c.put.new.out.items c.put_packed.new.out.items numbers) c.width_of.ensures.value adds))
