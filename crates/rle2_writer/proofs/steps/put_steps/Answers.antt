use Rattle.std.proofs.Common.{ℕ, List, ◌++◌, ap, subst, arith, ◌∙◌}
use Rattle.rle_writer.specs.Written.{Adds}
use Rattle.rle2_writer.specs.Packs.{Packs}
use Rattle.rle2_writer.proofs.Forms.{OnOk-then, steps_run, behind_first}
use Rattle.rle2_writer.proofs.steps.put_steps.Goals as goal

pub returns : goal.returns
returns c =
    let before = c.args.out.now.items in
    let numbers = c.write_distances.new.into in
    let code = c.steps_code-code.result in
    OnOk-then c.put_packed.result c.put_packed.ensures (λ adds. steps_run c.args.signed before c.put.new.out.items c.put_varint.new.out.items c.put_varint-2.new.out.items c.put_packed.new.out.items code c.number_of.result c.number_of_bits.result _ numbers c.args.values.now
    c.steps_code-code.ensures.some c.steps_code-code.ensures.code c.requires.some c.requires.most
    (omega (arith, c.write_distances.auto.into, c.split_at_mut-distances.ensures.front_len)) (λ k. omega (arith, c.greatest.ensures k, c.steps_code-code.ensures.holds)) c.number_of.ensures c.number_of_bits.ensures
    (c.first_step-step.ensures.second c.requires.some) (behind_first c.args.values.now _ numbers c.requires.some c.write_distances.ensures)
    (c.in_ok-put.ensures.ok ∙ ap (λ (l : List ℕ). before ++ l) c.header.ensures) c.in_ok-put_varint.ensures.ok c.in_ok-put_varint-2.ensures.ok
    (subst (λ (n : ℕ). Adds (Packs n) c.put_varint-2.new.out.items c.put_packed.new.out.items numbers) c.width_of.ensures.value adds))
