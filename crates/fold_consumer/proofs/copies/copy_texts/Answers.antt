use Rattle.std.proofs.Common.{◌∙◌, ap, sym, take, List, ℕ, ◌++◌, ◌∷◌, []}
use Rattle.std.proofs.lemmas.List.{take_more}
use Rattle.std.proofs.lemmas.Option.{slice_get_within, get_or_from_slice_get}
use Rattle.fold_consumer.proofs.copies.copy_texts.Goals as goal

pub loop-row-preserved : goal.loop-row-preserved
loop-row-preserved c =
    let texts = c.args.texts.now in
    let row = c.loop-row.row in
    let text = c.get.result.now in
    let none : List ℕ = [] in
    c.in_ok-push.ensures.ok
    ∙ ap (λ (copy : List (List ℕ)). copy ++ text ∷ []) c.loop-row.invariant
    ∙ ap (λ (t : List ℕ). take row texts ++ t ∷ []) (sym (get_or_from_slice_get texts row text none c.get.ensures))
    ∙ sym (take_more texts row none (slice_get_within texts row text c.get.ensures))
