use Rattle.std.proofs.Common.{◌∙◌, ◌++◌, ◌∷◌, [], ℕ, List, ap}
use Rattle.std.proofs.lemmas.Result.{on_ok_weaker}
use Rattle.generated_plan.proofs.Lines.{line_added}
use Rattle.generated_plan.proofs.text.add_line.Goals as goal

pub returns : goal.returns
returns c = on_ok_weaker c.add-4.result
    (λ last lines is. line_added lines c.args.text.now.items c.add-4.new.text.items c.args.front.now c.args.file.now c.args.back.now
    (last ∙ ap (λ (text : List ℕ). text ++ 10 ∷ []) (c.in_ok-add-3.ensures ∙ ap (λ (text : List ℕ). text ++ c.args.back.now) (c.in_ok-add-2.ensures
    ∙ ap (λ (text : List ℕ). text ++ c.args.file.now) (c.in_ok-add.ensures)))) is) c.add-4.ensures
