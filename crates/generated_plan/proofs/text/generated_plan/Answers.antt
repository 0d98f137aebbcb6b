use Rattle.std.proofs.Common.{rules, ◌++◌, ◌∷◌, [], codes, ◌∙◌}
use Rattle.generated_plan.proofs.Lines.{plan_written}
use Rattle.generated_plan.proofs.text.generated_plan.Goals as goal

pub returns : goal.returns
returns c =
    let file = c.as_str-file.result.now in
    let thousand = c.as_str.result.now in
    let three = c.as_str-2.result.now in
    let n = codes "n count from " ++ (file ++ []) in
    let s = codes "s sum id from " ++ (file ++ []) in
    let q = codes "q sum qty from " ++ (file ++ []) in
    let m = codes "m merge s,q" in
    let g = codes "g group city from " ++ (file ++ []) in
    let f = codes "f count from " ++ (file ++ thousand) in
    plan_written c.args.number c.args.rows file thousand three c.new.result (search rules) (search rules) (search rules)
    (c.new.ensures ∙ c.in_ok-add_line-7.ensures (n ∷ s ∷ q ∷ m ∷ g ∷ f ∷ []) (c.in_ok-add_line-6.ensures (n ∷ s ∷ q ∷ m ∷ g ∷ [])
    (c.in_ok-add_line-5.ensures (n ∷ s ∷ q ∷ m ∷ []) (c.in_ok-add_line-4.ensures (n ∷ s ∷ q ∷ []) (c.in_ok-add_line-3.ensures (n ∷ s ∷ [])
    (c.in_ok-add_line-2.ensures (n ∷ []) (c.in_ok-add_line.ensures [] c.new-text.ensures.items)))))))
