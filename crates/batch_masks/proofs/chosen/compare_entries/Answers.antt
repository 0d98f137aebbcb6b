use Rattle.std.proofs.Common.{◌∙◌, ◌++◌, ℕ, List, Bool, true, false, map, take, get_or, replicate, ap}
use Rattle.orc_values.specs.Chosen.{places_of}
use Rattle.fragment_plan.specs.declared.test.Check.TheVariants as check
use Rattle.batch_masks.specs.Kept.{both}
use Rattle.batch_masks.specs.Checks.{check_holds, holds_of}
use Rattle.orc_values.specs.declared.value.Value.TheVariants as value
use Rattle.batch_masks.proofs.Entries.{chosen-flags}
use Rattle.batch_masks.proofs.chosen.compare_entries.Goals as goal

pub returns : goal.returns
returns c =
    let asked = check_holds (check.Compare c.args.op c.args.literal.now) in
    let entries = c.args.entries.now in
    let places = places_of c.args.numbers.now in
    let behind : List Bool = c.split_at_mut-front.result.1.now in
    let all = c.split_at_mut-front.ensures.front ∙ ap (λ (n : ℕ). take n (replicate 1024 true)) c.len.ensures in
    let front = c.compare_texts.ensures ∙ ap (λ (l : List Bool). both l (holds_of (λ t. value.Text t) c.args.op c.args.literal.now entries)) all in
    c.narrow_chosen.ensures
    ∙ ap (λ (l : List Bool). both c.args.mask.now (map (λ (place : ℕ). get_or (l ++ behind) place false) places)) front
    ∙ ap (both c.args.mask.now) (chosen-flags asked entries 1024 c.requires.few behind places c.requires.within)
