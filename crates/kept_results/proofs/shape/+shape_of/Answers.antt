use Rattle.std.proofs.Common.{get_or, sym, ap, ◌∙◌}
use Rattle.std.proofs.lemmas.Option.{slice_get-get_or}
use Rattle.fragment_plan.specs.Shapes.{shape_of, shapes_of}
use Rattle.fragment_plan.specs.declared.fragment.Work.TheVariants as work
use Rattle.kept_results.proofs.Works.{shape_by_work, shape_of_none, shape_of_some}
use Rattle.kept_results.proofs.shape.+shape_of.Goals as goal

pub returns-in-Scan : goal.returns-in-Scan
returns-in-Scan t c =
    let plan = c.args.fragments.now in
    let r = get_or plan c.args.fragment c.index-fragments-fragment.result in
    let law = shape_by_work plan c.args.fragment r c.requires.bounds (slice_get-get_or plan c.args.fragment _ c.requires.below) in
    c.fold_shape.ensures ∙ sym (law ∙ ap (shape_of (shapes_of plan)) c.in-Scan.is)

pub returns-in-empty : goal.returns-in-empty
returns-in-empty t c =
    let plan = c.args.fragments.now in
    let r = get_or plan c.args.fragment c.index-fragments-fragment.result in
    let law = shape_by_work plan c.args.fragment r c.requires.bounds (slice_get-get_or plan c.args.fragment _ c.requires.below) in
    sym (law ∙ (ap (shape_of (shapes_of plan)) (c.in-Merge.is ∙ ap work.Merge (sym c.as_slice.ensures))
    ∙ shape_of_none (shapes_of plan) c.as_slice.result.now c.in-empty.len_below))

pub returns-in-len1-up : goal.returns-in-len1-up
returns-in-len1-up t c =
    let plan = c.args.fragments.now in
    let r = get_or plan c.args.fragment c.index-fragments-fragment.result in
    let law = shape_by_work plan c.args.fragment r c.requires.bounds (slice_get-get_or plan c.args.fragment _ c.requires.below) in
    c.shape_of.ensures
    ∙ sym (law ∙ (ap (shape_of (shapes_of plan)) (c.in-Merge.is ∙ ap work.Merge (sym c.as_slice.ensures))
    ∙ shape_of_some (shapes_of plan) c.as_slice.result.now 0 c.in-len1-up.len_at_least))
