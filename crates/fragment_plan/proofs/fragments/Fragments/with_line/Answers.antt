use Rattle.std.proofs.Common.{◌∙◌, ◌++◌, ◌∷◌, [], ap, List}
use Rattle.fragment_plan.specs.declared.shape.Shape.{Shape}
use Rattle.fragment_plan.specs.Shapes.{shape_of}
use Rattle.fragment_plan.proofs.ShapeSteps.{keeps_earlier, list_is}
use Rattle.fragment_plan.proofs.fragments.Fragments.with_line.Goals as goal

pub invariant_of-result : goal.invariant_of-result
invariant_of-result c =
    keeps_earlier c.self.inside.list.items c.in_ok-list.list.items c.in_ok-name.fragment c.self.inside.earlier c.in_ok-earlier.earlier c.in_ok-name.name.now c.work_shape-shape.result
    c.self.invariant c.in_ok-earlier.ensures c.in_ok-name.ensures.name
    (c.work_shape-shape.ensures ∙ ap (λ (shapes : List Shape). shape_of shapes c.in_ok-name.fragment.work) c.shapes-2.ensures)
    (list_is c.in_ok-list.list.items (c.self.inside.list.items ++ c.in_ok-name.fragment ∷ []) c.in_ok-list.ensures)
