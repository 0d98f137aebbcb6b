use Rattle.std.proofs.Common.{◌≡◌, Some, None, sym, ◌∙◌}
use Rattle.outside.specs.Files.{Files}
use Rattle.board_tests.proofs.moves.seven.Goals as goal

-- where files aren't told nothing is said of what a fragment means
untold : (files : Files) → None ≡ Some files → ⊥
untold files e = cc

pub new-requires : goal.new-requires
new-requires c = record {
  below = c.requires;
  shape_is = sym c.has_shape.ensures ∙ c.if-not-has_shape.false;
  means = λ files outcomes told means. absurd (untold files told);
}
