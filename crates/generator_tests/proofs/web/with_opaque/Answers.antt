use Rattle.std.proofs.Common.{◌≡◌, sym, subst, List}
use Rattle.table_columns.specs.Shapes.{Shape}
use Rattle.generator_tests.specs.Web.{IsWeb}
use Rattle.generator_tests.proofs.Placed.{web_placed}
use Rattle.generator_tests.proofs.web.with_opaque.Goals as goal

pub returns-in-Ok-clause-web : goal.returns-in-Ok-clause-web
returns-in-Ok-clause-web c = subst (λ (s : List Shape). IsWeb s) (sym c.in-Ok.ensures.columns) (web_placed _ _ _ _ c.requires.web)
