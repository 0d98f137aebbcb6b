use Rattle.std.proofs.Common.{◌∙◌, sym, ap, position, List, ℕ}
use Rattle.std.specs.Str.{bytes_eq}
use Rattle.plan_names.proofs.Positions.{position_map}
use Rattle.plan_names.proofs.earlier.KnownNames.find.Goals as goal

pub returns : goal.returns
returns c =
    sym c.in_ok-place.was ∙ c.get_index_of.ensures.index
    ∙ sym (position_map (bytes_eq c.args.wanted.now) (λ k. k.now) c.self.inside.set.keys)
    ∙ ap (λ (names : List (List ℕ)). position (bytes_eq c.args.wanted.now) names) c.self.view_is

pub returns-in_err-place : goal.returns-in_err-place
returns-in_err-place c =
    c.from_residual.ensures ∙ sym c.in_err-place.was ∙ c.get_index_of.ensures.index
    ∙ sym (position_map (bytes_eq c.args.wanted.now) (λ k. k.now) c.self.inside.set.keys)
    ∙ ap (λ (names : List (List ℕ)). position (bytes_eq c.args.wanted.now) names) c.self.view_is
