use Rattle.std.proofs.Common.{◌∙◌, sym, ap, refl, map, position, List, ℕ, ◌++◌, ◌∷◌, []}
use Rattle.std.proofs.lemmas.List.{map_push}
use Rattle.std.specs.Str.{bytes_eq}
use Rattle.plan_names.proofs.Positions.{position_map, none_is_among}
use Rattle.plan_names.proofs.earlier.KnownNames.add.Goals as goal

pub returns : goal.returns
returns c =
    let keys = c.self.inside.set.keys in
    let absent = none_is_among (λ k. bytes_eq c.args.name.now k.now) keys (sym (position_map (bytes_eq c.args.name.now) (λ k. k.now) keys) ∙ ap (λ (names : List (List ℕ)). position (bytes_eq c.args.name.now) names) c.self.view_is ∙ c.requires.fresh) in
    let grown = c.in_ok-insert.ensures.keys in
    ap (λ ks. map (λ k. k.now) ks) (grown ∙ rw absent refl) ∙ map_push (λ k. k.now) keys c.args.name ∙ ap (λ (names : List (List ℕ)). names ++ c.args.name.now ∷ []) c.self.view_is
