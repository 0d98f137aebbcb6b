-- Neither a look-up nor a placement touches a header. Source: this project's own.
use Rattle.std.specs.Prelude.{◌≡◌, List, [], ◌∷◌}
use Rattle.std.proofs.Common.{refl, inl, inr, arith}
use Rattle.pool_rule.specs.declared.word_step.WordStep.{WordStep}
use Rattle.cache_lookup.specs.LookUps.{IsLookStep}
use Rattle.cache_lookup.specs.LookUps as look
use Rattle.cache_lookup.specs.Trails.{Among}
use Rattle.cache_placement.specs.Placements.{IsPlaceStep}
use Rattle.cache_placement.specs.Placements as place
use Rattle.cache_room.specs.Touchings.{touched_by, touchings}

look_touched : (s : WordStep) → IsLookStep s → touched_by s ≡ 0
look_touched s (look.load word found) = refl
look_touched s (look.count header found) = refl
look_touched s (look.back header found) = refl

pub look_touchings : (ss : List WordStep) → ((s : WordStep) → Among s ss → IsLookStep s) → touchings ss ≡ 0
look_touchings [] only = refl
look_touchings (s ∷ ss) only =
    let here = look_touched s (only s (inl refl)) in
    let rest = look_touchings ss (λ t there. only t (inr there)) in
    omega (arith, here, rest)

place_touched : (s : WordStep) → IsPlaceStep s → touched_by s ≡ 0
place_touched s (place.asked arena found) = refl
place_touched s (place.missed word found) = refl
place_touched s (place.granted b found) = refl
place_touched s (place.returned b found) = refl
place_touched s (place.opened header b cells) = refl
place_touched s (place.named header b key found) = refl
place_touched s (place.filled header b key done value found) = refl
place_touched s (place.published header b key found) = refl

pub place_touchings : (ss : List WordStep) → ((s : WordStep) → Among s ss → IsPlaceStep s) → touchings ss ≡ 0
place_touchings [] only = refl
place_touchings (s ∷ ss) only =
    let here = place_touched s (only s (inl refl)) in
    let rest = place_touchings ss (λ t there. only t (inr there)) in
    omega (arith, here, rest)
