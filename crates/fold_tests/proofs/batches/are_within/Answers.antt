use Rattle.std.proofs.Common.{◌≡◌, ◌∙◌, ◌<◌, ◌≤◌, ℕ, List, length, get_or, take, pos, subst, arith}
use Rattle.std.specs.Prelude.{All}
use Rattle.std.specs.Int.{w64, cast_unsigned}
use Rattle.std.proofs.lemmas.List.{take_all, get_or-map, length-map}
use Rattle.std.proofs.lemmas.List.Elements.{All-more, All-nil}
use Rattle.orc_values.specs.Chosen.{places_of}
use Rattle.fold_tests.proofs.batches.are_within.Goals as goal

pub loop-place-init : goal.loop-place-init
loop-place-init c = All-nil (λ (place : ℕ). place < c.args.entries)

pub loop-place-preserved : goal.loop-place-preserved
loop-place-preserved c =
    let l = c.loop-place in
    let numbers = c.args.numbers.now in
    let within : l.place < length (places_of numbers) = omega (arith, c.loop-place-test.true, length-map numbers (cast_unsigned w64)) in
    let here : get_or (places_of numbers) l.place 0 ≡ cast_unsigned w64 (get_or numbers l.place (pos 0)) = get_or-map (cast_unsigned w64) numbers l.place (pos 0) 0 c.loop-place-test.true in
    let below : get_or (places_of numbers) l.place 0 < c.args.entries = omega (arith, here, c.entry_at.ensures, c.if-entry_at-entries.false) in
    All-more (λ (place : ℕ). place < c.args.entries) (places_of numbers) l.place 0 within l.invariant below

pub returns : goal.returns
returns c = λ long.
    let l = c.loop-place in
    let numbers = c.args.numbers.now in
    let all : length (places_of numbers) ≤ l.place = omega (arith, c.loop-place-test.false, length-map numbers (cast_unsigned w64)) in
    subst (All (λ (place : ℕ). place < c.args.entries)) (take_all l.place (places_of numbers) all) l.invariant
