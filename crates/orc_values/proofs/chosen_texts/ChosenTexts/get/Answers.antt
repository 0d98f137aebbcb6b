use Rattle.std.proofs.Common.{◌≡◌, ◌∙◌, ◌<◌, ℕ, List, [], length, slice_get, Some, ℤ, pos, sym, ap, arith}
use Rattle.std.specs.Prelude.{slice_index_or}
use Rattle.std.specs.Int.{w64, cast_unsigned}
use Rattle.std.proofs.lemmas.Option.{get_or_from_slice_get}
use Rattle.orc_values.proofs.Choosing.{length-chosen, number_below, chosen_at}
use Rattle.orc_values.proofs.chosen_texts.ChosenTexts.get.Goals as goal

pub get-requires : goal.get-requires
get-requires c =
    let s = c.self.inside in
    let numbers = s.numbers.items in
    let h : c.args.index < length numbers = rw length-chosen at (rw (← c.self.view_is) at c.requires) in
    let number : c.entry_at.result ≡ cast_unsigned w64 (slice_index_or numbers c.args.index (pos 0)) =
    c.entry_at.ensures ∙ ap (λ (l : List ℤ). cast_unsigned w64 (slice_index_or l c.args.index (pos 0))) c.deref.ensures.value in
    let below = number_below s.dictionary numbers c.args.index c.self.invariant h in
    rw c.entries.ensures (omega (arith, number, below))

pub returns : goal.returns
returns c =
    let s = c.self.inside in
    let numbers = s.numbers.items in
    let h : c.args.index < length numbers = rw length-chosen at (rw (← c.self.view_is) at c.requires) in
    let number : c.entry_at.result ≡ cast_unsigned w64 (slice_index_or numbers c.args.index (pos 0)) =
    c.entry_at.ensures ∙ ap (λ (l : List ℤ). cast_unsigned w64 (slice_index_or l c.args.index (pos 0))) c.deref.ensures.value in
    let entry : slice_index_or s.dictionary c.entry_at.result [] ≡ c.get.result.now =
    get_or_from_slice_get s.dictionary c.entry_at.result c.get.result.now [] (ap (λ (l : List (List ℕ)). slice_get l c.entry_at.result) (sym c.entries.ensures) ∙ c.get.ensures) in
    rw (← c.self.view_is)
    (chosen_at s.dictionary numbers c.args.index h
    ∙ ap (λ (n : ℕ). Some (slice_index_or s.dictionary n [])) (sym number)
    ∙ ap (λ (l : List ℕ). Some l) entry)

pub entry_at-requires : goal.entry_at-requires
entry_at-requires c =
    let s = c.self.inside in
    let h : c.args.index < length s.numbers.items = rw length-chosen at (rw (← c.self.view_is) at c.requires) in
    rw c.deref.ensures.value h
