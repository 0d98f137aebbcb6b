-- A generated file that was written to an empty sink is what the sink holds.
use Rattle.std.proofs.Common.{◌≡◌, ℕ, List, [], ◌++◌, Some, Ok, refl, sym, ap, subst, ◌∙◌}
use Rattle.std.proofs.lemmas.Option.{same_Some}
use Rattle.generated_file.specs.File.{IsGenerated}
use Rattle.generated_file.specs.Making.{WroteGenerated}

pub whole_file : (number rows : ℕ) (bytes : List ℕ) → WroteGenerated number rows (Some []) (Some bytes) (Ok tt) → IsGenerated number rows bytes
whole_file number rows bytes (file, is, more) =
    let told = more bytes refl in
    let none = same_Some [] told.0 told.1 in
    subst (λ (b : List ℕ). IsGenerated number rows b) (ap (λ (old : List ℕ). old ++ file) none ∙ sym told.2) is
