-- The decoders of a column's streams.
use Rattle.std.proofs.Common.{◌≡◌, ℕ, Bool, true, false, [], Option, Some, None, Err, refl, ◌∙◌, ap}
use Rattle.std.specs.Option.{is_some}
use Rattle.outside.specs.declared.run_fault.RunFault.TheVariants.{StreamEnds}
use Rattle.orc_columns.specs.declared.spelling.Version.{Version}
use Rattle.orc_columns.specs.declared.spelling.Version.TheVariants.{One, Two}
use Rattle.orc_columns.specs.declared.integers.IntRuns.{IntRuns}
use Rattle.orc_columns.specs.declared.integers.IntRuns.TheVariants as runs
use Rattle.orc_columns.specs.Decoders.{IntegersOf, integers_of, held_in, IsOn}
use Rattle.orc_columns.specs.Spelling.{int_run}

integers_of-held : (stream : Option ℕ) (r : IntRuns) → (integers_of stream r).held ≡ held_in r
integers_of-held stream (runs.One d) = refl
integers_of-held stream (runs.Two d) = refl

integers_of-stream : (stream : Option ℕ) (r : IntRuns) → (integers_of stream r).stream ≡ stream
integers_of-stream stream (runs.One d) = refl
integers_of-stream stream (runs.Two d) = refl

-- a decoder of no stream holds nothing
pub none_held : (stream : Option ℕ) (r : IntRuns) (view : IntegersOf) → view ≡ integers_of stream r → IsOn stream r → is_some stream ≡ false → (view.stream ≡ None) × (view.held ≡ [])
none_held None r view is on lacks = (ap (λ (v : IntegersOf). v.stream) is ∙ integers_of-stream None r, ap (λ (v : IntegersOf). v.held) is ∙ integers_of-held None r ∙ on)
none_held (Some stream) r view is on lacks = absurd (let no : true ≡ false = lacks in cc)

pub int_run-ends : (version : Version) (signed : Bool) → int_run version signed [] ≡ Err StreamEnds
int_run-ends One signed = refl
int_run-ends Two signed = refl
