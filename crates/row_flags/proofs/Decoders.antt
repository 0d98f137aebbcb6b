-- The decoder of a stream's bits.
use Rattle.std.proofs.Common.{◌≡◌, ℕ, Bool, true, false, [], Option, Some, None, Err, refl, ◌∙◌, ap}
use Rattle.std.specs.Option.{is_some}
use Rattle.outside.specs.declared.run_fault.RunFault.TheVariants.{StreamEnds}
use Rattle.orc_rle.specs.BitRun.{bit_run}
use Rattle.orc_rle.specs.Decoder.{Decoder}
use Rattle.row_flags.specs.Decoders.{BitsOf, bits_in, BitsOn}

pub no_bits_held : (stream : Option ℕ) (d : Decoder Bool) (view : BitsOf) → view ≡ bits_in stream d → BitsOn stream d → is_some stream ≡ false → (view.stream ≡ None) × (view.held ≡ [])
no_bits_held None d view is on lacks = (ap (λ (v : BitsOf). v.stream) is, ap (λ (v : BitsOf). v.held) is ∙ on)
no_bits_held (Some stream) d view is on lacks = absurd (let no : true ≡ false = lacks in cc)

pub bit_run-ends : bit_run [] ≡ Err StreamEnds
bit_run-ends = refl
