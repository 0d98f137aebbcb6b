-- What contracts see of the decoders of flags and bits.
use Rattle.std.specs.Prelude.{◌≡◌, ℕ, Bool, List, [], Option, Some, None}
use Rattle.outside.specs.declared.run_fault.RunFault.{RunFault}
use Rattle.orc_rle.specs.Decoder.{Decoder}
use Rattle.row_flags.specs.declared.present.PresentState.{PresentState}
use Rattle.row_flags.specs.declared.present.PresentState.TheVariants.{Unread, Empty}

-- bits: their stream, those that are held, and the fault answered
pub record BitsOf : Type 0 where
  pub stream : Option ℕ
  pub held : List Bool
  pub fault : Option RunFault

abbrev pub bits_in : Option ℕ → Decoder Bool → BitsOf
bits_in stream d = record { stream = stream; held = d.held; fault = d.fault }

abbrev pub BitsOn : Option ℕ → Decoder Bool → Type 0
BitsOn None d = d.held ≡ []
BitsOn (Some stream) d = d.stream ≡ stream

-- the flags of PRESENT: their stream, what is known of it, those that are held, and the fault answered
pub record PresentOf : Type 0 where
  pub stream : Option ℕ
  pub state : PresentState
  pub held : List Bool
  pub fault : Option RunFault

abbrev pub present_in : Option ℕ → PresentState → Decoder Bool → PresentOf
present_in stream state d = record { stream = stream; state = state; held = d.held; fault = d.fault }

-- a stream that isn't there is empty
abbrev pub PresentOn : Option ℕ → PresentState → Decoder Bool → Type 0
PresentOn None state d = state ≡ Empty
PresentOn (Some stream) state d = d.stream ≡ stream

-- before anything is read
abbrev pub first_state : Option ℕ → PresentState
first_state None = Empty
first_state (Some stream) = Unread

abbrev pub new_present : Option ℕ → PresentOf
new_present stream = record { stream = stream; state = first_state stream; held = []; fault = None }
