-- What contracts see of a decoder of bytes or of bits.
use Rattle.std.specs.Prelude.{ℕ, List, Option}
use Rattle.outside.specs.declared.run_fault.RunFault.{RunFault}

-- its stream, the values that it holds, and the fault that it has answered
pub record Decoder (V : Type 0) : Type 0 where
  pub stream : ℕ
  pub held : List V
  pub fault : Option RunFault
