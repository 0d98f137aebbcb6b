-- What contracts see of a decoder of integers.
use Rattle.std.specs.Prelude.{ℕ, Bool, List, ℤ, Option}
use Rattle.outside.specs.declared.run_fault.RunFault.{RunFault}

-- its stream, whether its values are signed, those that it holds, and the fault that it has answered
pub record IntDecoder : Type 0 where
  pub stream : ℕ
  pub signed : Bool
  pub held : List ℤ
  pub fault : Option RunFault
