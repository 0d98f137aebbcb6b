use Rattle.io_elevator.proofs.sound_stream.SoundStream.lent.Goals as goal

pub returns-clause-bytes : goal.returns-clause-bytes
returns-clause-bytes g c =
    rw (← c.self.view_is) (λ file told. c.lent.ensures.bytes g.W.World.files file c.self.invariant told)
