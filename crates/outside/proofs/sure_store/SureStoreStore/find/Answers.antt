use Rattle.std.proofs.Common.{arith, length, ap}
use Rattle.outside.proofs.sure_store.SureStoreStore.find.Goals as goal

pub look_up-requires : goal.look_up-requires
look_up-requires g c =
    omega (arith, (g.W.World.are_files c.self.inside.files.items c.self.invariant).few, ap length c.as_slice.ensures.value)
