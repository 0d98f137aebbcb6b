use Rattle.std.proofs.Common.{◌≡◌, sym, length}
use Rattle.pool_model.specs.declared.buffer.Target.{Target}
use Rattle.pool_model.specs.Buffer.{live_at}
use Rattle.pool_model.specs.Pool.{buffer_at}
use Rattle.pool_model.proofs.Options.{some_and, if_value}
use Rattle.pool_model.proofs.PoolSteps.{buffer_lawful, target_of}
use Rattle.std.proofs.lemmas.Bool.{iff_false}
use Rattle.pool_model.specs.Buffer.{CanSettle}
use Rattle.pool_model.proofs.ProgramSteps.{refused_back, settle_made}
use Rattle.pool_model.proofs.pool.PlainPool.settle.Goals as goal

pub returns-then-not-can_settle : goal.returns-then-not-can_settle
returns-then-not-can_settle c =
    refused_back c.args.self.now c.take_buffer.new.self c.put_buffer.new.self c.args.header c.in-Some.buffer (CanSettle c.args.seat)
    c.in-Some.ensures.taken c.take_buffer.ensures.left c.put_buffer.ensures (iff_false c.can_settle.ensures c.if-not-can_settle.true)

pub returns : goal.returns
returns c =
    let p = c.args.self.now in
    let b = c.in-Some.buffer in
    let e = c.in-Some.ensures.taken in
    let can : CanSettle c.args.seat b = c.can_settle.ensures.0 c.if-not-can_settle.false in
    let t = target_of c.args.setting.now (length p.grants) b (buffer_lawful c.args.setting.now p c.args.header b c.requires (sym e)) can.0 in
    let is = if_value (λ (x : Target). c.settle.new.self ≡ live_at x.block x.cells b) b.target t.0 t.1 c.settle.ensures in (
      some_and (CanSettle c.args.seat) (buffer_at p c.args.header) b (sym e) can,
      settle_made p c.take_buffer.new.self c.put_buffer-2.new.self c.put_grant.new.self c.args.seat c.args.header b c.settle.new.self t.0
          e c.take_buffer.ensures.left t.1 is c.put_buffer-2.ensures c.put_grant.ensures,
    )
