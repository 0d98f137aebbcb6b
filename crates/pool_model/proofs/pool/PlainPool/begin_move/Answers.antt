use Rattle.std.proofs.Common.{sym, ap, ◌∙◌, rules}
use Rattle.std.proofs.lemmas.Bool.{iff_false}
use Rattle.pool_model.specs.Buffer.{AreCellsOf, CanMove, moving}
use Rattle.pool_model.specs.Pool.{HasGrant, buffer_at, without_grant}
use Rattle.pool_model.proofs.Options.{some_and}
use Rattle.pool_model.proofs.ProgramSteps.{refused_back, change_put}
use Rattle.pool_model.proofs.pool.PlainPool.begin_move.Goals as goal

pub returns-then-not-can_move : goal.returns-then-not-can_move
returns-then-not-can_move c =
    let back =
    refused_back c.args.self.now c.take_buffer.new.self c.put_buffer.new.self c.args.header c.in-Some.buffer (CanMove c.args.target)
    c.in-Some.ensures.taken c.take_buffer.ensures.left c.put_buffer.ensures (iff_false c.can_move.ensures c.if-not-can_move.true) in
    (λ needs. back.0 needs.0, back.1)

pub returns : goal.returns
returns c =
    let p = c.args.self.now in
    let b = c.in-Some.buffer in
    let can : CanMove c.args.target b = c.can_move.ensures.0 c.if-not-can_move.false in
    let granted : HasGrant p c.args.seat c.args.target = c.has_grant.ensures.0 c.if-not-has_grant.false in
    let all : AreCellsOf c.args.setting.now c.args.target c.args.cells = search rules in
    let put =
    change_put p c.take_buffer.new.self c.put_buffer-2.new.self c.args.header b c.begin_move.new.self (moving c.args.seat c.args.target c.args.cells)
    c.in-Some.ensures.taken c.take_buffer.ensures.left c.put_buffer-2.ensures c.begin_move.ensures in (
      (some_and (CanMove c.args.target) (buffer_at p c.args.header) b (sym c.in-Some.ensures.taken) can, granted, all),
      c.take_grant.ensures ∙ ap (without_grant c.args.target) put,
    )
