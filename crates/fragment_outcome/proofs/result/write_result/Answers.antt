use Rattle.std.proofs.Common.{◌∙◌, ap, ◌++◌, List, ℕ, append-nil}
use Rattle.fragment_outcome.specs.Sent.{held_by, Wrote}
use Rattle.fragment_outcome.specs.Text.{name_at, outcome_text, result_text}
use Rattle.fragment_outcome.proofs.OnTheWay.{Wrote-then, Wrote-as, written, front, cause}
use Rattle.fragment_outcome.proofs.result.write_result.Goals as goal

pub returns-clause-written : goal.returns-clause-written
returns-clause-written g c =
    let whole = Wrote-as (Wrote-then (Wrote-as c.put.ensures (c.as_bytes.ensures.value ∙ c.name_at.ensures)) (Wrote-then c.put_outcome.ensures c.finish.ensures.wrote))
    (ap (λ (l : List ℕ). name_at c.args.plan.now c.args.fragment ++ l) (append-nil (outcome_text c.args.plan.now c.args.outcome.now))) in
    written (held_by c.new-writer.result) (held_by c.finish.new.self) (g.K.Sink.content c.args.out.now) (g.K.Sink.content c.finish.new.out) (g.K.Sink.fault_count c.args.out.now) (g.K.Sink.fault_count c.finish.new.out)
    (result_text c.args.plan.now c.args.fragment c.args.outcome.now) c.new-writer.ensures whole c.finish.result c.finish.ensures.ok

pub returns-clause-front : goal.returns-clause-front
returns-clause-front g c =
    let whole = Wrote-as (Wrote-then (Wrote-as c.put.ensures (c.as_bytes.ensures.value ∙ c.name_at.ensures)) (Wrote-then c.put_outcome.ensures c.finish.ensures.wrote))
    (ap (λ (l : List ℕ). name_at c.args.plan.now c.args.fragment ++ l) (append-nil (outcome_text c.args.plan.now c.args.outcome.now))) in
    front (held_by c.new-writer.result) (held_by c.finish.new.self) (g.K.Sink.content c.args.out.now) (g.K.Sink.content c.finish.new.out) (g.K.Sink.fault_count c.args.out.now) (g.K.Sink.fault_count c.finish.new.out)
    (result_text c.args.plan.now c.args.fragment c.args.outcome.now) c.new-writer.ensures whole c.finish.result c.finish.ensures.err

pub returns-clause-cause : goal.returns-clause-cause
returns-clause-cause g c =
    let whole = Wrote-as (Wrote-then (Wrote-as c.put.ensures (c.as_bytes.ensures.value ∙ c.name_at.ensures)) (Wrote-then c.put_outcome.ensures c.finish.ensures.wrote))
    (ap (λ (l : List ℕ). name_at c.args.plan.now c.args.fragment ++ l) (append-nil (outcome_text c.args.plan.now c.args.outcome.now))) in
    cause (held_by c.new-writer.result) (held_by c.finish.new.self) (g.K.Sink.content c.args.out.now) (g.K.Sink.content c.finish.new.out) (g.K.Sink.fault_count c.args.out.now) (g.K.Sink.fault_count c.finish.new.out)
    (result_text c.args.plan.now c.args.fragment c.args.outcome.now) c.new-writer.ensures whole c.finish.result c.finish.ensures.err
