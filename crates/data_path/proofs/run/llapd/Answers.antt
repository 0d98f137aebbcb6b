use Rattle.std.proofs.Common.{◌≡◌, refl, ap, sym, subst, Err, List, ℕ, map}
use Rattle.outside.specs.Cause.{Rose}
use Rattle.command_line.specs.Pages.{usage_text}
use Rattle.data_path.specs.declared.status.Status.TheVariants.{Usage}
use Rattle.data_path.specs.Geometries.{IsThrough}
use Rattle.data_path.specs.Headline.{Call, IsUnread, Prints, Writes, call_of}
use Rattle.data_path.specs.Headline.Writes.{usage}
use Rattle.data_path.specs.Steps.{ChosenPlan}
use Rattle.data_path.proofs.Answering.{answers_more, chosen_writes, completes, completes_generated, written_answers}
use Rattle.data_path.proofs.run.llapd.Goals as goal

pub returns-in-Err-Usage-clause-answers : goal.returns-in-Err-Usage-clause-answers
returns-in-Err-Usage-clause-answers g c =
    let source = c.args.plan.now in
    let last = c.args.last.now in
    let call : Call = call_of g.P.Source.left g.P.Source.fault_count g.S.Store.fault_count g.S.Store.reads g.W.World.files (map (λ word. word.now) c.args.words.now) source source last last in
    written_answers (Writes call (IsThrough _ g.W.World.files (g.S.Store.reads last) (g.S.Store.reads last)) (source ≡ source) (last ≡ last)) (IsUnread call (last ≡ last)) (g.K.Sink.content c.args.out.now) (g.K.Sink.content c.written.new.out)
    (g.K.Sink.fault_count c.args.out.now) (g.K.Sink.fault_count c.written.new.out) usage_text Usage c.written.result tt
    (usage (c.in-Err-Usage.ensures.usage (ap Err c.in-Err-Usage.field-0-is)) refl refl) (rw c.usage_line.ensures at c.written.ensures)

pub returns-in-Ok-plan_for-clause-answers : goal.returns-in-Ok-plan_for-clause-answers
returns-in-Ok-plan_for-clause-answers g c =
    let source = c.args.plan.now in
    let source' = c.plan_for.new.plan in
    let last = c.args.last.now in
    let last' = c.alone.new.last in
    let call : Call = call_of g.P.Source.left g.P.Source.fault_count g.S.Store.fault_count g.S.Store.reads g.W.World.files (map (λ word. word.now) c.args.words.now) source source' last last' in
    let chosen : ChosenPlan c.in-Ok.options call.left call.left' (source' ≡ source) c.as_slice.result.now =
    subst (λ (bytes : List ℕ). ChosenPlan c.in-Ok.options call.left call.left' (source' ≡ source) bytes) (sym c.as_slice.ensures) c.in-Ok-plan_for.ensures.ok in
    answers_more (Prints g.W.World.files (IsThrough _ g.W.World.files (g.S.Store.reads last) (g.S.Store.reads last') c.in-Ok.options) (g.S.Store.fault_count last) (g.S.Store.fault_count last') (g.S.Store.reads last) (g.S.Store.reads last') (last' ≡ last) c.as_slice.result.now)
    (Writes call (IsThrough _ g.W.World.files (g.S.Store.reads last) (g.S.Store.reads last')) (source' ≡ source) (last' ≡ last)) (Rose (g.K.Sink.fault_count c.args.out.now) (g.K.Sink.fault_count c.alone.new.out)) ⊥ (IsUnread call (last' ≡ last))
    (g.K.Sink.content c.args.out.now) (g.K.Sink.content c.alone.new.out) c.alone.result
    (chosen_writes call (IsThrough _ g.W.World.files (g.S.Store.reads last) (g.S.Store.reads last')) (source' ≡ source) (last' ≡ last) c.in-Ok.options c.as_slice.result.now c.in-Ok.ensures.ok chosen) (λ x. absurd x) c.alone.ensures.answers

pub returns-in-Ok-plan_for-clause-complete : goal.returns-in-Ok-plan_for-clause-complete
returns-in-Ok-plan_for-clause-complete g c =
    let source = c.args.plan.now in
    let source' = c.plan_for.new.plan in
    let last = c.args.last.now in
    let last' = c.alone.new.last in
    completes c.quiet_runs_mean_the_plan.ensures c.words_mean_one_thing.ensures (call_of g.P.Source.left g.P.Source.fault_count g.S.Store.fault_count g.S.Store.reads g.W.World.files (map (λ word. word.now) c.args.words.now) source source' last last') (IsThrough _ g.W.World.files (g.S.Store.reads last) (g.S.Store.reads last')) (source' ≡ source) (last' ≡ last) (Rose (g.K.Sink.fault_count c.args.out.now) (g.K.Sink.fault_count c.alone.new.out))
    (g.K.Sink.content c.args.out.now) (g.K.Sink.content c.alone.new.out) c.alone.result (returns-in-Ok-plan_for-clause-answers g c)

pub returns-in-Ok-plan_for-clause-complete_generated : goal.returns-in-Ok-plan_for-clause-complete_generated
returns-in-Ok-plan_for-clause-complete_generated g c =
    let source = c.args.plan.now in
    let source' = c.plan_for.new.plan in
    let last = c.args.last.now in
    let last' = c.alone.new.last in
    completes_generated c.quiet_runs_mean_the_plan.ensures c.words_mean_one_thing.ensures c.generated_plans_are_read.ensures (call_of g.P.Source.left g.P.Source.fault_count g.S.Store.fault_count g.S.Store.reads g.W.World.files (map (λ word. word.now) c.args.words.now) source source' last last') (IsThrough _ g.W.World.files (g.S.Store.reads last) (g.S.Store.reads last')) (source' ≡ source) (last' ≡ last) (Rose (g.K.Sink.fault_count c.args.out.now) (g.K.Sink.fault_count c.alone.new.out))
    (g.K.Sink.content c.args.out.now) (g.K.Sink.content c.alone.new.out) c.alone.result (returns-in-Ok-plan_for-clause-answers g c)
