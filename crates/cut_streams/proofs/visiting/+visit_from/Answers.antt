use Rattle.std.proofs.Common.{◌≡◌, ◌+◌, ℕ, sym, ap, ◌∙◌, subst}
use Rattle.std.specs.Prelude.{Ok, Err, slice_range}
use Rattle.buffer_word.specs.declared.key_word.Key.{Key}
use Rattle.range_cuts.specs.Cuts.{cut_at}
use Rattle.held_ranges.specs.Deeds.{Keys}
use Rattle.held_ranges.specs.Moments.{keys_of, moment}
use Rattle.cut_streams.specs.Visits.{VisitsBy, key_in}
use Rattle.cut_streams.specs.Went.{Went}
use Rattle.cut_streams.proofs.Doing.{went_as, went_then}
use Rattle.cut_streams.proofs.Visits.{bytes_on, cut_is, on_ok_map, visited_on, visited_to}
use Rattle.cut_streams.proofs.visiting.+visit_from.Goals as goal

pub returns-in-Ok-clause-went : goal.returns-in-Ok-clause-went
returns-in-Ok-clause-went g t c =
    let cut = cut_is c.args.at c.args.len c.args.chunk c.args.i (c.in-Some.from, c.in-Some.size) (sym c.cut_ranges.ensures ∙ c.in-Some.is) in
    let key : Key = record { file = c.args.file.number; at = c.in-Some.from; len = c.in-Some.size } in
    let key_is : key ≡ key_in c.args.file.number (cut_at c.args.at c.args.len c.args.chunk c.args.i) = ap (key_in c.args.file.number) cut.1 in
    let m = moment c.args.desk.now c.args.slots.now.items in
    let k = moment c.visit.new.desk c.visit.new.slots.items in
    let n = moment c.visit_from.new.desk c.visit_from.new.slots.items in
    let keys : Keys = keys_of c.args.slots.now.items in
    let first = subst (λ (x : Key). Went g.W.World.files g.S.Store.reads m k (VisitsBy {T = Unit {0}} c.args.slot x keys (Ok c.in-Ok.field-0))) key_is c.in-Ok.ensures.went in
    went_then g.W.World.files g.S.Store.reads m k n _ _ _
    (λ ds es a b. visited_on c.args.slot c.args.file.number c.args.at c.args.len c.args.chunk c.args.i keys c.cuts_begin.ensures c.requires.chunk.some cut.0
    c.visit_from.result ds es (keys_of c.visit.new.slots.items) (keys_of c.visit_from.new.slots.items) a.0 a.1 b)
    first c.visit_from.ensures.went

pub returns-in-Err-clause-went : goal.returns-in-Err-clause-went
returns-in-Err-clause-went g t c =
    let cut = cut_is c.args.at c.args.len c.args.chunk c.args.i (c.in-Some.from, c.in-Some.size) (sym c.cut_ranges.ensures ∙ c.in-Some.is) in
    let key : Key = record { file = c.args.file.number; at = c.in-Some.from; len = c.in-Some.size } in
    let key_is : key ≡ key_in c.args.file.number (cut_at c.args.at c.args.len c.args.chunk c.args.i) = ap (key_in c.args.file.number) cut.1 in
    let m = moment c.args.desk.now c.args.slots.now.items in
    let n = moment c.visit.new.desk c.visit.new.slots.items in
    let keys : Keys = keys_of c.args.slots.now.items in
    let first = subst (λ (x : Key). Went g.W.World.files g.S.Store.reads m n (VisitsBy {T = Unit {0}} c.args.slot x keys (Err c.in-Err.failed))) key_is c.in-Err.ensures.went in
    went_as g.W.World.files g.S.Store.reads m n _ _
    (λ ds a. visited_to c.args.slot c.args.file.number c.args.at c.args.len c.args.chunk c.args.i keys cut.0 c.in-Err.failed ds (keys_of c.visit.new.slots.items) a.0 a.1)
    first

pub returns-in-Ok-clause-bytes : goal.returns-in-Ok-clause-bytes
returns-in-Ok-clause-bytes g t c =
    let cut = cut_is c.args.at c.args.len c.args.chunk c.args.i (c.in-Some.from, c.in-Some.size) (sym c.cut_ranges.ensures ∙ c.in-Some.is) in
    on_ok_map c.visit_from.result (λ rest bytes told.
    bytes_on bytes c.args.at c.args.len c.args.chunk c.args.i c.visit.new.into c.visit_from.new.into c.cuts_begin.ensures c.requires.chunk.some cut.0
    (subst (λ (p : ℕ × ℕ). c.visit.new.into ≡ slice_range bytes p.0 (p.0 + p.1)) cut.1 (c.in-Ok.ensures.bytes bytes told))
    (rest bytes told))
    c.visit_from.ensures.bytes
