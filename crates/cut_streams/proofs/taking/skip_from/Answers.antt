use Rattle.std.proofs.Common.{◌≡◌, ◌+◌, ◌≤◌, ℕ, sym, ap, ◌∙◌, subst, arith}
use Rattle.std.specs.Prelude.{List, take, drop}
use Rattle.range_cuts.specs.Cuts.{size_of}
use Rattle.held_ranges.specs.Moments.{keys_of, moment}
use Rattle.cut_streams.specs.declared.cursor.Cursor.{Cursor}
use Rattle.cut_streams.specs.Streams.{IsReady, before_cut, bytes_in, cursor_of, file_len_of, moved, offset_in}
use Rattle.cut_streams.proofs.Doing.{went_as}
use Rattle.cut_streams.proofs.Offsets.{size_small}
use Rattle.cut_streams.proofs.Takes.{sound_after, sound_as, takes, taken_are}
use Rattle.cut_streams.proofs.taking.skip_from.Goals as goal

pub returns-in-Ok-clause-went : goal.returns-in-Ok-clause-went
returns-in-Ok-clause-went g c =
    let old : Cursor = cursor_of c.args.stream.now in
    let n : ℕ = c.pass.result in
    let fits = subst (λ (x : Cursor). offset_in c.args.chunk x + n ≤ size_of x.range.len c.args.chunk (before_cut c.args.chunk x)) c.in-Ok.ensures.cursor c.pass.ensures.within in
    let is : cursor_of c.pass.new.self ≡ moved old n = c.pass.ensures.cursor ∙ ap (λ (x : Cursor). moved x n) c.in-Ok.ensures.cursor in
    went_as g.W.World.files g.S.Store.reads (moment c.args.desk.now c.args.slots.now.items) (moment c.make_ready.new.desk c.make_ready.new.slots.items) _ _
    (λ ds s. takes c.args.chunk c.args.slot old (keys_of c.args.slots.now.items) c.in-Ok.field-0 n (cursor_of c.pass.new.self) ds (keys_of c.make_ready.new.slots.items)
    c.requires.chunk.some (c.pass.ensures.some (omega arith)) fits c.requires.sound.few is s)
    c.in-Ok.ensures.went

pub returns-in-Ok-clause-sound : goal.returns-in-Ok-clause-sound
returns-in-Ok-clause-sound g c =
    let mid = c.make_ready.new.stream in
    let ready : IsReady g.W.World.files c.args.chunk (cursor_of mid) (bytes_in mid) =
    subst (λ (x : Cursor). IsReady g.W.World.files c.args.chunk x (bytes_in mid)) (sym c.in-Ok.ensures.cursor) c.in-Ok.ensures.ready in
    let sound = sound_after g.W.World.files c.args.chunk (file_len_of mid) (cursor_of mid) (bytes_in mid) c.pass.result c.requires.chunk.some c.pass.ensures.within
    c.in-Ok.ensures.sound ready in
    sound_as g.W.World.files c.args.chunk (file_len_of mid) (file_len_of c.pass.new.self) (moved (cursor_of mid) c.pass.result) (cursor_of c.pass.new.self)
    (bytes_in mid) (bytes_in c.pass.new.self) c.pass.ensures.file c.pass.ensures.cursor c.pass.ensures.same sound

pub returns-in-Ok-clause-within : goal.returns-in-Ok-clause-within
returns-in-Ok-clause-within g c =
    let old : Cursor = cursor_of c.args.stream.now in
    let fits = subst (λ (x : Cursor). offset_in c.args.chunk x + c.pass.result ≤ size_of x.range.len c.args.chunk (before_cut c.args.chunk x)) c.in-Ok.ensures.cursor c.pass.ensures.within in
    omega (arith, fits, size_small old.range.len c.args.chunk (before_cut c.args.chunk old))

pub returns-in-Ok-clause-bytes : goal.returns-in-Ok-clause-bytes
returns-in-Ok-clause-bytes g c = λ file told.
    let mid = c.make_ready.new.stream in
    let old : Cursor = cursor_of c.args.stream.now in
    let fits = subst (λ (x : Cursor). offset_in c.args.chunk x + c.pass.result ≤ size_of x.range.len c.args.chunk (before_cut c.args.chunk x)) c.in-Ok.ensures.cursor c.pass.ensures.within in
    let passed = ap (λ (xs : List ℕ). take c.pass.result (drop (offset_in c.args.chunk old) xs)) c.pass.ensures.same in
    taken_are g.W.World.files c.args.chunk (file_len_of mid) old (bytes_in mid) c.pass.result (drop (offset_in c.args.chunk old) (bytes_in c.pass.new.self)) file fits passed
    c.in-Ok.ensures.ready told
