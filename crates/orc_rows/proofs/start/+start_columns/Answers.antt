use Rattle.std.proofs.Common.{List, [], ◌∷◌, ◌++◌, sym, ◌∙◌, ap, append_assoc}
use Rattle.std.proofs.lemmas.List.{append-nil}
use Rattle.orc_columns.specs.Midway.{ReaderOf}
use Rattle.orc_streams.specs.Layout.{layout_in}
use Rattle.orc_rows.specs.Starting.{layouts_in}
use Rattle.orc_rows.proofs.Starting.{no_columns, first_fails, first_refused, first_starts}
use Rattle.orc_rows.proofs.start.+start_columns.Goals as goal

pub returns-in_default-clause-starts : goal.returns-in_default-clause-starts
returns-in_default-clause-starts g t c =
    let s = g.S.StreamReader in
    let m = g.met.S.StreamReader in (
      [],
      sym (append-nil c.args.readers.now.items),
      no_columns s.did g.S.Feed.rest g.S.Feed.fed g.S.Feed.fault_count g.W.World.files c.args.file m.did_joined m.did_take m.did_nothing c.args.footer.now c.args.index c.args.columns.now c.args.reader.now c.in_default.ensures.cases,
    )

pub returns-in-Err-clause-starts : goal.returns-in-Err-clause-starts
returns-in-Err-clause-starts g t c =
    let s = g.S.StreamReader in
    let m = g.met.S.StreamReader in
    let is = c.in-Some.ensures.cases.0 in (
      [],
      sym (append-nil c.args.readers.now.items),
      rw is (first_fails s.did g.S.Feed.rest g.S.Feed.fed g.S.Feed.fault_count g.W.World.files c.args.file m.did_joined m.did_take c.args.index (layout_in c.args.footer.now c.in-Some.column.now)
          (layouts_in c.args.footer.now c.in-Some.others.now) c.args.reader.now c.start_column.new.reader c.in-Err.fault (rw c.layout_of.ensures at c.in-Err.ensures.starts)),
    )

pub returns-in-Err-keep-clause-starts : goal.returns-in-Err-keep-clause-starts
returns-in-Err-keep-clause-starts g t c =
    let s = g.S.StreamReader in
    let m = g.met.S.StreamReader in
    let is = c.in-Some.ensures.cases.0 in (
      [],
      c.in-Err-keep.ensures.refused ∙ sym (append-nil c.args.readers.now.items),
      rw is (first_refused s.did g.S.Feed.rest g.S.Feed.fed g.S.Feed.fault_count g.W.World.files c.args.file m.did_joined m.did_take c.args.index (layout_in c.args.footer.now c.in-Some.column.now)
          (layouts_in c.args.footer.now c.in-Some.others.now) c.args.reader.now c.start_column.new.reader c.in-Ok.started (rw c.layout_of.ensures at c.in-Ok.ensures.starts)),
    )

pub returns-in-Ok-keep-clause-starts : goal.returns-in-Ok-keep-clause-starts
returns-in-Ok-keep-clause-starts g t c =
    let s = g.S.StreamReader in
    let m = g.met.S.StreamReader in
    let is = c.in-Some.ensures.cases.0 in
    let more = c.start_columns.ensures.starts in (
      c.in-Ok.started ∷ more.0,
      more.1 ∙ ap (λ (rs : List ReaderOf). rs ++ more.0) c.in-Ok-keep.ensures.kept ∙ append_assoc c.args.readers.now.items (c.in-Ok.started ∷ []) more.0,
      rw is (first_starts s.did g.S.Feed.rest g.S.Feed.fed g.S.Feed.fault_count g.W.World.files c.args.file m.did_joined m.did_take c.args.index (layout_in c.args.footer.now c.in-Some.column.now)
          (layouts_in c.args.footer.now c.in-Some.others.now) c.args.reader.now c.start_column.new.reader c.start_columns.new.reader c.in-Ok.started more.0 c.start_columns.result
          (rw c.layout_of.ensures at c.in-Ok.ensures.plan) c.in-Ok.ensures.fresh (rw c.layout_of.ensures at c.in-Ok.ensures.starts) more.2),
    )
