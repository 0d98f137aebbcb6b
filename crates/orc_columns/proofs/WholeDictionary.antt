-- A dictionary that is read whole.
use Rattle.std.proofs.Common.{◌≡◌, ℕ, ◌+◌, ◌≤◌, Bool, false, List, [], ◌∷◌, ◌++◌, length, map, take, drop, sum, Option, Ok, Err, ℤ, pos, unsigned_abs, refl, sym, ◌∙◌, ap, subst, arith, append_assoc, append-nil, length-append}
use Rattle.std.specs.Prelude.{Result}
use Rattle.std.proofs.lemmas.List.{length-map, length-take-le, take-append-drop}
use Rattle.outside.specs.declared.run_fault.RunFault.{RunFault}
use Rattle.outside.specs.Feed.{Taken, Lost, taken_of}
use Rattle.outside.specs.Reading.{Reader, placed}
use Rattle.outside.specs.Runs.{Between, Breaks, Spells}
use Rattle.outside.specs.RunLaws.{Between-start}
use Rattle.orc_values.specs.Texts.{slices, texts_from, running_ends, AreEnds}
use Rattle.orc_values.specs.TextsLaws.{slices-ends, slices-front, AreEnds-running_ends}
use Rattle.orc_columns.specs.declared.fault.ColumnFault.{ColumnFault}
use Rattle.orc_columns.specs.declared.plan.ColumnPlan.{ColumnPlan}
use Rattle.orc_columns.specs.declared.spelling.Version.{Version}
use Rattle.orc_columns.specs.Batches.{LengthsGoOn, LengthsBreak, LengthsRefuse, TotalOf, EntriesRead, EntriesFail}
use Rattle.orc_columns.specs.Column.{Streams, LengthsFail}
use Rattle.orc_columns.specs.Decoders.{IntegersOf}
use Rattle.orc_columns.specs.Draws.{Draws, Tells}
use Rattle.orc_columns.specs.Entries.{LengthsRead}
use Rattle.orc_columns.specs.Spelling.{IntRun, int_run}
use Rattle.orc_columns.specs.Turns.{alone}
use Rattle.orc_columns.specs.Takes.{DictionaryTaken, DictionaryShort}
use Rattle.orc_columns.proofs.Drawing.{Draws-then, Draws-ok, Draws-fault, Draws-again}
use Rattle.orc_columns.proofs.TextLengths.{lengths_are, unsigned_of}

-- ---- lengths, a batch at a time

pub no_lengths : (i : IntegersOf) (s : Streams) (items : List ℤ) → items ≡ [] → LengthsGoOn i i s s items
no_lengths i s items none = ((refl, refl, refl), λ start given at. rw (none, append-nil) at)

of_decoder : (old mid : IntegersOf) (start : List ℕ) (given held : List ℤ) (rest : List ℕ) → mid.version ≡ old.version → mid.signed ≡ old.signed → Between (IntRun old.version old.signed) start given held rest → Between (IntRun mid.version mid.signed) start given held rest
of_decoder old mid start given held rest version signed at = rw (version, signed) at

to_decoder : (old mid : IntegersOf) (start : List ℕ) (given held : List ℤ) (rest : List ℕ) → mid.version ≡ old.version → mid.signed ≡ old.signed → Between (IntRun mid.version mid.signed) start given held rest → Between (IntRun old.version old.signed) start given held rest
to_decoder old mid start given held rest version signed at = rw (← version, ← signed) at

more_go : (old mid new : IntegersOf) (b m a : Streams) (items more : List ℤ) → mid.version ≡ old.version → mid.signed ≡ old.signed → LengthsGoOn old mid b m items → LengthsGoOn mid new m a more → LengthsGoOn old new b a (items ++ more)
more_go old mid new b m a items more version signed one two = (
  (two.0.0 ∙ one.0.0, two.0.1 ∙ one.0.1, two.0.2 ∙ one.0.2),
  λ start given at.
      let here : Between (IntRun mid.version mid.signed) start (given ++ items) mid.held m.lengths = of_decoder old mid start (given ++ items) mid.held m.lengths version signed (one.1 start given at) in
      let there : Between (IntRun old.version old.signed) start ((given ++ items) ++ more) new.held a.lengths = to_decoder old mid start ((given ++ items) ++ more) new.held a.lengths version signed (two.1 start (given ++ items) here) in
      subst (λ (l : List ℤ). Between (IntRun old.version old.signed) start l new.held a.lengths) (append_assoc given items more) there,
)

breaks_more : (Form : List ℕ → List ℤ → Type 0) (read : Reader (List ℤ)) (stream : List ℕ) (n k : ℕ) (fault : RunFault) → n ≤ k → Breaks Form read stream n fault → Breaks Form read stream k fault
breaks_more Form read stream n k fault h b = record { used = b.used; rest = b.rest; values = b.values; parts = b.parts; joined = b.joined; fewer = omega (arith, b.fewer); broken = b.broken }

break_later : (old mid : IntegersOf) (n k : ℕ) (b m : Streams) (items : List ℤ) (fault : ColumnFault) → mid.version ≡ old.version → mid.signed ≡ old.signed → length items + n ≤ k → LengthsGoOn old mid b m items → LengthsBreak mid n m fault → LengthsBreak old k b fault
break_later old mid n k b m items fault version signed h on breaks = (
  breaks.0,
  breaks.1,
  λ start given at.
      let here : Between (IntRun mid.version mid.signed) start (given ++ items) mid.held m.lengths = of_decoder old mid start (given ++ items) mid.held m.lengths version signed (on.1 start given at) in
      let broken : Breaks (IntRun mid.version mid.signed) (int_run mid.version mid.signed) start (length (given ++ items) + n) breaks.0 = breaks.2 start (given ++ items) here in
      let of_version : Breaks (IntRun old.version mid.signed) (int_run old.version mid.signed) start (length (given ++ items) + n) breaks.0 = subst (λ (v : Version). Breaks (IntRun v mid.signed) (int_run v mid.signed) start (length (given ++ items) + n) breaks.0) version broken in
      let of_sign : Breaks (IntRun old.version old.signed) (int_run old.version old.signed) start (length (given ++ items) + n) breaks.0 = subst (λ (s : Bool). Breaks (IntRun old.version s) (int_run old.version s) start (length (given ++ items) + n) breaks.0) signed of_version in
      breaks_more (IntRun old.version old.signed) (int_run old.version old.signed) start (length (given ++ items) + n) (length given + k) breaks.0 (omega (arith, length-append given items)) of_sign,
)

module _ {F : Type 0} (rest : F → ℕ → Option (List ℕ)) (fed : F → List Taken → F → Type 0) (count : F → ℕ) (plan : ColumnPlan)
    (lost : (first last : F) (takes : List Taken) (stream : ℕ) → fed first takes last → Lost (taken_of stream takes) (rest first stream) (rest last stream))
    (nothing : (feed : F) → fed feed [] feed) (joined : (first between last : F) (xs ys : List Taken) → fed first xs between → fed between ys last → fed first (xs ++ ys) last) where
  pub lengths_more : (old mid new : IntegersOf) (n k : ℕ) (first between last : F) (items more all : List ℤ) → mid.version ≡ old.version → mid.signed ≡ old.signed → all ≡ items ++ more
      → Draws rest fed count plan (alone plan.length) first between (LengthsGoOn old mid) (LengthsBreak old n) (Ok items) → Draws rest fed count plan (alone plan.length) between last (LengthsGoOn mid new) (LengthsBreak mid k) (Ok more)
      → Draws rest fed count plan (alone plan.length) first last (LengthsGoOn old new) (LengthsBreak old (length all)) (Ok all)
  lengths_more old mid new n k first between last items more all version signed is one two = Draws-again rest fed count plan lost nothing joined plan.length first last (LengthsGoOn old new) (LengthsBreak old (length all)) (Ok all)
      (Draws-ok rest fed count plan lost nothing joined first last
      (λ b a y. (m : Streams) × LengthsGoOn old mid b m items × LengthsGoOn mid new m a y) (LengthsGoOn old new)
      (λ b f. (m : Streams) × LengthsGoOn old mid b m items × LengthsBreak mid k m f) (LengthsBreak old (length all)) more all
      (λ b a tells goes. subst (λ (l : List ℤ). LengthsGoOn old new b a l) (sym is) (more_go old mid new b goes.0 a items more version signed goes.1 goes.2))
      (Draws-then rest fed count plan lost nothing joined first between last (LengthsGoOn old mid) (LengthsGoOn mid new) (LengthsBreak old n) (LengthsBreak mid k) items (Ok more) one two))

  pub lengths_stop : (old mid new : IntegersOf) (n k size : ℕ) (first between last : F) (items : List ℤ) (fault : ColumnFault) → mid.version ≡ old.version → mid.signed ≡ old.signed → length items + k ≤ size
      → Draws rest fed count plan (alone plan.length) first between (LengthsGoOn old mid) (LengthsBreak old n) (Ok items) → Draws {Y = List ℤ} rest fed count plan (alone plan.length) between last (LengthsGoOn mid new) (LengthsBreak mid k) (Err fault)
      → Draws {Y = List ℤ} rest fed count plan (alone plan.length) first last (LengthsGoOn old new) (LengthsBreak old size) (Err fault)
  lengths_stop old mid new n k size first between last items fault version signed h one two = Draws-again rest fed count plan lost nothing joined plan.length first last (LengthsGoOn old new) (LengthsBreak old size) (Err fault)
      (Draws-fault rest fed count plan lost nothing joined first last
      (λ b a y. (m : Streams) × LengthsGoOn old mid b m items × LengthsGoOn mid new m a y) (LengthsGoOn old new)
      (λ b f. (m : Streams) × LengthsGoOn old mid b m items × LengthsBreak mid k m f) (LengthsBreak old size) fault
      (λ b f tells breaks. break_later old mid k size b breaks.0 items f version signed h breaks.1 breaks.2)
      (Draws-then rest fed count plan lost nothing joined first between last (LengthsGoOn old mid) (LengthsGoOn mid new) (LengthsBreak old n) (LengthsBreak mid k) items (Err fault) one two))

  -- ---- all lengths

  begins_at : (i : IntegersOf) (start : List ℕ) → i.held ≡ [] → Between (IntRun i.version false) start (map pos []) i.held start
  begins_at i start none = rw none (Between-start (IntRun i.version false) start)

  pub refuse_at_start : (i : IntegersOf) (version : Version) (n room : ℕ) (b : Streams) (fault : ColumnFault) → i.held ≡ [] → i.version ≡ version → room ≡ length b.dictionary → LengthsRefuse i n room b fault → EntriesFail version n b fault
  refuse_at_start i version n room b fault none of_version len refuse =
      let here : LengthsFail i.version b.lengths (room + 0) (0 + n) fault = refuse b.lengths [] (begins_at i b.lengths none) in
      let no_more : room + 0 ≡ length b.dictionary = omega (arith, len) in
      let no_less : 0 + n ≡ n = omega arith in
      subst (λ (v : Version). LengthsFail v b.lengths (length b.dictionary) n fault) of_version
      (subst (λ (k : ℕ). LengthsFail i.version b.lengths k n fault) no_more (subst (λ (k : ℕ). LengthsFail i.version b.lengths (room + 0) k fault) no_less here))

  all_read : (i new : IntegersOf) (version : Version) (n : ℕ) (b a : Streams) (numbers : List ℤ) → i.held ≡ [] → i.version ≡ version → i.signed ≡ false → length numbers ≡ n → LengthsGoOn i new b a numbers → LengthsRead version n b a numbers
  all_read i new version n b a numbers none of_version unsigned len on =
      let whole : Between (IntRun i.version i.signed) b.lengths [] i.held b.lengths = rw none (Between-start (IntRun i.version i.signed) b.lengths) in
      let here : Between (IntRun i.version false) b.lengths numbers new.held a.lengths = unsigned_of i.version i.signed b.lengths numbers new.held a.lengths unsigned (on.1 b.lengths [] whole) in
      record {
        only = on.0;
        all = len;
        spelled = subst (λ (v : Version). Spells (IntRun v false) b.lengths numbers a.lengths) of_version (new.held, here);
      }

  pub entries_judged : (i new : IntegersOf) (version : Version) (n room : ℕ) (first last : F) (numbers : List ℤ) (answer : Result ℕ ColumnFault) → i.held ≡ [] → i.version ≡ version → i.signed ≡ false → length numbers ≡ n
      → ((s : Streams) → Tells rest first plan s → room ≡ length s.dictionary)
      → Draws rest fed count plan (alone plan.length) first last (LengthsGoOn i new) (LengthsRefuse i n room) (placed numbers answer) → Draws rest fed count plan (alone plan.length) first last (LengthsRead version n) (EntriesFail version n) (placed numbers answer)
  entries_judged i new version n room first last numbers (Ok total) none of_version unsigned len room_is d =
      Draws-ok rest fed count plan lost nothing joined first last (LengthsGoOn i new) (LengthsRead version n) (LengthsRefuse i n room) (EntriesFail version n) numbers numbers
      (λ b a tells goes. all_read i new version n b a numbers none of_version unsigned len goes) d
  entries_judged i new version n room first last numbers (Err fault) none of_version unsigned len room_is d =
      Draws-fault rest fed count plan lost nothing joined first last (LengthsGoOn i new) (LengthsRead version n) (LengthsRefuse i n room) (EntriesFail version n) fault
      (λ b f tells refuse. refuse_at_start i version n room b f none of_version (room_is b tells) refuse) d

  -- ---- their texts

  pub ends_within : (numbers : List ℤ) (room total len : ℕ) (ends : List ℕ) → TotalOf numbers room total → ends ≡ running_ends 0 (map unsigned_abs numbers) → len ≡ total → AreEnds 0 ends len
  ends_within numbers room total len ends of is has = rw is (AreEnds-running_ends 0 (map unsigned_abs numbers) len (omega (arith, of.total_is)))

  texts_are : (lens ends bytes whole : List ℕ) (total : ℕ) → total ≡ sum lens → total ≤ length whole → ends ≡ running_ends 0 lens → bytes ≡ take total whole → texts_from 0 ends bytes ≡ slices 0 lens whole
  texts_are lens ends bytes whole total is h ends_are bytes_are =
      let len : length (take total whole) ≡ total = length-take-le total whole h in
      ap (λ (l : List ℕ). texts_from 0 l bytes) ends_are
      ∙ sym (slices-ends 0 lens bytes)
      ∙ ap (λ (l : List ℕ). slices 0 lens l) bytes_are
      ∙ sym (slices-front 0 lens (take total whole) (drop total whole) (omega (arith, len, is)))
      ∙ ap (λ (l : List ℕ). slices 0 lens l) (take-append-drop total whole)

  all_there : (version : Version) (n room total : ℕ) (numbers : List ℤ) (ends bytes : List ℕ) (b m a : Streams) → TotalOf numbers room total → room ≡ length b.dictionary → ends ≡ running_ends 0 (map unsigned_abs numbers)
      → LengthsRead version n b m numbers → DictionaryTaken total m a bytes → EntriesRead version n b a (texts_from 0 ends bytes)
  all_there version n room total numbers ends bytes b m a of room_is ends_are read took =
      let lens : List ℕ = map unsigned_abs numbers in
      let enough : total ≤ length b.dictionary = omega (arith, of.within, room_is) in
      let bytes_are : bytes ≡ take total b.dictionary = took.bytes_are ∙ ap (λ (l : List ℕ). take total l) read.only.2 in
      let spelled : Spells (IntRun version false) b.lengths (map pos lens) m.lengths = subst (λ (l : List ℤ). Spells (IntRun version false) b.lengths l m.lengths) (sym (lengths_are numbers of.positive)) read.spelled in
      record {
        lengths = lens;
        present = took.only.0 ∙ read.only.0;
        body = took.only.1 ∙ read.only.1;
        all = length-map numbers unsigned_abs ∙ read.all;
        are = record {
          spelled = (m.lengths, spelled);
          within = omega (arith, of.total_is, enough);
        };
        entries_are = texts_are lens ends bytes b.dictionary total of.total_is enough ends_are bytes_are;
        used = subst (λ (l : List ℕ). Spells (IntRun version false) b.lengths (map pos lens) l) (sym took.only.2) spelled;
        left = took.left ∙ ap (λ (l : List ℕ). drop total l) read.only.2 ∙ ap (λ (n : ℕ). drop n b.dictionary) of.total_is;
      }

  module _ (version : Version) (n room total : ℕ) (numbers : List ℤ) (of : TotalOf numbers room total) (first between last : F) (room_is : (s : Streams) → Tells rest first plan s → room ≡ length s.dictionary)
      (one : Draws rest fed count plan (alone plan.length) first between (LengthsRead version n) (EntriesFail version n) (Ok numbers)) where
    pub dictionary_read : (ends bytes : List ℕ) (texts : List (List ℕ)) → ends ≡ running_ends 0 (map unsigned_abs numbers) → texts ≡ texts_from 0 ends bytes
        → Draws rest fed count plan (alone plan.dictionary) between last (DictionaryTaken total) (DictionaryShort total) (Ok bytes) → Draws rest fed count plan (plan.length ∷ alone plan.dictionary) first last (EntriesRead version n) (EntriesFail version n) (Ok texts)
    dictionary_read ends bytes texts ends_are texts_is two =
        Draws-ok rest fed count plan lost nothing joined first last
        (λ b a y. (m : Streams) × LengthsRead version n b m numbers × DictionaryTaken total m a y) (EntriesRead version n)
        (λ b f. (m : Streams) × LengthsRead version n b m numbers × DictionaryShort total m f) (EntriesFail version n) bytes texts
        (λ b a tells goes. subst (λ (t : List (List ℕ)). EntriesRead version n b a t) (sym texts_is) (all_there version n room total numbers ends bytes b goes.0 a of (room_is b tells) ends_are goes.1 goes.2))
        (Draws-then rest fed count plan lost nothing joined first between last (LengthsRead version n) (DictionaryTaken total) (EntriesFail version n) (DictionaryShort total) numbers (Ok bytes) one two)

    never_short : (b m : Streams) (fault : ColumnFault) → Tells rest first plan b → LengthsRead version n b m numbers → DictionaryShort total m fault → EntriesFail version n b fault
    never_short b m fault tells read short = absurd (omega (arith, ap length read.only.2, of.within, room_is b tells, short))

    pub dictionary_fault : (fault : ColumnFault)
        → Draws {Y = List ℕ} rest fed count plan (alone plan.dictionary) between last (DictionaryTaken total) (DictionaryShort total) (Err fault) → Draws {Y = List (List ℕ)} rest fed count plan (plan.length ∷ alone plan.dictionary) first last (EntriesRead version n) (EntriesFail version n) (Err fault)
    dictionary_fault fault two =
        Draws-fault rest fed count plan lost nothing joined first last
        (λ b a y. (m : Streams) × LengthsRead version n b m numbers × DictionaryTaken total m a y) (EntriesRead version n)
        (λ b f. (m : Streams) × LengthsRead version n b m numbers × DictionaryShort total m f) (EntriesFail version n) fault
        (λ b f tells short. never_short b short.0 f tells short.1 short.2)
        (Draws-then rest fed count plan lost nothing joined first between last (LengthsRead version n) (DictionaryTaken total) (EntriesFail version n) (DictionaryShort total) numbers (Err fault) one two)
