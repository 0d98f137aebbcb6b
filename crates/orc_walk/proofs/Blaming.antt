-- A stripe's columns were given, or the first that fails was found.
use Rattle.std.proofs.Common.{◌≡◌, ℕ, List, ◌++◌, Option, Some, None, Ok, Err, refl, sym, ◌∙◌, subst, arith, inl, inr}
use Rattle.outside.specs.declared.failed.Failed.{Failed}
use Rattle.outside.specs.declared.file_ref.FileRef.{FileRef}
use Rattle.outside.specs.Cause.{Cause, Rose}
use Rattle.outside.specs.Files.{Files, HasBytes}
use Rattle.orc_columns.specs.declared.fault.ColumnFault.{ColumnFault}
use Rattle.orc_columns.specs.declared.fault.ColumnFault.TheVariants.{BadEncoding, Run, NegativeLength, LengthsPastData, IndexOutOfDictionary, Read, NoMemory}
use Rattle.orc_columns.specs.Batches.{HoldsNoRead}
use Rattle.orc_columns.specs.Draws.{FailedToRead, Decided}
use Rattle.orc_tail.specs.declared.stripe_footer.StripeFooter.{StripeFooter}
use Rattle.orc_streams.specs.declared.layout.ReadColumn.{ReadColumn}
use Rattle.orc_streams.specs.declared.stream_reader.OpenFault.TheVariants as open_fault
use Rattle.orc_streams.specs.Acts.{Act}
use Rattle.orc_batches.specs.Batch.{Batch, Piece, pieces_of}
use Rattle.orc_batches.specs.Walk.{Eaten}
use Rattle.orc_rows.specs.declared.fault.RowsFault.{RowsFault}
use Rattle.orc_rows.specs.declared.fault.RowsFault.TheVariants.{BrokenColumn}
use Rattle.orc_rows.specs.declared.judge.Refused.{Refused}
use Rattle.orc_walk.specs.declared.stop.Stop.{Stop}
use Rattle.orc_walk.specs.declared.stop.Stop.TheVariants as stop
use Rattle.orc_rows.specs.Judging.{IsContent, JudgesEach}
use Rattle.orc_rows.specs.Rows.{HaveValues}
use Rattle.orc_rows.specs.Giving.{ColumnsEnd, Gives}
use Rattle.orc_walk.specs.Stops.{stop_of_column, IfFault, IsRowsContent, EatenBy, StoppedByRead, IsReadStop, IfFaulty}
use Rattle.orc_walk.specs.StripeWalk.{ColumnsFail, ColumnsStop, Blames, WalksColumns}

-- ---- what stops

same : (a b : ColumnFault) → stop.Fault a ≡ stop.Fault b → a ≡ b
same a b e = cc

fault_no_read : (a : ColumnFault) (failed : Failed) → stop.Fault a ≡ stop.Read failed → ⊥
fault_no_read a failed e = cc

fault_no_memory : (a : ColumnFault) → stop.Fault a ≡ stop.NoMemory → ⊥
fault_no_memory a e = cc

read_no_memory : (failed : Failed) (s : Stop ColumnFault) → s ≡ stop.Read failed → s ≡ stop.NoMemory → ⊥
read_no_memory failed s e f = cc

-- the fault of a column that stops as the content's own is just that
pub content_of : (fault other : ColumnFault) → HoldsNoRead fault → stop.Fault other ≡ stop_of_column fault → IsContent other
content_of (Read failed) other holds e = absurd (fault_no_read other failed e)
content_of NoMemory other holds e = absurd (fault_no_memory other e)
content_of BadEncoding other holds e = subst (λ (f : ColumnFault). IsContent f) (sym (same other BadEncoding e)) tt
content_of (Run name fault) other holds e = subst (λ (f : ColumnFault). IsContent f) (sym (same other (Run name fault) e)) holds
content_of NegativeLength other holds e = subst (λ (f : ColumnFault). IsContent f) (sym (same other NegativeLength e)) tt
content_of LengthsPastData other holds e = subst (λ (f : ColumnFault). IsContent f) (sym (same other LengthsPastData e)) tt
content_of IndexOutOfDictionary other holds e = subst (λ (f : ColumnFault). IsContent f) (sym (same other IndexOutOfDictionary e)) tt

decided_of : (P : Type 0) (fault other : ColumnFault) → stop.Fault other ≡ stop_of_column fault → Decided (λ _. P) fault → P
decided_of P (Read failed) other e d = absurd (fault_no_read other failed e)
decided_of P NoMemory other e d = absurd (fault_no_memory other e)
decided_of P BadEncoding other e d = d
decided_of P (Run name fault) other e d = d
decided_of P NegativeLength other e d = d
decided_of P LengthsPastData other e d = d
decided_of P IndexOutOfDictionary other e d = d

-- what the consumer took, where memory wasn't refused
eaten_of : (Y : Type 0) (Ate : Type 0) (fault : ColumnFault) → (stop_of_column fault ≡ stop.NoMemory → ⊥) → Eaten {Y = Y} Ate (Err fault) → Ate
eaten_of Y Ate (Read failed) never ate = ate
eaten_of Y Ate NoMemory never ate = absurd (never refl)
eaten_of Y Ate BadEncoding never ate = ate
eaten_of Y Ate (Run name fault) never ate = ate
eaten_of Y Ate NegativeLength never ate = ate
eaten_of Y Ate LengthsPastData never ate = ate
eaten_of Y Ate IndexOutOfDictionary never ate = ate

eaten_by : (Y : Type 0) (Ate : Type 0) (why : Stop RowsFault) → Ate → EatenBy {Y = Y} Ate (Err why)
eaten_by Y Ate (stop.Fault fault) ate = ate
eaten_by Y Ate (stop.Read failed) ate = ate
eaten_by Y Ate stop.NoMemory ate = tt

-- a failed read stops so
failed_of : (Y : Type 0) (fault : ColumnFault) (failed : Failed) → stop.Read failed ≡ stop_of_column fault → FailedToRead {Y = Y} (Err fault)
failed_of Y (Read other) failed e = tt
failed_of Y NoMemory failed e = absurd (read_no_memory failed (stop.Read failed) refl e)
failed_of Y BadEncoding failed e = absurd (fault_no_read BadEncoding failed (sym e))
failed_of Y (Run name fault) failed e = absurd (fault_no_read (Run name fault) failed (sym e))
failed_of Y NegativeLength failed e = absurd (fault_no_read NegativeLength failed (sym e))
failed_of Y LengthsPastData failed e = absurd (fault_no_read LengthsPastData failed (sym e))
failed_of Y IndexOutOfDictionary failed e = absurd (fault_no_read IndexOutOfDictionary failed (sym e))

-- the fault is the one by which it stopped
read_by : (fault : ColumnFault) (failed : Failed) → stop.Read failed ≡ stop_of_column fault → fault ≡ Read failed
read_by (Read other) failed e = cc
read_by NoMemory failed e = absurd (read_no_memory failed (stop.Read failed) refl e)
read_by BadEncoding failed e = absurd (fault_no_read BadEncoding failed (sym e))
read_by (Run name fault) failed e = absurd (fault_no_read (Run name fault) failed (sym e))
read_by NegativeLength failed e = absurd (fault_no_read NegativeLength failed (sym e))
read_by LengthsPastData failed e = absurd (fault_no_read LengthsPastData failed (sym e))
read_by IndexOutOfDictionary failed e = absurd (fault_no_read IndexOutOfDictionary failed (sym e))

refused_by : (fault : ColumnFault) → stop.NoMemory ≡ stop_of_column fault → fault ≡ NoMemory
refused_by (Read other) e = absurd (read_no_memory other stop.NoMemory e refl)
refused_by NoMemory e = refl
refused_by BadEncoding e = absurd (fault_no_memory BadEncoding (sym e))
refused_by (Run name fault) e = absurd (fault_no_memory (Run name fault) (sym e))
refused_by NegativeLength e = absurd (fault_no_memory NegativeLength (sym e))
refused_by LengthsPastData e = absurd (fault_no_memory LengthsPastData (sym e))
refused_by IndexOutOfDictionary e = absurd (fault_no_memory IndexOutOfDictionary (sym e))

fault_by : (fault other : ColumnFault) → stop.Fault other ≡ stop_of_column fault → fault ≡ other
fault_by (Read failed) other e = absurd (fault_no_read other failed e)
fault_by NoMemory other e = absurd (fault_no_memory other e)
fault_by BadEncoding other e = sym (same other BadEncoding e)
fault_by (Run name fault) other e = sym (same other (Run name fault) e)
fault_by NegativeLength other e = sym (same other NegativeLength e)
fault_by LengthsPastData other e = sym (same other LengthsPastData e)
fault_by IndexOutOfDictionary other e = sym (same other IndexOutOfDictionary e)

-- ---- the first that fails

module _ {S : Type 0} (did : S → List Act → S → Type 0) (count : S → ℕ) (files : Option Files) (file : FileRef) (footer : StripeFooter) (columns : List ReadColumn) (rows number : ℕ) (before after : S) where
  pub blamed_found : (refused : Refused) → JudgesEach did count files file 0 footer columns rows before after (Ok (Some refused))
      → Blames did count files file footer columns rows number before after (stop.Fault (BrokenColumn number refused.column refused.fault))
  blamed_found refused j = record {
    acts = j.acts;
    by = j.by;
    order = inl (number, refused.column, refused.fault, refl, j.order);
    cause = record { later = j.cause.later; failed = λ f. absurd f };
    content = j.content;
    fails = λ bytes has. (refused.column, refused.fault, refl, j.told bytes has);
  }

  pub blamed_none : (which : ℕ) (fault : ColumnFault) → IsContent fault → ((bytes : List ℕ) → HasBytes files file bytes → (values : Batch) → HaveValues bytes footer rows columns values → ⊥)
      → JudgesEach did count files file 0 footer columns rows before after (Ok None) → Blames did count files file footer columns rows number before after (stop.Fault (BrokenColumn number which fault))
  blamed_none which fault content none j = record {
    acts = j.acts;
    by = j.by;
    order = inr j.order;
    cause = record { later = j.cause.later; failed = λ f. absurd f };
    content = content;
    fails = λ bytes has. absurd (let have = j.told bytes has in none bytes has have.0 have.1);
  }

  pub blamed_read : (failed : Failed) → JudgesEach did count files file 0 footer columns rows before after (Err (open_fault.Read failed))
      → Blames did count files file footer columns rows number before after (stop.Read failed)
  blamed_read failed j = record { acts = j.acts; by = j.by; order = j.order; cause = record { later = j.cause.later; failed = λ f. j.cause.failed f }; content = tt; fails = λ bytes has. tt }

  pub blamed_memory : JudgesEach did count files file 0 footer columns rows before after (Err open_fault.NoMemory) → Blames did count files file footer columns rows number before after stop.NoMemory
  blamed_memory j = record { acts = j.acts; by = j.by; order = j.order; cause = record { later = j.cause.later; failed = λ f. absurd f }; content = tt; fails = λ bytes has. tt }

-- ---- the columns

module _ {S C : Type 0} (did : S → List Act → S → Type 0) (count : S → ℕ) (files : Option Files) (ate : C → List Piece → C → Type 0) (file : FileRef) (footer : StripeFooter) (columns : List ReadColumn)
    (rows number : ℕ) (before between : S) (eater eater' : C) where
  pub all_given : {Y : Type 0} (y : Y) → Gives did count files ate file footer columns rows before between eater eater' (Ok y)
      → WalksColumns did count files ate file footer columns rows number before between eater eater' (Ok y)
  all_given y g = record {
    batches = g.batches;
    eaten = g.eaten;
    cut = g.cut;
    acts = g.acts;
    by = g.by;
    order = g.order;
    stops = tt;
    cause = record { later = g.cause.later; failed = λ f. absurd f };
    content = tt;
    has = λ bytes has. g.given bytes has;
    fails = λ bytes has. tt;
  }

  module _ {Y : Type 0} (fault : ColumnFault) (g : Gives did count files ate file {Y = Y} footer columns rows before between eater eater' (Err fault)) where
    pub stopped_read : (failed : Failed) → stop.Read failed ≡ stop_of_column fault → WalksColumns did count files ate file {Y = Y} footer columns rows number before between eater eater' (Err (stop.Read failed))
    stopped_read failed e = record {
      batches = g.batches;
      eaten = eaten_of Y (ate eater (pieces_of g.batches) eater') fault (λ f. read_no_memory failed (stop_of_column fault) (sym e) f) g.eaten;
      cut = tt;
      acts = g.acts;
      by = g.by;
      order = tt;
      stops = ColumnsStop.read_failed failed (subst (λ (f : ColumnFault). ColumnsEnd file footer columns g.batches f g.acts) (read_by fault failed e) g.ends);
      cause = record { later = g.cause.later; failed = λ f. g.cause.failed (failed_of Y fault failed e) };
      content = tt;
      has = λ bytes has. tt;
      fails = λ bytes has. tt;
    }

    pub stopped_memory : stop.NoMemory ≡ stop_of_column fault → WalksColumns did count files ate file {Y = Y} footer columns rows number before between eater eater' (Err stop.NoMemory)
    stopped_memory e = record {
      batches = g.batches;
      eaten = tt;
      cut = tt;
      acts = g.acts;
      by = g.by;
      order = tt;
      stops = ColumnsStop.refused (subst (λ (f : ColumnFault). ColumnsEnd file footer columns g.batches f g.acts) (refused_by fault e) g.ends);
      cause = record { later = g.cause.later; failed = λ f. absurd f };
      content = tt;
      has = λ bytes has. tt;
      fails = λ bytes has. tt;
    }

    -- the columns have no values
    pub none_by : (other : ColumnFault) → stop.Fault other ≡ stop_of_column fault → (bytes : List ℕ) → HasBytes files file bytes → (values : Batch) → HaveValues bytes footer rows columns values → ⊥
    none_by other e bytes has = decided_of ((values : Batch) → HaveValues bytes footer rows columns values → ⊥) fault other e (g.given bytes has)

    pub stopped_fault : ((first last final : S) (front back : List Act) → did first front last → did last back final → did first (front ++ back) final)
        → HoldsNoRead fault → (other : ColumnFault) (after : S) (why : Stop RowsFault) → stop.Fault other ≡ stop_of_column fault → Blames did count files file footer columns rows number between after why
        → WalksColumns did count files ate file {Y = Y} footer columns rows number before after eater eater' (Err why)
    stopped_fault joins holds other after why e b = record {
      batches = g.batches;
      eaten = eaten_by Y (ate eater (pieces_of g.batches) eater') why (eaten_of Y (ate eater (pieces_of g.batches) eater') fault (λ f. fault_no_memory other (e ∙ f)) g.eaten);
      cut = tt;
      acts = g.acts ++ b.acts;
      by = joins before between after g.acts b.acts g.by b.by;
      order = tt;
      stops = ColumnsStop.judged b.acts other (content_of fault other holds e) (subst (λ (f : ColumnFault). ColumnsEnd file footer columns g.batches f g.acts) (fault_by fault other e) g.ends) b.order;
      cause = cause why b.cause;
      content = content why b.content;
      has = λ bytes has. tt;
      fails = λ bytes has. fails bytes why (b.fails bytes has);
    }
      where
        rose : Rose (count between) (count after) → Rose (count before) (count after)
        rose (inl less) = inl (omega (arith, g.cause.later))
        rose (inr most) = inr most

        cause : (why : Stop RowsFault) → Cause (count between) (count after) (IsReadStop why) → Cause (count before) (count after) (StoppedByRead {Y = Y} (Err why))
        cause (stop.Fault broken) c = record { later = omega (arith, g.cause.later, c.later); failed = λ f. absurd f }
        cause (stop.Read failed) c = record { later = omega (arith, g.cause.later, c.later); failed = λ f. rose (c.failed f) }
        cause stop.NoMemory c = record { later = omega (arith, g.cause.later, c.later); failed = λ f. absurd f }

        content : (why : Stop RowsFault) → IfFaulty why IsRowsContent → IfFault {Y = Y} (Err why) IsRowsContent
        content (stop.Fault broken) c = c
        content (stop.Read failed) c = tt
        content stop.NoMemory c = tt

        fails : (bytes : List ℕ) (why : Stop RowsFault) → IfFaulty why (ColumnsFail bytes footer columns rows number) → IfFault {Y = Y} (Err why) (ColumnsFail bytes footer columns rows number)
        fails bytes (stop.Fault broken) f = f
        fails bytes (stop.Read failed) f = tt
        fails bytes stop.NoMemory f = tt
