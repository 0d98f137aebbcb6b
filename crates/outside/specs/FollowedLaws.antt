-- Laws of calls that read: how a call of several steps is shown to have followed its plan. Source: this project's own.
use Rattle.std.specs.Prelude.{Result, Ok, Err}
use Rattle.std.proofs.Common.{◌≡◌, ℕ, ◌≤◌, true, List, [], ◌∷◌, ◌++◌, Option, refl, sym, ◌∙◌, ap, subst, append_assoc, append-nil}
use Rattle.outside.specs.declared.file_ref.FileRef.{FileRef}
use Rattle.outside.specs.declared.file_ref.FileRange.{FileRange}
use Rattle.outside.specs.Cause.{Rose}
use Rattle.outside.specs.Files.{Files, HasBytes, range_of}
use Rattle.outside.specs.Reads.{ReadEntry}
use Rattle.outside.specs.Followed.{Ending, decided, read_failed, refused, Plan, all_read, failed_read, FitsEnding, Fits, EndedBy, OfFile, Followed, known, reading, joined, and_then}
use Rattle.outside.specs.CauseLaws.{Cause-none, Cause-then}

all_read-append : (xs ys : List FileRange) → all_read (xs ++ ys) ≡ all_read xs ++ all_read ys
all_read-append [] ys = refl
all_read-append (x ∷ xs) ys = ap (λ (es : List ReadEntry). (record { range = x; ok = true }) ∷ es) (all_read-append xs ys)

OfFile-append : (file : FileRef) (xs ys : List ReadEntry) → OfFile file xs → OfFile file ys → OfFile file (xs ++ ys)
OfFile-append file [] ys p q = q
OfFile-append file (x ∷ xs) ys p q = (p.0, OfFile-append file xs ys p.1 q)

known-fits-err : (Y : Type 0) {E : Type 0} (how : Ending) (e : E) → (how ≡ read_failed → ⊥)
    → FitsEnding {Y = Y} how (known (Err e)) (Err e) []
known-fits-err Y decided e none = record { answer_is = refl; entries_are = refl }
known-fits-err Y read_failed e none = absurd (none refl)
known-fits-err Y refused e none = record { front = []; rest = []; planned_is = refl; entries_are = refl }

-- an answer that no read failed for fits the plan that reads nothing
known-fits : {Y E : Type 0} (ending : E → Ending) (answer : Result Y E) → (EndedBy ending read_failed answer → ⊥)
    → Fits ending (known answer) answer []
known-fits ending (Ok y) none = record { answer_is = refl; entries_are = refl }
known-fits {Y = Y} ending (Err e) none = known-fits-err Y (ending e) e none

-- nothing was read: the answer is what the bytes make of it whatever they are
pub Followed-known : {S Y E : Type 0} (went : S → List ReadEntry → S → Type 0) (count : S → ℕ) (told : Option Files) (file : FileRef)
    (ending : E → Ending) (s : S) (answer : Result Y E) → went s [] s → (EndedBy ending read_failed answer → ⊥)
    → Followed went count told file ending (λ _. known answer) s s answer
Followed-known went count told file ending s answer nowhere none = record {
  entries = [];
  by = nowhere;
  own = tt;
  fits = λ bytes _. known-fits ending answer none;
  cause = Cause-none (count s) none;
}

-- memory was refused before anything was read
pub Followed-refused : {S Y E : Type 0} (went : S → List ReadEntry → S → Type 0) (count : S → ℕ) (told : Option Files) (file : FileRef)
    (ending : E → Ending) (plan : List ℕ → Plan Y E) (s : S) (e : E) → went s [] s → ending e ≡ refused
    → Followed went count told file ending plan s s (Err e)
Followed-refused went count told file ending plan s e nowhere is_refused = record {
  entries = [];
  by = nowhere;
  own = tt;
  fits = λ bytes _. subst (λ how. FitsEnding how (plan bytes) (Err e) []) (sym is_refused)
      (record { front = []; rest = (plan bytes).reads; planned_is = refl; entries_are = refl });
  cause = Cause-none (count s) (λ failed. apart (sym failed ∙ is_refused));
}
  where
    apart : read_failed ≡ refused → ⊥
    apart p = cc

-- the call follows another plan that is the same on each told content
pub Followed-same : {S Y E : Type 0} {went : S → List ReadEntry → S → Type 0} {count : S → ℕ} {told : Option Files} {file : FileRef}
    {ending : E → Ending} (plan plan' : List ℕ → Plan Y E) {before after : S} {answer : Result Y E}
    → ((bytes : List ℕ) → HasBytes told file bytes → plan bytes ≡ plan' bytes)
    → Followed went count told file ending plan before after answer
    → Followed went count told file ending plan' before after answer
Followed-same {ending = ending} plan plan' {answer = answer} same followed = record {
  entries = followed.entries;
  by = followed.by;
  own = followed.own;
  fits = λ bytes has. subst (λ p. Fits ending p answer followed.entries) (same bytes has) (followed.fits bytes has);
  cause = followed.cause;
}

-- a read failed
pub Followed-read_failed : {S Y E : Type 0} (went : S → List ReadEntry → S → Type 0) (count : S → ℕ) (told : Option Files) (file : FileRef)
    (ending : E → Ending) (at len : ℕ) (next : List ℕ → Plan Y E) (before after : S) (e : E)
    → went before (failed_read (range_of file at len) ∷ []) after → ending e ≡ read_failed
    → (count before ≤ count after) → Rose (count before) (count after)
    → Followed went count told file ending (λ bytes. reading file at len (next bytes)) before after (Err e)
Followed-read_failed went count told file ending at len next before after e by is_failed later rose = record {
  entries = failed_read (range_of file at len) ∷ [];
  by = by;
  own = (refl, tt);
  fits = λ bytes _. subst (λ how. FitsEnding how (reading file at len (next bytes)) (Err e)
      (failed_read (range_of file at len) ∷ [])) (sym is_failed) (record {
        front = [];
        last = range_of file at len;
        rest = (next bytes).reads;
        planned_is = refl;
        entries_are = refl;
      });
  cause = record { later = later; failed = λ _. rose };
}

-- a plan, behind some reads
abbrev behind : {Y E : Type 0} → List FileRange → Plan Y E → Plan Y E
behind ranges plan = record { answer = plan.answer; reads = ranges ++ plan.reads }

behind-err : {Y E : Type 0} (how : Ending) (ranges : List FileRange) (plan : Plan Y E) (e : E) (entries : List ReadEntry)
    → FitsEnding how plan (Err e) entries → FitsEnding how (behind ranges plan) (Err e) (all_read ranges ++ entries)
behind-err decided ranges plan e entries fits = record {
  answer_is = fits.answer_is;
  entries_are = ap (λ (es : List ReadEntry). all_read ranges ++ es) fits.entries_are ∙ sym (all_read-append ranges plan.reads);
}
behind-err read_failed ranges plan e entries fits = record {
  front = ranges ++ fits.front;
  last = fits.last;
  rest = fits.rest;
  planned_is = ap (λ (rs : List FileRange). ranges ++ rs) fits.planned_is ∙ sym (append_assoc ranges fits.front (fits.last ∷ fits.rest));
  entries_are = ap (λ (es : List ReadEntry). all_read ranges ++ es) fits.entries_are
      ∙ sym (append_assoc (all_read ranges) (all_read fits.front) (failed_read fits.last ∷ []))
      ∙ ap (λ (es : List ReadEntry). es ++ failed_read fits.last ∷ []) (sym (all_read-append ranges fits.front));
}
behind-err refused ranges plan e entries fits = record {
  front = ranges ++ fits.front;
  rest = fits.rest;
  planned_is = ap (λ (rs : List FileRange). ranges ++ rs) fits.planned_is ∙ sym (append_assoc ranges fits.front fits.rest);
  entries_are = ap (λ (es : List ReadEntry). all_read ranges ++ es) fits.entries_are ∙ sym (all_read-append ranges fits.front);
}

behind-fits : {Y E : Type 0} (ending : E → Ending) (ranges : List FileRange) (plan : Plan Y E) (answer : Result Y E)
    (entries : List ReadEntry)
    → Fits ending plan answer entries → Fits ending (behind ranges plan) answer (all_read ranges ++ entries)
behind-fits ending ranges plan (Ok y) entries fits = record {
  answer_is = fits.answer_is;
  entries_are = ap (λ (es : List ReadEntry). all_read ranges ++ es) fits.entries_are ∙ sym (all_read-append ranges plan.reads);
}
behind-fits ending ranges plan (Err e) entries fits = behind-err (ending e) ranges plan e entries fits

-- a read answered Ok, and the rest followed its plan
pub Followed-read : {S Y E : Type 0} (went : S → List ReadEntry → S → Type 0) (count : S → ℕ) (told : Option Files) (file : FileRef)
    (ending : E → Ending) (at len : ℕ) (next : List ℕ → Plan Y E) (before between after : S) (answer : Result Y E)
    → ((rest : List ReadEntry) → went between rest after → went before ((record { range = range_of file at len; ok = true }) ∷ rest) after)
    → (count before ≤ count between)
    → Followed went count told file ending next between after answer
    → Followed went count told file ending (λ bytes. reading file at len (next bytes)) before after answer
Followed-read went count told file ending at len next before between after answer then later followed = record {
  entries = (record { range = range_of file at len; ok = true }) ∷ followed.entries;
  by = then followed.entries followed.by;
  own = (refl, followed.own);
  fits = λ bytes has. behind-fits ending (range_of file at len ∷ []) (next bytes) answer followed.entries (followed.fits bytes has);
  cause = Cause-then {Fails' = ⊥} (count before) (count between) (count after)
      (record { later = later; failed = λ none. absurd none }) followed.cause;
}

-- the first part ended by an error
stopped-reads : {Y Z E : Type 0} (answer : Result Y E) (reads : List FileRange) (next : Y → Plan Z E)
    → (more : List FileRange) × ((joined answer reads next).reads ≡ reads ++ more)
stopped-reads (Ok y) reads next = ((next y).reads, refl)
stopped-reads (Err e) reads next = ([], sym (append-nil reads))

stopped-err : {Y Z E : Type 0} (how : Ending) (first : Plan Y E) (next : Y → Plan Z E) (e : E) (entries : List ReadEntry)
    → FitsEnding how first (Err e) entries → FitsEnding how (and_then first next) (Err e) entries
stopped-err {Z = Z} {E = E} decided first next e entries fits = record {
  answer_is = ap (λ a. (joined a first.reads next).answer) fits.answer_is;
  entries_are = fits.entries_are ∙ sym (ap (λ a. all_read (joined a first.reads next).reads) fits.answer_is);
}
stopped-err read_failed first next e entries fits =
    let more = stopped-reads first.answer first.reads next in
    record {
      front = fits.front;
      last = fits.last;
      rest = fits.rest ++ more.0;
      planned_is = more.1 ∙ ap (λ (rs : List FileRange). rs ++ more.0) fits.planned_is
          ∙ append_assoc fits.front (fits.last ∷ fits.rest) more.0;
      entries_are = fits.entries_are;
    }
stopped-err refused first next e entries fits =
    let more = stopped-reads first.answer first.reads next in
    record {
      front = fits.front;
      rest = fits.rest ++ more.0;
      planned_is = more.1 ∙ ap (λ (rs : List FileRange). rs ++ more.0) fits.planned_is ∙ append_assoc fits.front fits.rest more.0;
      entries_are = fits.entries_are;
    }

-- the first part of a call ended by an error, and the call hands it on
pub Followed-stopped : {S Y Z E : Type 0} {went : S → List ReadEntry → S → Type 0} {count : S → ℕ} {told : Option Files} {file : FileRef}
    {ending : E → Ending} (first : List ℕ → Plan Y E) (next : List ℕ → Y → Plan Z E) {before after : S} (e : E)
    → Followed went count told file ending first before after (Err e)
    → Followed went count told file ending (λ bytes. and_then (first bytes) (next bytes)) before after (Err e)
Followed-stopped {ending = ending} first next e followed = record {
  entries = followed.entries;
  by = followed.by;
  own = followed.own;
  fits = λ bytes has. stopped-err (ending e) (first bytes) (next bytes) e followed.entries (followed.fits bytes has);
  cause = record { later = followed.cause.later; failed = λ failed. followed.cause.failed failed };
}

-- the first part gave a value, and the rest followed its plan at that value
pub Followed-then : {S Y Z E : Type 0} {went : S → List ReadEntry → S → Type 0} {count : S → ℕ} {told : Option Files} {file : FileRef}
    {ending : E → Ending} (first : List ℕ → Plan Y E) (next : List ℕ → Y → Plan Z E) {before between after : S}
    (y : Y) (answer : Result Z E)
    → ((front back : List ReadEntry) → went before front between → went between back after → went before (front ++ back) after)
    → Followed went count told file ending first before between (Ok y)
    → Followed went count told file ending (λ bytes. next bytes y) between after answer
    → Followed went count told file ending (λ bytes. and_then (first bytes) (next bytes)) before after answer
Followed-then {count = count} {file = file} {ending = ending} first next {before = before} {between = between}
    {after = after} y answer on p q = record {
      entries = p.entries ++ q.entries;
      by = on p.entries q.entries p.by q.by;
      own = OfFile-append file p.entries q.entries p.own q.own;
      fits = λ bytes has.
          let was = p.fits bytes has in
          subst (λ (es : List ReadEntry). Fits ending (and_then (first bytes) (next bytes)) answer (es ++ q.entries)) (sym was.entries_are)
          (subst (λ a. Fits ending (joined a (first bytes).reads (next bytes)) answer
          (all_read (first bytes).reads ++ q.entries)) (sym was.answer_is)
          (behind-fits ending (first bytes).reads (next bytes y) answer q.entries (q.fits bytes has)));
      cause = Cause-then (count before) (count between) (count after) p.cause q.cause;
    }
