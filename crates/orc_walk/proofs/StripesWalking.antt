-- The walk over stripes goes on by one.
use Rattle.std.proofs.Common.{◌≡◌, ℕ, ◌+◌, ◌<◌, ◌≤◌, List, [], ◌∷◌, ◌++◌, length, take, drop, get_or, Option, Ok, Err, refl, sym, ◌∙◌, ap, subst, arith, inl, inr, append_assoc}
use Rattle.std.proofs.lemmas.List.{append-nil, take_more, drop_more, take-append-drop, length-take-le, take_all}
use Rattle.outside.specs.declared.file_ref.FileRef.{FileRef}
use Rattle.outside.specs.Cause.{Cause, Rose}
use Rattle.outside.specs.Files.{Files}
use Rattle.orc_values.specs.Column.{RowValues}
use Rattle.orc_tail.specs.declared.stripe.Stripe.{Stripe}
use Rattle.orc_tail.specs.declared.stripe_footer.StripeFooter.{StripeFooter}
use Rattle.orc_streams.specs.declared.layout.ReadColumn.{ReadColumn}
use Rattle.orc_streams.specs.Acts.{Act}
use Rattle.orc_batches.specs.Batch.{Batch, Piece, columns as of_columns, count as of_count, behind, joined}
use Rattle.orc_rows.specs.declared.fault.RowsFault.{RowsFault}
use Rattle.orc_rows.specs.Given.{no_rows, batches_in, values_in}
use Rattle.orc_rows.specs.Rows.{Rows, HaveValues, StripeHas, StripeFails, HaveRows, FirstFails}
use Rattle.orc_walk.specs.declared.stop.Stop.{Stop}
use Rattle.orc_walk.specs.declared.stop.Stop.TheVariants as stop
use Rattle.orc_walk.specs.Stops.{EatenBy, StoppedByRead, IfFault, IsRowsContent}
use Rattle.orc_walk.specs.StripeWalk.{IsStripeWalk, AreStripeWalks, IsStripeStop, StripesStop, WalksStripe, WalksStripes, StripesSoFar}

-- ---- rows behind rows

behind_len : (g b : Batch) → length (behind g b) ≡ length g
behind_len [] b = refl
behind_len (x ∷ g) [] = refl
behind_len (x ∷ g) (y ∷ b) = omega (arith, behind_len g b)

joined_len : (g : Batch) (bs : List Batch) → length (joined g bs) ≡ length g
joined_len g [] = refl
joined_len g (b ∷ bs) = joined_len (behind g b) bs ∙ behind_len g b

behind_assoc : (g x b : Batch) → length x ≡ length g → behind (behind g x) b ≡ behind g (behind x b)
behind_assoc [] x b e = refl
behind_assoc (y ∷ g) [] b e = absurd (omega (arith, e))
behind_assoc (y ∷ g) (z ∷ x) [] e = refl
behind_assoc (y ∷ g) (z ∷ x) (w ∷ b) e =
    ap (λ (c : RowValues). c ∷ behind (behind g x) b) (append_assoc y z w) ∙ ap (λ (cs : Batch). (y ++ (z ++ w)) ∷ cs) (behind_assoc g x b (omega (arith, e)))

joined_behind : (g x : Batch) (bs : List Batch) → length x ≡ length g → joined (behind g x) bs ≡ behind g (joined x bs)
joined_behind g x [] e = refl
joined_behind g x (b ∷ bs) e = ap (λ (h : Batch). joined h bs) (behind_assoc g x b e) ∙ joined_behind g (behind x b) bs (behind_len x b ∙ e)

no_rows_len : (cs : List ReadColumn) → length (no_rows cs) ≡ length cs
no_rows_len [] = refl
no_rows_len (c ∷ cs) = omega (arith, no_rows_len cs)

behind_none : (g : Batch) (cs : List ReadColumn) → length g ≡ length cs → behind g (no_rows cs) ≡ g
behind_none [] cs e = refl
behind_none (x ∷ g) [] e = refl
behind_none (x ∷ g) (c ∷ cs) e = ap (λ (v : RowValues). v ∷ behind g (no_rows cs)) (append-nil x) ∙ ap (λ (vs : Batch). x ∷ vs) (behind_none g cs (omega (arith, e)))

none_behind : (cs : List ReadColumn) (g : Batch) → length g ≡ length cs → behind (no_rows cs) g ≡ g
none_behind [] [] e = refl
none_behind [] (x ∷ g) e = absurd (omega (arith, e))
none_behind (c ∷ cs) [] e = absurd (omega (arith, e))
none_behind (c ∷ cs) (x ∷ g) e = ap (λ (vs : Batch). x ∷ vs) (none_behind cs g (omega (arith, e)))

joined_more : (g : Batch) (xs bs : List Batch) → joined g (xs ++ bs) ≡ joined (joined g xs) bs
joined_more g [] bs = refl
joined_more g (x ∷ xs) bs = joined_more (behind g x) xs bs

batches_more : (ps qs : List Piece) → batches_in (ps ++ qs) ≡ batches_in ps ++ batches_in qs
batches_more [] qs = refl
batches_more (of_columns b ∷ ps) qs = ap (λ (bs : List Batch). b ∷ bs) (batches_more ps qs)
batches_more (of_count n ∷ ps) qs = batches_more ps qs

values_len : (cs : List ReadColumn) (ps : List Piece) → length (values_in cs ps) ≡ length cs
values_len cs ps = joined_len (no_rows cs) (batches_in ps) ∙ no_rows_len cs

-- pieces, and then others
values_more : (cs : List ReadColumn) (ps qs : List Piece) → values_in cs (ps ++ qs) ≡ behind (values_in cs ps) (values_in cs qs)
values_more cs ps qs =
    ap (λ (bs : List Batch). joined (no_rows cs) bs) (batches_more ps qs) ∙ joined_more (no_rows cs) (batches_in ps) (batches_in qs)
    ∙ ap (λ (g : Batch). joined g (batches_in qs)) (sym (behind_none (values_in cs ps) cs (values_len cs ps)))
    ∙ joined_behind (values_in cs ps) (no_rows cs) (batches_in qs) (no_rows_len cs ∙ sym (values_len cs ps))

have_len : (file : List ℕ) (footer : StripeFooter) (rows : ℕ) (cs : List ReadColumn) (vs : Batch) → HaveValues file footer rows cs vs → length vs ≡ length cs
have_len file footer rows [] [] have = refl
have_len file footer rows [] (v ∷ vs) have = absurd have
have_len file footer rows (c ∷ cs) [] have = absurd have
have_len file footer rows (c ∷ cs) (v ∷ vs) have = omega (arith, have_len file footer rows cs vs have.1)

stripe_len : (file : List ℕ) (s : Stripe) (cs : List ReadColumn) (vs : Batch) → StripeHas file s cs vs → length vs ≡ length cs
stripe_len file s [] vs StripeHas.unread = refl
stripe_len file s (c ∷ cs) vs (StripeHas.by_footer footer is have) = have_len file footer s.rows (c ∷ cs) vs have

rows_len : (file : List ℕ) (cs : List ReadColumn) (ss : List Stripe) (r : Rows) → HaveRows file cs ss r → length r.columns ≡ length cs
rows_len file cs [] _ HaveRows.none = no_rows_len cs
rows_len file cs (s ∷ ss) _ (HaveRows.next values more has have) = behind_len values more.columns ∙ stripe_len file s cs values has

-- one stripe more
have_more : (file : List ℕ) (cs : List ReadColumn) (ss : List Stripe) (s : Stripe) (r : Rows) (ws : Batch) → HaveRows file cs ss r → StripeHas file s cs ws
    → HaveRows file cs (ss ++ s ∷ []) (record { count = r.count + s.rows; columns = behind r.columns ws })
have_more file cs [] s _ ws HaveRows.none has =
    subst (λ (r : Rows). HaveRows file cs (s ∷ []) r)
    (ap (λ (n : ℕ). record { count = n; columns = behind ws (no_rows cs) }) (omega arith)
    ∙ ap (λ (b : Batch). record { count = 0 + s.rows; columns = b }) (behind_none ws cs (stripe_len file s cs ws has) ∙ sym (none_behind cs ws (stripe_len file s cs ws has))))
    (HaveRows.next ws (record { count = 0; columns = no_rows cs }) has HaveRows.none)
have_more file cs (x ∷ ss) s _ ws (HaveRows.next values more first have) has =
    subst (λ (r : Rows). HaveRows file cs (x ∷ (ss ++ s ∷ [])) r)
    (ap (λ (n : ℕ). record { count = n; columns = behind values (behind more.columns ws) }) (omega arith)
    ∙ ap (λ (b : Batch). record { count = x.rows + more.count + s.rows; columns = b })
    (sym (behind_assoc values more.columns ws (rows_len file cs ss more have ∙ sym (stripe_len file x cs values first)))))
    (HaveRows.next values (record { count = more.count + s.rows; columns = behind more.columns ws }) first (have_more file cs ss s more ws have has))

walks_more : (files : Option Files) (file : FileRef) (cs : List ReadColumn) (ss : List Stripe) (s : Stripe) (ps qs : List Piece) (xs bs : List Act) → AreStripeWalks files file cs ss ps xs
    → IsStripeWalk files file s cs qs bs → AreStripeWalks files file cs (ss ++ s ∷ []) (ps ++ qs) (xs ++ bs)
walks_more files file cs [] s _ qs _ bs AreStripeWalks.none walk =
    subst (λ (p : List Piece). AreStripeWalks files file cs (s ∷ []) p bs) (append-nil qs)
    (subst (λ (a : List Act). AreStripeWalks files file cs (s ∷ []) (qs ++ []) a) (append-nil bs) (AreStripeWalks.next walk AreStripeWalks.none))
walks_more files file cs (x ∷ ss) s _ qs _ bs (AreStripeWalks.next {pieces = p} {more = more} {acts = a} {rest = rest} first have) walk =
    subst (λ (r : List Piece). AreStripeWalks files file cs (x ∷ (ss ++ s ∷ [])) r ((a ++ rest) ++ bs)) (sym (append_assoc p more qs))
    (subst (λ (r : List Act). AreStripeWalks files file cs (x ∷ (ss ++ s ∷ [])) (p ++ (more ++ qs)) r) (sym (append_assoc a rest bs))
    (AreStripeWalks.next first (walks_more files file cs ss s more qs rest bs have walk)))

-- one walk stopped behind others
stops_behind : (files : Option Files) (file : FileRef) (cs : List ReadColumn) (number : ℕ) (ss : List Stripe) (s : Stripe) (others : List Stripe) (ps qs : List Piece) (xs bs : List Act) (why : Stop RowsFault)
    → AreStripeWalks files file cs ss ps xs → IsStripeStop files file (number + length ss) s cs qs why bs → StripesStop files file cs number (ss ++ s ∷ others) (ps ++ qs) why (xs ++ bs)
stops_behind files file cs number [] s others _ qs _ bs why AreStripeWalks.none stop =
    StripesStop.here (subst (λ (n : ℕ). IsStripeStop files file n s cs qs why bs) (omega arith) stop)
stops_behind files file cs number (x ∷ ss) s others _ qs _ bs why (AreStripeWalks.next {pieces = p} {more = more} {acts = a} {rest = rest} first have) stop =
    subst (λ (r : List Piece). StripesStop files file cs number (x ∷ (ss ++ s ∷ others)) r why ((a ++ rest) ++ bs)) (sym (append_assoc p more qs))
    (subst (λ (r : List Act). StripesStop files file cs number (x ∷ (ss ++ s ∷ others)) (p ++ (more ++ qs)) why r) (sym (append_assoc a rest bs))
    (StripesStop.later first (stops_behind files file cs (number + 1) ss s others more qs rest bs why have
    (subst (λ (n : ℕ). IsStripeStop files file n s cs qs why bs) (omega arith) stop))))

moved : (file : List ℕ) (i j : ℕ) (s : Stripe) (cs : List ReadColumn) (fault : RowsFault) → i ≡ j → StripeFails file i s cs fault → StripeFails file j s cs fault
moved file i j s cs fault e fails = subst (λ (n : ℕ). StripeFails file n s cs fault) e fails

-- the stripe behind those with rows fails
fails_behind : (file : List ℕ) (cs : List ReadColumn) (number : ℕ) (ss : List Stripe) (s : Stripe) (others : List Stripe) (r : Rows) (fault : RowsFault) → HaveRows file cs ss r
    → StripeFails file (number + length ss) s cs fault → FirstFails file cs number (ss ++ s ∷ others) fault
fails_behind file cs number [] s others _ fault HaveRows.none fails = FirstFails.here (moved file (number + 0) number s cs fault (omega arith) fails)
fails_behind file cs number (x ∷ ss) s others _ fault (HaveRows.next values more first have) fails =
    FirstFails.later values first (fails_behind file cs (number + 1) ss s others more fault have (moved file (number + length (x ∷ ss)) (number + 1 + length ss) s cs fault (omega arith) fails))

before_it : (stripes : List Stripe) (i : ℕ) → i < length stripes → 0 + length (take i stripes) ≡ i
before_it stripes i lt = omega (arith, length-take-le i stripes (omega arith))

parted : (stripes : List Stripe) (i : ℕ) (d : Stripe) → i < length stripes → take i stripes ++ get_or stripes i d ∷ drop (i + 1) stripes ≡ stripes
parted stripes i d lt = ap (λ (xs : List Stripe). take i stripes ++ xs) (sym (drop_more stripes i d lt)) ∙ take-append-drop i stripes

module _ {S C : Type 0} (did : S → List Act → S → Type 0) (count : S → ℕ) (files : Option Files) (ate : C → List Piece → C → Type 0) (file : FileRef) (columns : List ReadColumn) where
  -- no stripe
  pub begins : ((reader : S) → did reader [] reader) → ((eater : C) → ate eater [] eater) → (reader : S) (eater : C) → StripesSoFar did count files ate file columns [] reader reader eater eater
  begins nothing none reader eater = record {
    pieces = [];
    eaten = none eater;
    acts = [];
    by = nothing reader;
    walk = AreStripeWalks.none;
    later = omega arith;
    has = λ bytes has. (0, HaveRows.none);
  }

  -- there is no room for batches
  pub refused : {Y : Type 0} → ((reader : S) → did reader [] reader) → (stripes : List Stripe) (reader : S) (eater : C) → WalksStripes did count files ate file columns {Y = Y} stripes reader reader eater eater (Err stop.NoMemory)
  refused nothing stripes reader eater = record {
    pieces = [];
    eaten = tt;
    acts = [];
    by = nothing reader;
    walk = tt;
    stops = StripesStop.unbegun;
    cause = record { later = omega arith; failed = λ f. absurd f };
    content = tt;
    has = λ bytes has. tt;
    fails = λ bytes has. tt;
  }

  module _ (joins : (first between last : S) (front back : List Act) → did first front between → did between back last → did first (front ++ back) last)
      (ate_on : (first between last : C) (front back : List Piece) → ate first front between → ate between back last → ate first (front ++ back) last)
      (stripes : List Stripe) (i : ℕ) (d : Stripe) (lt : i < length stripes) (before between after : S) (eater eater' eater'' : C)
      (so : StripesSoFar did count files ate file columns (take i stripes) before between eater eater') where
    -- a stripe was walked
    pub goes_on : {Y : Type 0} (y : Y) → WalksStripe did count files ate file columns i (get_or stripes i d) between after eater' eater'' (Ok (tt {0}))
        → StripesSoFar did count files ate file columns (take (i + 1) stripes) before after eater eater''
    goes_on y w = subst (λ (ss : List Stripe). StripesSoFar did count files ate file columns ss before after eater eater'') (sym (take_more stripes i d lt)) (record {
      pieces = so.pieces ++ w.pieces;
      eaten = ate_on eater eater' eater'' so.pieces w.pieces so.eaten w.eaten;
      acts = so.acts ++ w.acts;
      by = joins before between after so.acts w.acts so.by w.by;
      walk = walks_more files file columns (take i stripes) (get_or stripes i d) so.pieces w.pieces so.acts w.acts so.walk w.walk;
      later = omega (arith, so.later, w.cause.later);
      has = λ bytes has.
          let had = so.has bytes has in (
            had.0 + (get_or stripes i d).rows,
            subst (λ (b : Batch). HaveRows bytes columns (take i stripes ++ get_or stripes i d ∷ []) (record { count = had.0 + (get_or stripes i d).rows; columns = b }))
                (sym (values_more columns so.pieces w.pieces))
                (have_more bytes columns (take i stripes) (get_or stripes i d) (record { count = had.0; columns = values_in columns so.pieces }) (values_in columns w.pieces) had.1 (w.has bytes has)),
          );
    })

    -- it wasn't
    pub stops : {Y Z : Type 0} (why : Stop RowsFault) → WalksStripe did count files ate file columns {Y = Y} i (get_or stripes i d) between after eater' eater'' (Err why)
        → WalksStripes did count files ate file columns {Y = Z} stripes before after eater eater'' (Err why)
    stops {Y} {Z} why w = record {
      pieces = so.pieces ++ w.pieces;
      eaten = eaten why w.eaten;
      acts = so.acts ++ w.acts;
      by = joins before between after so.acts w.acts so.by w.by;
      walk = tt;
      stops = subst (λ (ss : List Stripe). StripesStop files file columns 0 ss (so.pieces ++ w.pieces) why (so.acts ++ w.acts)) (parted stripes i d lt)
          (stops_behind files file columns 0 (take i stripes) (get_or stripes i d) (drop (i + 1) stripes) so.pieces w.pieces so.acts w.acts why so.walk
          (subst (λ (n : ℕ). IsStripeStop files file n (get_or stripes i d) columns w.pieces why w.acts) (sym (before_it stripes i lt)) w.stops));
      cause = cause why w.cause;
      content = content why w.content;
      has = λ bytes has. tt;
      fails = λ bytes has. fails bytes why (so.has bytes has) (w.fails bytes has);
    }
      where
        rose : Rose (count between) (count after) → Rose (count before) (count after)
        rose (inl less) = inl (omega (arith, so.later))
        rose (inr most) = inr most

        eaten : (why : Stop RowsFault) → EatenBy {Y = Y} (ate eater' w.pieces eater'') (Err why) → EatenBy {Y = Z} (ate eater (so.pieces ++ w.pieces) eater'') (Err why)
        eaten (stop.Fault fault) e = ate_on eater eater' eater'' so.pieces w.pieces so.eaten e
        eaten (stop.Read failed) e = ate_on eater eater' eater'' so.pieces w.pieces so.eaten e
        eaten stop.NoMemory e = tt

        cause : (why : Stop RowsFault) → Cause (count between) (count after) (StoppedByRead {Y = Y} (Err why)) → Cause (count before) (count after) (StoppedByRead {Y = Z} (Err why))
        cause (stop.Fault fault) c = record { later = omega (arith, so.later, c.later); failed = λ f. absurd f }
        cause (stop.Read failed) c = record { later = omega (arith, so.later, c.later); failed = λ f. rose (c.failed f) }
        cause stop.NoMemory c = record { later = omega (arith, so.later, c.later); failed = λ f. absurd f }

        content : (why : Stop RowsFault) → IfFault {Y = Y} (Err why) IsRowsContent → IfFault {Y = Z} (Err why) IsRowsContent
        content (stop.Fault fault) c = c
        content (stop.Read failed) c = tt
        content stop.NoMemory c = tt

        fails : (bytes : List ℕ) (why : Stop RowsFault) → (rows : ℕ) × HaveRows bytes columns (take i stripes) (record { count = rows; columns = values_in columns so.pieces })
            → IfFault {Y = Y} (Err why) (StripeFails bytes i (get_or stripes i d) columns) → IfFault {Y = Z} (Err why) (FirstFails bytes columns 0 stripes)
        fails bytes (stop.Fault fault) had f =
            subst (λ (ss : List Stripe). FirstFails bytes columns 0 ss fault) (parted stripes i d lt)
            (fails_behind bytes columns 0 (take i stripes) (get_or stripes i d) (drop (i + 1) stripes) (record { count = had.0; columns = values_in columns so.pieces }) fault had.1
            (moved bytes i (0 + length (take i stripes)) (get_or stripes i d) columns fault (sym (before_it stripes i lt)) f))
        fails bytes (stop.Read failed) had f = tt
        fails bytes stop.NoMemory had f = tt

  -- all were
  pub ends : (stripes : List Stripe) (i : ℕ) (before after : S) (eater eater' : C) → length stripes ≤ i → StripesSoFar did count files ate file columns (take i stripes) before after eater eater'
      → WalksStripes did count files ate file columns stripes before after eater eater' (Ok (tt {0}))
  ends stripes i before after eater eater' all so = record {
    pieces = so.pieces;
    eaten = so.eaten;
    acts = so.acts;
    by = so.by;
    walk = subst (λ (ss : List Stripe). AreStripeWalks files file columns ss so.pieces so.acts) (take_all i stripes all) so.walk;
    stops = tt;
    cause = record { later = so.later; failed = λ f. absurd f };
    content = tt;
    has = λ bytes has. subst (λ (ss : List Stripe). (rows : ℕ) × HaveRows bytes columns ss (record { count = rows; columns = values_in columns so.pieces })) (take_all i stripes all) (so.has bytes has);
    fails = λ bytes has. tt;
  }
