-- What the fields of a message give in which messages of two fields stand, each as often as it likes.
use Rattle.std.proofs.Common.{◌≡◌, ℕ, Bool, true, false, ◌&&◌, List, [], ◌∷◌, ◌++◌, Result, Ok, Err, refl, sym, ap, subst, ◌∙◌, arith}
use Rattle.std.specs.Prelude.{◌==◌, if◌then◌else◌}
use Rattle.std.proofs.lemmas.List.{append_assoc, append-nil}
use Rattle.orc_proto.specs.declared.fault.WireFault.{WireFault}
use Rattle.orc_proto.specs.Message.{Content, VARINT, I64, LEN, I32, Entry}
use Rattle.orc_proto.specs.Reading.{fields_of}
use Rattle.orc_proto.specs.Laws.{all_read, MessagesAreRead, ReadIsMessage}
use Rattle.orc_tail.specs.declared.fault.TailFault.{TailFault}
use Rattle.orc_tail.specs.declared.fault.TailFault.TheVariants.{Wire}
use Rattle.orc_tail.specs.declared.stripe.Stripe.{Stripe}
use Rattle.orc_tail.specs.declared.stream.Stream.{Stream}
use Rattle.orc_tail.specs.declared.encoding.Encoding.{Encoding}
use Rattle.orc_tail.specs.Reading.{◌>>=◌, fields_from}
use Rattle.orc_tail.specs.Messages.{TypeMessage, FooterMessage, StripeFooterMessage, stripe_of, type_of, stream_of, encoding_of}
use Rattle.orc_tail.specs.Messages.{footer_value, footer_field, footer_of, stripe_footer_value, stripe_footer_field, stripe_footer_of}
use Rattle.orc_tail.specs.Laws.{bytes_in, bytes_of, AreReadAs, IsFooter, IsStripeFooter, FootersAreRead, StripeFootersAreRead}
use Rattle.orc_tail.proofs.MessageLaws.{read_as, refused_by}

module _ {A B S : Type 0} (read_a : List ℕ → Result A TailFault) (read_b : List ℕ → Result B TailFault) (make : List A → List B → S) where
  -- the state after a field of bytes, which is of the one field, or of the other
  abbrev with_bytes : Bool → Bool → List A → List B → List ℕ → Result S TailFault
  with_bytes is_a is_b xs ys bytes =
      if is_a then (read_a bytes >>= λ x. Ok (make (xs ++ x ∷ []) ys))
      else (if is_b then (read_b bytes >>= λ y. Ok (make xs (ys ++ y ∷ []))) else Ok (make xs ys))

  same_made : (xs xs' : List A) (ys ys' : List B) → xs ≡ xs' → ys ≡ ys' → read_as S (make xs ys) ≡ Ok (make xs' ys')
  same_made xs xs' ys ys' p q = rw (p, q) refl

  module _ (a b : ℕ) (value : S → ℕ → Content → Result S TailFault)
      (apart : (n : ℕ) → (n == a && n == b) ≡ false)
      (on_varint : (xs : List A) (ys : List B) (n k : ℕ) → value (make xs ys) n (VARINT k) ≡ Ok (make xs ys))
      (on_bytes : (xs : List A) (ys : List B) (n : ℕ) (bytes : List ℕ) → value (make xs ys) n (LEN bytes) ≡ with_bytes (n == a) (n == b) xs ys bytes)
      (on_eight : (xs : List A) (ys : List B) (n : ℕ) (bytes : List ℕ) → value (make xs ys) n (I64 bytes) ≡ Ok (make xs ys))
      (on_four : (xs : List A) (ys : List B) (n : ℕ) (bytes : List ℕ) → value (make xs ys) n (I32 bytes) ≡ Ok (make xs ys)) where
    abbrev step : S → Entry → Result S TailFault
    step s field = value s field.number field.value

    abbrev from_state : List (Result Entry WireFault) → Result S TailFault → Result S TailFault
    from_state items r = r >>= λ t. fields_from step t items

    -- ---- what fields give that are there

    abbrev Gives : List Entry → Type 0
    Gives fields = (xs more : List A) (ys others : List B) → AreReadAs read_a (bytes_of a fields) more → AreReadAs read_b (bytes_of b fields) others
        → fields_from step (make xs ys) (all_read fields) ≡ Ok (make (xs ++ more) (ys ++ others))

    gives_bytes : (is_a is_b : Bool) → (is_a && is_b) ≡ false → (fields : List Entry) → Gives fields → (bytes : List ℕ) (xs more : List A) (ys others : List B)
        → AreReadAs read_a ((if is_a then bytes ∷ [] else []) ++ bytes_of a fields) more
        → AreReadAs read_b ((if is_b then bytes ∷ [] else []) ++ bytes_of b fields) others
        → from_state (all_read fields) (with_bytes is_a is_b xs ys bytes) ≡ Ok (make (xs ++ more) (ys ++ others))
    gives_bytes true true both fields later bytes xs more ys others p q = absurd (let no : true ≡ false = both in cc)
    gives_bytes true false both fields later bytes xs more ys others (x, rest, is, front, joined) q =
        ap (λ (r : Result A TailFault). from_state (all_read fields) (r >>= λ x. Ok (make (xs ++ x ∷ []) ys))) is
        ∙ later (xs ++ x ∷ []) rest ys others front q
        ∙ same_made _ _ _ _ (append_assoc xs (x ∷ []) rest ∙ ap (λ (l : List A). xs ++ l) (sym joined)) refl
    gives_bytes false true both fields later bytes xs more ys others p (y, rest, is, front, joined) =
        ap (λ (r : Result B TailFault). from_state (all_read fields) (r >>= λ y. Ok (make xs (ys ++ y ∷ [])))) is
        ∙ later xs more (ys ++ y ∷ []) rest p front
        ∙ same_made _ _ _ _ refl (append_assoc ys (y ∷ []) rest ∙ ap (λ (l : List B). ys ++ l) (sym joined))
    gives_bytes false false both fields later bytes xs more ys others p q = later xs more ys others p q

    gives_one : (number : ℕ) (v : Content) (fields : List Entry) → Gives fields → (xs more : List A) (ys others : List B)
        → AreReadAs read_a (bytes_in a number v ++ bytes_of a fields) more → AreReadAs read_b (bytes_in b number v ++ bytes_of b fields) others
        → from_state (all_read fields) (value (make xs ys) number v) ≡ Ok (make (xs ++ more) (ys ++ others))
    gives_one number (VARINT n) fields later xs more ys others p q = ap (from_state (all_read fields)) (on_varint xs ys number n) ∙ later xs more ys others p q
    gives_one number (LEN bytes) fields later xs more ys others p q =
        ap (from_state (all_read fields)) (on_bytes xs ys number bytes)
        ∙ gives_bytes (number == a) (number == b) (apart number) fields later bytes xs more ys others p q
    gives_one number (I64 bytes) fields later xs more ys others p q = ap (from_state (all_read fields)) (on_eight xs ys number bytes) ∙ later xs more ys others p q
    gives_one number (I32 bytes) fields later xs more ys others p q = ap (from_state (all_read fields)) (on_four xs ys number bytes) ∙ later xs more ys others p q

    pub fields_give : (fields : List Entry) → Gives fields
    fields_give [] xs more ys others p q = same_made _ _ _ _
        (sym (ap (λ (l : List A). xs ++ l) p ∙ append-nil xs)) (sym (ap (λ (l : List B). ys ++ l) q ∙ append-nil ys))
    fields_give (field ∷ fields) xs more ys others p q = gives_one field.number field.value fields (fields_give fields) xs more ys others p q

    -- ---- which fields stood there, where reading went to the end

    pub record Came (front_a front_b : List (List ℕ)) (items : List (Result Entry WireFault)) (xs : List A) (ys : List B) (s : S) : Type 0 where
      pub fields : List Entry
      pub whole : items ≡ all_read fields
      pub more : List A
      pub others : List B
      pub read_as_a : AreReadAs read_a (front_a ++ bytes_of a fields) more
      pub read_as_b : AreReadAs read_b (front_b ++ bytes_of b fields) others
      pub made : s ≡ make (xs ++ more) (ys ++ others)

    abbrev Comes : List (Result Entry WireFault) → Type 0
    Comes items = (xs : List A) (ys : List B) (s : S) → fields_from step (make xs ys) items ≡ Ok s → Came [] [] items xs ys s

    more_a : (items : List (Result Entry WireFault)) (bytes : List ℕ) (x : A) (xs : List A) (ys : List B) (s : S) → read_a bytes ≡ Ok x
        → Came [] [] items (xs ++ x ∷ []) ys s → Came (bytes ∷ []) [] items xs ys s
    more_a items bytes x xs ys s is came = record {
      fields = came.fields;
      whole = came.whole;
      more = x ∷ came.more;
      others = came.others;
      read_as_a = (x, came.more, is, came.read_as_a, refl);
      read_as_b = came.read_as_b;
      made = came.made ∙ ap (λ (l : List A). make l (ys ++ came.others)) (append_assoc xs (x ∷ []) came.more);
    }

    more_b : (items : List (Result Entry WireFault)) (bytes : List ℕ) (y : B) (xs : List A) (ys : List B) (s : S) → read_b bytes ≡ Ok y
        → Came [] [] items xs (ys ++ y ∷ []) s → Came [] (bytes ∷ []) items xs ys s
    more_b items bytes y xs ys s is came = record {
      fields = came.fields;
      whole = came.whole;
      more = came.more;
      others = y ∷ came.others;
      read_as_a = came.read_as_a;
      read_as_b = (y, came.others, is, came.read_as_b, refl);
      made = came.made ∙ ap (λ (l : List B). make (xs ++ came.more) l) (append_assoc ys (y ∷ []) came.others);
    }

    comes_a : (items : List (Result Entry WireFault)) → Comes items → (bytes : List ℕ) (xs : List A) (ys : List B) (s : S)
        → (r : Result A TailFault) → read_a bytes ≡ r → from_state items (r >>= λ x. Ok (make (xs ++ x ∷ []) ys)) ≡ Ok s → Came (bytes ∷ []) [] items xs ys s
    comes_a items later bytes xs ys s (Ok x) is same = more_a items bytes x xs ys s is (later (xs ++ x ∷ []) ys s same)
    comes_a items later bytes xs ys s (Err e) is same = absurd (let no : refused_by S e ≡ read_as S s = same in cc)

    comes_b : (items : List (Result Entry WireFault)) → Comes items → (bytes : List ℕ) (xs : List A) (ys : List B) (s : S)
        → (r : Result B TailFault) → read_b bytes ≡ r → from_state items (r >>= λ y. Ok (make xs (ys ++ y ∷ []))) ≡ Ok s → Came [] (bytes ∷ []) items xs ys s
    comes_b items later bytes xs ys s (Ok y) is same = more_b items bytes y xs ys s is (later xs (ys ++ y ∷ []) s same)
    comes_b items later bytes xs ys s (Err e) is same = absurd (let no : refused_by S e ≡ read_as S s = same in cc)

    comes_bytes : (is_a is_b : Bool) → (is_a && is_b) ≡ false → (items : List (Result Entry WireFault)) → Comes items → (bytes : List ℕ) (xs : List A) (ys : List B) (s : S)
        → from_state items (with_bytes is_a is_b xs ys bytes) ≡ Ok s
        → Came (if is_a then bytes ∷ [] else []) (if is_b then bytes ∷ [] else []) items xs ys s
    comes_bytes true true both items later bytes xs ys s same = absurd (let no : true ≡ false = both in cc)
    comes_bytes true false both items later bytes xs ys s same = comes_a items later bytes xs ys s (read_a bytes) refl same
    comes_bytes false true both items later bytes xs ys s same = comes_b items later bytes xs ys s (read_b bytes) refl same
    comes_bytes false false both items later bytes xs ys s same = later xs ys s same

    comes_one : (number : ℕ) (v : Content) (items : List (Result Entry WireFault)) → Comes items → (xs : List A) (ys : List B) (s : S)
        → from_state items (value (make xs ys) number v) ≡ Ok s → Came (bytes_in a number v) (bytes_in b number v) items xs ys s
    comes_one number (VARINT n) items later xs ys s same = later xs ys s (ap (from_state items) (sym (on_varint xs ys number n)) ∙ same)
    comes_one number (LEN bytes) items later xs ys s same =
        comes_bytes (number == a) (number == b) (apart number) items later bytes xs ys s (ap (from_state items) (sym (on_bytes xs ys number bytes)) ∙ same)
    comes_one number (I64 bytes) items later xs ys s same = later xs ys s (ap (from_state items) (sym (on_eight xs ys number bytes)) ∙ same)
    comes_one number (I32 bytes) items later xs ys s same = later xs ys s (ap (from_state items) (sym (on_four xs ys number bytes)) ∙ same)

    with_field : (field : Entry) (items : List (Result Entry WireFault)) (xs : List A) (ys : List B) (s : S)
        → Came (bytes_in a field.number field.value) (bytes_in b field.number field.value) items xs ys s → Came [] [] (Ok field ∷ items) xs ys s
    with_field field items xs ys s came = record {
      fields = field ∷ came.fields;
      whole = ap (λ (rest : List (Result Entry WireFault)). Ok field ∷ rest) came.whole;
      more = came.more;
      others = came.others;
      read_as_a = came.read_as_a;
      read_as_b = came.read_as_b;
      made = came.made;
    }

    pub fields_came : (items : List (Result Entry WireFault)) → Comes items
    fields_came [] xs ys s same = record {
      fields = [];
      whole = refl;
      more = [];
      others = [];
      read_as_a = refl;
      read_as_b = refl;
      made = let is : make xs ys ≡ s = cc in sym is ∙ rw (append-nil xs, append-nil ys) refl;
    }
    fields_came (Err e ∷ items) xs ys s same = absurd (let no : refused_by S (Wire e) ≡ read_as S s = same in cc)
    fields_came (Ok field ∷ items) xs ys s same = with_field field items xs ys s (comes_one field.number field.value items (fields_came items) xs ys s same)

-- ---- a footer's stripes and types

abbrev a_footer : List Stripe → List TypeMessage → FooterMessage
a_footer stripes types = record { stripes = stripes; types = types }

three_or_four : (n : ℕ) → (n == 3 && n == 4) ≡ false
three_or_four n = grind arith

one_or_two : (n : ℕ) → (n == 1 && n == 2) ≡ false
one_or_two n = grind arith

footer_gives : (fields : List Entry) (stripes : List Stripe) (types : List TypeMessage) → AreReadAs stripe_of (bytes_of 3 fields) stripes
    → AreReadAs type_of (bytes_of 4 fields) types → fields_from footer_field (a_footer [] []) (all_read fields) ≡ Ok (a_footer stripes types)
footer_gives fields stripes types p q = fields_give stripe_of type_of a_footer 3 4 footer_value three_or_four
    (λ _ _ _ _. refl) (λ _ _ _ _. refl) (λ _ _ _ _. refl) (λ _ _ _ _. refl) fields [] stripes [] types p q

footer_came : (items : List (Result Entry WireFault)) (s : FooterMessage) → fields_from footer_field (a_footer [] []) items ≡ Ok s
    → Came stripe_of type_of a_footer 3 4 footer_value three_or_four (λ _ _ _ _. refl) (λ _ _ _ _. refl) (λ _ _ _ _. refl) (λ _ _ _ _. refl) [] [] items [] [] s
footer_came items s same = fields_came stripe_of type_of a_footer 3 4 footer_value three_or_four
    (λ _ _ _ _. refl) (λ _ _ _ _. refl) (λ _ _ _ _. refl) (λ _ _ _ _. refl) items [] [] s same

pub footers_are_read : MessagesAreRead → ReadIsMessage → FootersAreRead
unfolding footer_of
footers_are_read read only bytes stripes types = (came, gives)
  where
    came : footer_of bytes ≡ Ok (a_footer stripes types) → IsFooter bytes stripes types
    came same =
        let c = footer_came (fields_of bytes) (a_footer stripes types) same in record {
          fields = c.fields;
          message = only bytes c.fields c.whole;
          its_stripes = subst (AreReadAs stripe_of (bytes_of 3 c.fields)) (sym (ap (λ (f : FooterMessage). f.stripes) c.made)) c.read_as_a;
          its_types = subst (AreReadAs type_of (bytes_of 4 c.fields)) (sym (ap (λ (f : FooterMessage). f.types) c.made)) c.read_as_b;
        }

    gives : IsFooter bytes stripes types → footer_of bytes ≡ Ok (a_footer stripes types)
    gives is =
        ap (λ (items : List (Result Entry WireFault)). fields_from footer_field (a_footer [] []) items) (read bytes is.fields is.message)
        ∙ footer_gives is.fields stripes types is.its_stripes is.its_types

-- ---- a stripe footer's streams and encodings

abbrev a_stripe_footer : List Stream → List Encoding → StripeFooterMessage
a_stripe_footer streams encodings = record { streams = streams; encodings = encodings }

stripe_footer_gives : (fields : List Entry) (streams : List Stream) (encodings : List Encoding) → AreReadAs stream_of (bytes_of 1 fields) streams
    → AreReadAs encoding_of (bytes_of 2 fields) encodings
    → fields_from stripe_footer_field (a_stripe_footer [] []) (all_read fields) ≡ Ok (a_stripe_footer streams encodings)
stripe_footer_gives fields streams encodings p q = fields_give stream_of encoding_of a_stripe_footer 1 2 stripe_footer_value one_or_two
    (λ _ _ _ _. refl) (λ _ _ _ _. refl) (λ _ _ _ _. refl) (λ _ _ _ _. refl) fields [] streams [] encodings p q

stripe_footer_came : (items : List (Result Entry WireFault)) (s : StripeFooterMessage) → fields_from stripe_footer_field (a_stripe_footer [] []) items ≡ Ok s
    → Came stream_of encoding_of a_stripe_footer 1 2 stripe_footer_value one_or_two (λ _ _ _ _. refl) (λ _ _ _ _. refl) (λ _ _ _ _. refl) (λ _ _ _ _. refl) [] [] items [] [] s
stripe_footer_came items s same = fields_came stream_of encoding_of a_stripe_footer 1 2 stripe_footer_value one_or_two
    (λ _ _ _ _. refl) (λ _ _ _ _. refl) (λ _ _ _ _. refl) (λ _ _ _ _. refl) items [] [] s same

pub stripe_footers_are_read : MessagesAreRead → ReadIsMessage → StripeFootersAreRead
unfolding stripe_footer_of
stripe_footers_are_read read only bytes streams encodings = (came, gives)
  where
    came : stripe_footer_of bytes ≡ Ok (a_stripe_footer streams encodings) → IsStripeFooter bytes streams encodings
    came same =
        let c = stripe_footer_came (fields_of bytes) (a_stripe_footer streams encodings) same in record {
          fields = c.fields;
          message = only bytes c.fields c.whole;
          its_streams = subst (AreReadAs stream_of (bytes_of 1 c.fields)) (sym (ap (λ (f : StripeFooterMessage). f.streams) c.made)) c.read_as_a;
          its_encodings = subst (AreReadAs encoding_of (bytes_of 2 c.fields)) (sym (ap (λ (f : StripeFooterMessage). f.encodings) c.made)) c.read_as_b;
        }

    gives : IsStripeFooter bytes streams encodings → stripe_footer_of bytes ≡ Ok (a_stripe_footer streams encodings)
    gives is =
        ap (λ (items : List (Result Entry WireFault)). fields_from stripe_footer_field (a_stripe_footer [] []) items) (read bytes is.fields is.message)
        ∙ stripe_footer_gives is.fields streams encodings is.its_streams is.its_encodings
