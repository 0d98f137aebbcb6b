-- Bytes that are given one after the other.
use Rattle.std.proofs.Common.{◌≡◌, ◌≤◌, ℕ, true, ◌⊎◌, inl, inr, List, [], ◌++◌, length, take, drop, Option, Some, None, option_map, Result, Ok, Err, IsErr, OnOk, OnErr, true≢false, refl, sym, ◌∙◌, ap, subst, append_assoc, append-nil, arith, length-append}
use Rattle.std.proofs.lemmas.List.{take_at, take-append-drop}
use Rattle.std.proofs.lemmas.Result.{on_ok_weaker, on_err_weaker}
use Rattle.outside.specs.Cause.{Cause, HasCause, Rose}
use Rattle.outside.specs.Told.{Extended, Extended-none, Extended-then}
use Rattle.fragment_outcome.specs.Sent.{Sent, Wrote}
use Rattle.fragment_outcome.specs.Sent.Wrote.{went, broke, broken}

Rose-after : {f g h : ℕ} → f ≤ g → Rose g h → Rose f h
Rose-after le (inl lt) = inl (omega arith)
Rose-after le (inr last) = inr last

Rose-before : {f g h : ℕ} → Rose f g → g ≤ h → Rose f h
Rose-before (inl lt) le = inl (omega arith)
Rose-before (inr last) le = inr (omega arith)

Extended-still : (c d e : Option (List ℕ)) (sent : List ℕ) → Extended c d sent → Extended d e [] → Extended c e sent
Extended-still c d e sent p q = subst (λ (l : List ℕ). Extended c e l) (append-nil sent) (Extended-then c d e sent [] p q)

Sent-none : (held : List ℕ) (c : Option (List ℕ)) → Sent held c held c []
Sent-none held c = record { sent = []; all = sym (append-nil held); told = Extended-none c }

Sent-then : {p q r a b : List ℕ} {c d e : Option (List ℕ)} → Sent p c q d a → Sent q d r e b → Sent p c r e (a ++ b)
Sent-then {p = p} {q = q} {r = r} {a = a} {b = b} {c = c} {d = d} {e = e} s t = record {
  sent = s.sent ++ t.sent;
  all = append_assoc s.sent t.sent r ∙ ap (λ (l : List ℕ). s.sent ++ l) t.all ∙ sym (append_assoc s.sent q b) ∙ ap (λ (l : List ℕ). l ++ b) s.all ∙ append_assoc p a b;
  told = Extended-then c d e s.sent t.sent s.told t.told;
}

Sent-lost : {p l a : List ℕ} {c d e : Option (List ℕ)} (b : List ℕ) → Sent p c l d a → Extended d e [] → Sent p c (l ++ b) e (a ++ b)
Sent-lost {p = p} {l = l} {a = a} {c = c} {d = d} {e = e} b s still = record {
  sent = s.sent;
  all = sym (append_assoc s.sent l b) ∙ ap (λ (x : List ℕ). x ++ b) s.all ∙ append_assoc p a b;
  told = Extended-still c d e s.sent s.told still;
}

-- nothing was given
pub Wrote-none : (o c : Option (List ℕ)) (f : ℕ) → Wrote o c f o c f []
Wrote-none None c f = broken (Extended-none c) (omega arith)
Wrote-none (Some held) c f = went (Sent-none held c) (omega arith)

-- some bytes were given, and then others
pub Wrote-then : {o p q c d e : Option (List ℕ)} {f g h : ℕ} {a b : List ℕ} → Wrote o c f p d g a → Wrote p d g q e h b → Wrote o c f q e h (a ++ b)
Wrote-then (went s le) (went t le') = went (Sent-then s t) (omega arith)
Wrote-then (went s le) (broke left t le' rose) = broke left (Sent-then s t) (omega arith) (Rose-after le rose)
Wrote-then {b = b} (broke left s le rose) (broken t le') = broke (left ++ b) (Sent-lost b s t) (omega arith) (Rose-before rose le')
Wrote-then {c = c} {d = d} {e = e} (broken s le) (broken t le') = broken (Extended-then c d e [] [] s t) (omega arith)

-- bytes are held
pub Wrote-kept : (o c : Option (List ℕ)) (f : ℕ) (bytes : List ℕ) → Wrote o c f (option_map (λ held. held ++ bytes) o) c f bytes
Wrote-kept None c f bytes = broken (Extended-none c) (omega arith)
Wrote-kept (Some held) c f bytes = went (record { sent = []; all = refl; told = Extended-none c }) (omega arith)

-- what was held was written
pub Wrote-flushed : (held : List ℕ) (c d : Option (List ℕ)) (f g : ℕ) → Extended c d held → f ≤ g → Wrote (Some held) c f (Some []) d g []
Wrote-flushed held c d f g told le = went (record { sent = held; all = refl; told = told }) le

-- bytes were written where nothing was held
pub Wrote-passed : (c d : Option (List ℕ)) (f g : ℕ) (bytes : List ℕ) → Extended c d bytes → f ≤ g → Wrote (Some []) c f (Some []) d g bytes
Wrote-passed c d f g bytes told le = went (record { sent = bytes; all = append-nil bytes; told = told }) le

-- a write of what was held failed
pub Wrote-unflushed : (held : List ℕ) (c d : Option (List ℕ)) (f g : ℕ) → ((n : ℕ) × (n ≤ length held) × Extended c d (take n held)) → Cause f g (true ≡ true) → Wrote (Some held) c f None d g []
Wrote-unflushed held c d f g front cause =
    broke (drop front.0 held) (record { sent = take front.0 held; all = take-append-drop front.0 held ∙ sym (append-nil held); told = front.2 }) cause.later (cause.failed refl)

-- a write of bytes failed, where nothing was held
pub Wrote-failed : (bytes : List ℕ) (c d : Option (List ℕ)) (f g : ℕ) → ((n : ℕ) × (n ≤ length bytes) × Extended c d (take n bytes)) → Cause f g (true ≡ true) → Wrote (Some []) c f None d g bytes
Wrote-failed bytes c d f g front cause =
    broke (drop front.0 bytes) (record { sent = take front.0 bytes; all = take-append-drop front.0 bytes; told = front.2 }) cause.later (cause.failed refl)

-- at the end nothing is held
pub Wrote-whole : (o : Option (List ℕ)) (c d : Option (List ℕ)) (f g : ℕ) (text : List ℕ) → o ≡ Some [] → Wrote (Some []) c f o d g text → Extended c d text × (f ≤ g)
Wrote-whole (Some left) c d f g text e (went s le) =
    let none : left ≡ [] = cc in
    let same : s.sent ≡ text = sym (append-nil s.sent) ∙ ap (λ (l : List ℕ). s.sent ++ l) (sym none) ∙ s.all in
    (subst (λ (l : List ℕ). Extended c d l) same s.told, le)
Wrote-whole None c d f g text e (broke left s le rose) = absurd cc

-- or a front was written
pub Wrote-front : (o : Option (List ℕ)) (c d : Option (List ℕ)) (f g : ℕ) (text : List ℕ) → o ≡ None → Wrote (Some []) c f o d g text
    → ((n : ℕ) × (n ≤ length text) × Extended c d (take n text)) × (f ≤ g) × Rose f g
Wrote-front (Some left) c d f g text e (went s le) = absurd cc
Wrote-front None c d f g text e (broke left s le rose) =
    let whole : s.sent ++ left ≡ text = s.all in
    let front : take (length s.sent) text ≡ s.sent = ap (take (length s.sent)) (sym whole) ∙ take_at s.sent left (length s.sent) refl in
    ((length s.sent, omega (arith, ap length whole, length-append s.sent left), subst (λ (l : List ℕ). Extended c d l) (sym front) s.told), le, rose)

-- the same bytes in other words
pub Wrote-as : {o p c d : Option (List ℕ)} {f g : ℕ} {a b : List ℕ} → Wrote o c f p d g a → a ≡ b → Wrote o c f p d g b
Wrote-as {o = o} {p = p} {c = c} {d = d} {f = f} {g = g} w e = subst (λ (l : List ℕ). Wrote o c f p d g l) e w

-- a writer that had failed takes bytes and writes nothing
pub Wrote-lost : (c : Option (List ℕ)) (f : ℕ) (bytes : List ℕ) → Wrote None c f None c f bytes
Wrote-lost c f bytes = broken (Extended-none c) (omega arith)

-- what is held now
pub Wrote-to : {o p q c d : Option (List ℕ)} {f g : ℕ} {a : List ℕ} → Wrote o c f p d g a → p ≡ q → Wrote o c f q d g a
Wrote-to {o = o} {c = c} {d = d} {f = f} {g = g} {a = a} w e = subst (λ (l : Option (List ℕ)). Wrote o c f l d g a) e w

pub Wrote-later : {o p c d : Option (List ℕ)} {f g : ℕ} {a : List ℕ} → Wrote o c f p d g a → f ≤ g
Wrote-later (went s le) = le
Wrote-later (broke left s le rose) = le
Wrote-later (broken s le) = le

-- a whole text, from a new writer on to its end
module _ (o p c d : Option (List ℕ)) (f g : ℕ) (text : List ℕ) (new : o ≡ Some []) (wrote : Wrote o c f p d g text) where
  from_new : Wrote (Some []) c f p d g text
  from_new = subst (λ (l : Option (List ℕ)). Wrote l c f p d g text) new wrote

  pub written : {T E : Type 0} (r : Result T E) → OnOk r (p ≡ Some []) → OnOk r (Extended c d text)
  written r ok = on_ok_weaker r (λ e. (Wrote-whole p c d f g text e from_new).0) ok

  pub front : {T E : Type 0} (r : Result T E) → OnErr r (p ≡ None) → OnErr r ((n : ℕ) × (n ≤ length text) × Extended c d (take n text))
  front r err = on_err_weaker r (λ e. (Wrote-front p c d f g text e from_new).0) err

  pub cause : {T E : Type 0} (r : Result T E) → OnErr r (p ≡ None) → HasCause f g r
  cause {T} {E} r err = record { later = Wrote-later wrote; failed = by r err }
    where
      by : (s : Result T E) → OnErr s (p ≡ None) → IsErr s → Rose f g
      by (Ok x) none is = absurd (true≢false (sym is))
      by (Err e) none is = (Wrote-front p c d f g text none from_new).2
