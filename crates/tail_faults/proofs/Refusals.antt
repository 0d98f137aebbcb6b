-- Readings whose faults are all of some kind.
use Rattle.std.proofs.Common.{◌≡◌, ℕ, Bool, true, false, cond, List, [], ◌∷◌, ◌++◌, Result, Ok, Err, refl, subst}
use Rattle.orc_proto.specs.declared.fault.WireFault.{WireFault}
use Rattle.orc_proto.specs.Message.{Entry}
use Rattle.orc_tail.specs.declared.fault.TailFault.{TailFault}
use Rattle.orc_tail.specs.declared.fault.TailFault.TheVariants.{Wire}
use Rattle.orc_tail.specs.Reading.{◌>>=◌, fields_from, numbers_from, behind}

-- it is a value, or a fault of that kind
pub record Refuses {Y : Type 0} (P : TailFault → Type 0) (read : Result Y TailFault) : Type 0 where
  pub by : (e : TailFault) → read ≡ Err e → P e

module _ (P : TailFault → Type 0) (wire : (e : WireFault) → P (Wire e)) where
  pub by_ok : {A : Type 0} (x : A) → Refuses {Y = A} P (Ok x)
  by_ok x = record { by = λ e h. absurd cc }

  pub by_err : {A : Type 0} (e : TailFault) → P e → Refuses {Y = A} P (Err e)
  by_err {A} e is = record { by = λ f h. let same : e ≡ f = cc in subst P same is }

  pub by_then : {A B : Type 0} (r : Result A TailFault) (f : A → Result B TailFault) → Refuses P r → ((x : A) → Refuses P (f x)) → Refuses P (r >>= f)
  by_then (Ok x) f p q = q x
  by_then {B = B} (Err e) f p q = by_err {A = B} e (p.by e refl)

  pub by_either : {A : Type 0} (b : Bool) (x y : Result A TailFault) → Refuses P x → Refuses P y → Refuses P (cond b x y)
  by_either true x y p q = p
  by_either false x y p q = q

  pub by_fields : {S : Type 0} (step : S → Entry → Result S TailFault) → ((s : S) (field : Entry) → Refuses P (step s field)) → (s : S) (fields : List (Result Entry WireFault)) → Refuses P (fields_from step s fields)
  by_fields step each s [] = by_ok s
  by_fields {S = S} step each s (Err e ∷ fields) = by_err {A = S} (Wire e) (wire e)
  by_fields step each s (Ok field ∷ fields) = by_then (step s field) (λ t. fields_from step t fields) (each s field) (λ t. by_fields step each t fields)

  pub by_numbers : (numbers : List (Result ℕ WireFault)) → Refuses P (numbers_from numbers)
  by_numbers [] = by_ok []
  by_numbers (Err e ∷ numbers) = by_err {A = List ℕ} (Wire e) (wire e)
  by_numbers (Ok n ∷ numbers) = by_then (numbers_from numbers) (λ ns. Ok (n ∷ ns)) (by_numbers numbers) (λ ns. by_ok (n ∷ ns))

  pub by_behind : (front : List ℕ) (read : Result (List ℕ) TailFault) → Refuses P read → Refuses P (behind front read)
  by_behind front (Ok ns) p = by_ok (front ++ ns)
  by_behind front (Err e) p = by_err {A = List ℕ} e (p.by e refl)
