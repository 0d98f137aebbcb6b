-- Messages that grow by a field.
use Rattle.std.proofs.Common.{◌≡◌, ℕ, List, [], ◌∷◌, ◌++◌, Result, Ok, Err, refl, sym, ap, subst, ◌∙◌, append_assoc}
use Rattle.std.proofs.lemmas.List.{append-nil}
use Rattle.orc_proto.specs.declared.fault.WireFault.{WireFault}
use Rattle.orc_proto.specs.Message.{Content, Entry, Message, SpellsField}
use Rattle.orc_proto.specs.Reading.{fields_of}
use Rattle.orc_proto.specs.Laws.{all_read, MessagesAreRead}
use Rattle.orc_tail.specs.declared.fault.TailFault.{TailFault}
use Rattle.orc_tail.specs.Reading.{◌>>=◌, fields_from}
use Rattle.message_writer.specs.Written.{Adds}
use Rattle.footer_writer.specs.Made.{Makes}

-- a message with a field more
pub longer : (bytes spelling : List ℕ) (fields : List Entry) (field : Entry) → Message bytes fields → SpellsField spelling field → Message (bytes ++ spelling) (fields ++ field ∷ [])
longer bytes spelling [] field none spelled = (spelling, [], spelled, refl, ap (λ (xs : List ℕ). xs ++ spelling) none ∙ sym (append-nil spelling))
longer bytes spelling (f ∷ fields) field (first, rest, is, others, joined) spelled =
    (first, rest ++ spelling, is, longer rest spelling fields field others spelled, ap (λ (xs : List ℕ). xs ++ spelling) joined ∙ append_assoc first rest spelling)

abbrev answered : (S : Type 0) → S → Result S TailFault
answered S s = Ok s

abbrev refused : (S : Type 0) → TailFault → Result S TailFault
refused S e = Err e

same_state : {S : Type 0} {s t : S} → answered S s ≡ answered S t → s ≡ t
same_state same = cc

-- what fields make, and then one more
one_more : {S : Type 0} (step : S → Entry → Result S TailFault) (start state next : S) (fields : List Entry) (field : Entry)
    → fields_from step start (all_read fields) ≡ Ok state → step state field ≡ Ok next → fields_from step start (all_read (fields ++ field ∷ [])) ≡ Ok next
one_more {S} step start state next [] field made does =
    let same : start ≡ state = same_state made in
    ap (λ (r : Result S TailFault). r >>= λ t. fields_from step t []) (ap (λ (s : S). step s field) same ∙ does)
one_more {S} step start state next (f ∷ fields) field made does =
    elim (step start f) as (λ r. step start f ≡ r → (r >>= λ t. fields_from step t (all_read fields)) ≡ Ok state → fields_from step start (all_read ((f ∷ fields) ++ field ∷ [])) ≡ Ok next) [
      | Ok t ↦ λ is read. ap (λ (r : Result S TailFault). r >>= λ u. fields_from step u (all_read (fields ++ field ∷ []))) is ∙ one_more step t state next fields field read does
      | Err e ↦ λ is read. absurd (let no : refused S e ≡ answered S state = read in cc)
    ] refl made

pub begun : {S : Type 0} (step : S → Entry → Result S TailFault) (start : S) → Makes step start [] start
begun step start = record { fields = []; spelled = refl; made = refl }

-- the message grew by a field
pub grown : {S : Type 0} {step : S → Entry → Result S TailFault} {start state next : S} {before after : List ℕ} {number : ℕ} {value : Content}
    → Makes step start before state → Adds before after number value → step state (record { number = number; value = value }) ≡ Ok next → Makes step start after next
grown {S} {step} {start} {state} {next} {before} {after} {number} {value} makes adds does = record {
  fields = makes.fields ++ (record { number = number; value = value }) ∷ [];
  spelled = subst (λ (xs : List ℕ). Message xs (makes.fields ++ (record { number = number; value = value }) ∷ [])) (sym adds.joined)
      (longer before adds.spelling makes.fields (record { number = number; value = value }) makes.spelled adds.spelled);
  made = one_more step start state next makes.fields (record { number = number; value = value }) makes.made does;
}

-- the whole message is read as what its fields make
pub read_whole : {S : Type 0} {step : S → Entry → Result S TailFault} {start state : S} {bytes : List ℕ}
    → MessagesAreRead → Makes step start bytes state → fields_from step start (fields_of bytes) ≡ Ok state
read_whole {S} {step} {start} {state} {bytes} read makes =
    ap (λ (items : List (Result Entry WireFault)). fields_from step start items) (read bytes makes.fields makes.spelled) ∙ makes.made
