-- A stream spells one list of values, or breaks with one fault.
use Rattle.std.proofs.Common.{◌≡◌, ◌⊎◌, ℕ, ◌≤◌, List, [], ◌∷◌, ◌++◌, length, Ok, Err, refl, sym, ◌∙◌, ap, subst, inl, inr, arith, append_assoc, append-nil, length-append}
use Rattle.std.specs.Prelude.{Result}
use Rattle.outside.specs.declared.run_fault.RunFault.{RunFault}
use Rattle.outside.specs.Reading.{Reader}
use Rattle.outside.specs.Runs.{Joined, none, one, Spells, Breaks, IsReaderOf}
use Rattle.outside.specs.RunLaws.{Fewest-joined}

-- one of two lists is a front of the other
abbrev AreFronts : {V : Type 0} → List V → List V → Type 0
AreFronts {V} xs ys = ((more : List V) × (xs ++ more ≡ ys)) ⊎ ((more : List V) × (ys ++ more ≡ xs))

abbrev read_ok : {V : Type 0} → List V × List ℕ → Result (List V × List ℕ) RunFault
read_ok p = Ok p

ok_is : {V : Type 0} (x y : List V × List ℕ) → read_ok x ≡ read_ok y → x ≡ y
ok_is x y e = cc

abbrev read_err : (V : Type 0) → RunFault → Result (List V × List ℕ) RunFault
read_err V f = Err f

err_is : (V : Type 0) (f g : RunFault) → read_err V f ≡ read_err V g → f ≡ g
err_is V f g e = cc

fronts_behind : {V : Type 0} (values xs ys : List V) → AreFronts xs ys → AreFronts (values ++ xs) (values ++ ys)
fronts_behind {V} values xs ys (inl (more, is)) = inl (more, append_assoc values xs more ∙ ap (λ (zs : List V). values ++ zs) is)
fronts_behind {V} values xs ys (inr (more, is)) = inr (more, append_assoc values ys more ∙ ap (λ (zs : List V). values ++ zs) is)

no_cons : {V : Type 0} (x : V) (xs : List V) → length (x ∷ xs) ≤ 0 → ⊥
no_cons x xs len = omega arith

-- of two fronts of one list, the shorter is a front of the longer
pub shorter_front : {V : Type 0} (xs ys cs ds : List V) → length xs ≤ length ys → xs ++ cs ≡ ys ++ ds → (more : List V) × (xs ++ more ≡ ys)
shorter_front [] ys cs ds len e = (ys, refl)
shorter_front (x ∷ xs) [] cs ds len e = absurd (no_cons x xs len)
shorter_front {V} (x ∷ xs) (y ∷ ys) cs ds len e =
    let head : x ≡ y = cc in
    let tail : xs ++ cs ≡ ys ++ ds = cc in
    let on = shorter_front xs ys cs ds (omega (arith, len)) tail in
    (on.0, ap (λ (zs : List V). x ∷ zs) on.1 ∙ ap (λ (z : V). z ∷ ys) head)

none_more : {V : Type 0} (xs ys more : List V) → length ys ≤ length xs → xs ++ more ≡ ys → xs ≡ ys
none_more xs ys [] len e = sym (append-nil xs) ∙ e
none_more {V} xs ys (m ∷ more) len e =
    let all : length (xs ++ (m ∷ more)) ≡ length ys = ap length e in
    absurd (no_cons m more (omega (arith, length-append xs (m ∷ more))))

module _ {V : Type 0} (Form : List ℕ → List V → Type 0) (read : Reader (List V)) (reads : IsReaderOf Form read) where
  -- two lists of whole runs at the front of one stream agree
  agree : {a b : List ℕ} {va vb : List V} (ra rb : List ℕ) → Joined Form a va → Joined Form b vb → a ++ ra ≡ b ++ rb → AreFronts va vb
  agree {vb = vb} ra rb none second e = inl (vb, refl)
  agree {va = va} ra rb first none e = inr (va, refl)
  agree ra rb (one {bytes = run} {more = more} {values = values} {others = vs} first others) (one {bytes = run'} {more = more'} {values = values'} {others = vs'} first' others') e =
      let whole : read (run ++ (more ++ ra)) ≡ Ok (values, more ++ ra) = reads.whole run (more ++ ra) values first in
      let other : read (run' ++ (more' ++ rb)) ≡ Ok (values', more' ++ rb) = reads.whole run' (more' ++ rb) values' first' in
      let same : run ++ (more ++ ra) ≡ run' ++ (more' ++ rb) = sym (append_assoc run more ra) ∙ e ∙ append_assoc run' more' rb in
      let both : read_ok (values, more ++ ra) ≡ read_ok (values', more' ++ rb) = sym whole ∙ ap read same ∙ other in
      let pair = ok_is (values, more ++ ra) (values', more' ++ rb) both in
      let front : values ≡ values' = ap (λ (p : List V × List ℕ). p.0) pair in
      let rest : more ++ ra ≡ more' ++ rb = ap (λ (p : List V × List ℕ). p.1) pair in
      subst (λ (v : List V). AreFronts (values ++ vs) (v ++ vs')) front (fronts_behind values vs vs' (agree ra rb others others' rest))

  -- of two lists that a stream spells, the shorter is a front of the longer
  pub spelled_front : (stream rest rest' : List ℕ) (xs ys : List V) → length xs ≤ length ys → Spells Form stream xs rest → Spells Form stream ys rest' → (more : List V) × (xs ++ more ≡ ys)
  spelled_front stream rest rest' xs ys len (held, at) (held', at') =
      by_fronts (agree rest rest' (Fewest-joined Form at.fewest) (Fewest-joined Form at'.fewest) (sym at.parts ∙ at'.parts))
    where
      by_fronts : AreFronts (xs ++ held) (ys ++ held') → (more : List V) × (xs ++ more ≡ ys)
      by_fronts (inl (more, is)) = shorter_front xs ys (held ++ more) held' len (sym (append_assoc xs held more) ∙ is)
      by_fronts (inr (more, is)) = shorter_front xs ys held (held' ++ more) len (sym is ∙ append_assoc ys held' more)

  -- a stream spells one list of so many values
  pub spelled_once : (stream rest rest' : List ℕ) (xs ys : List V) → length xs ≡ length ys → Spells Form stream xs rest → Spells Form stream ys rest' → xs ≡ ys
  spelled_once stream rest rest' xs ys len a b =
      let on = spelled_front stream rest rest' xs ys (omega (arith, len)) a b in
      none_more xs ys on.0 (omega (arith, len)) on.1

  -- whole runs and then a faulty one: the fault is one
  one_broken : {a b : List ℕ} {va vb : List V} (ra rb : List ℕ) (f g : RunFault) → Joined Form a va → Joined Form b vb → a ++ ra ≡ b ++ rb → read ra ≡ Err f → read rb ≡ Err g → f ≡ g
  one_broken ra rb f g none none e x y = err_is V f g (sym x ∙ ap read e ∙ y)
  one_broken ra rb f g none (one {bytes = run} {more = more} {values = values} first others) e x y =
      let whole : read (run ++ (more ++ rb)) ≡ Ok (values, more ++ rb) = reads.whole run (more ++ rb) values first in
      let same : ra ≡ run ++ (more ++ rb) = e ∙ append_assoc run more rb in
      absurd (let no : read_ok (values, more ++ rb) ≡ Err f = sym whole ∙ ap read (sym same) ∙ x in cc)
  one_broken ra rb f g (one {bytes = run} {more = more} {values = values} first others) none e x y =
      let whole : read (run ++ (more ++ ra)) ≡ Ok (values, more ++ ra) = reads.whole run (more ++ ra) values first in
      let same : run ++ (more ++ ra) ≡ rb = sym (append_assoc run more ra) ∙ e in
      absurd (let no : read_ok (values, more ++ ra) ≡ Err g = sym whole ∙ ap read same ∙ y in cc)
  one_broken ra rb f g (one {bytes = run} {more = more} {values = values} {others = vs} first others) (one {bytes = run'} {more = more'} {values = values'} {others = vs'} first' others') e x y =
      let whole : read (run ++ (more ++ ra)) ≡ Ok (values, more ++ ra) = reads.whole run (more ++ ra) values first in
      let other : read (run' ++ (more' ++ rb)) ≡ Ok (values', more' ++ rb) = reads.whole run' (more' ++ rb) values' first' in
      let same : run ++ (more ++ ra) ≡ run' ++ (more' ++ rb) = sym (append_assoc run more ra) ∙ e ∙ append_assoc run' more' rb in
      let both : read_ok (values, more ++ ra) ≡ read_ok (values', more' ++ rb) = sym whole ∙ ap read same ∙ other in
      let pair = ok_is (values, more ++ ra) (values', more' ++ rb) both in
      let rest : more ++ ra ≡ more' ++ rb = ap (λ (p : List V × List ℕ). p.1) pair in
      one_broken ra rb f g others others' rest x y

  pub broken_once : (stream : List ℕ) (n m : ℕ) (f g : RunFault) → Breaks Form read stream n f → Breaks Form read stream m g → f ≡ g
  broken_once stream n m f g a b = one_broken a.rest b.rest f g a.joined b.joined (sym a.parts ∙ b.parts) a.broken b.broken
