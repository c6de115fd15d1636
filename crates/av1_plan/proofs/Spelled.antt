-- What is read is spelled so, and what is spelled so is read; and how far a reading comes.
use Rattle.std.proofs.Common.{◌≡◌, Bool, true, false, cond, eqb, ℕ, ◌+◌, ◌≤◌, List, [], ◌∷◌, ◌++◌, length, Ok, Err, refl, sym, ap, subst, ◌∙◌, append_assoc}
use Rattle.std.proofs.Common.{arith}
use Rattle.std.specs.Int.{to_le_bytes, byte_len}
use Rattle.std.proofs.lemmas.List.{append-nil, length-append, nil_from_length}
use Rattle.std.proofs.lemmas.Bool.{eqb-true}
use Rattle.av1_plan.specs.Format.{start, Kind, Format, done, asks, width, IsAdmitted, Input, Reading, on_ok, read_field, read, ended, read_all}
use Rattle.av1_plan.specs.Spelling.{IsProper, Spells, text, AreText, IsPrefix, AreRefused}
use Rattle.av1_plan.proofs.Fields.{AreBytes, field_takes, field_again, field_fails, length-le}

-- where a reading came to
abbrev pub end : {A : Type 0} → Reading (A × Input) → ℕ
end (Ok p) = p.1.at
end (Err at) = at

abbrev pub ok : {A : Type 0} → A → Reading A
ok x = Ok x

pub ok_is : {A : Type 0} (x y : A) → ok x ≡ ok y → x ≡ y
ok_is x y e = cc

-- a reading of two steps went on from what the first gave
pub bind_ok : {A B : Type 0} (r : Reading A) (f : A → Reading B) (y : B) → on_ok r f ≡ Ok y → (x : A) × (r ≡ Ok x) × (f x ≡ Ok y)
bind_ok (Ok x) f y e = (x, refl, e)
bind_ok (Err d) f y e = absurd cc

-- a step over the field at the front
ahead : (at n : ℕ) (front rest : List ℕ) → length front ≡ n → at + n + length rest ≡ at + length (front ++ rest)
ahead at n front rest e = omega (arith, length-append front rest)

behind : (k : Kind) (v : ℕ) (rest more bytes all : List ℕ) → all ≡ to_le_bytes (width k.size) v ++ bytes → bytes ≡ rest ++ more →
    all ≡ (to_le_bytes (width k.size) v ++ rest) ++ more
behind k v rest more bytes all p q = p ∙ ap (λ (t : List ℕ). to_le_bytes (width k.size) v ++ t) q ∙ sym (append_assoc (to_le_bytes (width k.size) v) rest more)

-- ---- what is spelled is read

next_field : (k : Kind) (i : Input) (v : ℕ) (rest more : List ℕ) → IsAdmitted k v → i.rest ≡ (to_le_bytes (width k.size) v ++ rest) ++ more
    → read_field k i ≡ Ok (v, record { at = i.at + byte_len (width k.size); rest = rest ++ more })
next_field k i v rest more h e =
    ap (λ (t : List ℕ). read_field k (record { at = i.at; rest = t })) (e ∙ append_assoc (to_le_bytes (width k.size) v) rest more)
    ∙ field_again k i.at v (rest ++ more) h

pub read_again : {A : Type 0} (f : Format A) (vs : List ℕ) (x : A) (at : ℕ) (more : List ℕ) → Spells f vs x
    → read f (record { at = at; rest = text f vs ++ more }) ≡ Ok (x, record { at = at + length (text f vs); rest = more })
read_again (done y) [] x at more h = let z : at + 0 ≡ at = omega arith in rw (h, z) refl
read_again (done y) (v ∷ vs) x at more h = absurd h
read_again (asks k next) [] x at more h = absurd h
read_again (asks k next) (v ∷ vs) x at more h =
    let e = next_field k (record { at = at; rest = text (asks k next) (v ∷ vs) ++ more }) v (text (next v) vs) more h.0 refl in
    let n = ahead at (byte_len (width k.size)) (to_le_bytes (width k.size) v) (text (next v) vs) (length-le k.size v) in
    rw (e, ← n) (read_again (next v) vs x (at + byte_len (width k.size)) more h.1)

-- ---- how far a reading comes

pub reaches : {A : Type 0} (f : Format A) (i : Input) → AreBytes i.rest → (vs : List ℕ) × IsProper f vs × IsPrefix (text f vs) i.rest ×
    (i.at + length (text f vs) ≡ end (read f i))
reaches (done y) i fits = ([], tt, (i.rest, refl), omega arith)
reaches (asks k next) i fits =
    elim (read_field k i) as (λ r. read_field k i ≡ r → (vs : List ℕ) × IsProper (asks k next) vs × IsPrefix (text (asks k next) vs) i.rest ×
    (i.at + length (text (asks k next) vs) ≡ end (on_ok r (λ p. read (next p.0) p.1)))) [
      | Err at ↦ λ e. ([], tt, (i.rest, refl), omega (arith, field_fails k i at e))
      | Ok p ↦ λ e.
          let t = field_takes k i p.0 p.1 fits e in
          let (vs, proper, (more, is), len) = reaches (next p.0) p.1 t.fits in (
            p.0 ∷ vs,
            (t.admitted, proper),
            (more, behind k p.0 (text (next p.0) vs) more p.1.rest i.rest t.parts is),
            omega (arith, t.at, len, length-append (to_le_bytes (width k.size) p.0) (text (next p.0) vs)),
          )
    ] refl

pub no_longer : {A : Type 0} (f : Format A) (i : Input) (vs : List ℕ) → AreBytes i.rest → IsProper f vs → IsPrefix (text f vs) i.rest →
    i.at + length (text f vs) ≤ end (read f i)
no_longer f i [] fits h p = omega (arith, (reaches f i fits).3)
no_longer (done y) i (v ∷ vs) fits h p = absurd h
no_longer (asks k next) i (v ∷ vs) fits h p =
    let e = next_field k i v (text (next v) vs) p.0 h.0 p.1 in
    let j : Input = record { at = i.at + byte_len (width k.size); rest = text (next v) vs ++ p.0 } in
    let further = no_longer (next v) j vs (field_takes k i v j fits e).fits h.1 (p.0, refl) in
    let n = ahead i.at (byte_len (width k.size)) (to_le_bytes (width k.size) v) (text (next v) vs) (length-le k.size v) in
    rw (e, ← n) further

-- ---- what is read is spelled

pub read_spells : {A : Type 0} (f : Format A) (i : Input) (x : A) (j : Input) → AreBytes i.rest → read f i ≡ Ok (x, j) →
    (vs : List ℕ) × Spells f vs x × (i.rest ≡ text f vs ++ j.rest)
read_spells (done y) i x j fits e =
    let p = ok_is (y, i) (x, j) e in
    ([], ap (λ (q : _ × Input). q.0) p, ap (λ (q : _ × Input). q.1.rest) p)
read_spells (asks k next) i x j fits e =
    let b = bind_ok (read_field k i) (λ p. read (next p.0) p.1) (x, j) e in
    let t = field_takes k i b.0.0 b.0.1 fits b.1 in
    let (vs, spelled, is) = read_spells (next b.0.0) b.0.1 x j t.fits b.2 in
    (b.0.0 ∷ vs, (t.admitted, spelled), behind k b.0.0 (text (next b.0.0) vs) j.rest b.0.1.rest i.rest t.parts is)

-- ---- all of the bytes

done_ok : {A : Type 0} (b : Bool) (y : A) (at : ℕ) (x : A) → cond b (ok y) (Err at) ≡ ok x → (b ≡ true) × (y ≡ x)
done_ok true y at x e = (refl, cc)
done_ok false y at x e = absurd cc

done_err : {A : Type 0} (b : Bool) (y : A) (at d : ℕ) → cond b (ok y) (Err at) ≡ Err d → at ≡ d
done_err true y at d e = absurd cc
done_err false y at d e = cc

ended_err : {A : Type 0} (r : Reading (A × Input)) (d : ℕ) → on_ok r ended ≡ Err d → end r ≡ d
ended_err (Ok p) d e = done_err (eqb (length p.1.rest) 0) p.0 p.1.at d e
ended_err (Err at) d e = cc

pub all_again : {A : Type 0} (f : Format A) (bytes : List ℕ) (x : A) → AreText f bytes x → read_all f (record { at = 0; rest = bytes }) ≡ Ok x
all_again f bytes x t =
    let e : read f (record { at = 0; rest = bytes }) ≡ Ok (x, record { at = 0 + length (text f t.0); rest = [] }) =
    ap (λ (b : List ℕ). read f (record { at = 0; rest = b })) (t.2 ∙ sym (append-nil (text f t.0))) ∙ read_again f t.0 x 0 [] t.1 in
    rw e refl

-- bytes are the text of one value at most
pub one_text : {A : Type 0} (f : Format A) (bytes : List ℕ) (x y : A) → AreText f bytes x → AreText f bytes y → x ≡ y
one_text f bytes x y t u = ok_is x y (sym (all_again f bytes x t) ∙ all_again f bytes y u)

pub all_found : {A : Type 0} (f : Format A) (bytes : List ℕ) (x : A) → AreBytes bytes → read_all f (record { at = 0; rest = bytes }) ≡ Ok x → AreText f bytes x
all_found f bytes x fits e =
    let i : Input = record { at = 0; rest = bytes } in
    let b = bind_ok (read f i) ended x e in
    let d = done_ok (eqb (length b.0.1.rest) 0) b.0.0 b.0.1.at x b.2 in
    let nothing : b.0.1.rest ≡ [] = nil_from_length b.0.1.rest (eqb-true _ _ d.0) in
    let s = read_spells f i b.0.0 b.0.1 fits b.1 in
    (s.0, subst (λ (y : _). Spells f s.0 y) d.1 s.1, s.2 ∙ ap (λ (t : List ℕ). text f s.0 ++ t) nothing ∙ append-nil (text f s.0))

clash : {A : Type 0} (x : A) (d : ℕ) → ok x ≡ Err d → ⊥
clash x d e = cc

pub all_refused : {A : Type 0} (f : Format A) (bytes : List ℕ) (d : ℕ) → AreBytes bytes → read_all f (start bytes) ≡ Err d → AreRefused f bytes d
all_refused f bytes d fits e =
    let i = start bytes in
    let is = ended_err (read f i) d e in
    let r = reaches f i fits in
    record {
      no_text = λ x t. clash x d (sym (all_again f bytes x t) ∙ e);
      first = record {
        reached = (r.0, r.1, r.2, omega (arith, r.3));
        longest = λ vs h p. omega (arith, no_longer f i vs fits h p);
      };
    }
