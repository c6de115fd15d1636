-- A part behind its length is read, and bytes that have no front of a container are refused where the longest proper list of fields ends.
use Rattle.std.proofs.Common.{◌≡◌, ◌⊎◌, inl, inr, ℕ, ◌+◌, ◌<◌, ◌≤◌, ◌^◌, Bool, true, false, cond, leb, List, [], ◌++◌, length, take, drop, Ok, Err, refl, sym}
use Rattle.std.proofs.Common.{ap, subst, ◌∙◌, append_assoc, length-append, take-append-drop, arith}
use Rattle.std.proofs.lemmas.Bool.{le-leb, leb-true}
use Rattle.std.proofs.lemmas.List.{take_at, drop_at, length-take}
use Rattle.av1_plan.specs.Format.{four, any, Format, Input, Reading, on_ok, read_field, read, read_part, start}
use Rattle.av1_plan.specs.Spelling.{text, IsPrefix}
use Rattle.av1_plan.specs.Parts.{length_text, part_text, IsProperText, IsLongestText}
use Rattle.av1_plan.proofs.Fields.{AreBytes, AreBytes-drop, field_takes, field_again, field_fails, length-le}
use Rattle.av1_plan.proofs.Spelled.{end, no_longer, ok, ok_is, reaches, read_again}

-- ---- what a reading came to

pub clash : {A : Type 0} (x : A) (at : ℕ) → ok x ≡ Err at → ⊥
clash x at e = cc

pub err_is : {A : Type 0} (a b : ℕ) (r : Reading A) → r ≡ Err a → r ≡ Err b → a ≡ b
err_is a b (Ok x) e d = absurd cc
err_is a b (Err at) e d = cc

-- where a reading under a condition stopped
pub err_at : {A : Type 0} (b : Bool) (x : A) (at d : ℕ) → cond b (ok x) (Err at) ≡ Err d → at ≡ d
err_at true x at d e = absurd cc
err_at false x at d e = cc

-- and what it read where it did not stop
pub done_ok : {A : Type 0} (b : Bool) (x y : A) (at : ℕ) → cond b (ok x) (Err at) ≡ ok y → (b ≡ true) × (x ≡ y)
done_ok true x y at e = (refl, ok_is x y e)
done_ok false x y at e = absurd cc

-- what stands behind the first of some bytes
pub fits_behind : (bytes front_text rest : List ℕ) → AreBytes bytes → bytes ≡ front_text ++ rest → AreBytes rest
fits_behind bytes front_text rest fits parts =
    subst AreBytes (drop_at front_text rest (length front_text) refl) (AreBytes-drop (length front_text) (front_text ++ rest) (subst AreBytes parts fits))

-- ---- a part

-- what stands behind a length
abbrev behind_length : ℕ × Input → Reading (List ℕ × Input)
behind_length p = cond (leb p.0 (length p.1.rest)) (Ok (take p.0 p.1.rest, record { at = p.1.at + p.0; rest = drop p.0 p.1.rest })) (Err p.1.at)

-- a part was read
pub record TakesPart (i : Input) (part : List ℕ) (j : Input) : Type 0 where
  pub short : length part < 2 ^ 32
  pub parts : i.rest ≡ part_text part ++ j.rest
  pub at : j.at ≡ i.at + length (part_text part)
  pub fits : AreBytes j.rest

-- no part was read: neither its length, or that alone
pub record StopsAt (i : Input) (at : ℕ) : Type 0 where
  pub run : List ℕ
  pub is : (run ≡ []) ⊎ ((len : ℕ) × (len < 2 ^ 32) × (run ≡ length_text len))
  pub front : IsPrefix run i.rest
  pub len : i.at + length run ≡ at

-- what a reading of a part says
abbrev pub Parted : Input → Reading (List ℕ × Input) → Type 0
Parted i (Ok p) = TakesPart i p.0 p.1
Parted i (Err at) = StopsAt i at

enough : (i : Input) (n : ℕ) (j : Input) → n < 2 ^ 32 → i.rest ≡ length_text n ++ j.rest → j.at ≡ i.at + length (length_text n) → AreBytes j.rest → (b : Bool) →
    leb n (length j.rest) ≡ b
    → Parted i (cond b (Ok (take n j.rest, record { at = j.at + n; rest = drop n j.rest })) (Err j.at))
enough i n j short parts at fits true e =
    let le : n ≤ length j.rest = leb-true n (length j.rest) e in
    let len : length (take n j.rest) ≡ n = omega (arith, length-take n j.rest, le) in
    record {
      short = omega (arith, len, short);
      parts = parts ∙ ap (λ l. length_text n ++ l) (sym (take-append-drop n j.rest)) ∙ sym (append_assoc (length_text n) (take n j.rest) (drop n j.rest))
          ∙ ap (λ (m : ℕ). (length_text m ++ take n j.rest) ++ drop n j.rest) (sym len);
      at = omega (
        arith,
        at,
        len,
        length-append (length_text (length (take n j.rest))) (take n j.rest),
        length-le four n,
        length-le four (length (take n j.rest)),
      );
      fits = AreBytes-drop n j.rest fits;
    }
enough i n j short parts at fits false e = record { run = length_text n; is = inr (n, short, refl); front = (j.rest, parts); len = sym at }

pub parted : (i : Input) → AreBytes i.rest → Parted i (read_part i)
unfolding read_part
parted i fits = elim (read_field (any four) i) as (λ r. read_field (any four) i ≡ r → Parted i (on_ok r behind_length)) [
  | Err at ↦ λ e. record { run = []; is = inl refl; front = (i.rest, refl); len = omega (arith, field_fails (any four) i at e) }
  | Ok p ↦ λ e. (
      let t = field_takes (any four) i p.0 p.1 fits e in
      enough i p.0 p.1 t.admitted.fits t.parts t.at t.fits (leb p.0 (length p.1.rest)) refl)
] refl

-- a part at the front is read
pub part_again : (at : ℕ) (part more : List ℕ) → length part < 2 ^ 32 →
    read_part (record { at = at; rest = part_text part ++ more }) ≡ Ok (part, record { at = at + length (part_text part); rest = more })
unfolding read_part
part_again at part more short =
    let n = length part in
    let long : leb n (length (part ++ more)) ≡ true = le-leb _ _ (omega (arith, length-append part more)) in
    let place : at + 4 + n ≡ at + length (part_text part) = omega (arith, length-append (length_text n) part, length-le four n) in
    rw (
      append_assoc (length_text n) part more,
      field_again (any four) at n (part ++ more) (record { fits = short; admitted = refl }),
      long,
      take_at part more n refl,
      drop_at part more n refl,
      place,
    ) refl

-- a reading that stops at a part does so behind a length that stands there
pub stops_behind : (i : Input) (len : ℕ) (more : List ℕ) → len < 2 ^ 32 → i.rest ≡ length_text len ++ more → (at : ℕ) → read_part i ≡ Err at → i.at + 4 ≤ at
unfolding read_part
stops_behind i len more short parts at e =
    let field : read_field (any four) i ≡ Ok (len, record { at = i.at + 4; rest = more }) =
    ap (λ (l : List ℕ). read_field (any four) (record { at = i.at; rest = l })) parts
    ∙ field_again (any four) i.at len more (record { fits = short; admitted = refl }) in
    let there : behind_length (len, record { at = i.at + 4; rest = more }) ≡ Err at = sym (ap (λ (r : Reading (ℕ × Input)). on_ok r behind_length) field) ∙ e in
    omega (arith, err_at (leb len (length more)) (take len more, record { at = i.at + 4 + len; rest = drop len more }) (i.at + 4) at there)

-- ---- a container

-- its front couldn't be read
pub front_refused : {A : Type 0} (front : Format A) (IsBehind : A → List ℕ → Type 0) (bytes : List ℕ) (at d : ℕ) → AreBytes bytes →
    read front (start bytes) ≡ Err d → d ≡ at → IsLongestText (IsProperText front IsBehind) bytes at
front_refused {A} front IsBehind bytes at d fits e same =
    let (values, proper, prefix, len) = reaches front (start bytes) fits in
    let came : end (read front (start bytes)) ≡ d = ap end e in
    record {
      reached = (text front values, inl (values, proper, refl), prefix, omega (arith, len, came, same));
      longest = longest came;
    }
  where
    longest : end (read front (start bytes)) ≡ d → (run : List ℕ) → IsProperText front IsBehind run → IsPrefix run bytes → length run ≤ at
    longest came run (inl (values, proper, is)) (more, parts) =
        omega (arith, came, same, ap length is, no_longer front (start bytes) values fits proper (more, parts ∙ ap (λ (l : List ℕ). l ++ more) is))
    longest came run (inr (f, (values, spells, (others, proper, is)))) (more, parts) =
        let whole : bytes ≡ text front values ++ (others ++ more) = parts ∙ ap (λ (l : List ℕ). l ++ more) is ∙ append_assoc (text front values) others more in
        let again = ap (λ (l : List ℕ). read front (start l)) whole ∙ read_again front values f 0 (others ++ more) spells in
        absurd (clash (f, _) d (sym again ∙ e))
