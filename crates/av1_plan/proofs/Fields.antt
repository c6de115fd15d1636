-- A field that is read is one that is spelled, and what is spelled is read.
use Rattle.std.proofs.Common.{◌≡◌, ℕ, ◌+◌, ◌<◌, ◌≤◌, Bool, true, false, ◌&&◌, cond, leb, List, [], ◌∷◌, ◌++◌, length, get_or, take, drop, Ok, Err, refl, sym}
use Rattle.std.proofs.Common.{ap, subst, ◌∙◌, arith, inl, inr, IsTrue}
use Rattle.std.specs.Int.{w8, byte_len, from_le_bytes, to_le_bytes}
use Rattle.std.proofs.lemmas.Bool.{cases_lt, leb-true, le-leb}
use Rattle.std.proofs.lemmas.List.{take_at, drop_at, take-append-drop, length-append, length-take, get_or-drop, get_or-take, get_or_past}
use Rattle.std.proofs.lemmas.Nat.{le_bytes_2, le_bytes_4, from_le_bytes-to_le_bytes_2, from_le_bytes-to_le_bytes_4}
use Rattle.av1_plan.specs.Format.{Length, one, two, four, width, limit, Kind, IsAdmitted, Input, Reading, read_field}

abbrev pub AreBytes : List ℕ → Type 0
AreBytes bytes = (i : ℕ) → get_or bytes i 0 < 256

pub AreBytes-drop : (n : ℕ) (bytes : List ℕ) → AreBytes bytes → AreBytes (drop n bytes)
AreBytes-drop n bytes h i = rw get_or-drop (h (n + i))

AreBytes-take : (n : ℕ) (bytes : List ℕ) → AreBytes bytes → AreBytes (take n bytes)
AreBytes-take n bytes h i =
    elim (cases_lt i n) [
      | inl lt ↦ rw (get_or-take n bytes i 0 lt) (h i)
      | inr le ↦ rw (get_or_past (take n bytes) i 0 (omega (arith, length-take n bytes))) (omega arith)
    ]

-- ---- numbers

pub length-le : (s : Length) (n : ℕ) → length (to_le_bytes (width s) n) ≡ byte_len (width s)
length-le one n = refl
length-le two n = refl
length-le four n = refl

lone_byte : (bytes : List ℕ) → length bytes ≡ 1 → AreBytes bytes → to_le_bytes w8 (from_le_bytes w8 bytes) ≡ bytes
lone_byte [] len fits = absurd (omega arith)
lone_byte (a ∷ []) len fits = let h = fits 0 in ap (λ (n : ℕ). n ∷ []) (omega arith)
lone_byte (a ∷ b ∷ bytes) len fits = absurd (omega arith)

back : (s : Length) (bytes : List ℕ) → length bytes ≡ byte_len (width s) → AreBytes bytes → to_le_bytes (width s) (from_le_bytes (width s) bytes) ≡ bytes
back one bytes len fits = lone_byte bytes len fits
back two bytes len fits = le_bytes_2 bytes _ len fits refl
back four bytes len fits = le_bytes_4 bytes _ len fits refl

pub again : (s : Length) (n : ℕ) → n < limit s → from_le_bytes (width s) (to_le_bytes (width s) n) ≡ n
again one n lt = omega arith
again two n lt = from_le_bytes-to_le_bytes_2 n lt
again four n lt = from_le_bytes-to_le_bytes_4 n lt

below : (s : Length) (bytes : List ℕ) → AreBytes bytes → from_le_bytes (width s) bytes < limit s
below one bytes fits = omega (arith, fits 0)
below two bytes fits = omega (arith, fits 0, fits 1)
below four bytes fits = omega (arith, fits 0, fits 1, fits 2, fits 3)

-- ---- fields

-- v stands at the front of what was read
pub record Takes (k : Kind) (i : Input) (v : ℕ) (j : Input) : Type 0 where
  pub admitted : IsAdmitted k v
  pub parts : i.rest ≡ to_le_bytes (width k.size) v ++ j.rest
  pub at : j.at ≡ i.at + length (to_le_bytes (width k.size) v)
  pub fits : AreBytes j.rest

abbrev ok : ℕ × Input → Reading (ℕ × Input)
ok p = Ok p

guard_ok : (a : Bool) (at : ℕ) (x y : ℕ × Input) → cond a (ok x) (Err at) ≡ ok y → (a ≡ true) × (x ≡ y)
guard_ok true at x y e = (refl, cc)
guard_ok false at x y e = absurd cc

both : (a b : Bool) → (a && b) ≡ true → (a ≡ true) × (b ≡ true)
both true b h = (refl, h)
both false b h = absurd cc

pub field_takes : (k : Kind) (i : Input) (v : ℕ) (j : Input) → AreBytes i.rest → read_field k i ≡ Ok (v, j) → Takes k i v j
unfolding read_field
field_takes k i v j fits e =
    let n = byte_len (width k.size) in
    let value = from_le_bytes (width k.size) (take n i.rest) in
    let g = guard_ok (leb n (length i.rest) && k.admits value) i.at (value, record { at = i.at + n; rest = drop n i.rest }) (v, j) e in
    let t = both (leb n (length i.rest)) (k.admits value) g.0 in
    let long : n ≤ length i.rest = leb-true _ _ t.0 in
    let v-is : value ≡ v = ap (λ (p : ℕ × Input). p.0) g.1 in
    let at-is : i.at + n ≡ j.at = ap (λ (p : ℕ × Input). p.1.at) g.1 in
    let rest-is : drop n i.rest ≡ j.rest = ap (λ (p : ℕ × Input). p.1.rest) g.1 in
    let fits-front = AreBytes-take n i.rest fits in
    let front : to_le_bytes (width k.size) v ≡ take n i.rest = ap (λ (x : ℕ). to_le_bytes (width k.size) x) (sym v-is)
    ∙ back k.size (take n i.rest) (omega (arith, length-take n i.rest)) fits-front in
    record {
      admitted = record {
        fits = subst (λ (x : ℕ). x < limit k.size) v-is (below k.size (take n i.rest) fits-front);
        admitted = subst (λ (x : ℕ). IsTrue (k.admits x)) v-is t.1;
      };
      parts = sym (take-append-drop n i.rest) ∙ ap (λ (x : List ℕ). x ++ drop n i.rest) (sym front)
          ∙ ap (λ (x : List ℕ). to_le_bytes (width k.size) v ++ x) rest-is;
      at = sym at-is ∙ ap (λ (x : ℕ). i.at + x) (sym (length-le k.size v));
      fits = subst AreBytes rest-is (AreBytes-drop n i.rest fits);
    }

-- a field of admitted value at the front
front_field : (k : Kind) (at v : ℕ) (bytes more : List ℕ) → length bytes ≡ byte_len (width k.size) → from_le_bytes (width k.size) bytes ≡ v →
    IsTrue (k.admits v)
    → read_field k (record { at = at; rest = bytes ++ more }) ≡ Ok (v, record { at = at + byte_len (width k.size); rest = more })
unfolding read_field
front_field k at v bytes more len is h =
    let long : leb (byte_len (width k.size)) (length (bytes ++ more)) ≡ true = le-leb _ _ (omega (arith, length-append bytes more)) in
    rw (long, take_at bytes more (byte_len (width k.size)) len, drop_at bytes more (byte_len (width k.size)) len, is, h) refl

pub field_again : (k : Kind) (at v : ℕ) (more : List ℕ) → IsAdmitted k v →
    read_field k (record { at = at; rest = to_le_bytes (width k.size) v ++ more }) ≡ Ok (v, record { at = at + byte_len (width k.size); rest = more })
field_again k at v more h = front_field k at v (to_le_bytes (width k.size) v) more (length-le k.size v) (again k.size v h.fits) h.admitted

guard_err : (a : Bool) (at : ℕ) (x : ℕ × Input) (d : ℕ) → cond a (ok x) (Err at) ≡ Err d → at ≡ d
guard_err true at x d e = absurd cc
guard_err false at x d e = cc

pub field_fails : (k : Kind) (i : Input) (d : ℕ) → read_field k i ≡ Err d → i.at ≡ d
unfolding read_field
field_fails k i d e =
    let n = byte_len (width k.size) in
    let value = from_le_bytes (width k.size) (take n i.rest) in
    guard_err (leb n (length i.rest) && k.admits value) i.at (value, record { at = i.at + n; rest = drop n i.rest }) d e
