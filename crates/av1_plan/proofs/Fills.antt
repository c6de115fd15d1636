-- Drafts that fill a format: whatever is drawn, the fields that are written are such as the format asks for, and no more than so many
-- bytes.
use Rattle.std.proofs.Common.{◌≡◌, ℕ, zero, suc, ◌+◌, ◌*◌, ◌%◌, ◌<◌, ◌≤◌, List, [], ◌∷◌, ◌++◌, length, refl, sym, ◌∙◌, append_assoc, arith, length-append}
use Rattle.std.specs.Int.{to_le_bytes, byte_len}
use Rattle.std.proofs.lemmas.List.{append-nil}
use Rattle.av1_plan.specs.Format.{width, Kind, IsAdmitted, Format, done, asks, ◌>>=◌, lone, ◌++>◌, in_turn}
use Rattle.av1_plan.specs.Spelling.{Spells, text}
use Rattle.av1_plan.proofs.Carried.{joined}
use Rattle.av1_plan.proofs.Fields.{length-le}
use Rattle.av1_plan.specs.Draft.{Draft, nothing, writes, draws, ◌>>◌, each, written}

-- behind the bytes before stand fields such as f asks for, of at most n bytes, and P holds of what they spell
pub record Filled {A : Type 0} (f : Format A) (n : ℕ) (P : A → Type 0) (before after : List ℕ) : Type 0 where
  pub value : A
  pub values : List ℕ
  pub spells : Spells f values value
  pub bytes : after ≡ before ++ text f values
  pub few : length (text f values) ≤ n
  pub holds : P value

-- the draft writes such fields, whatever is drawn
pub record Fills {A : Type 0} (d : Draft) (f : Format A) (n : ℕ) (P : A → Type 0) : Type 0 where
  pub fills : (next number : ℕ → ℕ) (s : List ℕ × ℕ) → Filled f n P s.0 (written next number d s).0

-- ---- one format behind another

filled_behind : {A B : Type 0} (f : Format A) (g : A → Format B) (m n : ℕ) (P : A → Type 0) (Q : B → Type 0) (a b c : List ℕ)
    → (r : Filled f m P a b) → Filled (g r.value) n Q b c → Filled (f >>= g) (m + n) Q a c
filled_behind f g m n P Q a b c r t =
    let (spells, is) = joined f g r.value t.value r.values t.values r.spells t.spells in
    record {
      value = t.value;
      values = r.values ++ t.values;
      spells = spells;
      bytes = t.bytes ∙ rw (r.bytes, is) (append_assoc a (text f r.values) (text (g r.value) t.values));
      few = rw (is, length-append) (omega (arith, r.few, t.few));
      holds = t.holds;
    }

pub follows : {A B : Type 0} {d e : Draft} {f : Format A} {m n : ℕ} {P : A → Type 0} {Q : B → Type 0} (g : A → Format B)
    → Fills d f m P → ((x : A) → P x → Fills e (g x) n Q) → Fills (d >> e) (f >>= g) (m + n) Q
follows {d = d} {f = f} {m = m} {n = n} {P = P} {Q = Q} g a b = record {
  fills = λ next number s.
      let r = a.fills next number s in
      filled_behind f g m n P Q s.0 _ _ r ((b r.value r.holds).fills next number (written next number d s));
}

-- a draft that fills f fills what goes on behind it without a field
pub ends : {A B : Type 0} {d : Draft} {f : Format A} {m : ℕ} {P : A → Type 0} {Q : B → Type 0} (g : A → Format B)
    → Fills d f m P → ((x : A) → P x → Fills nothing (g x) 0 Q) → Fills d (f >>= g) (m + 0) Q
ends {d = d} {f = f} {m = m} {P = P} {Q = Q} g a b = record { fills = (follows {d = d} {e = nothing} {f = f} {m = m} {n = 0} {P = P} {Q = Q} g a b).fills }

-- ---- one field, none, and draws

pub fills_done : {A : Type 0} {P : A → Type 0} (x : A) → P x → Fills nothing (done x) 0 P
fills_done x p = record {
  fills = λ next number s. record { value = x; values = []; spells = refl; bytes = sym (append-nil s.0); few = omega arith; holds = p };
}

-- a field, and then what its value decides
pub asked : {A : Type 0} {d : Draft} {n : ℕ} {P : A → Type 0} (k : Kind) (next : ℕ → Format A) (v : ℕ) → IsAdmitted k v → Fills d (next v) n P
    → Fills (writes k.size v >> d) (asks k next) (byte_len (width k.size) + n) P
asked {d = d} {n = n} {P = P} k next v is a = record {
  fills = λ step number s.
      let r = a.fills step number (s.0 ++ to_le_bytes (width k.size) v, s.1) in
      record {
        value = r.value;
        values = v ∷ r.values;
        spells = (is, r.spells);
        bytes = r.bytes ∙ append_assoc s.0 (to_le_bytes (width k.size) v) (text (next v) r.values);
        few = rw (length-append, length-le k.size v) (omega (arith, r.few));
        holds = r.holds;
      };
}

-- a last field
pub asked_last : {A : Type 0} {P : A → Type 0} (k : Kind) (next : ℕ → Format A) (v : ℕ) → IsAdmitted k v → Fills nothing (next v) 0 P
    → Fills (writes k.size v) (asks k next) (byte_len (width k.size)) P
asked_last {P = P} k next v is a = record {
  fills = λ step number s. more (omega arith) ((asked {d = nothing} {n = 0} {P = P} k next v is a).fills step number s);
}
  where
    more : {A : Type 0} {f : Format A} {m n : ℕ} {P : A → Type 0} {b c : List ℕ} → m ≤ n → Filled f m P b c → Filled f n P b c
    more le r = record { value = r.value; values = r.values; spells = r.spells; bytes = r.bytes; few = omega (arith, r.few); holds = r.holds }

-- more bytes and less said
pub weaker : {A : Type 0} {d : Draft} {f : Format A} {m n : ℕ} {P Q : A → Type 0} → m ≤ n → ((x : A) → P x → Q x) → Fills d f m P → Fills d f n Q
weaker le h a = record {
  fills = λ next number s.
      let r = a.fills next number s in
      record { value = r.value; values = r.values; spells = r.spells; bytes = r.bytes; few = omega (arith, r.few); holds = h r.value r.holds };
}

-- whatever number below k is drawn
pub drawing : {A : Type 0} {f : Format A} {n : ℕ} {P : A → Type 0} (k : ℕ) (d : ℕ → Draft) → 0 < k → ((v : ℕ) → v < k → Fills (d v) f n P) →
    Fills (draws k d) f n P
drawing k d lt h = record { fills = λ next number s. (h (number (next s.1) % k) (omega arith)).fills next number (s.0, next s.1) }

-- ---- lists

pub fills_lone : {A : Type 0} {d : Draft} {f : Format A} {n : ℕ} {P : A → Type 0} {Q : List A → Type 0} → Fills d f n P → ((x : A) → P x → Q (x ∷ [])) →
    Fills d (lone f) n Q
fills_lone {n = n} a h = weaker (omega arith) (λ x q. q) (ends (λ x. done (x ∷ [])) a (λ x p. fills_done (x ∷ []) (h x p)))

-- what holds of two lists holds of one behind the other, and of none
pub record Grows {A : Type 0} (P : List A → Type 0) : Type 0 where
  pub none : P []
  pub both : (xs ys : List A) → P xs → P ys → P (xs ++ ys)

pub fills_both : {A : Type 0} {d e : Draft} {f g : Format (List A)} {m n : ℕ} {P : List A → Type 0} → Grows P → Fills d f m P → Fills e g n P →
    Fills (d >> e) (f ++> g) (m + n) P
fills_both {g = g} {m = m} {n = n} {P = P} grows a b =
    weaker (omega arith) (λ x q. q)
    (follows (λ xs. g >>= λ ys. done (xs ++ ys)) a (λ xs p. ends (λ ys. done (xs ++ ys)) b (λ ys q. fills_done (xs ++ ys) (grows.both xs ys p q))))

-- four of them: a format puts them together from the left, a draft from the right
pub four_fill : {A : Type 0} {a b c d : Draft} {f g h k : Format (List A)} {n : ℕ} {P : List A → Type 0} → Grows P → Fills a f n P → Fills b g n P →
    Fills c h n P → Fills d k n P
    → Fills (a >> b >> c >> d) (f ++> g ++> h ++> k) (4 * n) P
four_fill {a = a} {b = b} {c = c} {d = d} {f = f} {g = g} {h = h} {k = k} {n = n} {P = P} grows r s t u =
    let whole : Fills (((a >> b) >> c) >> d) (f ++> g ++> h ++> k) (n + n + n + n) P = fills_both grows (fills_both grows (fills_both grows r s) t) u in
    let same : Fills (a >> b >> c >> d) (f ++> g ++> h ++> k) (n + n + n + n) P = record { fills = whole.fills } in
    weaker (omega arith) (λ x q. q) same

pub fills_each : {A : Type 0} {P : List A → Type 0} (d : ℕ → Draft) (f : ℕ → Format (List A)) (m i n : ℕ) → Grows P →
    ((j : ℕ) → i ≤ j → j < i + n → Fills (d j) (f j) m P)
    → Fills (each d i n) (in_turn f i n) (n * m) P
unfolding each in_turn
fills_each d f m i zero grows h = weaker (omega arith) (λ x q. q) (fills_done [] grows.none)
fills_each d f m i (suc n) grows h =
    weaker (omega arith) (λ x q. q)
    (fills_both grows (h i (omega arith) (omega arith)) (fills_each d f m (i + 1) n grows (λ j le lt. h j (omega arith) (omega arith))))
