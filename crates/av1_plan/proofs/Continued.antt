-- Behind a front that is spelled, the bytes of two formats in turn are those of the second: what they spell, and where they are refused.
use Rattle.std.proofs.Common.{◌≡◌, ℕ, ◌+◌, ◌≤◌, List, [], ◌∷◌, ◌++◌, length, refl, sym, ap, subst, ◌∙◌, append_assoc, arith}
use Rattle.std.specs.Int.{to_le_bytes}
use Rattle.std.proofs.lemmas.List.{length-append}
use Rattle.av1_plan.specs.declared.header.Header.{Header}
use Rattle.av1_plan.specs.Format.{Kind, Format, done, asks, ◌>>=◌, width, IsAdmitted, read_field}
use Rattle.av1_plan.specs.Grammar.{header, references, plan, plan_behind}
use Rattle.av1_plan.specs.Pieces.{PlanIsPieces, PiecesAreRefused}
use Rattle.av1_plan.specs.Plan.{PlanValue}
use Rattle.av1_plan.specs.Spelling.{IsProper, Spells, text, AreText, IsPrefix, AreRefused}
use Rattle.av1_plan.proofs.Fields.{field_again}
use Rattle.av1_plan.proofs.Spelled.{ok_is}

-- two fields that begin the same bytes are one
fields_same : (k : Kind) (v w : ℕ) (xs ys : List ℕ) → IsAdmitted k v → IsAdmitted k w →
    to_le_bytes (width k.size) v ++ xs ≡ to_le_bytes (width k.size) w ++ ys → (v ≡ w) × (xs ≡ ys)
fields_same k v w xs ys v_in w_in e =
    let p = ok_is _ _ (sym (field_again k 0 v xs v_in) ∙ ap (λ (bytes : List ℕ). read_field k (record { at = 0; rest = bytes })) e
    ∙ field_again k 0 w ys w_in) in
    (ap (λ q. q.0) p, ap (λ q. q.1.rest) p)

module _ {A B : Type 0} (g : A → Format B) where
  proper_on : (f : Format A) (vs : List ℕ) (x : A) (us : List ℕ) → Spells f vs x → IsProper (g x) us → IsProper (f >>= g) (vs ++ us)
  proper_on (done z) [] x us s p = subst (λ (a : A). IsProper (g a) us) (sym s) p
  proper_on (done z) (v ∷ vs) x us s p = absurd s
  proper_on (asks k next) [] x us s p = absurd s
  proper_on (asks k next) (v ∷ vs) x us s p = (s.0, proper_on (next v) vs x us s.1 p)

  text_on : (f : Format A) (vs : List ℕ) (x : A) (us : List ℕ) → Spells f vs x → text (f >>= g) (vs ++ us) ≡ text f vs ++ text (g x) us
  text_on (done z) [] x us s = ap (λ (a : A). text (g a) us) s
  text_on (done z) (v ∷ vs) x us s = absurd s
  text_on (asks k next) [] x us s = absurd s
  text_on (asks k next) (v ∷ vs) x us s =
      ap (λ (bytes : List ℕ). to_le_bytes (width k.size) v ++ bytes) (text_on (next v) vs x us s.1)
      ∙ sym (append_assoc (to_le_bytes (width k.size) v) (text (next v) vs) (text (g x) us))

  -- what the whole spells, the rest spells behind the front
  spelled_on : (f : Format A) (vs : List ℕ) (x : A) (ws : List ℕ) (y : B) (rest : List ℕ) → Spells f vs x → Spells (f >>= g) ws y →
      text f vs ++ rest ≡ text (f >>= g) ws → (us : List ℕ) × Spells (g x) us y × (rest ≡ text (g x) us)
  spelled_on (done z) [] x ws y rest s t e = subst (λ (a : A). (us : List ℕ) × Spells (g a) us y × (rest ≡ text (g a) us)) s (ws, t, e)
  spelled_on (done z) (v ∷ vs) x ws y rest s t e = absurd s
  spelled_on (asks k next) [] x ws y rest s t e = absurd s
  spelled_on (asks k next) (v ∷ vs) x [] y rest s t e = absurd t
  spelled_on (asks k next) (v ∷ vs) x (w ∷ ws) y rest s t e =
      let (same, later) = fields_same k v w (text (next v) vs ++ rest) (text (next w >>= g) ws) s.0 t.0
      (sym (append_assoc (to_le_bytes (width k.size) v) (text (next v) vs) rest) ∙ e) in
      spelled_on (next v) vs x ws y rest s.1 (subst (λ (n : ℕ). Spells (next n >>= g) ws y) (sym same) t.1)
      (later ∙ ap (λ (n : ℕ). text (next n >>= g) ws) (sym same))

  -- the whole reaches no further than the rest does behind the front
  longest_on : (f : Format A) (vs : List ℕ) (x : A) (rest : List ℕ) (at : ℕ) → Spells f vs x →
      ((us : List ℕ) → IsProper (g x) us → IsPrefix (text (g x) us) rest → length (text (g x) us) ≤ at)
      → (ws : List ℕ) → IsProper (f >>= g) ws → IsPrefix (text (f >>= g) ws) (text f vs ++ rest) → length (text (f >>= g) ws) ≤ length (text f vs) + at
  longest_on (done z) [] x rest at s longest ws p (more, e) =
      let le = longest ws (subst (λ (a : A). IsProper (g a) ws) s p) (more, e ∙ ap (λ (a : A). text (g a) ws ++ more) s) in
      subst (λ (a : A). length (text (g a) ws) ≤ 0 + at) (sym s) (omega (arith, le))
  longest_on (done z) (v ∷ vs) x rest at s longest ws p prefix = absurd s
  longest_on (asks k next) [] x rest at s longest ws p prefix = absurd s
  longest_on (asks k next) (v ∷ vs) x rest at s longest [] p prefix = omega arith
  longest_on (asks k next) (v ∷ vs) x rest at s longest (w ∷ ws) p (more, e) =
      let front = to_le_bytes (width k.size) in
      let (same, later) = fields_same k v w (text (next v) vs ++ rest) (text (next w >>= g) ws ++ more) s.0 p.0
      (sym (append_assoc (front v) (text (next v) vs) rest) ∙ e ∙ append_assoc (front w) (text (next w >>= g) ws) more) in
      let le = longest_on (next v) vs x rest at s.1 longest ws (subst (λ (n : ℕ). IsProper (next n >>= g) ws) (sym same) p.1)
      (more, later ∙ ap (λ (n : ℕ). text (next n >>= g) ws ++ more) (sym same)) in
      subst (λ (n : ℕ). length (front n ++ text (next n >>= g) ws) ≤ length (front v ++ text (next v) vs) + at) same
      (omega (arith, le, length-append (front v) (text (next v >>= g) ws), length-append (front v) (text (next v) vs)))

  text_behind : (f : Format A) (front rest : List ℕ) (x : A) (y : B) → AreText f front x → AreText (f >>= g) (front ++ rest) y → AreText (g x) rest y
  text_behind f front rest x y (vs, s, e) (ws, t, d) = spelled_on f vs x ws y rest s t (ap (λ (bytes : List ℕ). bytes ++ rest) (sym e) ∙ d)

  refused_behind : (f : Format A) (front rest : List ℕ) (x : A) (at : ℕ) → AreText f front x → AreRefused (g x) rest at →
      AreRefused (f >>= g) (front ++ rest) (length front + at)
  refused_behind f front rest x at (vs, s, e) r =
      let (us, proper, (more, is), reached) = r.first.reached in
      let whole : front ++ rest ≡ text (f >>= g) (vs ++ us) ++ more = ap (λ (bytes : List ℕ). bytes ++ rest) e ∙ ap (λ (bytes : List ℕ). text f vs ++ bytes) is
      ∙ sym (append_assoc (text f vs) (text (g x) us) more) ∙ ap (λ (bytes : List ℕ). bytes ++ more) (sym (text_on f vs x us s)) in
      record {
        no_text = λ y t. r.no_text y (text_behind f front rest x y (vs, s, e) t);
        first = record {
          reached = (
            vs ++ us,
            proper_on f vs x us s proper,
            (more, whole),
            ap length (text_on f vs x us s) ∙ omega (arith, length-append (text f vs) (text (g x) us), reached, ap length e),
          );
          longest = λ ws p prefix.
              let told = subst (IsPrefix (text (f >>= g) ws)) (ap (λ (bytes : List ℕ). bytes ++ rest) e) prefix in
              let le = longest_on f vs x rest at s r.first.longest ws p told in
              omega (arith, le, ap length e);
        };
      }

-- ---- plans

-- what stands behind a header
abbrev behind_header : Header → Format PlanValue
behind_header h = references h >>= plan_behind h

plan_is : plan ≡ (header >>= behind_header)
unfolding plan plan_behind
plan_is = refl

pub plan_is_pieces : PlanIsPieces
plan_is_pieces head samples part h stored p head_is samples_is whole =
    let bytes = append_assoc head samples part in
    let t : AreText (header >>= behind_header) (head ++ (samples ++ part)) p =
    subst (λ (f : Format PlanValue). AreText f (head ++ (samples ++ part)) p) plan_is (subst (λ (b : List ℕ). AreText plan b p) bytes whole) in
    text_behind (plan_behind h) (references h) samples part stored p samples_is
    (text_behind behind_header header head (samples ++ part) h p head_is t)

pub pieces_are_refused : PiecesAreRefused
pieces_are_refused head samples part h stored at head_is samples_is refused =
    let behind = refused_behind (plan_behind h) (references h) samples part stored at samples_is refused in
    let whole = refused_behind behind_header header head (samples ++ part) h (length samples + at) head_is behind in
    let place : length head + (length samples + at) ≡ length head + length samples + at = omega arith in
    subst (λ (f : Format PlanValue). AreRefused f (head ++ samples ++ part) (length head + length samples + at)) (sym plan_is)
    (subst (λ (b : List ℕ). AreRefused (header >>= behind_header) b (length head + length samples + at)) (sym (append_assoc head samples part))
    (subst (AreRefused (header >>= behind_header) (head ++ (samples ++ part))) place whole))
