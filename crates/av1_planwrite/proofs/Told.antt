-- What the fields of a format are as bytes, told by the value that they spell.
use Rattle.std.proofs.Common.{◌≡◌, ℕ, zero, suc, ◌+◌, List, [], ◌∷◌, ◌++◌, length, refl, sym, ap, ◌∙◌}
use Rattle.std.specs.List.{flat_map}
use Rattle.std.specs.Int.{to_le_bytes}
use Rattle.std.proofs.lemmas.List.{append-nil}
use Rattle.av1_plan.specs.Format.{Kind, IsAdmitted, Format, done, asks, ◌>>=◌, lone, in_turn, width}
use Rattle.av1_plan.specs.Spelling.{Spells, text}
use Rattle.av1_plan.proofs.Carried.{apart}

-- ---- the fields one by one

-- nothing is asked for: no bytes, and the value is the format's own
pub record IsEnded {A : Type 0} (x y : A) (bytes : List ℕ) : Type 0 where
  pub value : x ≡ y
  pub no_bytes : bytes ≡ []

pub ended : {A : Type 0} (x y : A) (vs : List ℕ) → Spells (done x) vs y → IsEnded x y (text (done x) vs)
ended x y [] s = record { value = s; no_bytes = refl }
ended x y (v ∷ vs) s = absurd s

-- a field is asked for: its number, and what is spelled behind it
pub record IsAsked {A : Type 0} (k : Kind) (next : ℕ → Format A) (y : A) (bytes : List ℕ) : Type 0 where
  pub number : ℕ
  pub admitted : IsAdmitted k number
  pub values : List ℕ
  pub spells : Spells (next number) values y
  pub bytes_are : bytes ≡ to_le_bytes (width k.size) number ++ text (next number) values

pub asked : {A : Type 0} (k : Kind) (next : ℕ → Format A) (y : A) (vs : List ℕ) → Spells (asks k next) vs y → IsAsked k next y (text (asks k next) vs)
asked k next y [] s = absurd s
asked k next y (v ∷ vs) s = record { number = v; admitted = s.0; values = vs; spells = s.1; bytes_are = refl }

-- ---- formats whose bytes are told by a view of the value

pub record Tells {A : Type 0} (f : Format A) (view : A → List ℕ) : Type 0 where
  pub tells : (vs : List ℕ) (x : A) → Spells f vs x → text f vs ≡ view x

-- items one after the other
pub turns_tell : {A : Type 0} (f : ℕ → Format A) (view : A → List ℕ) (i n : ℕ) → ((j : ℕ) → Tells (f j) view) →
    Tells (in_turn (λ j. lone (f j)) i n) (flat_map view)
unfolding in_turn
turns_tell f view i zero each = record { tells = λ vs xs s. let e = ended [] xs vs s in e.no_bytes ∙ ap (flat_map view) e.value }
turns_tell {A} f view i (suc n) each = record {
  tells = λ vs zs s.
      let rest = in_turn (λ j. lone (f j)) (i + 1) n in
      let a = apart (lone (f i)) (λ xs. rest >>= λ ys. done (xs ++ ys)) zs vs s in
      let b = apart (f i) (λ x. done (x ∷ [])) a.between a.front a.front_spells in
      let c = ended (b.between ∷ []) a.between b.behind b.behind_spells in
      let d = apart rest (λ ys. done (a.between ++ ys)) zs a.behind a.behind_spells in
      let e = ended (a.between ++ d.between) zs d.behind d.behind_spells in
      let first : text (lone (f i)) a.front ≡ view b.between ++ [] = b.bytes ∙ both ((each i).tells b.front b.between b.front_spells) c.no_bytes in
      let later : text (rest >>= λ ys. done (a.between ++ ys)) a.behind ≡ flat_map view d.between ++ [] = d.bytes
      ∙ both ((turns_tell f view (i + 1) n each).tells d.front d.between d.front_spells) e.no_bytes in
      let items : (b.between ∷ []) ++ d.between ≡ zs = ap (λ (xs : List A). xs ++ d.between) c.value ∙ e.value in
      a.bytes ∙ both (first ∙ append-nil _) (later ∙ append-nil _) ∙ ap (flat_map view) items;
}
  where
    both : {a b c d : List ℕ} → a ≡ b → c ≡ d → a ++ c ≡ b ++ d
    both e f = rw (e, f) refl

-- how many items there are
pub turns_count : {A : Type 0} (f : ℕ → Format A) (i n : ℕ) (vs : List ℕ) (zs : List A) → Spells (in_turn (λ j. lone (f j)) i n) vs zs → length zs ≡ n
unfolding in_turn
turns_count f i zero vs zs s = let e = ended [] zs vs s in sym (ap length e.value)
turns_count {A} f i (suc n) vs zs s =
    let rest = in_turn (λ j. lone (f j)) (i + 1) n in
    let a = apart (lone (f i)) (λ xs. rest >>= λ ys. done (xs ++ ys)) zs vs s in
    let b = apart (f i) (λ x. done (x ∷ [])) a.between a.front a.front_spells in
    let c = ended (b.between ∷ []) a.between b.behind b.behind_spells in
    let d = apart rest (λ ys. done (a.between ++ ys)) zs a.behind a.behind_spells in
    let e = ended (a.between ++ d.between) zs d.behind d.behind_spells in
    let items : (b.between ∷ []) ++ d.between ≡ zs = ap (λ (xs : List A). xs ++ d.between) c.value ∙ e.value in
    sym (ap length items) ∙ ap suc (turns_count f (i + 1) n d.front d.between d.front_spells)

-- ---- bytes nested to the right

pub two_parts : {a b a_2 b_2 bytes : List ℕ} → bytes ≡ a ++ b → a ≡ a_2 → b ≡ b_2 → bytes ≡ a_2 ++ b_2
two_parts e f g = e ∙ rw (f, g) refl

pub last_part : {a b a_2 bytes : List ℕ} → bytes ≡ a ++ b → a ≡ a_2 → b ≡ [] → bytes ≡ a_2
last_part {a_2 = a_2} e f g = e ∙ rw (f, g) (append-nil a_2)
