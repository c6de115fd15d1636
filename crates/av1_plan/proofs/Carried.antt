-- A format that takes over the fields of another: what the one spells from values, the other spells from the same.
use Rattle.std.proofs.Common.{◌≡◌, ℕ, zero, suc, ◌+◌, Bool, true, false, if◌then◌else◌, List, [], ◌∷◌, ◌++◌, refl, sym, ap, subst, ◌∙◌, append_assoc}
use Rattle.std.specs.Int.{to_le_bytes}
use Rattle.av1_plan.specs.Format.{Format, done, asks, ◌>>=◌, nothing, ◌++>◌, in_turn, width}
use Rattle.av1_plan.specs.Spelling.{Spells, text}

-- ---- one format behind another

-- the values of both, one behind the other
pub joined : {A B : Type 0} (f : Format A) (g : A → Format B) (x : A) (y : B) (vs ws : List ℕ) → Spells f vs x → Spells (g x) ws y
    → Spells (f >>= g) (vs ++ ws) y × (text (f >>= g) (vs ++ ws) ≡ text f vs ++ text (g x) ws)
joined (done z) g x y [] ws s t = (subst (λ u. Spells (g u) ws y) (sym s) t, ap (λ u. text (g u) ws) s)
joined (done z) g x y (v ∷ vs) ws s t = absurd s
joined (asks k next) g x y [] ws s t = absurd s
joined (asks k next) g x y (v ∷ vs) ws s t =
    let (a, b) = joined (next v) g x y vs ws s.1 t in (
      (s.0, a),
      ap (λ (us : List ℕ). to_le_bytes (width k.size) v ++ us) b
          ∙ sym (append_assoc (to_le_bytes (width k.size) v) (text (next v) vs) (text (g x) ws)),
    )

-- the values of both, apart
pub record AreApart {A B : Type 0} (f : Format A) (g : A → Format B) (y : B) (vs : List ℕ) : Type 0 where
  pub between : A
  pub front : List ℕ
  pub behind : List ℕ
  pub front_spells : Spells f front between
  pub behind_spells : Spells (g between) behind y
  pub values : vs ≡ front ++ behind
  pub bytes : text (f >>= g) vs ≡ text f front ++ text (g between) behind

pub apart : {A B : Type 0} (f : Format A) (g : A → Format B) (y : B) (vs : List ℕ) → Spells (f >>= g) vs y → AreApart f g y vs
apart (done x) g y vs s = record { between = x; front = []; behind = vs; front_spells = refl; behind_spells = s; values = refl; bytes = refl }
apart (asks k next) g y [] s = absurd s
apart (asks k next) g y (v ∷ vs) s =
    let a = apart (next v) g y vs s.1 in
    record {
      between = a.between;
      front = v ∷ a.front;
      behind = a.behind;
      front_spells = (s.0, a.front_spells);
      behind_spells = a.behind_spells;
      values = ap (λ (us : List ℕ). v ∷ us) a.values;
      bytes = ap (λ (us : List ℕ). to_le_bytes (width k.size) v ++ us) a.bytes
          ∙ sym (append_assoc (to_le_bytes (width k.size) v) (text (next v) a.front) (text (g a.between) a.behind));
    }

-- ---- one format for another

-- what f spells from values, where P holds of it, g spells from the same, as view sees it
pub record TakesOver {A B : Type 0} (P : A → Type 0) (view : A → B) (f : Format A) (g : Format B) : Type 0 where
  pub carried : (vs : List ℕ) (x : A) → Spells f vs x → P x → Spells g vs (view x) × (text g vs ≡ text f vs)

pub takes_over_same : {A : Type 0} (P : A → Type 0) (f g : Format A) → f ≡ g → TakesOver P (λ x. x) f g
takes_over_same P f g e = subst (TakesOver P (λ x. x) f) e (record { carried = λ vs x s p. (s, refl) })

-- one behind another
pub takes_over_both : {A B C D : Type 0} (P : A → Type 0) (Q : B → Type 0) (view : A → C) (view_all : B → D) (f : Format A) (g : A → Format B) (f_2 : Format C)
    (g_2 : C → Format D)
    → TakesOver P view f f_2 → ((x : A) → P x → TakesOver Q view_all (g x) (g_2 (view x))) → ((x : A) (ws : List ℕ) (y : B) → Spells (g x) ws y → Q y → P x)
    → TakesOver Q view_all (f >>= g) (f_2 >>= g_2)
takes_over_both P Q view view_all f g f_2 g_2 front behind back = record {
  carried = λ vs y s q.
      let a = apart f g y vs s in
      let p = back a.between a.behind y a.behind_spells q in
      let (s_1, t_1) = front.carried a.front a.between a.front_spells p in
      let (s_2, t_2) = (behind a.between p).carried a.behind y a.behind_spells q in
      let (spells, bytes) = joined f_2 g_2 (view a.between) (view_all y) a.front a.behind s_1 s_2 in
      moved (f_2 >>= g_2) (view_all y) vs (a.front ++ a.behind) (text (f >>= g) vs) a.values spells (bytes ∙ both_bytes t_1 t_2 ∙ sym a.bytes);
}
  where
    moved : {D : Type 0} (f : Format D) (y : D) (vs ws bytes : List ℕ) → vs ≡ ws → Spells f ws y → text f ws ≡ bytes → Spells f vs y × (text f vs ≡ bytes)
    moved f y vs ws bytes e s t = (subst (λ (us : List ℕ). Spells f us y) (sym e) s, ap (text f) e ∙ t)

    both_bytes : {a b c d : List ℕ} → a ≡ b → c ≡ d → a ++ c ≡ b ++ d
    both_bytes e f = rw (e, f) refl

-- ---- formats of lists, where what holds of a list holds of its parts

module _ {A : Type 0} (P : List A → Type 0) (parts : (xs ys : List A) → P (xs ++ ys) → P xs × P ys) where
  abbrev pub TakesOverList : Format (List A) → Format (List A) → Type 0
  TakesOverList f g = TakesOver P (λ xs. xs) f g

  spelled_end : (xs ys zs : List A) (ws : List ℕ) → Spells (done (xs ++ ys)) ws zs → P zs → P xs × P ys
  spelled_end xs ys zs [] s p = parts xs ys (subst P (sym s) p)
  spelled_end xs ys zs (w ∷ ws) s p = absurd s

  pub list_both : (f g f_2 g_2 : Format (List A)) → TakesOverList f f_2 → TakesOverList g g_2 → TakesOverList (f ++> g) (f_2 ++> g_2)
  list_both f g f_2 g_2 front behind =
      takes_over_both P P (λ xs. xs) (λ zs. zs) f (λ xs. g >>= λ ys. done (xs ++ ys)) f_2 (λ xs. g_2 >>= λ ys. done (xs ++ ys)) front
      (λ xs p. takes_over_both P P (λ ys. ys) (λ zs. zs) g (λ ys. done (xs ++ ys)) g_2 (λ ys. done (xs ++ ys)) behind
      (λ ys q. record { carried = λ vs zs s r. (s, refl) })
      (λ ys ws zs s r. (spelled_end xs ys zs ws s r).1))
      (λ xs ws zs s r.
      let a = apart g (λ ys. done (xs ++ ys)) zs ws s in
      (spelled_end xs a.between zs a.behind a.behind_spells r).0)

  pub list_turns : (f g : ℕ → Format (List A)) (i n : ℕ) → ((j : ℕ) → TakesOverList (f j) (g j)) → TakesOverList (in_turn f i n) (in_turn g i n)
  unfolding in_turn
  list_turns f g i zero each = takes_over_same P nothing nothing refl
  list_turns f g i (suc n) each = list_both (f i) (in_turn f (i + 1) n) (g i) (in_turn g (i + 1) n) (each i) (list_turns f g (i + 1) n each)

  pub list_where : (b : Bool) (f g : Format (List A)) → (b ≡ true → TakesOverList f g) → TakesOverList (if b then f else nothing) (if b then g else nothing)
  list_where true f g h = h refl
  list_where false f g h = takes_over_same P nothing nothing refl
