-- What the pieces of a spelled format spell: a format that goes on behind another is spelled where each of the two is.
use Rattle.std.proofs.Common.{◌≡◌, ℕ, suc, ◌+◌, Bool, true, false, if◌then◌else◌, List, [], ◌∷◌, ◌++◌, length, All, ◌⊎◌, inl, inr, refl, ap, subst, ◌∙◌, arith}
use Rattle.std.proofs.lemmas.List.{length-append, get_or_append_left, get_or-append-add}
use Rattle.av1_plan.specs.Format.{Kind, Format, done, asks, IsAdmitted, ◌>>=◌, nothing, lone, ◌++>◌, in_turn}
use Rattle.av1_plan.specs.Spelling.{Spells, IsSpelled}

done_by : {A : Type 0} (x y : A) (vs : List ℕ) → Spells (done x) vs y → x ≡ y
done_by x y [] s = s
done_by x y (v ∷ vs) s = absurd s

-- a format that asks for nothing has its own value
pub spelled_done : {A : Type 0} (x y : A) → IsSpelled (done x) y → x ≡ y
spelled_done x y s = done_by x y s.values s.spells

asks_by : {A : Type 0} (k : Kind) (next : ℕ → Format A) (y : A) (vs : List ℕ) → Spells (asks k next) vs y → (v : ℕ) × IsAdmitted k v × IsSpelled (next v) y
asks_by k next y [] s = absurd s
asks_by k next y (v ∷ vs) s = (v, s.0, record { values = vs; spells = s.1 })

-- a field has an admitted value, and spells what its value decides
pub spelled_asks : {A : Type 0} (k : Kind) (next : ℕ → Format A) (y : A) → IsSpelled (asks k next) y → (v : ℕ) × IsAdmitted k v × IsSpelled (next v) y
spelled_asks k next y s = asks_by k next y s.values s.spells

bind_by : {A B : Type 0} (f : Format A) (g : A → Format B) (y : B) (vs : List ℕ) → Spells (f >>= g) vs y → (x : A) × IsSpelled f x × IsSpelled (g x) y
bind_by (done x) g y vs s = (x, record { values = []; spells = refl }, record { values = vs; spells = s })
bind_by (asks k next) g y [] s = absurd s
bind_by (asks k next) g y (v ∷ vs) s =
    let (x, front, behind) = bind_by (next v) g y vs s.1 in
    (x, record { values = v ∷ front.values; spells = (s.0, front.spells) }, behind)

-- one format and then another
pub spelled_bind : {A B : Type 0} (f : Format A) (g : A → Format B) (y : B) → IsSpelled (f >>= g) y → (x : A) × IsSpelled f x × IsSpelled (g x) y
spelled_bind f g y s = bind_by f g y s.values s.spells

-- no item
pub spelled_nothing : {A : Type 0} (zs : List A) → IsSpelled nothing zs → [] ≡ zs
spelled_nothing zs s = spelled_done [] zs s

-- one item
pub spelled_lone : {A : Type 0} (f : Format A) (zs : List A) → IsSpelled (lone f) zs → (x : A) × IsSpelled f x × (x ∷ [] ≡ zs)
spelled_lone f zs s =
    let (x, front, rest) = spelled_bind f (λ x. done (x ∷ [])) zs s in
    (x, front, spelled_done (x ∷ []) zs rest)

-- the items of one format, and behind them those of the other
pub spelled_both : {A : Type 0} (f g : Format (List A)) (zs : List A) → IsSpelled (f ++> g) zs →
    (xs ys : List A) × IsSpelled f xs × IsSpelled g ys × (xs ++ ys ≡ zs)
spelled_both f g zs s =
    let (xs, front, rest) = spelled_bind f (λ xs. g >>= λ ys. done (xs ++ ys)) zs s in
    let (ys, behind, end) = spelled_bind g (λ ys. done (xs ++ ys)) zs rest in
    (xs, ys, front, behind, spelled_done (xs ++ ys) zs end)

-- the items of four formats, one behind the other
pub record AreFour {A : Type 0} (f g h k : Format (List A)) (zs : List A) : Type 0 where
  pub first : List A
  pub second : List A
  pub third : List A
  pub fourth : List A
  pub first_spelled : IsSpelled f first
  pub second_spelled : IsSpelled g second
  pub third_spelled : IsSpelled h third
  pub fourth_spelled : IsSpelled k fourth
  pub are : first ++ second ++ third ++ fourth ≡ zs

pub spelled_four : {A : Type 0} (f g h k : Format (List A)) (zs : List A) → IsSpelled (f ++> g ++> h ++> k) zs → AreFour f g h k zs
spelled_four f g h k zs s =
    let (front_3, fourth, s_3, s_k, is_3) = spelled_both (f ++> g ++> h) k zs s in
    let (front_2, third, s_2, s_h, is_2) = spelled_both (f ++> g) h front_3 s_3 in
    let (first, second, s_f, s_g, is_1) = spelled_both f g front_2 s_2 in
    record {
      first = first;
      second = second;
      third = third;
      fourth = fourth;
      first_spelled = s_f;
      second_spelled = s_g;
      third_spelled = s_h;
      fourth_spelled = s_k;
      are = ap (λ (xs : List _). xs ++ third ++ fourth) is_1 ∙ ap (λ (xs : List _). xs ++ fourth) is_2 ∙ is_3;
    }

-- none in turn
pub spelled_no_turn : {A : Type 0} (f : ℕ → Format (List A)) (i : ℕ) (zs : List A) → IsSpelled (in_turn f i 0) zs → [] ≡ zs
unfolding in_turn
spelled_no_turn f i zs s = spelled_nothing zs s

-- one in turn, and then the others
pub spelled_turn : {A : Type 0} (f : ℕ → Format (List A)) (i n : ℕ) (zs : List A) → IsSpelled (in_turn f i (suc n)) zs →
    (xs ys : List A) × IsSpelled (f i) xs × IsSpelled (in_turn f (i + 1) n) ys × (xs ++ ys ≡ zs)
unfolding in_turn
spelled_turn f i n zs s = spelled_both (f i) (in_turn f (i + 1) n) zs s

-- what stands only where a test holds
pub spelled_where : {A : Type 0} (b : Bool) (f : Format (List A)) (zs : List A) → IsSpelled (if b then f else nothing) zs →
    ((b ≡ true) × IsSpelled f zs) ⊎ ((b ≡ false) × ([] ≡ zs))
spelled_where true f zs s = inl (refl, s)
spelled_where false f zs s = inr (refl, spelled_nothing zs s)

-- ---- lists

-- what holds of all items of two lists holds of those of each
pub all_apart : {A : Type 0} (P : A → Type 0) (xs ys : List A) → All P (xs ++ ys) → All P xs × All P ys
all_apart P xs ys all =
    let count = length-append xs ys in (
      (λ k d lt. subst P (get_or_append_left xs ys d k lt) (all k d (omega (arith, count, lt)))),
      (λ k d lt. subst P (get_or-append-add xs ys k d) (all (length xs + k) d (omega (arith, count, lt)))),
    )
