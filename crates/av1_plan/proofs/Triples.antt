-- Triples that come behind others.
use Rattle.std.proofs.Common.{◌≡◌, ℕ, ◌+◌, ◌≤◌, ◌<◌, List, [], ◌∷◌, ◌++◌, length, take, drop, Ok, Err, refl, sym, ap, subst, ◌∙◌, arith, sum}
use Rattle.std.proofs.lemmas.List.{take-append-drop, take-append-le, drop-append-le, take_at, drop_at, length-append, length-drop, take_all, map-append}
use Rattle.std.proofs.lemmas.List.Sums.{sum_by-cons}
use Rattle.av1_plan.specs.declared.leaf.Triple.{Triple}
use Rattle.av1_plan.specs.declared.leaf.Leaf.{Leaf}
use Rattle.av1_plan.specs.Format.{Format, Input, Reading, on_ok, read, add}
use Rattle.av1_plan.specs.Plan.{LeafValue, cut, leaf_value, leaf_values, Follow}
use Rattle.av1_plan.specs.Reading.{Extends, added}

-- what was read behind xs
pub record Behind (read : Reading (List Triple × Input)) (xs ys : List Triple) (n : ℕ) (j : Input) : Type 0 where
  pub given : read ≡ Ok (added xs ys n, j)
  pub extends : Extends xs ys n

abbrev ok : List Triple × Input → Reading (List Triple × Input)
ok p = Ok p

ok_is : (x y : List Triple × Input) → ok x ≡ ok y → x ≡ y
ok_is x y e = cc

behind : (r : Reading (List Triple × Input)) (xs ys : List Triple) (n : ℕ) (j : Input) → on_ok r (λ p. ok (xs ++ p.0, p.1)) ≡ ok (ys, j) →
    length ys ≡ length xs + n → Behind r xs ys n j
behind (Err at) xs ys n j e len = absurd cc
behind (Ok p) xs ys n j e len =
    let pair = ok_is (xs ++ p.0, p.1) (ys, j) e in
    let is : xs ++ p.0 ≡ ys = ap (λ (q : List Triple × Input). q.0) pair in
    let same : p.1 ≡ j = ap (λ (q : List Triple × Input). q.1) pair in
    let long : n ≡ length p.0 = omega (arith, simp length-append at (ap length is)) in
    let short : length p.0 ≤ n = omega arith in
    let more : added xs ys n ≡ p.0 = rw (← is, drop_at xs p.0 (length xs) refl) (take_all n p.0 short) in
    record {
      given = rw (more, ← same) refl;
      extends = record { front = rw (← is) (take_at xs p.0 (length xs) refl); count = len };
    }

pub add_back : (f : Format (List Triple)) (xs ys : List Triple) (n : ℕ) (i j : Input) → add f (xs, i) ≡ Ok (ys, j) → length ys ≡ length xs + n →
    Behind (read f i) xs ys n j
unfolding add
add_back f xs ys n i j e len = behind (read f i) xs ys n j e len

-- ---- what comes behind changes nothing before

pub piece_stays : (old new : List Triple) (first n : ℕ) → take (length old) new ≡ old → first + n ≤ length old →
    take n (drop first new) ≡ take n (drop first old)
piece_stays old new first n front le =
    let whole : old ++ drop (length old) new ≡ new = ap (λ (t : List Triple). t ++ drop (length old) new) (sym front) ∙ take-append-drop (length old) new in
    let a : take n (drop first (old ++ drop (length old) new)) ≡ take n (drop first old) =
    rw (drop-append-le first old (drop (length old) new) (omega arith))
    (take-append-le n (drop first old) (drop (length old) new) (omega (arith, length-drop first old))) in
    subst (λ (t : List Triple). take n (drop first t) ≡ take n (drop first old)) whole a

pub cut_stays : (old new : List Triple) (first : ℕ) (ns : List ℕ) → take (length old) new ≡ old → first + sum ns ≤ length old →
    cut new first ns ≡ cut old first ns
cut_stays old new first [] front le = refl
cut_stays old new first (n ∷ ns) front le =
    let fits : first + (n + sum ns) ≤ length old = omega (arith, sum_by-cons (λ (x : ℕ). x) n ns) in
    let a = piece_stays old new first n front (omega arith) in
    let b = cut_stays old new (first + n) ns front (omega arith) in
    cc

pub Extends-then : (a b c : List Triple) (m n k : ℕ) → Extends a b m → Extends b c n → k ≡ m + n → Extends a c k
Extends-then a b c m n k p q e = record {
  front = piece_stays b c 0 (length a) q.front (omega (arith, p.count)) ∙ p.front;
  count = omega (arith, p.count, q.count);
}

-- ---- leaves that follow one another

pub Follow-le : (a : ℕ) (ls : List Leaf) (b : ℕ) → Follow a ls b → a ≤ b
unfolding Follow
Follow-le a [] b h = omega arith
Follow-le a (l ∷ ls) b h = omega (arith, Follow-le (a + sum l.counts) ls b h.1)

pub Follow-push : (a : ℕ) (ls : List Leaf) (b : ℕ) (l : Leaf) → Follow a ls b → l.first ≡ b → Follow a (ls ++ l ∷ []) (b + sum l.counts)
unfolding Follow
Follow-push a [] b l h e = (e ∙ sym h, omega arith)
Follow-push a (k ∷ ls) b l h e = (h.0, Follow-push (a + sum k.counts) ls b l h.1 e)

pub leaf_values_stay : (old new : List Triple) (a : ℕ) (ls : List Leaf) (b : ℕ) → Follow a ls b → b ≤ length old → take (length old) new ≡ old →
    leaf_values new ls ≡ leaf_values old ls
unfolding Follow leaf_values
leaf_values_stay old new a [] b h le front = refl
leaf_values_stay old new a (l ∷ ls) b h le front =
    let first = cut_stays old new l.first l.counts front (omega (arith, h.0, Follow-le (a + sum l.counts) ls b h.1)) in
    let others = leaf_values_stay old new (a + sum l.counts) ls b h.1 le front in
    cc

pub leaf_values_push : (old new : List Triple) (ls : List Leaf) (n : ℕ) (l : Leaf) → Follow 0 ls (length old) → Extends old new n →
    leaf_values new (ls ++ l ∷ []) ≡ leaf_values old ls ++ leaf_value new l ∷ []
unfolding leaf_values
leaf_values_push old new ls n l h e = map-append (leaf_value new) ls (l ∷ [])
    ∙ ap (λ (vs : List LeafValue). vs ++ leaf_value new l ∷ []) (leaf_values_stay old new 0 ls (length old) h (omega arith) e.front)

-- two lists, one behind the other
pub two_cut : (a b c : List Triple) (m n : ℕ) → Extends a b m → Extends b c n → added a b m ∷ added b c n ∷ [] ≡ cut c (length a) (m ∷ n ∷ [])
two_cut a b c m n p q =
    let x : added a c m ≡ added a b m = piece_stays b c (length a) m q.front (omega (arith, p.count)) in
    let k : length b ≡ length a + m = p.count in
    rw (x, ← k) refl

-- the same where the second has been cut already
pub more_cut : (a b c : List Triple) (m n first : ℕ) (ns : List ℕ) → Extends a b m → Extends b c n → first ≡ length a →
    added a b m ∷ cut c (length b) ns ≡ cut c first (m ∷ ns)
more_cut a b c m n first ns p q e =
    let x : added a c m ≡ added a b m = piece_stays b c (length a) m q.front (omega (arith, p.count)) in
    let k : length b ≡ length a + m = p.count in
    rw (e, x, ← k) refl

-- one leaf more, behind a field more
pub few_push : (leaves : List Leaf) (l : Leaf) (a b : ℕ) → length leaves ≤ a → a < b → length (leaves ++ l ∷ []) ≤ b
few_push leaves l a b le lt = omega (arith, length-append leaves (l ∷ []))
