-- Reading one format after another.
use Rattle.std.proofs.Common.{◌≡◌, ℕ, suc, ◌+◌, ◌-◌, ◌<◌, ◌≤◌, List, [], ◌∷◌, ◌++◌, Ok, Err, refl, sym, ap, subst, ◌∙◌, append_assoc, arith}
use Rattle.std.proofs.lemmas.List.{append-nil}
use Rattle.av1_plan.specs.declared.error.PlanError.{PlanError}
use Rattle.av1_plan.specs.declared.error.PlanError.TheVariants as errors
use Rattle.av1_plan.specs.Format.{Kind, Format, done, asks, ◌>>=◌, Input, Reading, on_ok, read_field, read, nothing, lone, ◌++>◌, in_turn, add}
use Rattle.av1_plan.specs.Reading.{Fails}

pub on_ok_then : {A B C : Type 0} (r : Reading A) (f : A → Reading B) (g : B → Reading C) (h : A → Reading C) → ((x : A) → h x ≡ on_ok (f x) g) →
    on_ok r h ≡ on_ok (on_ok r f) g
on_ok_then (Ok x) f g h e = e x
on_ok_then (Err at) f g h e = refl

pub read_bind : {A B : Type 0} (f : Format A) (g : A → Format B) (i : Input) → read (f >>= g) i ≡ on_ok (read f i) (λ p. read (g p.0) p.1)
read_bind (done x) g i = refl
read_bind (asks k next) g i = on_ok_then (read_field k i) (λ p. read (next p.0) p.1) (λ p. read (g p.0) p.1) (λ p. read (next p.0 >>= g) p.1)
    (λ p. read_bind (next p.0) g p.1)

-- ---- reading behind what was read before

pub add_bind : {A B : Type 0} (f : Format A) (g : A → Format (List B)) (xs : List B) (i : Input) →
    add (f >>= g) (xs, i) ≡ on_ok (read f i) (λ p. add (g p.0) (xs, p.1))
unfolding add
add_bind f g xs i =
    rw (read_bind f g i)
    (sym (on_ok_then (read f i) (λ p. read (g p.0) p.1) (λ p. Ok (xs ++ p.0, p.1)) (λ p. on_ok (read (g p.0) p.1) (λ q. Ok (xs ++ q.0, q.1))) (λ p. refl)))

pub add_asks : {A : Type 0} (k : Kind) (next : ℕ → Format (List A)) (xs : List A) (i : Input) →
    add (asks k next) (xs, i) ≡ on_ok (read_field k i) (λ p. add (next p.0) (xs, p.1))
unfolding add
add_asks k next xs i =
    sym (on_ok_then (read_field k i) (λ p. read (next p.0) p.1) (λ p. Ok (xs ++ p.0, p.1)) (λ p. on_ok (read (next p.0) p.1) (λ q. Ok (xs ++ q.0, q.1)))
    (λ p. refl))

pub add_done : {A : Type 0} (ys xs : List A) (i : Input) → add (done ys) (xs, i) ≡ Ok (xs ++ ys, i)
unfolding add
add_done ys xs i = refl

pub add_nothing : {A : Type 0} (xs : List A) (i : Input) → add nothing (xs, i) ≡ Ok (xs, i)
unfolding add
add_nothing xs i = ap (λ (ys : List _). Ok (ys, i)) (append-nil xs)

pub add_lone : {A : Type 0} (f : Format A) (xs : List A) (i : Input) → add (lone f) (xs, i) ≡ on_ok (read f i) (λ p. Ok (xs ++ p.0 ∷ [], p.1))
unfolding add
add_lone f xs i = add_bind f (λ x. done (x ∷ [])) xs i

regroup : {A : Type 0} (xs ys : List A) (r : Reading (List A × Input)) →
    on_ok r (λ p. add (done (ys ++ p.0)) (xs, p.1)) ≡ on_ok r (λ p. let q : List A × Input = ((xs ++ ys) ++ p.0, p.1) in Ok q)
unfolding add
regroup xs ys (Ok p) = ap (λ (zs : List _). Ok (zs, p.1)) (sym (append_assoc xs ys p.0))
regroup xs ys (Err at) = refl

pub add_behind : {A : Type 0} (g : Format (List A)) (xs ys : List A) (i : Input) → add (g >>= λ zs. done (ys ++ zs)) (xs, i) ≡ add g (xs ++ ys, i)
unfolding add
add_behind g xs ys i = add_bind g (λ zs. done (ys ++ zs)) xs i ∙ regroup xs ys (read g i)

-- two ways to go on that answer alike
pub on_ok_same : {A B : Type 0} (r : Reading A) (f g : A → Reading B) → ((x : A) → f x ≡ g x) → on_ok r f ≡ on_ok r g
on_ok_same (Ok x) f g e = e x
on_ok_same (Err at) f g e = refl

pub add_both : {A : Type 0} (f g : Format (List A)) (s : List A × Input) → add (f ++> g) s ≡ on_ok (add f s) (add g)
unfolding add
add_both f g s =
    add_bind f (λ ys. g >>= λ zs. done (ys ++ zs)) s.0 s.1
    ∙ on_ok_same (read f s.1) (λ p. add (g >>= λ zs. done (p.0 ++ zs)) (s.0, p.1)) (λ p. add g (s.0 ++ p.0, p.1)) (λ p. add_behind g s.0 p.0 p.1)
    ∙ on_ok_then (read f s.1) (λ p. Ok (s.0 ++ p.0, p.1)) (add g) (λ p. add g (s.0 ++ p.0, p.1)) (λ p. refl)

pub fails_on : {A B : Type 0} (e : PlanError) (r : Reading A) (f : A → Reading B) → Fails e r → Fails e (on_ok r f)
fails_on errors.Memory r f h = tt
fails_on (errors.Malformed at) r f h = rw h refl

on_ok_err : {A B : Type 0} (r : Reading A) (f : A → B) (at : ℕ) → on_ok r (λ p. Ok (f p)) ≡ Err at → r ≡ Err at
on_ok_err (Ok x) f at e = absurd cc
on_ok_err (Err d) f at e = cc

-- where reading behind others fails, reading does
pub fails_back : {A : Type 0} (e : PlanError) (f : Format (List A)) (xs : List A) (i : Input) → Fails e (add f (xs, i)) → Fails e (read f i)
unfolding add
fails_back errors.Memory f xs i h = tt
fails_back (errors.Malformed at) f xs i h = on_ok_err (read f i) (λ p. (xs ++ p.0, p.1)) at h

-- ---- one after the other, in a loop

pub turn : {A : Type 0} (f : ℕ → Format (List A)) (count i : ℕ) (s : List A × Input) → i < count →
    add (in_turn f i (count - i)) s ≡ on_ok (add (f i) s) (add (in_turn f (i + 1) (count - (i + 1))))
unfolding in_turn
turn f count i s lt =
    let k : count - i ≡ suc (count - (i + 1)) = omega arith in
    rw k (add_both (f i) (in_turn f (i + 1) (count - (i + 1))) s)

pub turns_end : {A : Type 0} (f : ℕ → Format (List A)) (count i : ℕ) (s : List A × Input) (total : Reading (List A × Input)) → count ≤ i →
    add (in_turn f i (count - i)) s ≡ total → total ≡ Ok s
unfolding in_turn
turns_end f count i s total le so_far =
    let k : count - i ≡ 0 = omega arith in
    sym so_far ∙ rw k (add_nothing s.0 s.1)

-- one more item, which is a turn of its own
pub turn_more : {A : Type 0} (f : ℕ → Format (List A)) (g : Format A) (count i : ℕ) (xs ys : List A) (x : A) (a b : Input) (total : Reading (List A × Input))
    → f i ≡ lone g → i < count → read g a ≡ Ok (x, b) → ys ≡ xs ++ x ∷ [] → add (in_turn f i (count - i)) (xs, a) ≡ total →
    add (in_turn f (i + 1) (count - (i + 1))) (ys, b) ≡ total
turn_more {A} f g count i xs ys x a b total is lt got more so_far =
    let one : add (f i) (xs, a) ≡ Ok (ys, b) = ap (λ (h : Format (List A)). add h (xs, a)) is ∙ add_lone g xs a
    ∙ ap (λ (r : Reading (A × Input)). on_ok r (λ p. let q : List A × Input = (xs ++ p.0 ∷ [], p.1) in Ok q)) got
    ∙ ap (λ (zs : List A). let q : List A × Input = (zs, b) in Ok q) (sym more) in
    sym
    (turn f count i (xs, a) lt
    ∙ ap (λ (r : Reading (List A × Input)). on_ok r (λ p. add (in_turn f (i + 1) (count - (i + 1))) p)) one) ∙ so_far

-- where such a turn fails, all of them do
pub turn_fails : {A : Type 0} (f : ℕ → Format (List A)) (g : Format A) (count i : ℕ) (xs : List A) (a : Input) (total : Reading (List A × Input))
    (e : PlanError) → f i ≡ lone g → i < count → Fails e (read g a) → add (in_turn f i (count - i)) (xs, a) ≡ total → Fails e total
turn_fails {A} f g count i xs a total e is lt fails so_far =
    let P : Reading (List A × Input) → Type 0 = λ r. Fails e r in
    let one : Fails e (add (f i) (xs, a)) = subst P (sym (ap (λ (h : Format (List A)). add h (xs, a)) is ∙ add_lone g xs a))
    (fails_on e (read g a) (λ p. let q : List A × Input = (xs ++ p.0 ∷ [], p.1) in Ok q) fails) in
    subst P (sym (turn f count i (xs, a) lt) ∙ so_far) (fails_on e (add (f i) (xs, a)) (λ p. add (in_turn f (i + 1) (count - (i + 1))) p) one)

-- one after the other, behind others
pub ruleset adding = (read_bind, add_bind, add_lone, add_both, add_nothing)

pub turn_stop : {A : Type 0} (f : ℕ → Format (List A)) (count i : ℕ) (s : List A × Input) → count ≤ i → add (in_turn f i (count - i)) s ≡ Ok s
turn_stop f count i s le = turns_end f count i s _ le refl

-- a loop
pub ruleset turns = (adding, turn, turn_stop)
