-- What stands at the front of a text stays there while more is written behind it.
use Rattle.std.proofs.Common.{◌≡◌, ℕ, List, ◌++◌, length, drop, refl, sym, ap, subst, ◌∙◌, append_assoc}
use Rattle.std.proofs.lemmas.List.{append-nil, take-append-drop, take_at}
use Rattle.av1_planwrite.specs.Fronts.{Begins}

pub begins_more : (a b : List ℕ) → Begins a (a ++ b)
begins_more a b = take_at a b _ refl

pub begins_same : (a : List ℕ) → Begins a a
begins_same a = subst (Begins a) (append-nil a) (begins_more a _)

rest_is : (a b : List ℕ) → Begins a b → b ≡ a ++ drop (length a) b
rest_is a b e = sym (take-append-drop (length a) b) ∙ ap (λ (xs : List ℕ). xs ++ drop (length a) b) e

pub begins_then : (a b c : List ℕ) → Begins a b → Begins b c → Begins a c
begins_then a b c e f =
    let whole : c ≡ a ++ (drop (length a) b ++ drop (length b) c) =
    rest_is b c f ∙ ap (λ (xs : List ℕ). xs ++ drop (length b) c) (rest_is a b e) ∙ append_assoc a (drop (length a) b) (drop (length b) c) in
    subst (Begins a) (sym whole) (begins_more a _)

pub begins_behind : (a b c d : List ℕ) → b ≡ a ++ c → Begins b d → Begins a d
begins_behind a b c d e f = begins_then a b d (subst (Begins a) (sym e) (begins_more a c)) f

pub ruleset fronts = (begins_same, begins_more, begins_then, begins_behind)
