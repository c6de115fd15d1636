-- A list that reads fill from its front.
use Rattle.std.proofs.Common.{◌≡◌, ℕ, ◌+◌, ◌≤◌, ◌++◌, ◌∙◌, ap, arith, length, replicate, List, Option, take, drop, subst, sym}
use Rattle.std.proofs.lemmas.List.{length-take, take-append-le, take-take}
use lib.Seq.{take-add}
use Rattle.std.specs.Io.KnownBytes.{Consumes}
use Rattle.std.proofs.KnownBytes.{Consumes-trans}

-- ys begins with the filled part of xs, and the n bytes behind it were read next
pub Consumes-filled : (a b c : Option (List ℕ)) (xs ys : List ℕ) (filled n : ℕ) → take filled ys ≡ take filled xs
    → Consumes a b (take filled xs) → Consumes b c (take n (drop filled ys)) → Consumes a c (take (filled + n) ys)
Consumes-filled a b c xs ys filled n front before more =
    rw take-add (Consumes-trans a b c _ _ (subst (Consumes a b) (sym front) before) more)

-- the front of a list that is cut or filled up behind it stays
pub front_stays : {X : Type 0} (n end m : ℕ) (v : X) (s old new : List X) → take n old ≡ s → n ≤ end → n ≤ length old → new ≡ take end old ++ replicate m v
    → take n new ≡ s
front_stays n end m v s old new front le long is =
    ap (take n) is ∙ take-append-le n (take end old) (replicate m v) (omega (arith, length-take end old, le, long)) ∙ take-take n end old le ∙ front
