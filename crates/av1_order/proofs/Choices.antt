-- What is so in a node and outside it.
use Rattle.std.proofs.Common.{◌≡◌, Bool, true, false, ◌||◌, refl, sym, true≢false}
use Rattle.std.specs.Prelude.{if◌then◌else◌}

-- Where the cell lies outside a node, a rectangle in the node doesn't hold it.
pub choose : (p q a b e : Bool) → (a || q) ≡ b → (q ≡ true → p ≡ true) → ((if p then a else e) || q) ≡ (if p then b else e)
choose true q a b e f g = f
choose false true a b e f g = cc (g refl)
choose false false true b true f g = refl
choose false false false b true f g = refl
choose false false true b false f g = refl
choose false false false b false f g = refl

pub either_way : (p a b e : Bool) → (p ≡ true → a ≡ b) → (if p then a else e) ≡ (if p then b else e)
either_way true a b e f = f refl
either_way false a b e f = refl

pub or_nothing : (e q : Bool) → q ≡ false → e ≡ (e || q)
or_nothing true q h = refl
or_nothing false q h = sym h

pub first_true : (a b : Bool) → a ≡ true → (a || b) ≡ true
first_true true b e = refl
first_true false b e = absurd (true≢false (sym e))

pub second_true : (a b : Bool) → b ≡ true → (a || b) ≡ true
second_true true b e = refl
second_true false b e = e
