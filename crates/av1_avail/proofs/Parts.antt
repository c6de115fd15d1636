-- A test of several parts passes where each part does.
use Rattle.std.proofs.Common.{◌≡◌, Bool, true, ◌&&◌, refl}

pub all_three : (p q r : Bool) → p ≡ true → q ≡ true → r ≡ true → (p && q && r) ≡ true
all_three p q r hp hq hr = rw (hp, hq, hr) refl

pub all_five : (p q r s u : Bool) → p ≡ true → q ≡ true → r ≡ true → s ≡ true → u ≡ true → (p && q && r && s && u) ≡ true
all_five p q r s u hp hq hr hs hu = rw (hp, hq, hr, hs, hu) refl
