use Rattle.std.proofs.Common.{rules, ◌≡◌, refl, arith, pos, ◌+ℤ◌, FitsSigned, to_z, of_z, w64}
use Rattle.std.proofs.lemmas.Int.{ints}
use Rattle.av1_frame.proofs.plane_region.StoredArea.inner.Goals as goal

pub returns-in-Rect : goal.returns-in-Rect
returns-in-Rect c =
    let fx : FitsSigned w64 c.in-Rect.x = search rules in
    let fy : FitsSigned w64 c.in-Rect.y = search rules in
    let h = rw c.in-Rect.is at c.requires.area in
    let ex : to_z w64 (of_z w64 (to_z w64 c.args.self.x +ℤ to_z w64 (of_z w64 c.in-Rect.x))) ≡ pos c.args.self.x +ℤ c.in-Rect.x =
    omega (arith, ints, h.left, h.right) in
    let ey : to_z w64 (of_z w64 (to_z w64 c.args.self.y +ℤ to_z w64 (of_z w64 c.in-Rect.y))) ≡ pos c.args.self.y +ℤ c.in-Rect.y =
    omega (arith, ints, h.top, h.bottom) in
    rw (ex, ey, c.in-Rect.is) refl
