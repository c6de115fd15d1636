-- A rectangle that is painted by halves: the left one and then the right, or the upper one and then the lower.
use Rattle.std.proofs.Common.{ℕ, ◌+◌, ◌-◌, ◌/◌, ◌%◌, ◌<◌, ◌≤◌, ◌≡◌, ◌∙◌, List, length, get_or, ap, subst, sym, arith, inl, inr, true, false, Bool, cond}
use Rattle.std.specs.Prelude.{nat_lt}
use Rattle.std.proofs.lemmas.Bool.{cases_lt}
use Rattle.std.proofs.lemmas.Bool.Decides.{nat_tests}
use Rattle.av1_frame.specs.declared.plane.Plane.{Plane}
use Rattle.av1_frame.specs.declared.plane_region.StoredArea.{StoredArea}
use Rattle.av1_frame.specs.Areas.{VisibleArea, stored_area}
use Rattle.av1_frame.specs.Planes.{InPlane, painted_plane}
use Rattle.av1_frame.proofs.Planes.{painted_plane_fits}
use Rattle.av1_frame.specs.Samples.{paint, painted_at}
use Rattle.av1_frame.proofs.Update.{update_is, length-update, get_or-update}
use Rattle.av1_tile.specs.Reference.{above, beside}

-- two rectangles that are painted one after the other, where each sample becomes what it does in a third
painted_twice : {X : Type 0} (stride : ℕ) (a b c : StoredArea) (h f g : ℕ → ℕ → X → X) (s : List X)
    → ((p q : ℕ) (v : X) → painted_at c g p q (painted_at b f p q v) ≡ painted_at a h p q v) → paint stride c g (paint stride b f s) ≡ paint stride a h s
unfolding paint
painted_twice {X} stride a b c h f g s same =
    let one = paint stride b f s in
    let long : length one ≡ length s = length-update _ s in
    update_is _ s _ (length-update _ one ∙ long) (λ k d l.
    get_or-update _ one k d (omega (arith, l, long)) ∙ ap (painted_at c g (k % stride) (k / stride)) (get_or-update _ s k d l)
    ∙ same (k % stride) (k / stride) (get_or s k d))

-- the sample at column p of row q, where the first w columns are painted by f and the others by g
columns_at : {X : Type 0} (a : StoredArea) (w : ℕ) (h f g : ℕ → ℕ → X → X) (p q : ℕ) (v : X) → w ≤ a.width →
    ((r c : ℕ) (x : X) → c < w → f r c x ≡ h r c x) → ((r c : ℕ) (x : X) → g r c x ≡ h r (w + c) x)
    → painted_at (record a { x = a.x + w; width = a.width - w }) g p q (painted_at (record a { width = w }) f p q v) ≡ painted_at a h p q v
columns_at a w h f g p q v few first second =
    elim (cases_lt q a.y) [
      | inl out ↦ grind (arith, nat_tests)
      | inr down ↦ elim (cases_lt q (a.y + a.height)) [
        | inr out ↦ grind (arith, nat_tests)
        | inl row ↦ elim (cases_lt p a.x) [
          | inl out ↦ grind (arith, nat_tests)
          | inr right ↦ elim (cases_lt p (a.x + w)) [
            | inl left ↦ (let e = first (q - a.y) (p - a.x) v (omega arith) in grind (arith, nat_tests))
            | inr beyond ↦ elim (cases_lt p (a.x + a.width)) [
              | inr out ↦ grind (arith, nat_tests)
              | inl column ↦
                  let k : w + (p - (a.x + w)) ≡ p - a.x = omega arith in
                  let e : g (q - a.y) (p - (a.x + w)) v ≡ h (q - a.y) (p - a.x) v = second (q - a.y) (p - (a.x + w)) v ∙ ap (λ n. h (q - a.y) n v) k in
                  grind (arith, nat_tests)
            ]
          ]
        ]
      ]
    ]

-- and where the first n rows are
rows_at : {X : Type 0} (a : StoredArea) (n : ℕ) (h f g : ℕ → ℕ → X → X) (p q : ℕ) (v : X) → n ≤ a.height →
    ((r c : ℕ) (x : X) → r < n → f r c x ≡ h r c x) → ((r c : ℕ) (x : X) → g r c x ≡ h (n + r) c x)
    → painted_at (record a { y = a.y + n; height = a.height - n }) g p q (painted_at (record a { height = n }) f p q v) ≡ painted_at a h p q v
rows_at a n h f g p q v few first second =
    elim (cases_lt p a.x) [
      | inl out ↦ grind (arith, nat_tests)
      | inr right ↦ elim (cases_lt p (a.x + a.width)) [
        | inr out ↦ grind (arith, nat_tests)
        | inl column ↦ elim (cases_lt q a.y) [
          | inl out ↦ grind (arith, nat_tests)
          | inr down ↦ elim (cases_lt q (a.y + n)) [
            | inl upper ↦ (let e = first (q - a.y) (p - a.x) v (omega arith) in grind (arith, nat_tests))
            | inr beyond ↦ elim (cases_lt q (a.y + a.height)) [
              | inr out ↦ grind (arith, nat_tests)
              | inl row ↦
                  let k : n + (q - (a.y + n)) ≡ q - a.y = omega arith in
                  let e : g (q - (a.y + n)) (p - a.x) v ≡ h (q - a.y) (p - a.x) v = second (q - (a.y + n)) (p - a.x) v ∙ ap (λ m. h m (p - a.x) v) k in
                  grind (arith, nat_tests)
            ]
          ]
        ]
      ]
    ]

-- a rectangle that lay in a plane's storage still does once another is painted
pub still_inside : {T : Type 0} (plane after : Plane T) (a b : VisibleArea) (f : ℕ → ℕ → T → T) → after ≡ painted_plane plane a f → InPlane b plane →
    InPlane b after
still_inside plane after a b f painted inside = subst (InPlane b) (sym painted) (painted_plane_fits plane a f b inside)

module _ {T : Type 0} (pixel : ℕ → T) (plane : Plane T) (a : VisibleArea) (f g : VisibleArea → ℕ → ℕ → ℕ) where
  -- a rectangle whose left half f paints, and g the right one
  pub beside_painted : let left = record a { width = a.width / 2 } in
      let right = record a { x = a.x + a.width / 2; width = a.width - a.width / 2 } in
      painted_plane (painted_plane plane left (λ r c _. pixel (f left r c))) right (λ r c _. pixel (g right r c)) ≡
      painted_plane plane a (λ r c _. pixel (beside true f g a r c))
  beside_painted =
      let w = a.width / 2 in
      let left = record a { width = w } in
      let right = record a { x = a.x + w; width = a.width - w } in
      let cfg = plane.plane_cfg in
      let b = stored_area cfg a in
      let h : ℕ → ℕ → T → T = λ r c _. pixel (beside true f g a r c) in
      let one : ℕ → ℕ → T → T = λ r c _. pixel (f left r c) in
      let two : ℕ → ℕ → T → T = λ r c _. pixel (g right r c) in
      let first : (r c : ℕ) (x : T) → c < w → one r c x ≡ h r c x = λ r c x l. ap pixel (let t : nat_lt c w ≡ true = grind (arith, nat_tests)
      in ap (λ (z : Bool). cond z (f left r c) (g right r (c - w))) (sym t)) in
      let second : (r c : ℕ) (x : T) → two r c x ≡ h r (w + c) x = λ r c x. ap pixel (let t : nat_lt (w + c) w ≡ false = grind (arith, nat_tests)
      in let k : c ≡ w + c - w = omega arith
      in ap (λ (m : ℕ). g right r m) k ∙ ap (λ (z : Bool). cond z (f left r (w + c)) (g right r (w + c - w))) (sym t)) in
      let few : w ≤ a.width = omega arith in
      let moved : cfg.xorigin + (a.x + w) ≡ cfg.xorigin + a.x + w = omega arith in
      ap (λ (s : List T). record plane { samples = s })
      (ap (λ (n : ℕ). paint cfg.stride (record b { x = n; width = a.width - w }) two (paint cfg.stride (record b { width = w }) one plane.samples)) moved
      ∙ painted_twice cfg.stride b (record b { width = w }) (record b { x = b.x + w; width = b.width - w }) h one two plane.samples
      (λ p q v. columns_at b w h one two p q v few first second))

  -- and one whose upper half f paints, and g the lower one
  pub above_painted : let upper = record a { height = a.height / 2 } in
      let lower = record a { y = a.y + a.height / 2; height = a.height - a.height / 2 } in
      painted_plane (painted_plane plane upper (λ r c _. pixel (f upper r c))) lower (λ r c _. pixel (g lower r c)) ≡
      painted_plane plane a (λ r c _. pixel (above true f g a r c))
  above_painted =
      let n = a.height / 2 in
      let upper = record a { height = n } in
      let lower = record a { y = a.y + n; height = a.height - n } in
      let cfg = plane.plane_cfg in
      let b = stored_area cfg a in
      let h : ℕ → ℕ → T → T = λ r c _. pixel (above true f g a r c) in
      let one : ℕ → ℕ → T → T = λ r c _. pixel (f upper r c) in
      let two : ℕ → ℕ → T → T = λ r c _. pixel (g lower r c) in
      let first : (r c : ℕ) (x : T) → r < n → one r c x ≡ h r c x = λ r c x l. ap pixel (let t : nat_lt r n ≡ true = grind (arith, nat_tests)
      in ap (λ (z : Bool). cond z (f upper r c) (g lower (r - n) c)) (sym t)) in
      let second : (r c : ℕ) (x : T) → two r c x ≡ h (n + r) c x = λ r c x. ap pixel (let t : nat_lt (n + r) n ≡ false = grind (arith, nat_tests)
      in let k : r ≡ n + r - n = omega arith
      in ap (λ (m : ℕ). g lower m c) k ∙ ap (λ (z : Bool). cond z (f upper (n + r) c) (g lower (n + r - n) c)) (sym t)) in
      let few : n ≤ a.height = omega arith in
      let moved : cfg.yorigin + (a.y + n) ≡ cfg.yorigin + a.y + n = omega arith in
      ap (λ (s : List T). record plane { samples = s })
      (ap (λ (m : ℕ). paint cfg.stride (record b { y = m; height = a.height - n }) two (paint cfg.stride (record b { height = n }) one plane.samples)) moved
      ∙ painted_twice cfg.stride b (record b { height = n }) (record b { y = b.y + n; height = b.height - n }) h one two plane.samples
      (λ p q v. rows_at b n h one two p q v few first second))

module _ {T : Type 0} (pixel : ℕ → T) (plane between after : Plane T) (a : VisibleArea) (f g : VisibleArea → ℕ → ℕ → ℕ) where
  -- the same of a plane in between
  pub beside_joined : (narrow : Bool) → narrow ≡ true →
      between ≡ painted_plane plane (record a { width = a.width / 2 }) (λ r c _. pixel (f (record a { width = a.width / 2 }) r c))
      → after ≡
      painted_plane between (record a { x = a.x + a.width / 2; width = a.width - a.width / 2 })
      (λ r c _. pixel (g (record a { x = a.x + a.width / 2; width = a.width - a.width / 2 }) r c))
      → after ≡ painted_plane plane a (λ r c _. pixel (beside narrow f g a r c))
  beside_joined narrow is one two =
      let right = record a { x = a.x + a.width / 2; width = a.width - a.width / 2 } in
      two ∙ ap (λ (q : Plane T). painted_plane q right (λ r c _. pixel (g right r c))) one ∙ beside_painted pixel plane a f g
      ∙ ap (λ (t : Bool). painted_plane plane a (λ r c _. pixel (beside t f g a r c))) (sym is)

  pub above_joined : (low : Bool) → low ≡ true →
      between ≡ painted_plane plane (record a { height = a.height / 2 }) (λ r c _. pixel (f (record a { height = a.height / 2 }) r c))
      → after ≡
      painted_plane between (record a { y = a.y + a.height / 2; height = a.height - a.height / 2 })
      (λ r c _. pixel (g (record a { y = a.y + a.height / 2; height = a.height - a.height / 2 }) r c))
      → after ≡ painted_plane plane a (λ r c _. pixel (above low f g a r c))
  above_joined low is one two =
      let lower = record a { y = a.y + a.height / 2; height = a.height - a.height / 2 } in
      two ∙ ap (λ (q : Plane T). painted_plane q lower (λ r c _. pixel (g lower r c))) one ∙ above_painted pixel plane a f g
      ∙ ap (λ (t : Bool). painted_plane plane a (λ r c _. pixel (above t f g a r c))) (sym is)
