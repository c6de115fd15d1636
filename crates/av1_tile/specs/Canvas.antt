-- The canvas: the samples written so far in each plane, also outside the frame.
use Rattle.std.specs.Prelude.{ℕ, ◌-◌, Bool, true, false, Option, None}
use Rattle.av1_frame.specs.Areas.{VisibleArea, in_visible}

-- the three planes of a picture
pub data Component : Type 0 where
  Y : Component
  U : Component
  V : Component

-- whether two planes are the same
abbrev pub is_same : Component → Component → Bool
is_same Y Y = true
is_same U U = true
is_same V V = true
is_same _ _ = false

-- the written samples of a plane: the one at column x of row y, or None if it isn't written
abbrev pub Written : Type 0
Written = ℕ → ℕ → Option ℕ

-- the written samples of each plane
abbrev pub Canvas : Type 0
Canvas = Component → Written

-- the empty canvas: nothing is written
abbrev pub blank : Canvas
blank = λ component x y. None

-- f o if b is true, else o
abbrev pub turned : {X : Type 0} → Bool → (X → X) → X → X
turned b f o = elim b [ true ↦ f o | false ↦ o ]

-- the written samples after f r c has changed the one at row r and column c of the rectangle a; the rest is unchanged
abbrev pub drawn : VisibleArea → (ℕ → ℕ → Option ℕ → Option ℕ) → Written → Written
drawn a f written = λ x y. turned (in_visible a x y) (f (y - a.y) (x - a.x)) (written x y)

-- the canvas with `written` in place of one plane; the rest is unchanged
abbrev pub with_written : Component → Written → Canvas → Canvas
with_written component written canvas =
    λ other. elim (is_same other component) [ true ↦ written | false ↦ canvas other ]
