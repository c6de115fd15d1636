use Rattle.std.proofs.Common.{ℕ, arith, ap, ◌∙◌, ◌≡◌, ◌<◌, ◌-◌, ◌+◌, length}
use Rattle.std.proofs.lemmas.Bool.Decides.{nat_tests}
use Rattle.av1_edges.specs.Edges.{region_sample}
use Rattle.av1_edges.specs.Sides.{base, left_at}
use Rattle.av1_edges.proofs.Lists.{reversed_side}
use Rattle.av1_lists.proofs.Lists.{numbers_are_reversed}
use Rattle.av1_frame.proofs.Depths.{half_below}
use Rattle.av1_edges.proofs.fill.fill_left.Goals as goal

pub from_u32-requires : goal.from_u32-requires
from_u32-requires g c = let r = c.base.ensures in half_below _ _ _ r.room r.some c.requires.depth

pub returns-then-x-gt0 : goal.returns-then-x-gt0
returns-then-x-gt0 g c =
    let a = c.args in
    let num = g.T.Pixel.num in
    let s = region_sample num a.dst.now in
    let f : ℕ → ℕ = λ i. s (a.x - 1) (a.y + i) in
    let below = c.fill_with.new.row in
    let inside = c.copy_column.new.left in
    let was : length c.split_at_mut-below.result.1.now ≡ a.num_avail = omega arith in
    let size : length inside ≡ a.num_avail = omega arith in
    let inner = λ (k : ℕ) (d : g.row.T.Denot) (h : k < length inside). c.copy_column.ensures k d h ∙ ap (λ m. f (m - 1 - k)) was in
    let first : num c.index-inside-0.result ≡ f (a.num_avail - 1) = ap num c.index-inside-0.is ∙ inner 0 _ (omega arith) ∙ ap f (omega arith) in
    reversed_side num f below inside (length a.left.now) a.num_avail (omega arith) size c.requires.some inner (λ k d h. ap num (c.fill_with.ensures k d h)
    ∙ first) (left_at s (base a.bit_depth) a.x a.y a.num_avail) (λ i. grind (arith, nat_tests))

pub returns-then-y-gt0 : goal.returns-then-y-gt0
returns-then-y-gt0 g c =
    let a = c.args in
    let n = g.T.Pixel.num in
    numbers_are_reversed n (left_at (region_sample n a.dst.now) (base a.bit_depth) a.x a.y a.num_avail) c.fill_with-then-y-gt0.new.row (length a.left.now)
    (omega arith) (λ k d h. ap n (c.fill_with-then-y-gt0.ensures k d (omega arith)) ∙ grind (arith, nat_tests, c.region_sample.ensures))

pub returns-else-y-gt0 : goal.returns-else-y-gt0
returns-else-y-gt0 g c =
    let a = c.args in
    let n = g.T.Pixel.num in
    numbers_are_reversed n (left_at (region_sample n a.dst.now) (base a.bit_depth) a.x a.y a.num_avail) c.fill_with-else-y-gt0.new.row (length a.left.now)
    (omega arith)
    (λ k d h. ap n (c.fill_with-else-y-gt0.ensures k d (omega arith)) ∙ ap n c.from_u32.ensures
    ∙ (g.met.T.Pixel.num_of_pixel _ ∙ grind (arith, nat_tests, c.base.ensures.value)))
