-- The laws of the product order of sizes: it is a partial order, and sizes that it calls equal are the same. The
-- implementation of `PartialOrd` states them, and can cite only `specs/`.
use Rattle.std.specs.Prelude.{◌≡◌, ◌==◌, ◌&&◌, ◌<◌, ℕ, false, List, [], ◌∷◌, find, unwrap_or, Some, refl}
use mathlib.Core.Path.{sym, ap, ◌∙◌, subst}
use mathlib.Core.Bool.{true≢false}
use denote.Enum.Bare.{sameb, same_true, true_same}
use Rattle.std.specs.declared.cmp.Ordering.{Ordering}
use Rattle.std.specs.declared.cmp.Ordering.TheVariants.{Less, Equal, Greater}
use Rattle.std.specs.Option.{option_map, is_some}
use Rattle.std.specs.Ordering.{nat_cmp, MatchOrdering, ordering_reverse, is_lt, is_gt}
use Rattle.std.specs.Cmp.{IsPartialOrder, nat_cmp_total, upto, tied_itself, ranks}
use Rattle.av1_blocks.specs.declared.partition.BlockSize.{BlockSize}
use Rattle.av1_blocks.specs.declared.partition.BlockSize.TheVariants.{BLOCK_4X4, BLOCK_4X8, BLOCK_8X4, BLOCK_8X8}
use Rattle.av1_blocks.specs.declared.partition.BlockSize.TheVariants.{BLOCK_8X16, BLOCK_16X8, BLOCK_16X16, BLOCK_16X32}
use Rattle.av1_blocks.specs.declared.partition.BlockSize.TheVariants.{BLOCK_32X16, BLOCK_32X32, BLOCK_32X64}
use Rattle.av1_blocks.specs.declared.partition.BlockSize.TheVariants.{BLOCK_64X32, BLOCK_64X64, BLOCK_64X128}
use Rattle.av1_blocks.specs.declared.partition.BlockSize.TheVariants.{BLOCK_128X64, BLOCK_128X128, BLOCK_4X16}
use Rattle.av1_blocks.specs.declared.partition.BlockSize.TheVariants.{BLOCK_16X4, BLOCK_8X32, BLOCK_32X8, BLOCK_16X64}
use Rattle.av1_blocks.specs.declared.partition.BlockSize.TheVariants.{BLOCK_64X16}
use Rattle.av1_blocks.specs.contracts.partition.BlockSize.{the_type}
use Rattle.av1_blocks.specs.Blocks.{block_width, block_height, both_sides, product_cmp}

sizes : List BlockSize
sizes = BLOCK_4X4 ∷ BLOCK_4X8 ∷ BLOCK_8X4 ∷ BLOCK_8X8 ∷ BLOCK_8X16 ∷ BLOCK_16X8 ∷ BLOCK_16X16 ∷ BLOCK_16X32 ∷
    BLOCK_32X16 ∷ BLOCK_32X32 ∷ BLOCK_32X64 ∷ BLOCK_64X32 ∷ BLOCK_64X64 ∷ BLOCK_64X128 ∷ BLOCK_128X64 ∷ BLOCK_128X128 ∷
    BLOCK_4X16 ∷ BLOCK_16X4 ∷ BLOCK_8X32 ∷ BLOCK_32X8 ∷ BLOCK_16X64 ∷ BLOCK_64X16 ∷ []

of_sides : (width height : ℕ) → BlockSize
of_sides width height = unwrap_or (find (λ b. (block_width b == width) && (block_height b == height)) sizes) BLOCK_4X4

of_sides-own : (b : BlockSize) → of_sides (block_width b) (block_height b) ≡ b
unfolding of_sides sizes
of_sides-own BLOCK_4X4 = refl
of_sides-own _ = refl

-- Sizes with the same sides are the same.
pub same_sides : (a b : BlockSize) → block_width a ≡ block_width b → block_height a ≡ block_height b → a ≡ b
same_sides a b w h =
    sym (of_sides-own a) ∙ ap (λ n. of_sides n (block_height a)) w ∙ ap (of_sides (block_width b)) h ∙ of_sides-own b

both_sides-reversed : (p q : Ordering) →
    both_sides (ordering_reverse p) (ordering_reverse q) ≡ option_map ordering_reverse (both_sides p q)
both_sides-reversed Less Less = refl
both_sides-reversed Less Equal = refl
both_sides-reversed Less Greater = refl
both_sides-reversed Equal q = refl
both_sides-reversed Greater Less = refl
both_sides-reversed Greater Equal = refl
both_sides-reversed Greater Greater = refl

product_cmp-reversed : (a b : BlockSize) → product_cmp a b ≡ option_map ordering_reverse (product_cmp b a)
product_cmp-reversed a b =
    ap (λ p. both_sides p (nat_cmp (block_height a) (block_height b)))
    (nat_cmp_total.antisymm (block_width a) (block_width b))
    ∙ ap (both_sides (ordering_reverse (nat_cmp (block_width b) (block_width a))))
    (nat_cmp_total.antisymm (block_height a) (block_height b))
    ∙ both_sides-reversed (nat_cmp (block_width b) (block_width a)) (nat_cmp (block_height b) (block_height a))

-- If a block is less, none of its sides is greater.
no_greater : (p q : Ordering) → both_sides p q ≡ Some Less → (is_gt p ≡ false) × (is_gt q ≡ false)
no_greater Less Less e = (refl, refl)
no_greater Less Equal e = (refl, refl)
no_greater Less Greater e = absurd (true≢false (sym (ap is_some e)))
no_greater Equal Less e = (refl, refl)
no_greater Equal Equal e = (refl, refl)
no_greater Equal Greater e = absurd (true≢false (ap (λ o. is_gt (unwrap_or o Less)) e))
no_greater Greater Less e = absurd (true≢false (sym (ap is_some e)))
no_greater Greater Equal e = absurd (true≢false (ap (λ o. is_gt (unwrap_or o Less)) e))
no_greater Greater Greater e = absurd (true≢false (ap (λ o. is_gt (unwrap_or o Less)) e))

-- A block of no greater side is less or equal.
less_or_equal : (p q : Ordering) → is_gt p ≡ false → is_gt q ≡ false → (both_sides p q ≡ Some Equal → ⊥) →
    both_sides p q ≡ Some Less
less_or_equal Less Less g h n = refl
less_or_equal Less Equal g h n = refl
less_or_equal Less Greater g h n = absurd (true≢false h)
less_or_equal Equal Less g h n = refl
less_or_equal Equal Equal g h n = absurd (n refl)
less_or_equal Equal Greater g h n = absurd (true≢false h)
less_or_equal Greater q g h n = absurd (true≢false g)

both_equal : (p q : Ordering) → both_sides p q ≡ Some Equal → (p ≡ Equal) × (q ≡ Equal)
both_equal Less Less e = absurd (true≢false (ap (λ o. is_lt (unwrap_or o Equal)) e))
both_equal Less Equal e = absurd (true≢false (ap (λ o. is_lt (unwrap_or o Equal)) e))
both_equal Less Greater e = absurd (true≢false (sym (ap is_some e)))
both_equal Equal q e = (refl, ap (λ o. unwrap_or o Less) e)
both_equal Greater Less e = absurd (true≢false (sym (ap is_some e)))
both_equal Greater Equal e = absurd (true≢false (ap (λ o. is_gt (unwrap_or o Equal)) e))
both_equal Greater Greater e = absurd (true≢false (ap (λ o. is_gt (unwrap_or o Equal)) e))

nat_cmp-equal : (m n : ℕ) → nat_cmp m n ≡ Equal → m ≡ n
nat_cmp-equal m n e = subst (λ r. MatchOrdering r (m < n) (m ≡ n) (n < m)) e (ranks m n)

-- Sizes that compare as equal are the same.
pub product_cmp-equal : (a b : BlockSize) → product_cmp a b ≡ Some Equal → a ≡ b
product_cmp-equal a b e =
    let both = both_equal (nat_cmp (block_width a) (block_width b)) (nat_cmp (block_height a) (block_height b)) e in
    same_sides a b (nat_cmp-equal _ _ both.0) (nat_cmp-equal _ _ both.1)

product_cmp-own : (a : BlockSize) → product_cmp a a ≡ Some Equal
product_cmp-own a =
    ap (λ p. both_sides p (nat_cmp (block_height a) (block_height a))) (tied_itself nat_cmp_total (block_width a))
    ∙ ap Some (tied_itself nat_cmp_total (block_height a))

product_cmp-chain : (a b c : BlockSize) → product_cmp a b ≡ Some Less → product_cmp b c ≡ Some Less →
    product_cmp a c ≡ Some Less
product_cmp-chain a b c e f =
    let ab = no_greater (nat_cmp (block_width a) (block_width b)) (nat_cmp (block_height a) (block_height b)) e in
    let bc = no_greater (nat_cmp (block_width b) (block_width c)) (nat_cmp (block_height b) (block_height c)) f in
    less_or_equal (nat_cmp (block_width a) (block_width c)) (nat_cmp (block_height a) (block_height c))
    (upto nat_cmp_total (block_width a) (block_width b) (block_width c) ab.0 bc.0)
    (upto nat_cmp_total (block_height a) (block_height b) (block_height c) ab.1 bc.1)
    (λ same.
    let back : product_cmp b a ≡ Some Less =
    subst (λ x. product_cmp b x ≡ Some Less) (sym (product_cmp-equal a c same)) f in
    true≢false
    (ap (λ o. is_lt (unwrap_or o Equal))
    (sym e ∙ product_cmp-reversed a b ∙ ap (option_map ordering_reverse) back)))

pub product_order : IsPartialOrder (sameb the_type) product_cmp
product_order = record {
  antisymm = product_cmp-reversed;
  trans = product_cmp-chain;
  matches_eq = λ a b. (
    λ e. subst (λ x. product_cmp a x ≡ Some Equal) (same_true the_type tt a b e) (product_cmp-own a),
    λ e. true_same the_type a b (product_cmp-equal a b e),
  );
  congr = λ a b c e. ap (λ x. product_cmp x c) (same_true the_type tt a b e);
}
