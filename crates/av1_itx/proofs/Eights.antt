-- Columns n at a time.
use Rattle.std.proofs.Common.{ℕ, true, refl, cond, ltb, leb, ◌&&◌, ◌≡◌, ◌+◌, ◌-◌, ◌*◌, ◌/◌, ◌<◌, ◌≤◌, ℤ, List, ◌++◌, take, length, arith, ap}
use Rattle.std.proofs.Common.{sym, ◌∙◌, inl}
use Rattle.std.proofs.Common.{inr, subst, ◌^◌}
use Rattle.std.specs.List.{All}
use Rattle.std.proofs.Math.Nat.{mul-le-mul_left, mul-le-mul_right}
use Rattle.std.proofs.lemmas.Bool.{cases_lt}
use Rattle.std.proofs.lemmas.Bool.Decides.{nat_tests}
use Rattle.std.proofs.lemmas.List.{take_at}
use Rattle.av1_dct.specs.Arithmetic.{at, FitsBits}
use Rattle.av1_dct.specs.Cosine.{cosine}
use Rattle.av1_lists.specs.Lists.{by_index}
use Rattle.av1_dct.specs.Word.{column}
use Rattle.av1_itx.specs.declared.kinds.TxType1D.{TxType1D}
use Rattle.av1_itx.specs.declared.kinds.TxType1D.TheVariants.{DCT}
use Rattle.av1_itx.specs.LaneGroups.{is_cosine}
use Rattle.av1_itx.specs.declared.columns.Columns.{Columns}
use Rattle.av1_itx.specs.Networks.{network, network_with}
use Rattle.av1_itx.specs.Scaffolding.{AreColumns}
use Rattle.av1_itx.proofs.Lines.{column_written}
use Rattle.av1_lists.proofs.Lists.{by_index-all, by_index-same}

-- one more group of m columns
pub groups_more : (w c d m h : ℕ) (F G D : ℕ → ℕ → ℤ) (old new : List ℤ) → d ≡ c + m
    → ((r q : ℕ) → r < h → q < w → at old (r * w + q) ≡ cond (ltb q c) (F r q) (G r q))
    → ((r q : ℕ) → r < h → q < w → at new (r * w + q) ≡ cond (leb c q && ltb q (c + m)) (D (q - c) r) (at old (r * w + q)))
    → ((i r : ℕ) → i < m → r < h → D i r ≡ F r (c + i))
    → (r q : ℕ) → r < h → q < w → at new (r * w + q) ≡ cond (ltb q d) (F r q) (G r q)
groups_more w c d m h F G D old new ed before now here = λ r q hr hq.
    let a = before r q hr hq in
    let b = now r q hr hq in
    elim (cases_lt q c) [
      | inl lo ↦ grind (arith, nat_tests)
      | inr lo ↦ elim (cases_lt q (c + m)) [
        | inl hi ↦ (let s : c + (q - c) ≡ q = omega arith in let u : D (q - c) r ≡ F r q = here (q - c) r (omega arith) hr ∙ ap (F r) s
            in grind (arith, nat_tests))
        | inr hi ↦ grind (arith, nat_tests)
      ]
    ]

-- the lanes that were gathered fit
pub lanes-fit : {W : Type 0} (lane : W → ℕ → ℤ) (h range i n : ℕ) (f : ℕ → ℤ) (line rest : List W) → n ≡ h → length line ≡ h →
    column lane i line ≡ by_index n f → ((r : ℕ) → r < h → FitsBits range (f r)) → All (FitsBits range) (column lane i (take h (line ++ rest)))
lanes-fit lane h range i n f line rest en len is fit =
    let P : List ℤ → Type 0 = λ zs. All (FitsBits range) zs in
    let e : column lane i (take h (line ++ rest)) ≡ by_index n f = ap (column lane i) (take_at line rest h len) ∙ is in
    subst P (sym e) (by_index-all (FitsBits range) _ _ (λ r l. fit r (omega arith)))

-- a lane that was gathered and run
pub lane_run : {W : Type 0} (lane : W → ℕ → ℤ) (h i n : ℕ) (made : List ℤ → List ℤ) (f g : ℕ → ℤ) (line rest out rest2 : List W) → n ≡ h → length line ≡ h →
    length out ≡ h
    → column lane i line ≡ by_index n f
    → column lane i out ≡ made (column lane i (take h (line ++ rest)))
    → ((r : ℕ) → r < h → f r ≡ g r)
    → column lane i (take h (out ++ rest2)) ≡ made (by_index h g)
lane_run lane h i n made f g line rest out rest2 en len lo is is_out same =
    ap (column lane i) (take_at out rest2 h lo) ∙ is_out
    ∙ ap made (ap (column lane i) (take_at line rest h len) ∙ is ∙ ap (λ m. by_index m f) en ∙ by_index-same h f g same)

-- a column that no group has reached
pub lanes_kept : (w c d h : ℕ) (F : ℕ → ℕ → ℤ) (buf old : List ℤ) →
    ((r q : ℕ) → r < h → q < w → at buf (r * w + q) ≡ cond (ltb q c) (F r q) (at old (r * w + q))) → c ≤ d → d < w → (r : ℕ) → r < h →
    at buf (r * w + d) ≡ at old (r * w + d)
lanes_kept w c d h F buf old inv le lt r hr = let i = inv r d hr lt in grind (arith, nat_tests)

cosine_kind : (kind : TxType1D) → is_cosine kind ≡ true → kind ≡ DCT
cosine_kind kind = elim kind as (λ t. is_cosine t ≡ true → t ≡ DCT) [ DCT ↦ (λ h. refl) | _ ↦ (λ h. cc) ]

pub dct_is : (range k : ℕ) (x : List ℤ) → cosine range k x ≡ network DCT range k x
unfolding network_with
dct_is range k x = refl

-- a column of cosine transforms is the column of the block
pub cosine_value : (kind : TxType1D) (range k r : ℕ) (xs : List ℤ) (z : ℤ) → is_cosine kind ≡ true → z ≡ at (cosine range k xs) r →
    z ≡ at (network kind range k xs) r
cosine_value kind range k r xs z hk is = is ∙ ap (λ zs. at zs r) (dct_is range k xs ∙ ap (λ t. network t range k xs) (sym (cosine_kind kind hk)))

-- a group that is one of the w / m has its columns, and all of them have all
pub group_room : (m g w : ℕ) → m * (w / m) ≡ w → g < w / m → m * g + m ≤ w
group_room m g w whole lt = let n : m * (g + 1) ≤ m * (w / m) = mul-le-mul_left m (let l : g + 1 ≤ w / m = omega arith in l) in omega arith

pub group_in : {l m g w : ℕ} → m ≡ l → l * (w / l) ≡ w → g < w / m → m * g + l ≤ w
group_in {l} {m} {g} {w} is whole lt = let whole_m : m * (w / m) ≡ w = subst (λ (n : ℕ). n * (w / n) ≡ w) (sym is) whole in let room =
    group_room m g w whole_m lt in omega arith

pub all_groups : (m g w : ℕ) → m * (w / m) ≡ w → w / m ≤ g → w ≤ m * g
all_groups m g w whole le = let n = mul-le-mul_left m le in omega arith

-- so many words of so many bytes have room in memory
pub room_for : (count bytes : ℕ) → count ≤ 64 → bytes ≤ 64 → count * bytes < 2 ^ 63
room_for count bytes few small = let all = mul-le-mul_right bytes few in omega (arith, all)

-- columns with their height and its power as other numbers
abbrev pub with_height : Columns → (height power : ℕ) → Columns
with_height columns height power = record {
  kind = columns.kind;
  count = columns.count;
  width = columns.width;
  height = height;
  power = power;
  range = columns.range;
}

-- are the same where these are
pub known_is : (columns : Columns) (h k : ℕ) → columns.height ≡ h → columns.power ≡ k → columns ≡ with_height columns h k
known_is columns h k eh ek =
    subst (λ (n : ℕ). columns ≡ with_height columns n k) eh (subst (λ (n : ℕ). columns ≡ with_height columns columns.height n) ek refl)

-- a group of columns that are transformed is among those of the buffer
pub group_within : {l m g : ℕ} {columns : Columns} {buffer : List ℤ} → m ≡ l → l * (columns.count / l) ≡ columns.count → AreColumns columns buffer →
    g < columns.count / m → m * g + l ≤ columns.width
group_within {l} {m} {g} {columns} is whole are lt = let room = group_in is whole lt in omega (arith, room, are.within)

-- the columns of a buffer of which all groups were written
pub groups_written : (m l g : ℕ) (columns : Columns) (buffer old : List ℤ) (F : ℕ → ℕ → ℤ) → m ≡ l → l * (columns.count / l) ≡ columns.count →
    columns.count ≤ columns.width → columns.count / m ≤ g
    → ((r q : ℕ) → r < columns.height → q < columns.width
    → at buffer (r * columns.width + q) ≡ cond (ltb q (m * g)) (F r q) (at old (r * columns.width + q)))
    → (r q : ℕ) → r < columns.height → q < columns.count → at buffer (r * columns.width + q) ≡ F r q
groups_written m l g columns buffer old F is whole within end before =
    let n = columns.count in
    let whole_m : m * (n / m) ≡ n = subst (λ (k : ℕ). k * (n / k) ≡ n) (sym is) whole in
    column_written n columns.width (m * g) columns.height buffer old F before (all_groups m g n whole_m end) within

-- of no group so far
pub none_done : (m q : ℕ) (x y : ℤ) → y ≡ cond (ltb q (m * 0)) x y
none_done m q x y = let none : m * 0 ≡ 0 = omega arith in grind (arith, nat_tests)
