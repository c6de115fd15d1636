-- Parts of rows: a front that is copied from another row, and the numbers of a part's samples.
use Rattle.std.proofs.Common.{ℕ, ◌+◌, ◌<◌, ◌≤◌, ◌≡◌, List, ◌++◌, length, get_or, take, drop, map, ap, arith, ◌∙◌, sym, inl, inr}
use Rattle.std.proofs.lemmas.Bool.Decides.{nat_tests}
use Rattle.std.proofs.lemmas.Bool.{cases_lt}
use Rattle.std.proofs.lemmas.List.{places, get_or-map, get_or-take, get_or-drop}
use Rattle.av1_frame.specs.Samples.{paint_row, part}
use Rattle.av1_frame.proofs.Update.{update_is, length-update, get_or-update}

-- a row whose first n samples are those of another
pub copied_front : {X : Type 0} (n : ℕ) (s source ys : List X) → n ≤ length s → n ≤ length source → ys ≡ take n source →
    ys ++ drop n s ≡ paint_row n (λ c v. get_or source c v) s
unfolding paint_row
copied_front n s source ys h l e =
    ap (λ y. y ++ drop n s) e ∙ update_is _ s _ (grind (arith, places, length-update)) (λ k d q. elim (cases_lt k n) [
      | inl b ↦ grind (arith, nat_tests, places, get_or-update, length-update)
      | inr b ↦ grind (arith, nat_tests, places, get_or-update, length-update)
    ])

-- a sample of a part
pub part_sample : {T : Type 0} (num : T → ℕ) (s : List T) (i n m j : ℕ) (d : T) → m < n → i + n ≤ length s → j ≡ i + m →
    num (get_or (part i n s) m d) ≡ get_or (map num s) j 0
part_sample num s i n m j d h e r =
    ap num (get_or-take n (drop i s) m d h ∙ get_or-drop i s m d) ∙ sym (get_or-map num s (i + m) d 0 (omega arith)) ∙ ap (λ k. get_or (map num s) k 0) (sym r)
