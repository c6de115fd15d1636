-- The first elements of a slice are lent for all the time that the slice has left, and the slice ends as those elements, as they are left, before the others.
use mathlib.Core.Path.{◌≡◌, refl, sym, ap, subst, ◌∙◌}
use Prim.Native.Nat.{ℕ, ◌+◌, ◌*◌, ◌≤◌}
use native.Mathlib.Nat.{mul-le-mul_right}
use native.Mathlib.Omega.{arith}
use mathlib.Core.List.{List, [], ◌∷◌, ◌++◌}
use lib.ListN.{length, take, drop as drop_list, take-append-drop}
use seplogic.Ra.Ura.{Ura}
use mir.Syntax.{Lifetime, named, w64}
use mir.Val.{Val, vint}
use base.Logic.{SProp, ent, sep, ex}
use base.Stored.{coded_list}
use base.Fml.{Lft, GName, Share, ftrue, flft, fobs, fbor}
use types.Logic.{Logic, sem}
use types.Kit.{Item, ‵, ◌⊛◌, raw, some, later, ◌$◌, ◌∵◌, !, qed, move, keep, drop, split, split3, join, group, fsplit, fsplit3, fjoin, feq_l, feq_i, use1}
use types.Kit.{use2, rewrite, updating, await, pick, now, show, suffices, frame, done}
use types.Part.{whole, sub, agg}
use types.Run.{stop, fld, hop, from, addr, and_then, no_more, returns, enter}
use types.ByLocal.{alloc_all, pass_all, free_all, look_at, look_in_at, get, sets}
use types.SemTy.{cells, Arr, Body}
use types.Mut.{open_ref}
use types.Follow.{takes_part}
use contract.Monad.{fact}
use contract.Running.{tables}
use denote.RattleType.{RattleType, owns}
use denote.Memory.{mem}
use denote.Builtin.{i16, usize}
use denote.Exit.{yes}
use denote.Array.{Array}
use denote.Follow.{follows}
use denote.FollowSlice.{heres_id, slice_of}
use denote.Plain.{uint_vals, uint_Tells}
use denote.Signature.{plain}
use denote.Slice.{MutSlice, Room, slice_val, mut_slice_vals, mut_slice_Tells}
use denote.Steps.{nothing, heard}
use denote.Triple.Entry.{on_entry}
use denote.Triple.Walked.{says, Stays, stay_dropped, walk_of, ends_at, Goes-dropped, Goes-spent_slice}
use borrow.Table.Elements.{at, cut_app, join_app, length_app, length-take-le}
use Rattle.std.proofs.raw_atomic.Walks.{proved}
use Rattle.av1_rav1e.specs.contracts.tile_luma.front as f
use Rattle.av1_rav1e.proofs.tile_luma.front.Statement.{statement}
use Rattle.av1_rav1e.proofs.tile_luma.front.Code as code

-- a `&mut [R]` on front ++ back is lent on as one on front
module _ {M : Type 1} {𝓤 : Ura M} (𝓛 : Logic 𝓤) (R : RattleType) (ℓ : Lifetime) (κ : Lft) (q : Share) (b o : ℕ) (γ : GName) (front back : List R.Denot) where
  open 𝓛 use {H, A}

  abbrev n : ℕ
  n = length (front ++ back)

  abbrev p : ℕ
  p = at o (mem R).size (length front)

  abbrev before : List R.Denot → List R.Denot
  before ws = ws ++ back

  abbrev Lent : GName → SProp 𝓤
  Lent δ = sep 𝓤 (sem 𝓛 ((MutSlice ℓ κ R).own_val (record { ref_ptr = (b, o); ghost_name = δ; now = front }) (slice_val (b, o) (length front) ∷ [])))
      (sep 𝓤 (A.lft κ q) (sem 𝓛 (follows (Array R 0) (Array R 0) γ δ before)))

  put_before : (ws : List R.Denot) →
      ent 𝓤 (sep 𝓤 (sem 𝓛 ((Arr (mem R) (length front)).own_at ws b o)) (sem 𝓛 (cells (mem R) back b p))) (sem 𝓛 ((Arr (mem R) n).own_at (before ws) b o))
  put_before ws = qed 𝓛 (‵ ((Arr (mem R) (length front)).own_at ws b o) ∷ ‵ (cells (mem R) back b p) ∷ []) ∵ fsplit ! $ feq_l ! (λ e.
      rewrite ! 1 (λ (k : ℕ). ‵ (cells (mem R) back b (at o (mem R).size k))) (sym e) refl $
      use2 𝓛 (‵ (cells (mem R) (before ws) b o)) (join_app 𝓛 (mem R) ws back b o) $
      feq_i ! ℕ (length (before ws)) n (length_app ws back ∙ ap (λ (k : ℕ). k + length back) e ∙ sym (length_app front back)) $ fjoin ! $ done !)

  lends_before : Room R (length front) → (vs : List Val)
      → ent 𝓤 (sep 𝓤 (sem 𝓛 ((MutSlice ℓ κ R).own_val (record { ref_ptr = (b, o); ghost_name = γ; now = front ++ back }) vs)) (A.lft κ q)) (H.⇛ (ex 𝓤 Lent))
  lends_before rm vs =
      qed 𝓛 (‵ ((MutSlice ℓ κ R).own_val (record { ref_ptr = (b, o); ghost_name = γ; now = front ++ back }) vs) ∷ ‵ (flft κ q) ∷ []) ∵ updating ! $ fsplit3
      ! $ drop ! $
      rewrite ! 0 (λ (l : List R.Denot). ‵ (fobs γ ((coded_list R.coded).code l))) (heres_id R (front ++ back)) refl $ open_ref ! tt (Arr (mem R) n) {b = b}
      {o = o} $ fsplit ! $ drop ! $
      use1 𝓛 (‵ (cells (mem R) front b o) ⊛ ‵ (cells (mem R) back b p)) (cut_app 𝓛 (mem R) front back b o) $ split ! $
      feq_i ! ℕ (length front) (length front) refl $ fjoin ! $ move ! (2 ∷ 3 ∷ 4 ∷ 0 ∷ 1 ∷ []) $ group ! 5 $
      use1 𝓛 (later
      (some (λ (δ : GName). ‵ (fobs δ ((coded_list R.coded).code front)) ⊛ ‵ (fbor κ (Body (Arr (mem R) (length front)) b o δ)) ⊛ ‵ (flft κ q) ⊛ ‵
      (follows (Array R 0) (Array R 0) γ δ before))))
      (takes_part 𝓛 (Arr (mem R) n)
      (Arr (mem R) (length front)) before κ q b o b o γ (sem 𝓛 (cells (mem R) back b p)) put_before ((coded_list R.coded).code (front ++ back))
      ((coded_list R.coded).code (front ++ back)) front) $
      await ! tt $ pick ! (λ δ. split3 ! $
      use2 𝓛 (‵ ((MutSlice ℓ κ R).own_val (record { ref_ptr = (b, o); ghost_name = δ; now = front }) (slice_val (b, o) (length front) ∷ [])))
      (slice_of 𝓛 R ℓ κ b o δ front rm) $ now ! $ show ! Lent δ $ done !)

abbrev stayed : Stays f.ended.signature.params f.ended.kept
stayed = (stay_dropped _ _, (stay_dropped _ _, tt))

pub front_spec : {M : Type 1} → statement M
front_spec 𝓤 𝓛 𝓜 𝓡 wired =
    let c = f.clauses 𝓛 𝓜.mem 𝓡.returns in let W = walk_of 𝓛 f.ended stayed c in let 𝓣 = tables 𝓤 𝓛.H 𝓜 𝓡 𝓡.env in
    proved 𝓛 f.ended stayed c 𝓜 𝓡 (Goes-spent_slice 𝓛 1 (0 ∷ []) tt (plain (λ _. i16)), (Goes-dropped 𝓛 1 (plain (λ _. usize)) yes (λ κs x w. refl), tt))
    f.Key.name code.function (code.unfolded 𝓤 𝓛.H 𝓜 𝓡 wired)
    (λ κs. (mut_slice_vals, (uint_vals w64, tt))) (λ κs. (mut_slice_Tells (named 0) κs.0 i16, (uint_Tells w64, tt))) (λ κs qs bounds a _ are.
    let κ = κs.0 in let q = qs.0 in let ac = a.0 in let m : ℕ = a.1.0 in let b = ac.ref_ptr.0 in let o = ac.ref_ptr.1 in let xs = ac.now in
    let Slice : GName → List i16.Denot → ℕ → Item 𝓤 =
    λ γ zs k. ‵ ((MutSlice (named 0) κ i16).own_val (record { ref_ptr = (b, o); ghost_name = γ; now = zs }) (slice_val (b, o) k ∷ [])) in
    let y : W.Ghost = ((κs, qs, bounds, a, (mut_slice_vals ac, (vint w64 m ∷ [], tt))), tt) in
    qed 𝓛 (raw (on_entry 𝓛 f.signature κs qs a y.0.4) ∷ raw (fact 𝓤 (m ≤ length xs)) ∷ []) ∵ move ! (1 ∷ []) $ heard ! _ (λ le.
    let taken : length (take m xs) ≡ m = length-take-le m xs le in
    let rm : Room i16 (length xs) = are.0.0.1 in
    let size : ℕ = (mem i16).size in
    let within : m * size ≤ length xs * size = mul-le-mul_right size le in
    let room : Room i16 m = (are.1.0.1, omega arith) in
    use1 𝓛 ((‵ (flft κ q) ⊛ ‵ ftrue) ⊛ ‵ (owns (MutSlice (named 0) κ i16 ∷ usize ∷ []) (ac, (m, tt)) y.0.4)) (base.Logic.id⊢ 𝓤 _) $ split ! $
    enter ! _ _ _ _ _ $ alloc_all ! (λ l. pass_all ! refl ((tt, (tt, (record { fits = rm.0 }, tt))), ((tt, record { fits = are.1.0.1 }), tt)) $
    sets ! (addr ! (from ! (fld ! refl (hop ! (look_in_at ! 1 (sub ! 0 refl (whole !))) (stop !))))) refl (tt, tt) $
    sets ! (agg ! (and_then ! (get ! refl) (and_then ! (get ! refl) (no_more !)))) refl (tt, (tt, (record { fits = are.1.0.1 }, tt))) $
    split ! $ move ! (2 ∷ []) $ fsplit ! $ move ! (0 ∷ 2 ∷ []) $
    rewrite ! 0 (λ (zs : List i16.Denot). Slice ac.ghost_name zs (length xs)) (sym (take-append-drop m xs)) refl $
    use2 𝓛 (later
    (some (λ (δ : GName). Slice δ (take m xs)
    (length (take m xs)) ⊛ ‵ (flft κ q) ⊛ ‵ (follows (Array i16 0) (Array i16 0) ac.ghost_name δ (λ ws. ws ++ drop_list m xs)))))
    (lends_before 𝓛 i16 (named 0) κ q b o ac.ghost_name (take m xs) (drop_list m xs) (subst (Room i16) (sym taken) room)
    (slice_val (b, o) (length xs) ∷ [])) $ await ! tt $ pick ! (λ δ.
    returns ! (look_at ! 0 refl) $ free_all ! refl $ keep ! (0 ∷ 2 ∷ []) $ split3 ! $
    rewrite ! 0 (λ (k : ℕ). Slice δ (take m xs) k) taken refl $
    suffices ! _ (ends_at 𝓛 f.ended stayed c y (slice_val (b, o) m) (record { ref_ptr = (b, o); ghost_name = δ; now = take m xs }) (tt, (tt, tt))
    (tt, (tt, tt))) $
    nothing ! $ nothing ! $ fjoin ! $ nothing ! $ fjoin ! $ join ! $ move ! (1 ∷ 3 ∷ []) $ join ! $ join ! $ frame ! $ says ! refl $ done !))))
