-- `filled` hands its slice back, and the first elements of that are lent.
use mathlib.Core.Path.{◌≡◌, refl, ap, ◌∙◌}
use Prim.Native.Nat.{ℕ, ◌*◌, ◌≤◌}
use mathlib.Core.List.{List, [], ◌∷◌, ◌++◌}
use lib.ListN.{length, take, drop as drop_list}
use seplogic.Ra.Ura.{Ura}
use mir.MapTy.{inst_fn}
use mir.Syntax.{Args, named, w64, a_type, dnil, dcons}
use mir.Val.{Val, vint, vstruct, of_list}
use base.Logic.{emp, id⊢}
use base.Fml.{GName, ftrue, flft}
use types.Logic.{Logic}
use types.Kit.{Item, ‵, ◌⊛◌, raw, some, later, ◌$◌, ◌∵◌, !, qed, move, keep, drop, split, join, fsplit, fsplit3, fjoin, fpick, feq_l, use0, use1, use2}
use types.Kit.{rewrite, await, pick, suffices, frame, done}
use types.Part.{whole, sub, agg}
use types.Run.{stop, fld, hop, from, addr, of_opd, and_then, no_more, returns, enter}
use types.ByLocal.{alloc_all, pass_all, free_all, look_at, look_in_at, get, get_in, through, sets, lands_as}
use contract.Monad.{fact, fact_i}
use contract.Running.{tables}
use denote.RattleType.{RattleType}
use denote.Builtin.{i16, usize}
use denote.Exit.{Kept, left}
use denote.Array.{Array}
use denote.Follow.{follows}
use denote.Laws.{Is, shows}
use denote.Param.{bounded}
use denote.Ref.{MutBor, mut_vals, shr_vals}
use denote.Signature.{Slot}
use denote.Slice.{MutSlice, slice_val, mut_slice_vals, mut_slice_Tells}
use denote.Steps.{nothing, heard, peeks, only}
use denote.Struct.Tuple.{Tuple}
use denote.Struct.Laws as Struct
use denote.Struct.Loose as LooseStruct
use denote.Enum.Laws as Enum
use denote.Enum.Loose as LooseEnum
use denote.Triple.Call.{calls_at}
use denote.Triple.Clauses.{Ended, Lasts, at_exit, lasts}
use denote.Triple.End.{Kepts}
use denote.Triple.Entry.{Vals}
use denote.Triple.Spec.{triple_of}
use denote.Triple.Table.{framed}
use denote.Triple.Walked.{says, Stay, Stays, AllGo, walk_of, ends_at}
use Rattle.std.proofs.raw_atomic.Walks.{proved}
use Rattle.av1_frame.specs.contracts.block_unit.TileBlockOffset.{the_type as Place}
use Rattle.av1_blocks.specs.contracts.partition.BlockSize.{the_type as Size}
use Rattle.av1_blocks.specs.contracts.transform.TxSize.{the_type as Transform}
use Rattle.av1_frame.proofs.block_unit.TileBlockOffset.TheLaws as of_place
use Rattle.av1_blocks.proofs.partition.BlockSize.TheLaws as of_size
use Rattle.av1_blocks.proofs.transform.TxSize.TheLaws as of_transform
use Rattle.av1_intra.specs.ChromaFromLuma.{chroma_block, with_rows, leaf_difference}
use Rattle.av1_rav1e.specs.TileLuma.{leaf_in_tile, tile_luma}
use Rattle.av1_rav1e.specs.contracts.tile_luma.luma_ac as f
use Rattle.av1_rav1e.specs.contracts.tile_luma.filled as g
use Rattle.av1_rav1e.specs.contracts.tile_luma.front as h
use Rattle.av1_rav1e.proofs.tile_luma.filled.Met as filled
use Rattle.av1_rav1e.proofs.tile_luma.front.Met as front
use Rattle.av1_rav1e.proofs.tile_luma.luma_ac.Statement.{statement}
use Rattle.av1_rav1e.proofs.tile_luma.luma_ac.Code as code

-- of each parameter there is at exit what a callee that took them all says of it
abbrev left_of : {n : ℕ} (s : Slot n) (k : Kept) → Stay s k
left_of s k = record { fit = λ κs x w. Unit {0}; has = λ κs x w vs. left ((s.row κs).exit k) x w }

abbrev all_left : {n : ℕ} (ss : List (Slot n)) (ks : Kepts ss) → Stays ss ks
all_left [] ks = tt
all_left (s ∷ ss) ks = (left_of s ks.0, all_left ss ks.1)

go_left : {M : Type 1} {𝓤 : Ura M} (𝓛 : Logic 𝓤) {n : ℕ} (ss : List (Slot n)) (ks : Kepts ss) → AllGo 𝓛 n ss ks (all_left ss ks)
go_left 𝓛 [] ks = tt
go_left 𝓛 (s ∷ ss) ks = ((λ κs x w vs fits. 𝓛.laws.⇛_intro _), go_left 𝓛 ss ks.1)

pub luma_ac_spec : {M : Type 1} → statement M
luma_ac_spec 𝓤 𝓛 𝓜 𝓡 wired X Y L K C B pixel d₀ clone d₁ ord d₂ equal d₃ same_as d₄ ordered d₅ coeff d₆ coeff_clone d₇ m₀ m₁ m₂ m₃ m₄ m₅ m₆ m₇ =
    let args : Args =
    bounded (a_type ∷ a_type ∷ []) (X, (Y, tt)) (dcons d₀ (dcons d₁ (dcons d₂ (dcons d₃ (dcons d₄ (dcons d₅ (dcons d₆ (dcons d₇ dnil)))))))) in
    let T : Ended = f.ended X Y pixel d₀ clone d₁ ord d₂ equal d₃ same_as d₄ ordered d₅ coeff d₆ coeff_clone d₇ in let c =
    f.clauses X Y pixel d₀ clone d₁ ord d₂ equal d₃ same_as d₄ ordered d₅ coeff d₆ coeff_clone d₇ 𝓛 𝓜.mem 𝓡.returns in
    let stayed : Stays T.signature.params T.kept = all_left T.signature.params T.kept in
    let W = walk_of 𝓛 T stayed c in let 𝓣 = tables 𝓤 𝓛.H 𝓜 𝓡 𝓡.env in
    proved 𝓛 T stayed c 𝓜 𝓡 (go_left 𝓛 T.signature.params T.kept) (f.Key.name args) (inst_fn args code.function)
    (code.unfolded 𝓤 𝓛.H 𝓜 𝓡 wired (X, (Y, tt)) d₀ d₁ d₂ d₃ d₄ d₅ d₆ d₇)
    (λ κs. (
      mut_slice_vals,
      (
        mut_vals,
        (Struct.vals Place of_place.the_laws, (Enum.vals Size of_size.the_laws, (Enum.vals Transform of_transform.the_laws, (shr_vals, tt)))),
      ),
    ))
    (λ κs. (
      mut_slice_Tells (named 0) κs.0 i16,
      (
        (λ x vs is. is.0),
        (
          Struct.tells Place of_place.the_laws,
          (Enum.tells Size of_size.the_laws, (Enum.tells Transform of_transform.the_laws, ((λ x vs is. is.0), tt))),
        ),
      ),
    )) (λ κs qs bounds a _ are.
    let κ = κs.0 in let q = qs.0 in let ac : MutBor (List i16.Denot) = a.0 in
    let Slice : RattleType = MutSlice (named 0) κ i16 in let Two : RattleType = Tuple (Slice ∷ usize ∷ []) in
    let Tokens : Item 𝓤 =
    ‵ (flft κs.1.0 qs.1.0) ⊛ ‵ (flft κs.1.1.0 qs.1.1.0) ⊛ ‵ (flft κs.1.1.1.0 qs.1.1.1.0) ⊛ ‵ (flft κs.1.1.1.1.0 qs.1.1.1.1.0) ⊛ ‵
    (flft κs.1.1.1.1.1.0 qs.1.1.1.1.1.0) ⊛ ‵ ftrue in
    let U : Ended = g.ended X Y pixel d₀ clone d₁ ord d₂ equal d₃ same_as d₄ ordered d₅ coeff d₆ coeff_clone d₇ in
    let G = triple_of 𝓛 U.signature (g.spec X Y pixel d₀ clone d₁ ord d₂ equal d₃ same_as d₄ ordered d₅ coeff d₆ coeff_clone d₇ 𝓛 𝓜.mem 𝓡.returns) in
    let H = triple_of 𝓛 h.signature (h.spec 𝓛 𝓜.mem 𝓡.returns) in
    let vss : Vals T.signature κs = (
      mut_slice_vals ac,
      (
        mut_vals a.1.0,
        (
          Struct.vals Place of_place.the_laws a.1.1.0,
          (Enum.vals Size of_size.the_laws a.1.1.1.0, (Enum.vals Transform of_transform.the_laws a.1.1.1.1.0, (shr_vals a.1.1.1.1.1.0, tt))),
        ),
      ),
    ) in
    let y : W.Ghost = ((κs, qs, bounds, a, vss), tt) in let z : G.Ghost = ((κs, qs, bounds, a, vss), tt) in
    let leaf = leaf_in_tile a.1.0.now a.1.1.0 a.1.1.1.0 a.1.1.1.1.0 a.1.1.1.1.1.0.now in let b = chroma_block leaf in let n : ℕ = b.width * b.height in
    let rows : List i16.Denot = with_rows b.width b.height (leaf_difference (tile_luma pixel.num a.1.0.now.y) leaf) ac.now in
    qed 𝓛 (raw (G.pre z) ∷ []) ∵ enter ! _ _ _ _ _ $
    alloc_all ! (λ l. pass_all ! refl (
      (tt, (tt, (record { fits = are.0.0.1.0 }, tt))),
      (
        (tt, tt),
        (
          ((LooseStruct.loose_lawful Place of_place.the_loose 𝓛).typed a.1.1.0 _ are.1.1.0).0,
          (
            ((LooseEnum.loose_lawful Size of_size.the_loose tt 𝓛).typed a.1.1.1.0 _ are.1.1.1.0).0,
            (((LooseEnum.loose_lawful Transform of_transform.the_loose tt 𝓛).typed a.1.1.1.1.0 _ are.1.1.1.1.0).0, ((tt, tt), tt)),
          ),
        ),
      ),
    ) $
    sets ! (addr ! (from ! (fld ! refl (hop ! (look_in_at ! 1 (sub ! 0 refl (whole !))) (stop !))))) refl (tt, tt) $
    sets ! (agg ! (and_then ! (get ! refl) (and_then ! (get_in ! (fld ! refl (stop !)) (sub ! 1 refl (whole !))) (no_more !)))) refl (
      tt,
      (tt, (record { fits = are.0.0.1.0 }, tt)),
    ) $
    sets ! (addr ! (through ! refl (stop !))) refl (tt, tt) $
    calls_at ! (framed 𝓤 𝓛.H 𝓜 𝓣) G
    (filled.met 𝓤 𝓛 𝓜 𝓡 (code.calls-av1_rav1e::tile_luma::filled 𝓡.env wired) X Y L K C B pixel d₀ clone d₁ ord d₂ equal d₃ same_as d₄ ordered d₅ coeff
    d₆ coeff_clone d₇ m₀ m₁ m₂ m₃ m₄ m₅ m₆ m₇) z
    (and_then ! (get ! refl)
    (and_then ! (get ! refl) (and_then ! (get ! refl) (and_then ! (get ! refl) (and_then ! (get ! refl) (and_then ! (get ! refl) (no_more !)))))))
    (λ v.
    use1 𝓛 (later (some (λ (r : Two.Denot). ((‵ (flft κ q) ⊛ Tokens) ⊛ ‵ (Two.own_val r (v ∷ []))) ⊛ some (λ (ws : Lasts U κs a). ‵ (lasts U κs a ws) ⊛
    raw (fact 𝓤 (r.0.ghost_name ≡ ac.ghost_name)) ⊛ raw (fact 𝓤 (r.0.now ≡ rows)) ⊛ raw (fact 𝓤 (r.1 ≡ n)) ⊛ raw (fact 𝓤 (r.1 ≤ length r.0.now)) ⊛ raw
    (fact 𝓤 ((at_exit U κs a ws).1.0.now ≡ a.1.0.now)))))) (id⊢ 𝓤 _) $
    await ! tt $ pick ! (λ r. split ! $ split ! $ split ! $ move ! (3 ∷ []) $ pick ! (λ ws. split ! $ move ! (1 ∷ []) $
    split ! $ heard ! _ (λ same. split ! $ heard ! _ (λ value. split ! $ heard ! _ (λ count. split ! $ heard ! _ (λ few. heard ! _ (λ unchanged.
    move ! (3 ∷ []) $ fpick ! (λ uss. fsplit ! $ feq_l ! (λ e. fsplit3 ! $
    -- [the slice; the count; nothing; what is left of the parameters; the slice's token; the others]
    peeks ! Slice (Is Slice) (shows 𝓛 Slice) r.0 uss.0 (λ is. move ! (1 ∷ []) $ peeks ! usize (Is usize) (shows 𝓛 usize) r.1 uss.1.0 (λ is_count.
    rewrite ! 0 (λ (vs : List Val). ‵ (usize.own_val r.1 vs)) is_count.0 refl $ rewrite ! 1 (λ (vs : List Val). ‵ (Slice.own_val r.0 vs)) is.0.0 refl $
    lands_as ! (ap only e ∙ (λ i. vstruct (of_list (is.0.0 i ++ (is_count.0 i ++ []))))) refl (
      tt,
      ((tt, (record { fits = is.0.1.0 }, tt)), (record { fits = is_count.1 }, tt)),
    ) $
    sets ! (of_opd ! (get_in ! (fld ! refl (stop !)) (sub ! 0 refl (whole !)))) refl (tt, (tt, (record { fits = is.0.1.0 }, tt))) $
    sets ! (of_opd ! (get_in ! (fld ! refl (stop !)) (sub ! 1 refl (whole !)))) refl (tt, record { fits = is_count.1 }) $
    sets ! (addr ! (from ! (fld ! refl (hop ! (look_in_at ! 7 (sub ! 0 refl (whole !))) (stop !))))) refl (tt, tt) $
    sets ! (agg ! (and_then ! (get ! refl) (and_then ! (get_in ! (fld ! refl (stop !)) (sub ! 1 refl (whole !))) (no_more !)))) refl (
      tt,
      (tt, (record { fits = is.0.1.0 }, tt)),
    ) $
    let x : H.Ghost = (((κ, tt), (q, tt), tt, (r.0, (r.1, tt)), (mut_slice_vals r.0, (vint w64 r.1 ∷ [], tt))), tt) in
    move ! (0 ∷ 2 ∷ []) $ fjoin ! $ move ! (1 ∷ 0 ∷ []) $ fjoin ! $ nothing ! $ move ! (3 ∷ 0 ∷ []) $ join ! $ join ! $
    use0 𝓛 (raw (fact 𝓤 (r.1 ≤ length r.0.now))) (fact_i 𝓤 _ (emp 𝓤) few) $ move ! (1 ∷ 0 ∷ []) $ use2 𝓛 (raw (H.pre x)) (id⊢ 𝓤 _) $
    calls_at ! (framed 𝓤 𝓛.H 𝓜 𝓣) H (front.met 𝓤 𝓛 𝓜 𝓡 (code.calls-av1_rav1e::tile_luma::front 𝓡.env wired)) x
    (and_then ! (get ! refl) (and_then ! (get ! refl) (no_more !))) (λ v'.
    let Follows : GName → GName → ℕ → List i16.Denot → Item 𝓤 = λ γ δ k xs. ‵ (follows (Array i16 0) (Array i16 0) γ δ (λ us. us ++ drop_list k xs)) in
    use1 𝓛 (later
    (some (λ (s : MutBor (List i16.Denot)). ((‵ (flft κ q) ⊛ ‵ ftrue) ⊛ ‵ (Slice.own_val s (v' ∷ []))) ⊛ some
    (λ (us : Lasts h.ended (κ, tt) (r.0, (r.1, tt))). ‵ (lasts h.ended (κ, tt) (r.0, (r.1, tt)) us) ⊛
    Follows r.0.ghost_name s.ghost_name r.1 r.0.now ⊛ raw (fact 𝓤 (s.now ≡ take r.1 r.0.now)))))) (id⊢ 𝓤 _) $
    await ! tt $ pick !
    (λ s. split ! $ split ! $ split ! $ move ! (3 ∷ []) $ pick ! (λ us. split ! $ drop ! $ split ! $ move ! (1 ∷ []) $ heard ! _ (λ is_front.
    rewrite ! 0 (λ (γ : GName). Follows γ s.ghost_name r.1 r.0.now) same refl $ rewrite ! 0 (λ (k : ℕ). Follows ac.ghost_name s.ghost_name k r.0.now) count
    refl $
    rewrite ! 0 (λ (xs : List i16.Denot). Follows ac.ghost_name s.ghost_name n xs) value refl $
    -- [what the slice ends as; its token; nothing; the front; what is left of the parameters; the other tokens]
    move ! (3 ∷ []) $ peeks ! Slice (Is Slice) (shows 𝓛 Slice) s (v' ∷ [])
    (λ is_part. rewrite ! 0 (λ (vs : List Val). ‵ (Slice.own_val s vs)) is_part.0.0 refl $
    lands_as ! (ap only is_part.0.0) refl (tt, (tt, (record { fits = is_part.0.1.0 }, tt))) $
    returns ! (look_at ! 0 refl) $ free_all ! refl $
    suffices ! _ (ends_at 𝓛 T stayed c y (slice_val s.ref_ptr (length s.now)) s ws (tt, (tt, (tt, (tt, (tt, (tt, tt))))))) $
    keep ! (2 ∷ 5 ∷ 4 ∷ 0 ∷ 1 ∷ []) $ join ! $ move ! (1 ∷ 2 ∷ []) $ join ! $ move ! (1 ∷ 0 ∷ []) $ join ! $ frame ! $ frame ! $
    says ! unchanged $ use0 𝓛 (raw (fact 𝓤 (s.now ≡ take n rows))) (fact_i 𝓤 _ (emp 𝓤) (is_front ∙ (λ i. take (count i) (value i)))) $ done !)))))))))))))))))))
