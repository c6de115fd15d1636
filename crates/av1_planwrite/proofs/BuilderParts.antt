-- What a plan in the making asks for next.
use Rattle.std.proofs.Common.{◌≡◌, ℕ, ◌≤◌, Bool, true, false, ◌&&◌, ◌||◌, if◌then◌else◌, List, Option, Some, None, Result, Ok, Err, refl, subst, sym, ap}
use Rattle.std.proofs.Common.{◌∙◌, arith}
use Rattle.std.specs.Prelude.{nat_le, IsSome, OnOk}
use Rattle.std.specs.Int.{is_in_range}
use Rattle.std.proofs.lemmas.Bool.{and_parts, leb-true}
use Rattle.av1_blocks.specs.declared.memory.OutOfMemory.{OutOfMemory}
use Rattle.av1_plan.specs.declared.header.Header.{Header}
use Rattle.av1_plan.specs.declared.nodes.Part.{Part}
use Rattle.av1_plan.specs.declared.nodes.Part.TheVariants.{Node, Leaf}
use Rattle.av1_plan.specs.Grammar.{is_mark}
use Rattle.av1_plan.specs.Remaining.{first_part}
use Rattle.av1_planwrite.specs.declared.error.BuildError.{BuildError}
use Rattle.av1_planwrite.specs.declared.error.BuildError.TheVariants.{Memory}
use Rattle.av1_planwrite.specs.declared.builder.PlanBuilder.{PlanBuilder}
use Rattle.av1_planwrite.specs.Builder.{TellsSome, built}
use Rattle.av1_planwrite.specs.Building.{Building, admits_mark, asks_leaf, asks_reference, asked_part, settled}

-- a leaf that is asked for is the first part
pub leaf_first : (b : Building) → asks_leaf (asked_part b) ≡ true → IsSome (first_part b.parts)
leaf_first b e = by (asks_reference b) (first_part b.parts) e
  where
    by : (a : Bool) (o : Option Part) → asks_leaf (if a then None else o) ≡ true → IsSome o
    by true o e = absurd cc
    by false None e = absurd cc
    by false (Some p) e = refl

-- the marks that a node may have are small
mark_small : (h : Header) (level x y mark : ℕ) → is_mark h level x y mark ≡ true → mark ≤ 9
unfolding is_mark
mark_small h level x y mark e = by (nat_le mark 3) _ refl e
  where
    by : (a s : Bool) → nat_le mark 3 ≡ a → (a || (is_in_range 8 9 mark && s)) ≡ true → mark ≤ 9
    by true s f e = omega (arith, leb-true mark 3 f)
    by false s f e =
        let (range, _) = and_parts (is_in_range 8 9 mark) s e in
        let (_, most) = and_parts (nat_le 8 mark) (nat_le mark 9) range in
        leb-true mark 9 most

-- and so is a mark that is admitted
pub admitted_small : (h : Header) (part : Option Part) (mark : ℕ) → admits_mark h part mark ≡ true → mark ≤ 9
admitted_small h None mark e = absurd cc
admitted_small h (Some (Node level x y)) mark e = mark_small h level x y mark e
admitted_small h (Some (Leaf size x y)) mark e = absurd cc

-- a part is asked for behind the planes
pub asked_first : (b : Building) (p : Part) → asked_part b ≡ Some p → (asks_reference b ≡ false) × (first_part b.parts ≡ Some p)
asked_first b p e = by (asks_reference b) e
  where
    by : (a : Bool) → (if a then None else first_part b.parts) ≡ Some p → (a ≡ false) × (first_part b.parts ≡ Some p)
    by true e = absurd cc
    by false e = (refl, e)

pub building_is : (h h_2 : Header) (slot slot_2 : ℕ) (ps qs : List Part) (bs cs : List ℕ) → h ≡ h_2 → slot ≡ slot_2 → ps ≡ qs → bs ≡ cs
    → (let b : Building = record { header = h; slot = slot; parts = ps; bytes = bs } in b) ≡ record { header = h_2; slot = slot_2; parts = qs; bytes = cs }
building_is h h_2 slot slot_2 ps qs bs cs e f g k = rw (e, f, g, k) refl

-- what is asked for doesn't depend on the bytes
pub other_bytes : (a b : Building) (bytes : List ℕ) → a ≡ b
    → (let d : Building = record { header = a.header; slot = a.slot; parts = a.parts; bytes = bytes } in d) ≡ record {
      header = b.header;
      slot = b.slot;
      parts = b.parts;
      bytes = bytes;
    }
other_bytes a b bytes e = ap (λ (d : Building). (let f : Building = record { header = d.header; slot = d.slot; parts = d.parts; bytes = bytes } in f)) e

-- where what was written is kept, it was written whole
pub written_well : {X : Type 0} (P : Type 0) (w : Result X OutOfMemory) (n : ℕ) (r : Result X BuildError) (x : X) → r ≡ Ok x → r ≡ settled w n → OnOk w P → P
written_well P (Ok y) n r x e f p = p
written_well P (Err y) n r x e f p = let dead : Ok x ≡ Err Memory = sym e ∙ f in absurd cc

-- a builder whose bytes are as before still tells a part of a plan
pub still : (b : PlanBuilder) {bytes : List ℕ} → bytes ≡ b.text.bytes.items → record { tells : ∥ TellsSome (built b.progress bytes) ∥₁ }
still b same = record { tells = subst (λ (bytes : List ℕ). ∥ TellsSome (built b.progress bytes) ∥₁) (sym same) b.tells }
