-- What a plan asks for, call by call.
use Rattle.std.proofs.Common.{◌≡◌, ℕ, zero, suc, ◌+◌, ◌-◌, ◌<◌, ◌≤◌, Bool, true, false, if◌then◌else◌, List, [], ◌∷◌, ◌++◌, length, Option, Some, None, refl}
use Rattle.std.proofs.Common.{sym, ap, subst, ◌∙◌, append_assoc, arith}
use Rattle.std.proofs.lemmas.List.{append-nil}
use Rattle.av1_blocks.specs.declared.partition.BlockSize.{BlockSize}
use Rattle.av1_blocks.specs.declared.partition.PartitionType.{PartitionType}
use Rattle.av1_plan.specs.declared.header.Header.{Header}
use Rattle.av1_plan.specs.Format.{Format, done, ◌>>=◌, lone, nothing, ◌++>◌, in_turn}
use Rattle.av1_plan.specs.Geometry.{has_slot}
use Rattle.av1_plan.specs.Grammar.{mark, superblocks}
use Rattle.av1_plan.specs.Grammar as grammar
use Rattle.av1_plan.specs.Plan.{LeafValue, PlanValue}
use Rattle.av1_plan.specs.Spelling.{Spells, text}
use Rattle.av1_plan.specs.declared.nodes.Part.{Part}
use Rattle.av1_plan.specs.declared.nodes.Part.TheVariants.{Node, Leaf}
use Rattle.av1_plan.specs.Remaining.{part_format, parts_format, cut_before, down, rows_of}
use Rattle.av1_planwrite.specs.Asked.{asked_for, After}
use Rattle.av1_planwrite.specs.Building.{slot_from, slots_without}
use Rattle.av1_plan.proofs.FormatLaws.{bind_assoc, bind_same}
use Rattle.av1_planwrite.proofs.After.{after_spelled}
use Rattle.av1_plan.proofs.RemainingParts.{node_first, superblocks_asked}

abbrev Slots : Type 0
Slots = List (Option (List (List ℕ)))

abbrev plan_is : Header → Slots → List LeafValue → PlanValue
plan_is h stored leaves = record { header = h; references = stored; leaves = leaves }

module _ (h : Header) where
  -- the slots from this one on, n of them
  abbrev slots_of : (slot n : ℕ) → Format Slots
  slots_of slot n = in_turn (λ i. lone (grammar.slot_planes h i)) slot n

  -- what is asked for behind these slots
  abbrev behind : List Part → List LeafValue → Slots → Format PlanValue
  behind ps leaves stored = parts_format h ps >>= λ later. done (plan_is h stored (leaves ++ later))

  -- the same as a plan asks for it, with n slots left
  abbrev left : (slot n : ℕ) → List Part → Slots → List LeafValue → Format PlanValue
  left slot n ps stored leaves = slots_of slot n >>= λ more. behind ps leaves (stored ++ more)

  left_is : (slot n : ℕ) (ps : List Part) (stored : Slots) (leaves : List LeafValue) → n ≡ 8 - slot →
      asked_for h slot ps stored leaves ≡ left slot n ps stored leaves
  unfolding asked_for
  left_is slot n ps stored leaves e = rw e refl

  no_slots : (slot : ℕ) → slots_of slot 0 ≡ nothing
  unfolding in_turn
  no_slots slot = refl

  one_slot : (slot n : ℕ) → slots_of slot (suc n) ≡ lone (grammar.slot_planes h slot) ++> slots_of (slot + 1) n
  unfolding in_turn
  one_slot slot n = refl

  -- one slot, and then the others
  first_slot : (slot n : ℕ) (ps : List Part) (stored : Slots) (leaves : List LeafValue)
      → left slot (suc n) ps stored leaves ≡ (grammar.slot_planes h slot >>= λ o. left (slot + 1) n ps (stored ++ o ∷ []) leaves)
  first_slot slot n ps stored leaves =
      let more = slots_of (slot + 1) n in
      let end : Slots → Format PlanValue = behind ps leaves in
      ap (λ (f : Format Slots). f >>= λ zs. end (stored ++ zs)) (one_slot slot n)
      ∙ bind_assoc (lone (grammar.slot_planes h slot)) (λ xs. more >>= λ ys. done (xs ++ ys)) (λ zs. end (stored ++ zs))
      ∙ bind_assoc (grammar.slot_planes h slot) (λ o. done (o ∷ [])) (λ xs. (more >>= λ ys. done (xs ++ ys)) >>= λ zs. end (stored ++ zs))
      ∙ bind_same (grammar.slot_planes h slot) (λ o. (more >>= λ ys. done (o ∷ ys)) >>= λ zs. end (stored ++ zs))
      (λ o. more >>= λ ys. end (stored ++ o ∷ [] ++ ys)) (λ o. each more end o)
    where
      each : (more : Format Slots) (end : Slots → Format PlanValue) (o : Option (List (List ℕ))) →
          (more >>= λ ys. done (o ∷ ys)) >>= (λ zs. end (stored ++ zs)) ≡ more >>= (λ ys. end (stored ++ o ∷ [] ++ ys))
      each more end o =
          bind_assoc more (λ ys. done (o ∷ ys)) (λ zs. end (stored ++ zs))
          ∙ bind_same more (λ ys. end (stored ++ (o ∷ ys))) (λ ys. end (stored ++ o ∷ [] ++ ys)) (λ ys. ap end (sym (append_assoc stored (o ∷ []) ys)))

  given_by : (b : Bool) (k : Option (List (List ℕ)) → Format PlanValue) → b ≡ true →
      ((if b then (grammar.reference h >>= λ planes. done (Some planes)) else done None) >>= k) ≡ (grammar.reference h >>= λ planes. k (Some planes))
  given_by true k e = bind_assoc (grammar.reference h) (λ planes. done (Some planes)) k
  given_by false k e = absurd cc

  none_by : (b : Bool) (k : Option (List (List ℕ)) → Format PlanValue) → b ≡ false →
      ((if b then (grammar.reference h >>= λ planes. done (Some planes)) else done None) >>= k) ≡ k None
  none_by true k e = absurd cc
  none_by false k e = refl

  -- a slot that carries planes asks for them, and another for nothing
  slot_given : (slot n : ℕ) (ps : List Part) (stored : Slots) (leaves : List LeafValue) → has_slot h slot ≡ true
      → left slot (suc n) ps stored leaves ≡ (grammar.reference h >>= λ planes. left (slot + 1) n ps (stored ++ Some planes ∷ []) leaves)
  unfolding grammar.slot_planes
  slot_given slot n ps stored leaves e = first_slot slot n ps stored leaves ∙ given_by (has_slot h slot) (λ o. left (slot + 1) n ps (stored ++ o ∷ []) leaves) e

  slot_without : (slot n : ℕ) (ps : List Part) (stored : Slots) (leaves : List LeafValue) → has_slot h slot ≡ false →
      left slot (suc n) ps stored leaves ≡ left (slot + 1) n ps (stored ++ None ∷ []) leaves
  unfolding grammar.slot_planes
  slot_without slot n ps stored leaves e = first_slot slot n ps stored leaves
      ∙ none_by (has_slot h slot) (λ o. left (slot + 1) n ps (stored ++ o ∷ []) leaves) e

  -- the slots that carry none are told without a field, up to the next that carries planes
  pub counted : (slot n : ℕ) → slot + length (slots_without h slot n) ≡ slot_from h slot n
  unfolding slots_without slot_from
  counted slot zero = omega arith
  counted slot (suc n) = by (has_slot h slot) (counted (slot + 1) n)
    where
      by : (b : Bool) → slot + 1 + length (slots_without h (slot + 1) n) ≡ slot_from h (slot + 1) n →
          slot + length (if b then [] else None ∷ slots_without h (slot + 1) n) ≡ (if b then slot else slot_from h (slot + 1) n)
      by true rest = omega arith
      by false rest = omega (arith, rest)

  -- and that one carries planes
  pub carries_planes : (slot n : ℕ) → slot_from h slot n < slot + n → has_slot h (slot_from h slot n) ≡ true
  unfolding slot_from
  carries_planes slot zero lt = absurd (omega (arith, lt))
  carries_planes slot (suc n) lt = by (has_slot h slot) refl lt (λ below. carries_planes (slot + 1) n below)
    where
      by : (b : Bool) → has_slot h slot ≡ b → (if b then slot else slot_from h (slot + 1) n) < slot + suc n →
          (slot_from h (slot + 1) n < slot + 1 + n → has_slot h (slot_from h (slot + 1) n) ≡ true)
          → has_slot h (if b then slot else slot_from h (slot + 1) n) ≡ true
      by true e lt later = e
      by false e lt later = later (omega (arith, lt))

  skipped : (slot n : ℕ) (ps : List Part) (stored : Slots) (leaves : List LeafValue) → slot + n ≡ 8
      → left slot n ps stored leaves ≡ left (slot_from h slot n) (8 - slot_from h slot n) ps (stored ++ slots_without h slot n) leaves
  unfolding slots_without slot_from
  skipped slot zero ps stored leaves e =
      let none : 8 - slot ≡ 0 = omega (arith, e) in
      ap (λ (zs : Slots). left slot 0 ps zs leaves) (sym (append-nil stored)) ∙ ap (λ (n : ℕ). left slot n ps (stored ++ []) leaves) (sym none)
  skipped slot (suc n) ps stored leaves e = by (has_slot h slot) refl (skipped (slot + 1) n ps (stored ++ None ∷ []) leaves (omega (arith, e)))
    where
      by : (b : Bool) → has_slot h slot ≡ b
          → left (slot + 1) n ps (stored ++ None ∷ []) leaves ≡ left (slot_from h (slot + 1) n)
          (8 - slot_from h (slot + 1) n) ps (stored ++ None ∷ [] ++ slots_without h (slot + 1) n) leaves
          → left slot (suc n) ps stored leaves ≡ left (if b then slot else slot_from h (slot + 1) n)
          (8 - (if b then slot else slot_from h (slot + 1) n)) ps (stored ++ (if b then [] else None ∷ slots_without h (slot + 1) n)) leaves
      by true is later =
          let some : 8 - slot ≡ suc n = omega (arith, e) in
          ap (λ (zs : Slots). left slot (suc n) ps zs leaves) (sym (append-nil stored)) ∙ ap (λ (n : ℕ). left slot n ps (stored ++ []) leaves) (sym some)
      by false is later =
          slot_without slot n ps stored leaves is ∙ later
          ∙ ap (λ (zs : Slots). left (slot_from h (slot + 1) n) (8 - slot_from h (slot + 1) n) ps zs leaves)
          (append_assoc stored (None ∷ []) (slots_without h (slot + 1) n))

  -- what is asked for up to the next slot that carries planes
  pub asked_next : (slot : ℕ) (ps : List Part) (stored : Slots) (leaves : List LeafValue) → slot ≤ 8
      → asked_for h slot ps stored leaves ≡ asked_for h (slot_from h slot (8 - slot)) ps (stored ++ slots_without h slot (8 - slot)) leaves
  asked_next slot ps stored leaves le =
      left_is slot (8 - slot) ps stored leaves refl
      ∙ skipped slot (8 - slot) ps stored leaves (omega arith)
      ∙ sym (left_is (slot_from h slot (8 - slot)) (8 - slot_from h slot (8 - slot)) ps (stored ++ slots_without h slot (8 - slot)) leaves refl)

  -- the planes of a slot
  pub reference_asked : (slot : ℕ) (ps : List Part) (stored : Slots) (leaves : List LeafValue) → slot < 8 → has_slot h slot ≡ true
      → asked_for h slot ps stored leaves ≡ (grammar.reference h >>= λ planes. asked_for h (slot + 1) ps (stored ++ Some planes ∷ []) leaves)
  reference_asked slot ps stored leaves lt e =
      let n : 8 - slot ≡ suc (8 - (slot + 1)) = omega (arith, lt) in
      left_is slot (suc (8 - (slot + 1))) ps stored leaves (sym n)
      ∙ slot_given slot (8 - (slot + 1)) ps stored leaves e
      ∙ bind_same (grammar.reference h) (λ planes. left (slot + 1) (8 - (slot + 1)) ps (stored ++ Some planes ∷ []) leaves)
      (λ planes. asked_for h (slot + 1) ps (stored ++ Some planes ∷ []) leaves)
      (λ planes. sym (left_is (slot + 1) (8 - (slot + 1)) ps (stored ++ Some planes ∷ []) leaves refl))

  -- behind the slots, the parts
  parts_asked : (ps : List Part) (stored : Slots) (leaves : List LeafValue) → asked_for h 8 ps stored leaves ≡ behind ps leaves (stored ++ [])
  parts_asked ps stored leaves = left_is 8 0 ps stored leaves refl ∙ ap (λ (f : Format Slots). f >>= λ more. behind ps leaves (stored ++ more)) (no_slots 8)

  -- the mark of a node, and then the parts into which it is cut
  pub mark_asked : (level x y : ℕ) (ps : List Part) (stored : Slots) (leaves : List LeafValue)
      → asked_for h 8 (Node level x y ∷ ps) stored leaves ≡ (mark h level x y >>= λ cut. asked_for h 8 (cut_before h level x y cut ps) stored leaves)
  mark_asked level x y ps stored leaves =
      let end : List LeafValue → Format PlanValue = λ later. done (plan_is h (stored ++ []) (leaves ++ later)) in
      let node = mark h level x y in
      parts_asked (Node level x y ∷ ps) stored leaves
      ∙ ap (λ (f : Format (List LeafValue)). f >>= end) (node_first h level x y ps)
      ∙ bind_assoc node (λ cut. parts_format h (cut_before h level x y cut ps)) end
      ∙ bind_same node (λ cut. parts_format h (cut_before h level x y cut ps) >>= end) (λ cut. asked_for h 8 (cut_before h level x y cut ps) stored leaves)
      (λ cut. sym (parts_asked (cut_before h level x y cut ps) stored leaves))

  -- the fields of a leaf
  pub leaf_asked : (size : BlockSize) (x y : ℕ) (ps : List Part) (stored : Slots) (leaves : List LeafValue)
      → asked_for h 8 (Leaf size x y ∷ ps) stored leaves ≡ (grammar.leaf h size x y >>= λ l. asked_for h 8 ps stored (leaves ++ l ∷ []))
  unfolding parts_format part_format
  leaf_asked size x y ps stored leaves =
      let f = grammar.leaf h size x y in
      let g = parts_format h ps in
      let end : List LeafValue → Format PlanValue = λ later. done (plan_is h (stored ++ []) (leaves ++ later)) in
      parts_asked (Leaf size x y ∷ ps) stored leaves
      ∙ bind_assoc (lone f) (λ xs. g >>= λ ys. done (xs ++ ys)) end
      ∙ bind_assoc f (λ l. done (l ∷ [])) (λ xs. (g >>= λ ys. done (xs ++ ys)) >>= end)
      ∙ bind_same f (λ l. (g >>= λ ys. done (l ∷ ys)) >>= end) (λ l. asked_for h 8 ps stored (leaves ++ l ∷ [])) (λ l.
      bind_assoc g (λ ys. done (l ∷ ys)) end
      ∙ bind_same g (λ ys. end (l ∷ ys)) (λ ys. done (plan_is h (stored ++ []) (leaves ++ l ∷ [] ++ ys)))
      (λ ys. ap (λ (ls : List LeafValue). done (plan_is h (stored ++ []) ls)) (sym (append_assoc leaves (l ∷ []) ys)))
      ∙ sym (parts_asked ps stored (leaves ++ l ∷ [])))

  -- nothing behind the last part
  pub nothing_asked : (stored : Slots) (leaves : List LeafValue) → asked_for h 8 [] stored leaves ≡ done (plan_is h stored leaves)
  unfolding parts_format
  nothing_asked stored leaves =
      parts_asked [] stored leaves
      ∙ ap (λ (zs : Slots). done (plan_is h zs (leaves ++ []))) (append-nil stored)
      ∙ ap (λ (ls : List LeafValue). done (plan_is h stored ls)) (append-nil leaves)

  -- behind the header, all slots and all superblocks
  pub plan_asked : (grammar.references h >>= λ stored. superblocks h >>= λ leaves. done (plan_is h stored leaves)) ≡ asked_for h 0 (rows_of h 0 (down h)) [] []
  unfolding grammar.references asked_for
  plan_asked =
      bind_same (slots_of 0 8) (λ stored. superblocks h >>= λ leaves. done (plan_is h stored leaves))
      (λ stored. parts_format h (rows_of h 0 (down h)) >>= λ leaves. done (plan_is h stored leaves))
      (λ stored. ap (λ (f : Format (List LeafValue)). f >>= λ leaves. done (plan_is h stored leaves)) (sym (superblocks_asked h)))

-- behind the fields of a header, what a plan with this header asks for
pub header_asked : (h : Header) (vs : List ℕ) → Spells grammar.header vs h → After grammar.plan vs (asked_for h 0 (rows_of h 0 (down h)) [] []) ×
    (text grammar.plan vs ≡ text grammar.header vs)
unfolding grammar.plan grammar.plan_behind
header_asked h vs s =
    let (a, b) = after_spelled grammar.header (λ g. grammar.references g >>= λ stored. superblocks g >>= λ leaves. done (plan_is g stored leaves)) h vs s in
    (subst (After grammar.plan vs) (plan_asked h) a, b)
