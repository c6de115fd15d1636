-- The bytes of a leaf that is spelled are its text.
use Rattle.std.proofs.Common.{◌≡◌, ℕ, ◌<◌, ◌≤◌, ◌^◌, Bool, true, false, if◌then◌else◌, List, [], ◌∷◌, ◌++◌, length, Option, Some, refl, sym, ap, ◌∙◌}
use Rattle.std.proofs.Common.{append_assoc, arith, w8, w16, w32, slice_index_or}
use Rattle.std.specs.Prelude.{nat_lt, ◌==◌, is_some}
use Rattle.std.specs.Int.{cast_signed, cast_unsigned}
use Rattle.std.proofs.lemmas.Int.{of_z-to_z}
use Rattle.std.proofs.lemmas.Bool.{eqb-true, ltb-true}
use Rattle.std.proofs.lemmas.List.{append-nil}
use Rattle.av1_blocks.specs.declared.mc.MotionVector.{MotionVector}
use Rattle.av1_blocks.specs.declared.partition.BlockSize.{BlockSize}
use Rattle.av1_blocks.specs.declared.partition.RefType.{RefType}
use Rattle.av1_blocks.specs.declared.transform.TxSize.{TxSize}
use Rattle.av1_blocks.specs.declared.transform.TxType.{TxType}
use Rattle.av1_blocks.specs.Modes.{mode_number}
use Rattle.av1_blocks.specs.References.{reference_number}
use Rattle.av1_blocks.specs.Transforms.{tx_number, tx_type_number}
use Rattle.av1_plan.specs.declared.header.Header.{Header}
use Rattle.av1_plan.specs.declared.leaf.Triple.{Triple}
use Rattle.av1_plan.specs.declared.leaf.ChromaMode.{ChromaMode}
use Rattle.av1_plan.specs.declared.leaf.ChromaMode.TheVariants.{Plain, Cfl}
use Rattle.av1_plan.specs.declared.leaf.LeafKind.{LeafKind}
use Rattle.av1_plan.specs.declared.leaf.LeafKind.TheVariants.{Intra, Single, Compound}
use Rattle.av1_plan.specs.Format.{one, two, four, any, Format, done, ◌>>=◌, field}
use Rattle.av1_plan.specs.Geometry.{carries_chroma}
use Rattle.av1_plan.specs.Grammar as grammar
use Rattle.av1_plan.specs.Spelling.{Spells, text}
use Rattle.av1_plan.proofs.Carried.{apart}
use Rattle.av1_plan.proofs.Numbers.{mode_of, mode_number_is, reference_number_is, tx_number_is, tx_type_number_is}
use Rattle.av1_plan.proofs.ReadFrames.{range_is}
use Rattle.av1_planwrite.specs.Text.{byte, pair, quad, motion_text, motions_text, chroma_text, kind_text, uv_type_text, triple_text, triples_text}
use Rattle.av1_planwrite.specs.Text.{chroma_triples_text, fields_text, leaf_text}
use Rattle.av1_planwrite.proofs.Told.{ended, asked, Tells, turns_tell, turns_count, two_parts, last_part}

-- ---- numbers

signed_byte : (v : ℕ) → v < 2 ^ 8 → byte v ≡ byte (cast_unsigned w8 (cast_signed w8 v))
signed_byte v lt = ap byte (sym (of_z-to_z w8 v lt))

signed_pair : (v : ℕ) → v < 2 ^ 16 → pair v ≡ pair (cast_unsigned w16 (cast_signed w16 v))
signed_pair v lt = ap pair (sym (of_z-to_z w16 v lt))

signed_quad : (v : ℕ) → v < 2 ^ 32 → quad v ≡ quad (cast_unsigned w32 (cast_signed w32 v))
signed_quad v lt = ap quad (sym (of_z-to_z w32 v lt))

-- ---- how a leaf is predicted

vector_told : Tells grammar.vector (λ mv. pair (cast_unsigned w16 mv.row) ++ pair (cast_unsigned w16 mv.col))
unfolding grammar.vector
vector_told = record {
  tells = λ vs mv s.
      let row = asked _ _ mv vs s in
      let col = asked _ _ mv row.values row.spells in
      let end = ended _ mv col.values col.spells in
      let bytes =
      two_parts row.bytes_are (signed_pair row.number row.admitted.fits) (last_part col.bytes_are (signed_pair col.number col.admitted.fits) end.no_bytes)
      in
      bytes ∙ ap (λ (mv : MotionVector). pair (cast_unsigned w16 mv.row) ++ pair (cast_unsigned w16 mv.col)) end.value;
}

reference_told : Tells grammar.reference_frame (λ r. byte (reference_number r))
unfolding grammar.reference_frame
reference_told = record {
  tells = λ vs r s.
      let number = asked _ _ r vs s in
      let end = ended _ r number.values number.spells in
      let small : number.number < 9 = omega (arith, (range_is 1 7 number.number number.admitted).1) in
      last_part number.bytes_are (ap byte (sym (reference_number_is number.number small))) end.no_bytes
      ∙ ap (λ (r : RefType). byte (reference_number r)) end.value;
}

-- a reference and its vector, and what comes behind them
motion_parts : {a b c d : List ℕ} (r : RefType) (mv : MotionVector) → a ≡ byte (reference_number r) →
    b ≡ pair (cast_unsigned w16 mv.row) ++ pair (cast_unsigned w16 mv.col) → c ≡ d → a ++ (b ++ c) ≡ motion_text r mv ++ d
unfolding motion_text
motion_parts {d = d} r mv e f g =
    rw (e, f, g) (sym (append_assoc (byte (reference_number r)) (pair (cast_unsigned w16 mv.row) ++ pair (cast_unsigned w16 mv.col)) d)
    ∙ ap (λ (xs : List ℕ). xs ++ d) (sym (append_assoc (byte (reference_number r)) (pair (cast_unsigned w16 mv.row)) (pair (cast_unsigned w16 mv.col)))))

behind : {a m rest : List ℕ} (b c : List ℕ) → a ≡ m → rest ≡ b ++ c → a ++ rest ≡ m ++ b ++ c
behind {m = m} b c e f = rw (e, f) (sym (append_assoc m b c))

ahead : {a m rest b : List ℕ} → a ≡ m → rest ≡ b → a ++ rest ≡ m ++ b
ahead e f = rw (e, f) refl

-- a chroma mode, by its number
abbrev chroma_rest : ℕ → Bool → Format ChromaMode
chroma_rest v b = if b then (field (any one) >>= λ u. field (any one) >>= λ w. done (Cfl (cast_signed w8 u) (cast_signed w8 w)))
    else (field (any one) >>= λ step. done (Plain (mode_of v) (cast_signed w8 step)))

chroma_by : (v : ℕ) (b : Bool) → (v == 13) ≡ b → v ≤ 13 → (vs : List ℕ) (m : ChromaMode) → Spells (chroma_rest v b) vs m →
    byte v ++ text (chroma_rest v b) vs ≡ chroma_text (Some m)
unfolding chroma_text
chroma_by v true e most vs m s =
    let u = asked _ _ m vs s in
    let w = asked _ _ m u.values u.spells in
    let end = ended _ m w.values w.spells in
    let bytes = two_parts u.bytes_are (signed_byte u.number u.admitted.fits) (last_part w.bytes_are (signed_byte w.number w.admitted.fits) end.no_bytes) in
    behind (byte (cast_unsigned w8 (cast_signed w8 u.number))) (byte (cast_unsigned w8 (cast_signed w8 w.number))) (ap byte (eqb-true v 13 e)) bytes
    ∙ ap (λ (m : ChromaMode). chroma_text (Some m)) end.value
chroma_by v false e most vs m s =
    let step = asked _ _ m vs s in
    let end = ended _ m step.values step.spells in
    let bytes = last_part step.bytes_are (signed_byte step.number step.admitted.fits) end.no_bytes in
    let mode : byte v ≡ byte (mode_number (mode_of v)) = ap byte (sym (mode_number_is v (omega (arith, most)))) in
    ahead mode bytes ∙ ap (λ (m : ChromaMode). chroma_text (Some m)) end.value

chroma_told : Tells grammar.chroma_mode (λ m. chroma_text (Some m))
unfolding grammar.chroma_mode
chroma_told = record {
  tells = λ vs m s.
      let mode = asked _ _ m vs s in
      mode.bytes_are ∙ chroma_by mode.number (mode.number == 13) refl (range_is 0 13 mode.number mode.admitted).1 mode.values m mode.spells;
}

mode_byte : (v : ℕ) → v < 34 → byte v ≡ byte (mode_number (mode_of v))
mode_byte v lt = ap byte (sym (mode_number_is v lt))

-- a step, as it is spelled again
abbrev step_text : ℕ → List ℕ
step_text v = byte (cast_unsigned w8 (cast_signed w8 v))

intra_told : (carried : Bool) (v : ℕ) → v < 14 → (vs : List ℕ) (kind : LeafKind) → Spells (grammar.intra carried (mode_of v)) vs kind →
    byte v ++ text (grammar.intra carried (mode_of v)) vs ≡ kind_text kind
unfolding grammar.intra kind_text chroma_text
intra_told true v lt vs kind s =
    let step = asked _ _ kind vs s in
    let chroma = apart grammar.chroma_mode (λ chroma. done (Intra (mode_of v) (cast_signed w8 step.number) (Some chroma))) kind step.values step.spells in
    let end = ended _ kind chroma.behind chroma.behind_spells in
    let bytes =
    two_parts step.bytes_are (signed_byte step.number step.admitted.fits)
    (last_part chroma.bytes (chroma_told.tells chroma.front chroma.between chroma.front_spells) end.no_bytes) in
    behind (step_text step.number) (chroma_text (Some chroma.between)) (mode_byte v (omega (arith, lt))) bytes ∙ ap kind_text end.value
intra_told false v lt vs kind s =
    let step = asked _ _ kind vs s in
    let end = ended _ kind step.values step.spells in
    let bytes = two_parts step.bytes_are (signed_byte step.number step.admitted.fits) end.no_bytes in
    behind (step_text step.number) [] (mode_byte v (omega (arith, lt))) bytes ∙ ap kind_text end.value

single_told : (v : ℕ) → v < 34 → (vs : List ℕ) (kind : LeafKind) → Spells (grammar.single (mode_of v)) vs kind →
    byte v ++ text (grammar.single (mode_of v)) vs ≡ kind_text kind
unfolding grammar.single kind_text
single_told v lt vs kind s =
    let r = apart grammar.reference_frame _ kind vs s in
    let mv = apart grammar.vector (λ mv. done (Single (mode_of v) r.between mv)) kind r.behind r.behind_spells in
    let end = ended _ kind mv.behind mv.behind_spells in
    let motion =
    motion_parts r.between mv.between (reference_told.tells r.front r.between r.front_spells)
    (vector_told.tells mv.front mv.between mv.front_spells) end.no_bytes in
    let bytes : text (grammar.single (mode_of v)) vs ≡ motion_text r.between mv.between ++ [] = two_parts r.bytes refl mv.bytes ∙ motion in
    ahead (mode_byte v lt) (bytes ∙ append-nil (motion_text r.between mv.between)) ∙ ap kind_text end.value

compound_told : (v : ℕ) → v < 34 → (vs : List ℕ) (kind : LeafKind) → Spells (grammar.compound (mode_of v)) vs kind →
    byte v ++ text (grammar.compound (mode_of v)) vs ≡ kind_text kind
unfolding grammar.compound kind_text motions_text
compound_told v lt vs kind s =
    let r = apart grammar.reference_frame _ kind vs s in
    let mv = apart grammar.vector _ kind r.behind r.behind_spells in
    let r_2 = apart grammar.reference_frame _ kind mv.behind mv.behind_spells in
    let mv_2 =
    apart grammar.vector (λ mv_2. done (Compound (mode_of v) (r.between ∷ r_2.between ∷ []) (mv.between ∷ mv_2 ∷ []))) kind r_2.behind r_2.behind_spells in
    let end = ended _ kind mv_2.behind mv_2.behind_spells in
    let second =
    motion_parts r_2.between mv_2.between (reference_told.tells r_2.front r_2.between r_2.front_spells)
    (vector_told.tells mv_2.front mv_2.between mv_2.front_spells) end.no_bytes in
    let second_bytes = two_parts r_2.bytes refl mv_2.bytes ∙ second in
    let first =
    motion_parts r.between mv.between (reference_told.tells r.front r.between r.front_spells)
    (vector_told.tells mv.front mv.between mv.front_spells) second_bytes in
    let bytes = two_parts r.bytes refl mv.bytes ∙ first in
    ahead (mode_byte v lt) bytes ∙ ap kind_text end.value

kind_by : (carried : Bool) (v : ℕ) (a b : Bool) → nat_lt v 14 ≡ a → v ≤ 33 → (vs : List ℕ) (kind : LeafKind)
    → Spells (if a then grammar.intra carried (mode_of v) else if b then grammar.single (mode_of v) else grammar.compound (mode_of v)) vs kind
    → byte v ++ text (if a then grammar.intra carried (mode_of v) else if b then grammar.single (mode_of v) else grammar.compound (mode_of v)) vs ≡
    kind_text kind
kind_by carried v true b e most vs kind s = intra_told carried v (ltb-true v 14 e) vs kind s
kind_by carried v false true e most vs kind s = single_told v (omega (arith, most)) vs kind s
kind_by carried v false false e most vs kind s = compound_told v (omega (arith, most)) vs kind s

kind_told : (carried : Bool) → Tells (grammar.leaf_kind carried) kind_text
unfolding grammar.leaf_kind
kind_told carried = record {
  tells = λ vs kind s.
      let mode = asked _ _ kind vs s in
      mode.bytes_are
      ∙ kind_by carried mode.number (nat_lt mode.number 14)
      (nat_lt mode.number 20) refl (range_is 0 33 mode.number mode.admitted).1 mode.values kind mode.spells;
}

-- ---- transforms and coefficients

tx_size_told : Tells grammar.tx_size (λ t. byte (tx_number t))
unfolding grammar.tx_size
tx_size_told = record {
  tells = λ vs t s.
      let number = asked _ _ t vs s in
      let end = ended _ t number.values number.spells in
      let small : number.number < 19 = omega (arith, (range_is 0 18 number.number number.admitted).1) in
      last_part number.bytes_are (ap byte (sym (tx_number_is number.number small))) end.no_bytes ∙ ap (λ (t : TxSize). byte (tx_number t)) end.value;
}

tx_type_told : Tells grammar.tx_type (λ t. byte (tx_type_number t))
unfolding grammar.tx_type
tx_type_told = record {
  tells = λ vs t s.
      let number = asked _ _ t vs s in
      let end = ended _ t number.values number.spells in
      let small : number.number < 17 = omega (arith, (range_is 0 16 number.number number.admitted).1) in
      last_part number.bytes_are (ap byte (sym (tx_type_number_is number.number small))) end.no_bytes ∙ ap (λ (t : TxType). byte (tx_type_number t)) end.value;
}

uv_type_told : (carried : Bool) (vs : List ℕ) (t : Option TxType) → Spells (grammar.uv_type carried) vs t →
    (text (grammar.uv_type carried) vs ≡ uv_type_text t) × (carried ≡ is_some t)
unfolding grammar.uv_type uv_type_text
uv_type_told true vs t s =
    let type = apart grammar.tx_type (λ t. done (Some t)) t vs s in
    let end = ended _ t type.behind type.behind_spells in (
      last_part type.bytes (tx_type_told.tells type.front type.between type.front_spells) end.no_bytes ∙ ap uv_type_text end.value,
      ap (λ (t : Option TxType). is_some t) end.value,
    )
uv_type_told false vs t s =
    let end = ended _ t vs s in
    (end.no_bytes ∙ ap uv_type_text end.value, ap (λ (t : Option TxType). is_some t) end.value)

-- the fields of a coefficient
abbrev made : (block place value : ℕ) → Triple
made block place value = record { block = block; place = place; value = cast_signed w32 value }

triple_told : Tells grammar.triple triple_text
unfolding grammar.triple triple_text
triple_told = record {
  tells = λ vs t s.
      let block = asked (any one) (λ block. field (any two) >>= λ place. field (any four) >>= λ value. done (made block place value)) t vs s in
      let place = asked (any two) (λ place. field (any four) >>= λ value. done (made block.number place value)) t block.values block.spells in
      let value = asked (any four) (λ value. done (made block.number place.number value)) t place.values place.spells in
      let end = ended (made block.number place.number value.number) t value.values value.spells in
      let front : pair place.number ≡ pair place.number = refl in
      let first : byte block.number ≡ byte block.number = refl in
      let rest = two_parts place.bytes_are front (last_part value.bytes_are (signed_quad value.number value.admitted.fits) end.no_bytes) in
      block.bytes_are ∙ behind (pair place.number) (quad (cast_unsigned w32 (cast_signed w32 value.number))) first rest ∙ ap triple_text end.value;
}

triples_told : Tells grammar.triples triples_text
unfolding grammar.triples triples_text
triples_told = record {
  tells = λ vs ts s.
      let count = asked _ _ ts vs s in
      let items = (turns_tell (λ _. grammar.triple) triple_text 0 count.number (λ j. triple_told)).tells count.values ts count.spells in
      let many : length ts ≡ count.number = turns_count (λ _. grammar.triple) 0 count.number count.values ts count.spells in
      two_parts count.bytes_are (ap pair (sym many)) items;
}

chroma_triples_told : (carried : Bool) →
    Tells (grammar.chroma_triples carried) (λ lists. chroma_triples_text carried (slice_index_or lists 0 []) (slice_index_or lists 1 []))
unfolding grammar.chroma_triples chroma_triples_text
chroma_triples_told true = record {
  tells = λ vs lists s.
      let u = apart grammar.triples (λ u. grammar.triples >>= λ v. done (u ∷ v ∷ [])) lists vs s in
      let v = apart grammar.triples (λ v. done (u.between ∷ v ∷ [])) lists u.behind u.behind_spells in
      let end = ended _ lists v.behind v.behind_spells in
      two_parts u.bytes (triples_told.tells u.front u.between u.front_spells)
      (last_part v.bytes (triples_told.tells v.front v.between v.front_spells) end.no_bytes)
      ∙ ap (λ (lists : List (List Triple)). triples_text (slice_index_or lists 0 []) ++ triples_text (slice_index_or lists 1 [])) end.value;
}
chroma_triples_told false = record { tells = λ vs lists s. (ended _ lists vs s).no_bytes }

-- ---- the whole leaf

six_parts : {k s t u y c k_2 s_2 t_2 u_2 y_2 c_2 bytes a b d e f end : List ℕ} → bytes ≡ k ++ a → a ≡ s ++ b → b ≡ t ++ d → d ≡ u ++ e → e ≡ y ++ f →
    f ≡ c ++ end
    → k ≡ k_2 → s ≡ s_2 → t ≡ t_2 → u ≡ u_2 → y ≡ y_2 → c ≡ c_2 → end ≡ [] → bytes ≡ k_2 ++ s_2 ++ t_2 ++ u_2 ++ y_2 ++ c_2
six_parts {k_2 = k} {s_2 = s} {t_2 = t} {u_2 = u} {y_2 = y} {c_2 = c} e1 e2 e3 e4 e5 e6 f1 f2 f3 f4 f5 f6 g =
    rw (e1, e2, e3, e4, e5, e6, f1, f2, f3, f4, f5, f6, g, append-nil) (
    sym (append_assoc k s (t ++ (u ++ (y ++ c)))) ∙ sym (append_assoc (k ++ s) t (u ++ (y ++ c))) ∙ sym (append_assoc (k ++ s ++ t) u (y ++ c))
    ∙ sym (append_assoc (k ++ s ++ t ++ u) y c))

pub leaf_told : (h : Header) (size : BlockSize) (x y : ℕ) → Tells (grammar.leaf h size x y) leaf_text
unfolding grammar.leaf leaf_text fields_text
leaf_told h size x y = record {
  tells = λ vs l s.
      let carried = carries_chroma h x y size in
      let k = apart (grammar.leaf_kind carried) _ l vs s in
      let t = apart grammar.tx_size _ l k.behind k.behind_spells in
      let u = apart grammar.tx_type _ l t.behind t.behind_spells in
      let w = apart (grammar.uv_type carried) _ l u.behind u.behind_spells in
      let a = apart grammar.triples _ l w.behind w.behind_spells in
      let c = apart (grammar.chroma_triples carried) _ l a.behind a.behind_spells in
      let end = ended _ l c.behind c.behind_spells in
      let (w_bytes, some) = uv_type_told carried w.front w.between w.front_spells in
      let c_bytes = (chroma_triples_told carried).tells c.front c.between c.front_spells
      ∙ ap (λ (b : Bool). chroma_triples_text b (slice_index_or c.between 0 []) (slice_index_or c.between 1 [])) some in
      six_parts k.bytes t.bytes u.bytes w.bytes a.bytes c.bytes ((kind_told carried).tells k.front k.between k.front_spells)
      (tx_size_told.tells t.front t.between t.front_spells)
      (tx_type_told.tells u.front u.between u.front_spells) w_bytes (triples_told.tells a.front a.between a.front_spells) c_bytes end.no_bytes
      ∙ ap leaf_text end.value;
}
