-- The bytes of the plan of a number are the text of a plan, of which no leaf is faulty.
use Rattle.std.proofs.Common.{◌≡◌, ℕ, suc, ◌/◌, ◌%◌, ◌^◌, ◌≤◌, List, [], ◌∷◌, length, None, refl, sym, subst, arith, lit<, lit≤}
use Rattle.av1_plan.specs.declared.header.Header.{Header}
use Rattle.av1_plan.specs.Format.{one, two, four, any, IsAdmitted, Format, done, ◌>>=◌}
use Rattle.av1_plan.specs.Grammar.{where_, byte_from, is_magic, version_of, is_side, is_depth}
use Rattle.av1_plan.specs.Grammar as grammar
use Rattle.av1_plan.specs.Plan.{PlanValue}
use Rattle.av1_plan.specs.Validity.{first_fault}
use Rattle.av1_plan.proofs.Spelled.{one_text}
use Rattle.av1_plan.specs.Draft.{writes, ◌>>◌, each}
use Rattle.av1_plan.specs.Generator.{shown_side, frame, slots, letters, header, reference, superblocks, plan, plan_bytes_in, plan_bytes}
use Rattle.av1_plan.specs.Numbers.{drawn}
use Rattle.av1_plan.specs.Text.{ArePlan, AreFaultless}
use Rattle.av1_plan.proofs.FieldKinds.{byte_is}
use Rattle.av1_plan.proofs.Fills.{Filled, Fills, follows, ends, fills_done, asked, asked_last}
use Rattle.av1_plan.proofs.NodeFills.{no_first_fault, superblocks_fill}
use Rattle.av1_plan.proofs.ReferenceFills.{references_fill}
use Rattle.av1_plan.proofs.Sides.{IsVersion, letters_are, letters_name, side_is}

-- ---- the header

abbrev zeros : List ℕ
zeros = 0 ∷ 0 ∷ 0 ∷ 0 ∷ 0 ∷ 0 ∷ 0 ∷ []

zero_is : IsAdmitted (byte_from 0 7) 0
zero_is = byte_is 0 7 0 (lit< tt) (lit≤ tt) (lit≤ tt)

slots_fill : Fills slots grammar.slots 7 (λ s. s ≡ zeros)
unfolding slots grammar.slots each
slots_fill =
    let k = byte_from 0 7 in
    asked {n = 6} k _ 0 zero_is
    (asked {n = 5} k _ 0 zero_is (asked {n = 4} k _ 0 zero_is (asked {n = 3} k _ 0 zero_is (asked {n = 2} k _ 0 zero_is (asked {n = 1} k _ 0 zero_is
    (asked {n = 0} k _ 0 zero_is (fills_done zeros refl)))))))

-- what stands behind the letters
frame_fills : (version number : ℕ) →
    Fills (writes two (shown_side version number) >> writes two (shown_side version (number / 8)) >> writes one 10 >> writes one 0
    >> writes one (number % 4) >> writes one (number / 4 % 2) >> slots >> writes one 1) (grammar.frame version) 16 (λ h. h ≡ frame version number)
unfolding grammar.frame frame
frame_fills version number =
    asked {n = 14} (where_ two (is_side version)) _ (shown_side version number) (side_is version number)
    (asked {n = 12} (where_ two (is_side version)) _ (shown_side version (number / 8)) (side_is version (number / 8))
    (asked {n = 11} (where_ one is_depth) _ 10 (record { fits = lit< tt; admitted = refl })
    (asked {n = 10} (byte_from 0 2) _ 0 (byte_is 0 2 0 (lit< tt) (lit≤ tt) (lit≤ tt))
    (asked {n = 9} (byte_from 0 3) _ (number % 4) (byte_is 0 3 (number % 4) (lit< tt) (omega arith) (omega arith))
    (asked {n = 8} (byte_from 0 1) _ (number / 4 % 2) (byte_is 0 1 (number / 4 % 2) (lit< tt) (omega arith) (omega arith))
    (follows _ slots_fill (λ s is.
    asked_last (any one) _ 1 (record { fits = lit< tt; admitted = refl })
    (fills_done _ (rw is refl)))))))))

header_fills : (version number : ℕ) → IsVersion version → Fills (header version number) grammar.header 20 (λ h. h ≡ frame version number)
unfolding header grammar.header grammar.version
header_fills version number is =
    asked {n = 16} (where_ four is_magic) (λ letters. grammar.frame (version_of letters)) (letters version) (letters_are version is)
    (rw (letters_name version is) (frame_fills version number))

-- ---- the plan

-- the format behind a header
abbrev behind : Header → Format PlanValue
behind h = grammar.references h >>= λ references. grammar.superblocks h >>= λ leaves. done (record { header = h; references = references; leaves = leaves })

behind_fills : (version number : ℕ) →
    Fills (reference (frame version number) number >> superblocks (frame version number)) (behind (frame version number)) 2151744
    (λ p. first_fault p ≡ None)
behind_fills version number =
    let h : Header = frame version number in
    follows (λ references. grammar.superblocks h >>= λ leaves. done (record { header = h; references = references; leaves = leaves }))
    (references_fill version number) (λ references any.
    ends (λ leaves. done (record { header = h; references = references; leaves = leaves })) (superblocks_fill version number) (λ leaves valid.
    fills_done (record { header = h; references = references; leaves = leaves }) (no_first_fault h 0 leaves valid)))

plan_fills : (version number : ℕ) → IsVersion version → Fills (plan version number) grammar.plan 2151764 (λ p. first_fault p ≡ None)
unfolding plan grammar.plan grammar.plan_behind
plan_fills version number is =
    follows {n = 2151744} behind (header_fills version number is) (λ h same.
    subst (λ (u : Header).
    Fills (reference (frame version number) number >> superblocks (frame version number)) (behind u) 2151744 (λ p. first_fault p ≡ None)) (sym same)
    (behind_fills version number))

filled : (version number : ℕ) → IsVersion version →
    Filled grammar.plan 2151764 (λ p. first_fault p ≡ None) [] (plan_bytes_in version number)
unfolding plan_bytes_in
filled version number is = (plan_fills version number is).fills suc (drawn number) ([], 0)

pub plan_in : (version number : ℕ) → IsVersion version → ArePlan (plan_bytes_in version number)
plan_in version number is =
    let r = filled version number is in
    (r.value, (r.values, r.spells, r.bytes))

pub faultless_in : (version number : ℕ) → IsVersion version → AreFaultless (plan_bytes_in version number)
faultless_in version number is p t =
    let r = filled version number is in
    subst (λ (q : PlanValue). first_fault q ≡ None) (one_text grammar.plan (plan_bytes_in version number) r.value p (r.values, r.spells, r.bytes) t)
    r.holds

pub few_bytes_in : (version number : ℕ) → IsVersion version → length (plan_bytes_in version number) ≤ 2 ^ 26
few_bytes_in version number is = let r = filled version number is in rw r.bytes (omega (arith, r.few))

-- ---- in the first version

first : IsVersion 1
first = (lit≤ tt, lit≤ tt)

pub plan_is : (number : ℕ) → ArePlan (plan_bytes number)
unfolding plan_bytes
plan_is number = plan_in 1 number first

pub faultless_is : (number : ℕ) → AreFaultless (plan_bytes number)
unfolding plan_bytes
faultless_is number = faultless_in 1 number first

pub few_bytes : (number : ℕ) → length (plan_bytes number) ≤ 2 ^ 26
unfolding plan_bytes
few_bytes number = few_bytes_in 1 number first
