-- What stands behind a header and references is what its leaves are: the bytes that spell the leaves spell the plan of them.
use Rattle.std.proofs.Common.{◌≡◌, ℕ, ◌≤◌, List, [], ◌∷◌, ◌++◌, Option, Result, Ok, Err, length, refl, sym, ap, subst, ◌∙◌}
use Rattle.std.specs.Prelude.{IsErrAnd, MatchResult}
use Rattle.std.specs.Int.{to_le_bytes}
use Rattle.av1_plan.specs.declared.error.PlanError.{PlanError}
use Rattle.av1_plan.specs.declared.error.PlanError.TheVariants as errors
use Rattle.av1_plan.specs.declared.header.Header.{Header}
use Rattle.av1_plan.specs.declared.leaves.Leaves.{Leaves}
use Rattle.av1_plan.specs.declared.plan.Plan.{Plan}
use Rattle.av1_plan.specs.Values.{IfMalformed, plan_value}
use Rattle.av1_plan.specs.Format.{Format, done, asks, ◌>>=◌, width}
use Rattle.av1_plan.specs.Grammar.{superblocks, plan_behind}
use Rattle.av1_plan.specs.Plan.{LeafValue, PlanValue}
use Rattle.av1_plan.specs.Spelling.{IsProper, Spells, text, AreText, IsPrefix, IsLongest, IsSpelled, AreRefused}

-- ---- a format, and the same of a value that is made of its own

module _ {A B : Type 0} (k : A → B) where
  made_proper : (f : Format A) (vs : List ℕ) → IsProper f vs → IsProper (f >>= λ x. done (k x)) vs
  made_proper f [] p = tt
  made_proper (done x) (v ∷ vs) p = absurd p
  made_proper (asks kind next) (v ∷ vs) p = (p.0, made_proper (next v) vs p.1)

  own_proper : (f : Format A) (vs : List ℕ) → IsProper (f >>= λ x. done (k x)) vs → IsProper f vs
  own_proper f [] p = tt
  own_proper (done x) (v ∷ vs) p = absurd p
  own_proper (asks kind next) (v ∷ vs) p = (p.0, own_proper (next v) vs p.1)

  made_text : (f : Format A) (vs : List ℕ) → text (f >>= λ x. done (k x)) vs ≡ text f vs
  made_text f [] = refl
  made_text (done x) (v ∷ vs) = refl
  made_text (asks kind next) (v ∷ vs) = ap (λ (us : List ℕ). to_le_bytes (width kind.size) v ++ us) (made_text (next v) vs)

  made_spells : (f : Format A) (vs : List ℕ) (x : A) → Spells f vs x → Spells (f >>= λ y. done (k y)) vs (k x)
  made_spells (done y) [] x s = ap k s
  made_spells (done y) (v ∷ vs) x s = absurd s
  made_spells (asks kind next) [] x s = absurd s
  made_spells (asks kind next) (v ∷ vs) x s = (s.0, made_spells (next v) vs x s.1)

  own_spells : (f : Format A) (vs : List ℕ) (y : B) → Spells (f >>= λ x. done (k x)) vs y → (x : A) × Spells f vs x × (k x ≡ y)
  own_spells (done x) [] y s = (x, refl, s)
  own_spells (done x) (v ∷ vs) y s = absurd s
  own_spells (asks kind next) [] y s = absurd s
  own_spells (asks kind next) (v ∷ vs) y s = let (x, t, is) = own_spells (next v) vs y s.1 in (x, (s.0, t), is)

-- ---- leaves, and the plan of them

abbrev pub plan_of : Header → List (Option (List (List ℕ))) → List LeafValue → PlanValue
plan_of h stored leaves = record { header = h; references = stored; leaves = leaves }

module _ (h : Header) (stored : List (Option (List (List ℕ)))) (bytes : List ℕ) where
  pub behind_text : (leaves : List LeafValue) → AreText (superblocks h) bytes leaves → AreText (plan_behind h stored) bytes (plan_of h stored leaves)
  unfolding plan_behind
  behind_text leaves (vs, s, e) =
      (vs, made_spells (plan_of h stored) (superblocks h) vs leaves s, e ∙ sym (made_text (plan_of h stored) (superblocks h) vs))

  pub behind_spelled : (leaves : List LeafValue) → AreText (superblocks h) bytes leaves → IsSpelled (plan_behind h stored) (plan_of h stored leaves)
  behind_spelled leaves t = let (vs, s, e) = behind_text leaves t in record { values = vs; spells = s }

  pub leaves_text : (p : PlanValue) → AreText (plan_behind h stored) bytes p →
      (leaves : List LeafValue) × AreText (superblocks h) bytes leaves × (plan_of h stored leaves ≡ p)
  unfolding plan_behind
  leaves_text p (vs, s, e) =
      let (leaves, t, is) = own_spells (plan_of h stored) (superblocks h) vs p s in
      (leaves, (vs, t, e ∙ made_text (plan_of h stored) (superblocks h) vs), is)

  longest_behind : (at : ℕ) → IsLongest (superblocks h) bytes at → IsLongest (plan_behind h stored) bytes at
  unfolding plan_behind
  longest_behind at l =
      let (vs, proper, prefix, len) = l.reached in
      let same = made_text (plan_of h stored) (superblocks h) in
      record {
        reached = (
          vs,
          made_proper (plan_of h stored) (superblocks h) vs proper,
          subst (λ (us : List ℕ). IsPrefix us bytes) (sym (same vs)) prefix,
          ap length (same vs) ∙ len,
        );
        longest = λ ws proper prefix.
            let le = l.longest ws (own_proper (plan_of h stored) (superblocks h) ws proper) (subst (λ (us : List ℕ). IsPrefix us bytes) (same ws) prefix) in
            subst (λ (us : List ℕ). length us ≤ at) (sym (same ws)) le;
      }

  pub behind_refused : (at : ℕ) → AreRefused (superblocks h) bytes at → AreRefused (plan_behind h stored) bytes at
  behind_refused at r = record {
    no_text = λ p t. let (leaves, s, is) = leaves_text p t in r.no_text leaves s;
    first = longest_behind at r.first;
  }

  -- ---- answers

  -- the plan of leaves that are the only ones
  pub only_plan : (own : List LeafValue) → ((leaves : List LeafValue) → AreText (superblocks h) bytes leaves → own ≡ leaves) → (p : PlanValue) →
      AreText (plan_behind h stored) bytes p → plan_of h stored own ≡ p
  only_plan own only p t = let (leaves, s, is) = leaves_text p t in ap (plan_of h stored) (only leaves s) ∙ is

  -- an error that the leaves had
  pub passed_refusal : (r : Result Plan PlanError) (e : PlanError) → IsErrAnd r (λ d. d ≡ e) →
      IfMalformed {X = Leaves} (Err e) (λ at. AreRefused (superblocks h) bytes at) → IfMalformed r (λ at. AreRefused (plan_behind h stored) bytes at)
  passed_refusal (Ok p) e is why = absurd is
  passed_refusal (Err errors.Memory) e is why = tt
  passed_refusal (Err (errors.Malformed at)) e is why =
      behind_refused at (subst (λ (d : PlanError). IfMalformed {X = Leaves} (Err d) (λ at. AreRefused (superblocks h) bytes at)) (sym is) why)

  pub passed_only : (r : Result Plan PlanError) (e : PlanError) → IsErrAnd r (λ d. d ≡ e) →
      ((leaves : List LeafValue) → AreText (superblocks h) bytes leaves → e ≡ errors.Memory) → (p : PlanValue) → AreText (plan_behind h stored) bytes p →
      MatchResult r (λ x. plan_value x ≡ p) (λ d. d ≡ errors.Memory)
  passed_only (Ok x) e is only p t = absurd is
  passed_only (Err d) e is only p t = let (leaves, s, same) = leaves_text p t in is ∙ only leaves s
