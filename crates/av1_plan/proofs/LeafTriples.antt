-- The coefficients of a leaf that are drawn are of the plan grammar, and fit the leaf's first block.
use Rattle.std.proofs.Common.{◌≡◌, ℕ, zero, suc, ◌+◌, ◌*◌, ◌<◌, ◌≤◌, Bool, true, ◌&&◌, List, [], ◌∷◌, ◌++◌, refl, arith, lit<, w32}
use Rattle.std.specs.Int.{cast_signed}
use Rattle.std.specs.List.{list_all}
use Rattle.std.proofs.lemmas.Bool.{lt-ltb}
use Rattle.av1_blocks.specs.Transforms.{coded_area}
use Rattle.av1_plan.specs.declared.geometry.PlaneArea.{PlaneArea}
use Rattle.av1_plan.specs.declared.header.Header.{Header}
use Rattle.av1_plan.specs.declared.leaf.Triple.{Triple}
use Rattle.av1_plan.specs.Format.{one, two, four, any, done, ◌>>=◌, field, lone, in_turn}
use Rattle.av1_plan.specs.Geometry.{has_block}
use Rattle.av1_plan.specs.Grammar as grammar
use Rattle.av1_plan.specs.Validity.{fits_signed, is_coefficient, is_before, rise, are_coefficients}
use Rattle.av1_plan.specs.Draft.{writes, ◌>>◌, each}
use Rattle.av1_plan.specs.Generator.{less, triple, triples}
use Rattle.av1_lists.proofs.Below.{below}
use Rattle.av1_plan.proofs.FieldKinds.{less_is}
use Rattle.av1_plan.proofs.Fills.{Fills, follows, ends, fills_done, fills_lone, asked, asked_last, weaker, drawing}

-- a coefficient at place j of the first block
record IsAt (j : ℕ) (t : Triple) : Type 0 where
  pub block : t.block ≡ 0
  pub place : t.place ≡ j
  pub value : fits_signed 18 t.value ≡ true

value_is : (v : ℕ) → v < 401 → fits_signed 18 (cast_signed w32 (less four v 200)) ≡ true
unfolding less fits_signed
value_is v lt = below 401 (λ v. fits_signed 18 (cast_signed w32 (less four v 200))) refl v lt

abbrev triple_of : ℕ → ℕ → Triple
triple_of j value = record { block = 0; place = j; value = cast_signed w32 value }

triple_fills : (j : ℕ) → j < 4 → Fills (triple j) grammar.triple 7 (IsAt j)
unfolding triple grammar.triple
triple_fills j lt =
    asked (any one)
    (λ block. field (any two) >>= λ place. field (any four) >>= λ value. done (record { block = block; place = place; value = cast_signed w32 value })) 0
    (record { fits = lit< tt; admitted = refl })
    (asked (any two) (λ place. field (any four) >>= λ value. done (record { block = 0; place = place; value = cast_signed w32 value })) j
    (record { fits = omega arith; admitted = refl })
    (drawing 401 (λ v. writes four (less four v 200)) (lit< tt) (λ v lt_401.
    asked_last (any four) (λ value. done (triple_of j value)) (less four v 200) (less_is four v 200)
    (fills_done (triple_of j (less four v 200)) (record { block = refl; place = refl; value = value_is v lt_401 })))))

-- the first block of an area begins in its plane, samples have 10 bits
pub record HasFirstBlock (h : Header) (p : ℕ) (a : PlaneArea) : Type 0 where
  pub block : has_block h p a 0 ≡ true
  pub places : 4 ≤ coded_area a.tx_size
  pub depth : h.depth ≡ 10

-- the first of them, if there is one, stands at place j
abbrev StartAt : ℕ → List Triple → Type 0
StartAt j [] = Unit {0}
StartAt j (t ∷ ts) = IsAt j t

-- the coefficients fit, and rise from place j on
record Fit (h : Header) (p : ℕ) (a : PlaneArea) (j : ℕ) (ts : List Triple) : Type 0 where
  pub coefficients : list_all (is_coefficient h p a) ts ≡ true
  pub rises : rise ts ≡ true
  pub starts : StartAt j ts

coefficient_is : (h : Header) (p : ℕ) (a : PlaneArea) (j : ℕ) (t : Triple) → j < 4 → HasFirstBlock h p a → IsAt j t → is_coefficient h p a t ≡ true
unfolding is_coefficient
coefficient_is h p a j t lt first at =
    rw (at.block, at.place, first.block, first.depth, lt-ltb j (coded_area a.tx_size) (omega (arith, first.places)), at.value) refl

later : (j : ℕ) (s t : Triple) → IsAt j s → IsAt (j + 1) t → is_before s t ≡ true
unfolding is_before
later j s t at next = rw (at.block, at.place, next.block, next.place, lt-ltb j (j + 1) (omega arith)) refl

both : (a b : Bool) → a ≡ true → b ≡ true → (a && b) ≡ true
both a b e f = rw (e, f) refl

fit_cons : (h : Header) (p : ℕ) (a : PlaneArea) (j : ℕ) (t : Triple) (ts : List Triple) → j < 4 → HasFirstBlock h p a → IsAt j t → Fit h p a (j + 1) ts →
    Fit h p a j (t ∷ ts)
unfolding rise
fit_cons h p a j t [] lt first at rest = record {
  coefficients = both (is_coefficient h p a t) true (coefficient_is h p a j t lt first at) refl;
  rises = refl;
  starts = at;
}
fit_cons h p a j t (u ∷ ts) lt first at rest = record {
  coefficients = both (is_coefficient h p a t) (list_all (is_coefficient h p a) (u ∷ ts)) (coefficient_is h p a j t lt first at) rest.coefficients;
  rises = both (is_before t u) (rise (u ∷ ts)) (later j t u at rest.starts) rest.rises;
  starts = at;
}

some_fill : (h : Header) (p : ℕ) (a : PlaneArea) (j n : ℕ) → j + n ≤ 3 → HasFirstBlock h p a →
    Fills (each triple j n) (in_turn (λ _. lone grammar.triple) j n) (n * 7) (Fit h p a j)
unfolding each in_turn rise
some_fill h p a j zero le first = weaker (omega arith) (λ ts q. q) (fills_done [] (record { coefficients = refl; rises = refl; starts = tt }))
some_fill h p a j (suc n) le first =
    weaker (omega arith) (λ ts q. q)
    (follows (λ xs. in_turn (λ _. lone grammar.triple) (j + 1) n >>= λ ys. done (xs ++ ys))
    (fills_lone {Q = λ xs. (t : Triple) × IsAt j t × (xs ≡ t ∷ [])} (triple_fills j (omega arith)) (λ t at. (t, at, refl)))
    (λ xs (t, at, is). ends (λ ys. done (xs ++ ys)) (some_fill h p a (j + 1) n (omega arith) first)
    (λ ys rest. fills_done (xs ++ ys) (rw is (fit_cons h p a j t ys (omega arith) first at rest)))))

pub triples_fill : (h : Header) (p : ℕ) (a : PlaneArea) → HasFirstBlock h p a → Fills triples grammar.triples 23 (λ ts. are_coefficients h p a ts ≡ true)
unfolding triples grammar.triples are_coefficients
triples_fill h p a first =
    drawing 4 (λ n. writes two n >> each triple 0 n) (lit< tt) (λ n lt.
    asked {n = 21} (any two) (λ count. in_turn (λ _. lone grammar.triple) 0 count) n (record { fits = omega arith; admitted = refl })
    (weaker (omega arith) (λ ts fit. both (list_all (is_coefficient h p a) ts) (rise ts) fit.coefficients fit.rises) (some_fill h p a 0 n (omega arith) first)))
