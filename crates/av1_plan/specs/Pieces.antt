-- A plan whose leaves are kept apart from its header and its references.
use Rattle.std.specs.Prelude.{ℕ, ◌+◌, List, ◌++◌, Option, length}
use Rattle.av1_plan.specs.declared.header.Header.{Header}
use Rattle.av1_plan.specs.Grammar.{header, references, plan, plan_behind}
use Rattle.av1_plan.specs.Plan.{PlanValue}
use Rattle.av1_plan.specs.Spelling.{AreText, AreRefused}

-- The bytes of a header, of its references and of the leaves after them, one after the other, are the bytes of the
-- plan.
abbrev pub PiecesArePlan : Type 0
PiecesArePlan =
    (head samples part : List ℕ) (h : Header) (stored : List (Option (List (List ℕ)))) (p : PlanValue)
    → AreText header head h → AreText (references h) samples stored → AreText (plan_behind h stored) part p →
    AreText plan (head ++ samples ++ part) p

-- If all of these bytes spell a plan, the leaves' bytes spell it after the header and its references.
abbrev pub PlanIsPieces : Type 0
PlanIsPieces =
    (head samples part : List ℕ) (h : Header) (stored : List (Option (List (List ℕ)))) (p : PlanValue)
    → AreText header head h → AreText (references h) samples stored → AreText plan (head ++ samples ++ part) p →
    AreText (plan_behind h stored) part p

-- If the bytes of the leaves are rejected, all of these bytes are rejected as a plan, at the same field.
abbrev pub PiecesAreRefused : Type 0
PiecesAreRefused =
    (head samples part : List ℕ) (h : Header) (stored : List (Option (List (List ℕ)))) (at : ℕ)
    → AreText header head h → AreText (references h) samples stored → AreRefused (plan_behind h stored) part at →
    AreRefused plan (head ++ samples ++ part) (length head + length samples + at)
