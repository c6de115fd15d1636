-- What a block is refused for, and what a residue that is added says.
use Rattle.std.proofs.Common.{refl, inl, ℕ, ◌-◌, ◌≡◌, ◌∙◌, ℤ, List, [], ◌∷◌, length, slice_index_or, Bool, true, false, ap, sym}
use Rattle.av1_blocks.specs.Depths.{IsDepth}
use Rattle.av1_blocks.specs.declared.transform.TxSize.{TxSize}
use Rattle.av1_blocks.specs.declared.transform.TxType.{TxType}
use Rattle.av1_calls.specs.Arguments.{IfWide, argument_status}
use Rattle.av1_calls.specs.Transforms.{AddsResidue, AllFitDepth, AreOfDepth, HasTooLarge, IsBlock, with_residue}
use Rattle.av1_calls.specs.declared.argument.BadArgument.{BadArgument}
use Rattle.av1_calls.specs.declared.argument.BadArgument.TheVariants as bad

-- a test that is true where something holds, and that was false, says that it does not hold
pub denied : {P : Type 0} (told : Bool) → (P → told ≡ true) → told ≡ false → ¬ P
denied told tells untrue p = let e : true ≡ false = sym (tells p) ∙ untrue in cc

abbrev arguments : List BadArgument
arguments = bad.Size ∷ bad.Kind ∷ bad.Depth ∷ bad.Area ∷ bad.Short ∷ bad.Coefficient ∷ bad.Sample ∷ bad.Mode ∷ bad.Angle ∷ bad.Fraction ∷ bad.Sampling ∷
    bad.Pad ∷ []

abbrev argument_of : ℕ → BadArgument
argument_of status = slice_index_or arguments (status - 6) bad.Size

argument_back : (fault : BadArgument) → argument_of (argument_status fault) ≡ fault
argument_back fault = elim fault as (λ f. argument_of (argument_status f) ≡ f) [ bad.Size ↦ refl | _ ↦ refl ]

-- a status names one reason
pub one_argument : (fault other : BadArgument) → argument_status fault ≡ argument_status other → fault ≡ other
one_argument fault other is = sym (argument_back fault) ∙ ap argument_of is ∙ argument_back other

-- some coefficient is too large, as a test tells
pub too_large : (depth size_number type_number stride x y : ℕ) (coefficients : List ℤ) (samples : ℕ) (size : TxSize) (type : TxType) (told : Bool) →
    IsBlock size_number type_number stride x y samples size type
    → IsDepth depth → (AllFitDepth depth size coefficients → told ≡ true) → told ≡ false →
    HasTooLarge depth size_number type_number stride x y coefficients samples
too_large depth size_number type_number stride x y coefficients samples size type told block is tells failed =
    (size, (type, (block, (is, denied told tells failed))))

-- a call that added a residue
pub adds_residue : (by_av1 wide : Bool) (depth size_number type_number stride x y : ℕ) (coefficients : List ℤ) (before after : List ℕ) (size : TxSize)
    (type : TxType) → IsBlock size_number type_number stride x y (length before) size type
    → IfWide wide (AreOfDepth depth size coefficients) → after ≡ with_residue by_av1 depth stride x y size type coefficients before →
    AddsResidue by_av1 wide depth size_number type_number stride x y coefficients before after 0
adds_residue by_av1 wide depth size_number type_number stride x y coefficients before after size type block fit added = record {
  done = λ _. (size, (type, (block, (fit, added))));
  asked = λ _ _ _ _. refl;
  size = λ e. cc;
  kind = λ e. cc;
  area = λ e. cc;
  depth = λ e. cc;
  coefficient = λ e. cc;
  kept = λ other. absurd (other refl);
  known = inl refl;
}
