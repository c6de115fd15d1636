use Rattle.std.proofs.Common.{ℕ, ℤ, true, leb, ◌≡◌, ◌≤◌, arith, subst, unsigned_abs, to_z, of_z, w16, w64}
use Rattle.std.proofs.lemmas.Int.{ints}
use Rattle.std.proofs.lemmas.Bool.Decides.{nat_tests}
use Rattle.av1_blocks.specs.declared.predict.PredictionMode.{PredictionMode}
use Rattle.av1_blocks.specs.declared.predict.PredictionMode.TheVariants.{UV_CFL_PRED}
use Rattle.av1_intra.specs.Predicted.{is_angle_of}
use Rattle.av1_intra.proofs.ByMode.{only_cfl}
use Rattle.av1_rav1e.proofs.predict.weight_of.Goals as goal

-- a weight fits 16 bits
weight : (mode : PredictionMode) (z : ℤ) → mode ≡ UV_CFL_PRED → is_angle_of mode z ≡ true → to_z w16 (of_z w16 (to_z w64 (of_z w64 z))) ≡ z
weight mode z e h =
    let f : is_angle_of UV_CFL_PRED z ≡ true = subst (λ m. is_angle_of m z ≡ true) e h in
    let s : unsigned_abs z ≤ 16 = small (unsigned_abs z) f in
    omega (arith, ints, s)
  where
    small : (n : ℕ) → leb n 16 ≡ true → n ≤ 16
    small n h = grind (arith, nat_tests)

pub returns-in-UV_CFL_PRED : goal.returns-in-UV_CFL_PRED
returns-in-UV_CFL_PRED c = λ h. weight c.args.mode c.args.angle c.in-UV_CFL_PRED.is c.requires

pub returns-in_default : goal.returns-in_default
returns-in_default c = λ h. absurd (only_cfl c.args.mode c.in_default.not-UV_CFL_PRED h)
