-- What stands in a buffer to which bytes are appended.
use Rattle.std.proofs.Common.{◌≡◌, ℕ, ◌+◌, ◌^◌, ◌≤◌, List, ◌++◌, length, drop, take, Result, Ok, Err, sym, ap, subst, ◌∙◌, append_assoc, arith}
use Rattle.std.specs.Prelude.{IfErr, IsErrAnd}
use Rattle.std.proofs.lemmas.List.{drop-drop}
use Rattle.av1_c.specs.Builders.{AreAppended}
use Rattle.av1_c.specs.declared.build_fault.BuildFault.{BuildFault}

-- bytes in place of as many behind those that stand already
pub appended : (room front next rest more : List ℕ) (written len end : ℕ) → end ≡ written + len → end ≤ length room → end ≤ 2 ^ 26 → front ≡ take written room
    → rest ≡ drop len (drop written room) → next ≡ more → length next ≡ len → AreAppended room (front ++ (next ++ rest)) more written end
appended room front next rest more written len end e fits short f g h l = record {
  end_is = omega (arith, e, l, ap length h);
  fits = fits;
  short = short;
  room_is = ap (λ (xs : List ℕ). xs ++ (next ++ rest)) f
      ∙ ap (λ (xs : List ℕ). take written room ++ (xs ++ rest)) h
      ∙ sym (append_assoc (take written room) more rest)
      ∙ ap (λ (xs : List ℕ). take written room ++ more ++ xs) (g ∙ drop-drop len written room ∙ ap (λ (n : ℕ). drop n room) (sym e));
}

-- a fault is handed on
pub passed_on : {X : Type 0} (result : Result X BuildFault) (fault : BuildFault) (P : BuildFault → Type 0) → IsErrAnd result (λ f. f ≡ fault) → P fault →
    IfErr result P
passed_on (Ok x) fault P e p = absurd e
passed_on (Err f) fault P e p = subst P (sym e) p
