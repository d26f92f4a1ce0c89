-- The number of columns in front of a row.
use Rattle.std.proofs.Common.{◌≡◌, ℕ, ◌<◌, ◌^◌, true, nat_eq, List, ◌++◌, Ok, refl, ap, ◌∙◌, subst}
use Rattle.std.specs.Int.{w16, to_be_bytes}
use Rattle.std.proofs.lemmas.Bool.{eq-eqb, eqb-true}
use Rattle.pgv_value.specs.Fronts.{u16_front}
use Rattle.pgv_value.specs.FrameLaws.{AreBytes}
use Rattle.pgv_value.specs.declared.error.CodecError.TheVariants.{FieldCount}
use Rattle.pgv_value.proofs.Outcomes.{ok_is, and_then_taken, held}
use Rattle.pgv_value.proofs.ReadFronts.{u16_there, u16_is}
use Rattle.pgv_row.specs.DataRow.{frames_front}

frames_there : (width : ℕ) (rest : List ℕ) → width < 2 ^ 16 → frames_front width (to_be_bytes w16 width ++ rest) ≡ Ok rest
unfolding frames_front
frames_there width rest lt = let same : nat_eq width width ≡ true = eq-eqb width width refl in rw (u16_there width rest lt, same) refl

pub frames_read : (width : ℕ) (bytes rest : List ℕ) → width < 2 ^ 16 → bytes ≡ to_be_bytes w16 width ++ rest → frames_front width bytes ≡ Ok rest
frames_read width bytes rest lt e = ap (frames_front width) e ∙ frames_there width rest lt

pub frames_are : (width : ℕ) (bytes rest : List ℕ) → AreBytes bytes → frames_front width bytes ≡ Ok rest → (width < 2 ^ 16) × (bytes ≡ to_be_bytes w16 width ++ rest)
unfolding frames_front
frames_are width bytes rest h e =
    let a = and_then_taken {A = ℕ × List ℕ} (u16_front bytes) _ rest e in
    let t = held (nat_eq a.0.0 width) FieldCount (Ok a.0.1) rest a.2 in
    let n_is : a.0.0 ≡ width = eqb-true a.0.0 width t.0 in
    let k = u16_is bytes a.0.1 a.0.0 h a.1 in (
      subst (λ (n : ℕ). n < 2 ^ 16) n_is k.0,
      k.1 ∙ ap (λ (n : ℕ). to_be_bytes w16 n ++ a.0.1) n_is ∙ ap (λ (xs : List ℕ). to_be_bytes w16 width ++ xs) (ok_is {A = List ℕ} a.0.1 rest t.1),
    )
