-- What is read in front of bytes, as a number or as the value of a frame, is what is there.
use Rattle.std.proofs.Common.{◌≡◌, ℕ, ◌<◌, ◌^◌, List, [], ◌∷◌, ◌++◌, length, Option, Some, Ok, refl, ◌∙◌, ap}
use Rattle.std.specs.Int.{w32, to_be_bytes}
use Rattle.pgv_types.specs.Ty.{Ty}
use Rattle.pgv_value.specs.FrameBinary.{Part, IsFrame, front, frame_fault}
use Rattle.pgv_value.specs.Fronts.{u32_front, part_front, value_front}
use Rattle.pgv_value.specs.FrameLaws.{AreBytes}
use Rattle.pgv_value.specs.ReadingSteps.{number}
use Rattle.pgv_value.specs.ValueView.{Given, given}
use Rattle.pgv_value.specs.declared.error.CodecError.TheVariants.{Short}
use Rattle.pgv_value.specs.declared.value.PgValueFormat.TheVariants.{Binary}
use Rattle.pgv_value.proofs.Fronts.{front_exactly}
use Rattle.pgv_value.proofs.Numbers.{number_splits, number_is}
use Rattle.pgv_value.proofs.Outcomes.{and_then_taken, found_or, ok_is}

pub u32_is : (bytes : List ℕ) (n : ℕ × List ℕ) → AreBytes bytes → u32_front bytes ≡ Ok n → (n.0 < 2 ^ 32) × (bytes ≡ to_be_bytes w32 n.0 ++ n.1)
u32_is bytes n b e = number_is bytes n.1 n.0 b (found_or (number bytes) Short n e)

-- four bytes, whatever they are
pub u32_splits : (bytes : List ℕ) (n : ℕ × List ℕ) → u32_front bytes ≡ Ok n → (four : List ℕ) × (bytes ≡ four ++ n.1) × (length four ≡ 4)
u32_splits bytes n e =
    let k = number_splits bytes n.1 n.0 (found_or (number bytes) Short n e) in
    (k.0 ∷ k.1 ∷ k.2 ∷ k.3 ∷ [], k.4, refl)

pub value_found : (t : Ty) (bytes : List ℕ) (v : Given) (rest : List ℕ) → value_front t Binary bytes ≡ Ok (v, rest) → (part : Part) × (front bytes ≡ Some (part, rest)) × (given t Binary part ≡ v)
value_found t bytes v rest e =
    let p = and_then_taken (part_front bytes) _ (v, rest) e in
    let same = ok_is {A = Given × List ℕ} (given t Binary p.0.0, p.0.1) (v, rest) p.2 in
    let found = found_or (front bytes) (frame_fault bytes) p.0 p.1 in
    (p.0.0, found ∙ ap (λ (x : Given × List ℕ). let o : Option (Part × List ℕ) = Some (p.0.0, x.1) in o) same, ap (λ (x : Given × List ℕ). x.0) same)

pub value_is : (t : Ty) (bytes : List ℕ) (v : Given) (rest : List ℕ) → AreBytes bytes → value_front t Binary bytes ≡ Ok (v, rest) → (part : Part) × IsFrame bytes part rest × (given t Binary part ≡ v)
value_is t bytes v rest b e = let p = value_found t bytes v rest e in (p.0, (front_exactly bytes p.0 rest b).0 p.1, p.2)
