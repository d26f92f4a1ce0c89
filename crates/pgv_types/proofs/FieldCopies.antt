-- Copied fields are the fields.
use Rattle.std.proofs.Common.{◌≡◌, List, [], ◌∷◌, ap, ap₂, ◌∙◌, refl}
use Rattle.std.specs.List.{AllZip}
use Rattle.std.specs.Rc.{rc_str_bytes}
use Rattle.std.specs.declared.rc.RcStr.{RcStr}
use Rattle.std.specs.declared.alloc.Global.{Global}
use Rattle.pgv_types.specs.Ty.{Ty, field}
use Rattle.pgv_types.specs.Shown.{fields_of}

pub fields_copied : (xs ys : List (RcStr Global × Ty)) → AllZip (λ x y. (rc_str_bytes y.0 ≡ rc_str_bytes x.0) × (y.1 ≡ x.1)) xs ys → fields_of ys ≡ fields_of xs
fields_copied [] [] h = refl
fields_copied [] (y ∷ ys) h = absurd h
fields_copied (x ∷ xs) [] h = absurd h
fields_copied (x ∷ xs) (y ∷ ys) h =
    ap (λ n. field n y.1 (fields_of ys)) h.0.0 ∙ ap₂ (λ t fs. field (rc_str_bytes x.0) t fs) h.0.1 (fields_copied xs ys h.1)
