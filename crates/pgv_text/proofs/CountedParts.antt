-- How many parts are read, by the byte in front.
use Rattle.std.proofs.Common.{◌≡◌, ◌+◌, ◌-◌, ◌==◌, ◌<◌, ◌≤◌, ◌∙◌, ℕ, suc, true, List, [], ◌∷◌, Option, Some, None, ap, get_or, length, refl, sym, arith}
use Rattle.std.specs.List.{slice_range}
use Rattle.std.specs.Option.{option_map}
use Rattle.std.proofs.lemmas.Bool.{eqb-true}
use Rattle.std.proofs.lemmas.List.{take_all}
use Rattle.pgv_text.specs.declared.scanner.Class.{Class}
use Rattle.pgv_text.specs.declared.scanner.Class.TheVariants.{Other}
use Rattle.pgv_text.specs.declared.scanner.Place.TheVariants.{Outside, Start}
use Rattle.pgv_text.specs.declared.scanner.TextForm.{TextForm}
use Rattle.pgv_text.specs.Forms.{form_of}
use Rattle.pgv_text.specs.NestPieces.{Form}
use Rattle.pgv_text.specs.Scan.{Rest, class, kept, next, numbered, outside_cell, read, read_by}
use Rattle.pgv_text.proofs.CharacterClasses.{class_closing}

pub one_more : (form : Form) (rest : List ℕ) (n : ℕ) (r : Option Rest) → numbered (n + 1) r ≡ numbered n (option_map (next form rest) r)
one_more form rest n None = refl
one_more form rest n (Some r) = let more : n + 1 + length r.values ≡ n + suc (length r.values) = omega arith in ap (λ (m : ℕ). Some (m, r.closing)) more

kept_uncounted : (n b : ℕ) (r : Option Rest) → numbered n r ≡ numbered n (option_map (kept b) r)
kept_uncounted n b None = refl
kept_uncounted n b (Some r) = refl

outside_from_start : (form : Form) (rest : List ℕ) → read form Start rest ≡ read form Outside rest
outside_from_start form [] = refl
outside_from_start form (b ∷ bs) = refl

-- what is after the byte in front
rest_of : (b : ℕ) (bs : List ℕ) → slice_range (b ∷ bs) 1 (length (b ∷ bs)) ≡ bs
rest_of b bs = take_all (length (b ∷ bs) - 1) bs (omega arith)

pub rest_shorter : (left : List ℕ) → 1 ≤ length left → length (slice_range left 1 (length left)) < length left
rest_shorter [] le = absurd (omega (arith, le))
rest_shorter (b ∷ bs) le = let same = ap length (rest_of b bs) in omega (arith, same)

-- the bracket that closes, with nothing after it
pub closing_counted : (form : TextForm) (left : List ℕ) (n : ℕ) → 1 ≤ length left → (length (slice_range left 1 (length left)) == 0) ≡ true → (form_of form).closes (get_or left 0 0) ≡ true →
    Some (n, get_or left 0 0) ≡ numbered n (read (form_of form) Start left)
closing_counted form [] n le none closes = absurd (omega (arith, le))
closing_counted form (b ∷ []) n le none closes =
    let same : n ≡ n + 0 = omega arith in
    ap (λ (m : ℕ). Some (m, b)) same ∙ ap (λ (k : Class). numbered n (read_by (form_of form) b [] (λ q. read (form_of form) q []) (outside_cell k))) (sym (class_closing form b closes))
closing_counted form (b ∷ c ∷ cs) n le none closes =
    let empty = sym (ap length (rest_of b (c ∷ cs))) ∙ eqb-true (length (slice_range (b ∷ c ∷ cs) 1 (length (b ∷ c ∷ cs)))) 0 none in
    absurd (omega (arith, empty))

-- a comma
pub comma_counted : (form : TextForm) (left : List ℕ) (n : ℕ) → 1 ≤ length left → get_or left 0 0 ≡ 44 →
    numbered (n + 1) (read (form_of form) Start (slice_range left 1 (length left))) ≡ numbered n (read (form_of form) Start left)
comma_counted form [] n le comma = absurd (omega (arith, le))
comma_counted form (b ∷ bs) n le comma =
    ap (λ rest. numbered (n + 1) (read (form_of form) Start rest)) (rest_of b bs)
    ∙ (one_more (form_of form) bs n (read (form_of form) Start bs) ∙ ap (λ c. numbered n (read (form_of form) Start (c ∷ bs))) (sym comma))

-- a byte that means nothing
pub other_counted : (form : TextForm) (left : List ℕ) (n : ℕ) → 1 ≤ length left → class (form_of form) (get_or left 0 0) ≡ Other →
    numbered n (read (form_of form) Start (slice_range left 1 (length left))) ≡ numbered n (read (form_of form) Start left)
other_counted form [] n le other = absurd (omega (arith, le))
other_counted form (b ∷ bs) n le other =
    ap (λ rest. numbered n (read (form_of form) Start rest)) (rest_of b bs)
    ∙ (ap (numbered n) (outside_from_start (form_of form) bs) ∙ (kept_uncounted n b (read (form_of form) Outside bs)
    ∙ ap (λ (k : Class). numbered n (read_by (form_of form) b bs (λ q. read (form_of form) q bs) (outside_cell k))) (sym other)))
