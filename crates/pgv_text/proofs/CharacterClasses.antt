-- What the class of a character says about it.
use Rattle.std.proofs.Common.{◌≡◌, ◌<◌, ◌≤◌, List, length, ℕ, Bool, true, false, not, cond, ◌==◌, ◌||◌, ap, subst, sym, refl, arith}
use Rattle.std.specs.List.{slice_index}
use Rattle.std.specs.Str.{IsUtf8}
use Rattle.std.proofs.lemmas.Bool.{eqb-true, false≢true}
use Rattle.std.proofs.lemmas.Str.{IsCharBoundary-after_ascii}
use Rattle.pgv_text.specs.declared.scanner.TextForm.{TextForm}
use Rattle.pgv_text.specs.declared.scanner.TextForm.TheVariants.{Array, Range, Record}
use Rattle.pgv_text.specs.declared.scanner.Class.{Class}
use Rattle.pgv_text.specs.declared.scanner.Class.TheVariants.{Quote, Backslash, Comma, Open, Close, Other}
use Rattle.pgv_text.specs.NestPieces.{Form, may_be_plain}
use Rattle.pgv_text.specs.Forms.{form_of}
use Rattle.pgv_text.specs.Scan.{class}

abbrev choice : Bool → Bool → Bool → Bool → Bool → Class
choice a b x o l = cond a Quote (cond b Backslash (cond x Comma (cond o Open (cond l Close Other))))

abbrev pub Says : Form → ℕ → Class → Type 0
Says form c Quote = c ≡ 34
Says form c Backslash = c ≡ 92
Says form c Comma = c ≡ 44
Says form c Open = form.opens c ≡ true
Says form c Close = form.closes c ≡ true
Says form c Other = may_be_plain form c ≡ true

says_from : (form : Form) (c : ℕ) (a b x o l : Bool) → (c == 34) ≡ a → (c == 92) ≡ b → (c == 44) ≡ x → form.opens c ≡ o → form.closes c ≡ l → Says form c (choice a b x o l)
says_from form c true b x o l d e f g h = eqb-true c 34 d
says_from form c false true x o l d e f g h = eqb-true c 92 e
says_from form c false false true o l d e f g h = eqb-true c 44 f
says_from form c false false false true l d e f g h = g
says_from form c false false false false true d e f g h = h
says_from form c false false false false false d e f g h = rw (d, e, f, g, h) refl

pub says : (form : Form) (c : ℕ) (k : Class) → class form c ≡ k → Says form c k
says form c k e = subst (Says form c) e (says_from form c (c == 34) (c == 92) (c == 44) (form.opens c) (form.closes c) refl refl refl refl refl)

other_from : (a b x o l : Bool) → not (a || b || x || o || l) ≡ true → choice a b x o l ≡ Other
other_from false false false false false h = refl
other_from _ _ _ _ _ h = absurd (false≢true h)

pub class_plain : (form : Form) (c : ℕ) → may_be_plain form c ≡ true → class form c ≡ Other
class_plain form c h = other_from (c == 34) (c == 92) (c == 44) (form.opens c) (form.closes c) h

either : (c d e : ℕ) (x y : Bool) → (c == d) ≡ x → (c == e) ≡ y → x || y ≡ true → (P : ℕ → Type 0) → P d → P e → P c
either c d e true y p q h P u v = subst P (sym (eqb-true c d p)) u
either c d e false true p q h P u v = subst P (sym (eqb-true c e q)) v
either c d e false false p q h P u v = absurd (false≢true h)

pub class_closing : (form : TextForm) (c : ℕ) → (form_of form).closes c ≡ true → class (form_of form) c ≡ Close
class_closing Array c h = ap (class (form_of Array)) (eqb-true c 125 h)
class_closing Range c h = either c 41 93 (c == 41) (c == 93) refl refl h (λ c. class (form_of Range) c ≡ Close) refl refl
class_closing Record c h = ap (class (form_of Record)) (eqb-true c 41 h)

low : (c d : ℕ) → d < 128 → (c == d) ≡ true → c < 128
low c d h e = let same : c ≡ d = eqb-true c d e in omega arith

-- the opening brackets are ASCII
pub opens_low : (form : TextForm) (c : ℕ) → (form_of form).opens c ≡ true → c < 128
opens_low Array c h = low c 123 (omega arith) h
opens_low Range c h = either c 40 91 (c == 40) (c == 91) refl refl h (λ c. c < 128) (omega arith) (omega arith)
opens_low Record c h = low c 40 (omega arith) h

-- and so are the closing ones
pub closes_low : (form : TextForm) (c : ℕ) → (form_of form).closes c ≡ true → c < 128
closes_low Array c h = low c 125 (omega arith) h
closes_low Range c h = either c 41 93 (c == 41) (c == 93) refl refl h (λ c. c < 128) (omega arith) (omega arith)
closes_low Record c h = low c 41 (omega arith) h

pub after_low : (text : List ℕ) → IsUtf8 text → 0 < length text → slice_index text 0 < 128 → 1 < length text → 128 ≤ slice_index text 1 → 192 ≤ slice_index text 1
after_low text u some low = (IsCharBoundary-after_ascii text 0 u some low).1
