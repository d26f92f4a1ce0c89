-- Steps over bytes, by the table, and the runs between them.
use Rattle.std.proofs.Common.{◌≡◌, ◌<◌, ◌≤◌, ℕ, Bool, true, false, ◌==◌, inl, inr, List, [], ◌++◌, Option, Some, None, ap, ◌∙◌, refl, append_assoc, arith, ◌⊎◌, zero, suc, ◌+◌, ◌∷◌, length, take, drop, sym}
use Rattle.std.proofs.lemmas.Bool.{cases_lt, eqb-true}
use Rattle.std.proofs.lemmas.Bool.Decides.{eqb_tells}
use Rattle.pgv_text.specs.declared.scanner.TextForm.{TextForm}
use Rattle.pgv_text.specs.declared.scanner.TextForm.TheVariants.{Array, Range, Record}
use Rattle.pgv_text.specs.declared.scanner.Class.TheVariants.{Other}
use Rattle.pgv_text.specs.declared.scanner.Place.{Place}
use Rattle.pgv_text.specs.declared.scanner.Place.TheVariants.{Outside, Quoted, AfterQuote, QuotedBackslash}
use Rattle.pgv_text.specs.declared.scanner.Cell.{Cell}
use Rattle.pgv_text.specs.declared.scanner.Cell.TheVariants.{Keep, End, Part, Pass, Refuse}
use Rattle.pgv_text.specs.NestPieces.{Form}
use Rattle.pgv_text.specs.Forms.{form_of}
use Rattle.pgv_text.specs.Scan.{Rest, class, cell, after_quote_cell, grown, kept, read, read_by, stops}
use Rattle.std.specs.List.{slice_index}
use Rattle.std.proofs.lemmas.List.{drop_all, length-append}
use Rattle.std.specs.Option.{MatchOption, option_map}
use Rattle.pgv_text.specs.declared.scanner.Stop.{Stop}
use Rattle.pgv_text.specs.Copies.{copies_after, copies_by, copies_from}
use Rattle.pgv_text.specs.PartFound.{IsRun}

pub grown_none : (r : Option Rest) → grown [] r ≡ r
grown_none None = refl
grown_none (Some r) = refl

pub grown_twice : (a b : List ℕ) (r : Option Rest) → grown (a ++ b) r ≡ grown a (grown b r)
grown_twice a b None = refl
grown_twice a b (Some r) = ap (λ t. Some (record r { text = t })) (append_assoc a b r.text)

pub not_equal : (b d : ℕ) → d < 128 → 128 ≤ b → (b == d) ≡ false
not_equal b d h k = elim (eqb_tells b d) [ inl e ↦ absurd (omega arith) | inr e ↦ e.0 ]

-- a byte of more than ASCII is of no other class
pub high_class : (form : TextForm) (b : ℕ) → 128 ≤ b → class (form_of form) b ≡ Other
high_class Array b h = rw (not_equal b 34 (omega arith) h, not_equal b 92 (omega arith) h, not_equal b 44 (omega arith) h, not_equal b 123 (omega arith) h, not_equal b 125 (omega arith) h) refl
high_class Range b h = rw (not_equal b 34 (omega arith) h, not_equal b 92 (omega arith) h, not_equal b 44 (omega arith) h, not_equal b 40 (omega arith) h, not_equal b 91 (omega arith) h, not_equal b 41 (omega arith) h, not_equal b 93 (omega arith) h) refl
high_class Record b h = rw (not_equal b 34 (omega arith) h, not_equal b 92 (omega arith) h, not_equal b 44 (omega arith) h, not_equal b 40 (omega arith) h, not_equal b 41 (omega arith) h) refl

-- the place after a character that isn't ASCII
abbrev pub onward : Place → Place
onward Quoted = Quoted
onward QuotedBackslash = Quoted
onward _ = Outside

after_other : (d : Bool) → after_quote_cell d Other ≡ Keep Outside
after_other true = refl
after_other false = refl

pub other_cell : (form : Form) (p : Place) → cell form p Other ≡ Keep (onward p)
other_cell form AfterQuote = after_other form.doubles
other_cell form _ = refl

-- a byte that isn't kept is ASCII
pub stop_is_ascii : (form : TextForm) (p : Place) (b : ℕ) (k : Cell) → k ≡ cell (form_of form) p (class (form_of form) b) → ((q : Place) → k ≡ Keep q → ⊥) → b < 128
stop_is_ascii form p b k e n =
    elim (cases_lt b 128) [
      | inl h ↦ h
      | inr h ↦ absurd (n (onward p) (e ∙ ap (cell (form_of form) p) (high_class form b h) ∙ other_cell (form_of form) p))
    ]

-- ---- bytes that are kept, in one step

grown_more : (b : ℕ) (bs : List ℕ) (r : Option Rest) → option_map (kept b) (grown bs r) ≡ grown (b ∷ bs) r
grown_more b bs None = refl
grown_more b bs (Some r) = refl

module _ (form : TextForm) (p q : Place) (n : ℕ) where
  -- what is read after so many bytes
  abbrev read_after : List ℕ → ℕ → Option Rest
  read_after text m = grown (take m text) (read (form_of form) q (drop m text))

  -- a byte that is kept, and the n that are after it
  pub kept_run : (text : List ℕ) (i : ℕ) → i < length text → cell (form_of form) p (class (form_of form) (slice_index text i)) ≡ Keep q →
      ((rest : List ℕ) → rest ≡ drop (i + 1) text → read (form_of form) q rest ≡ read_after rest n) →
      grown (take i text) (read (form_of form) p (drop i text)) ≡ read_after text (i + (1 + n))
  kept_run [] i lt keeps run = absurd (omega (arith, lt))
  kept_run (b ∷ bs) zero lt keeps run =
      let all : suc n ≡ 0 + (1 + n) = omega arith in
      grown_none (read (form_of form) p (b ∷ bs))
      ∙ ap (λ (k : Cell). read_by (form_of form) b bs (λ r. read (form_of form) r bs) k) keeps
      ∙ ap (option_map (kept b)) (run bs refl)
      ∙ grown_more b (take n bs) (read (form_of form) q (drop n bs))
      ∙ ap (read_after (b ∷ bs)) all
  kept_run (b ∷ bs) (suc i) lt keeps run =
      let one : suc (i + 1) ≡ suc i + 1 = omega arith in
      let all : suc (i + (1 + n)) ≡ suc i + (1 + n) = omega arith in
      sym (grown_more b (take i bs) (read (form_of form) p (drop i bs)))
      ∙ ap (option_map (kept b)) (kept_run bs i (omega (arith, lt)) keeps (λ rest e. run rest (e ∙ ap (λ (m : ℕ). drop m (b ∷ bs)) one)))
      ∙ grown_more b (take (i + (1 + n)) bs) (read (form_of form) q (drop (i + (1 + n)) bs))
      ∙ ap (read_after (b ∷ bs)) all

-- one byte that is kept
pub kept_one : (form : TextForm) (p q : Place) (text : List ℕ) (i : ℕ) → i < length text → cell (form_of form) p (class (form_of form) (slice_index text i)) ≡ Keep q →
    grown (take i text) (read (form_of form) p (drop i text)) ≡ grown (take (i + 1) text) (read (form_of form) q (drop (i + 1) text))
kept_one form p q text i lt keeps = kept_run form p q 0 text i lt keeps (λ rest e. sym (grown_none (read (form_of form) q rest)))

-- ---- a byte that isn't kept, and the end

pub split_at : (text rest : List ℕ) (i : ℕ) → i < length text → rest ≡ drop (i + 1) text → drop i text ≡ slice_index text i ∷ rest
split_at [] rest i lt e = absurd (omega (arith, lt))
split_at (b ∷ bs) rest zero lt e = ap (λ t. b ∷ t) (sym e)
split_at (b ∷ bs) rest (suc i) lt e =
    let one : suc i + 1 ≡ suc (i + 1) = omega arith in
    split_at bs rest i (omega (arith, lt)) (e ∙ ap (λ (m : ℕ). drop m (b ∷ bs)) one)

pub stops_at : (k : Cell) → ((q : Place) → k ≡ Keep q → ⊥) → stops k ≡ true
stops_at (Keep q) n = absurd (n q refl)
stops_at (Pass q) n = refl
stops_at Part n = refl
stops_at End n = refl
stops_at Refuse n = refl

-- what is read goes on there
pub stop_onward : (form : TextForm) (p q : Place) (text before run bs rest : List ℕ) (b : ℕ) (k : Cell) →
    read (form_of form) p text ≡ grown before (read (form_of form) q bs) → run ≡ before → bs ≡ b ∷ rest → k ≡ cell (form_of form) q (class (form_of form) b) →
    read (form_of form) p text ≡ grown run (read_by (form_of form) b rest (λ r. read (form_of form) r rest) k)
stop_onward form p q text before run bs rest b k same run_is split is =
    same ∙ (ap (λ t. grown before (read (form_of form) q t)) split
    ∙ (ap (λ m. grown before (read_by (form_of form) b rest (λ r. read (form_of form) r rest) m)) (sym is)
    ∙ ap (λ t. grown t (read_by (form_of form) b rest (λ r. read (form_of form) r rest) k)) (sym run_is)))

-- nothing is read of no more bytes
pub ends_unread : (form : TextForm) (p q : Place) (text before : List ℕ) (i : ℕ) → length text ≤ i → read (form_of form) p text ≡ grown before (read (form_of form) q (drop i text)) → read (form_of form) p text ≡ None
ends_unread form p q text before i le same = same ∙ ap (λ t. grown before (read (form_of form) q t)) (drop_all i text le)

-- a byte that is passed over, with nothing before it
pub passed : (form : Form) (p q : Place) (b : ℕ) (text before rest : List ℕ) (k : Cell) →
    read form p text ≡ grown before (read_by form b rest (λ r. read form r rest) k) → k ≡ Pass q → before ≡ [] → read form p text ≡ read form q rest
passed form p q b text before rest k h e n = h ∙ rw (n, e) (grown_none (read form q rest))

-- a run up to a byte that is passed over, with nothing between it and the end
pub run_alone : (form : Form) (p q : Place) (b e : ℕ) (text run rest between after : List ℕ) (k m : Cell) →
    read form p text ≡ grown run (read_by form b rest (λ r. read form r rest) k) → k ≡ Pass q →
    read form q rest ≡ grown between (read_by form e after (λ r. read form r after) m) → between ≡ [] →
    read form p text ≡ grown run (read_by form e after (λ r. read form r after) m)
run_alone form p q b e text run rest between after k m h i j n =
    h ∙ rw i (ap (grown run) (j ∙ rw n (grown_none (read_by form e after (λ r. read form r after) m))))

-- a list that has no element
pub none_in : (xs : List ℕ) → (length xs == 0) ≡ true → xs ≡ []
none_in [] h = refl
none_in (x ∷ xs) h = let e : length (x ∷ xs) ≡ 0 = eqb-true (length (x ∷ xs)) 0 h in absurd (omega (arith, e))

-- what is after a stop is shorter than what it is in
pub stop_shorter : (text run rest : List ℕ) (b : ℕ) → text ≡ run ++ b ∷ rest → length rest < length text
stop_shorter text run rest b e = rw e (omega (arith, length-append run (b ∷ rest)))

-- where a part ends, what is copied after it begins
pub copies_ended : (form : Form) (place : Place) (text rest : List ℕ) (k : Cell) → copies_after form place text ≡ copies_by form rest (λ q. copies_after form q rest) k → (k ≡ Part) ⊎ (k ≡ End) → copies_after form place text ≡ copies_from form rest
copies_ended form place text rest k e (inl h) = e ∙ rw h refl
copies_ended form place text rest k e (inr h) = e ∙ rw h refl

-- where reading goes on elsewhere, so does a run
pub run_from : (form : TextForm) (p q : Place) (text rest : List ℕ) (a b : Bool) → a ≡ b →
    read (form_of form) p text ≡ read (form_of form) q rest → copies_after (form_of form) p text ≡ copies_after (form_of form) q rest → length rest < length text →
    (found : Option Stop) → MatchOption found (b ≡ false) (λ stop. (b ≡ true) × IsRun form q rest stop) → MatchOption found (a ≡ false) (λ stop. (a ≡ true) × IsRun form p text stop)
run_from form p q text rest a b e same copied shorter None h = e ∙ h
run_from form p q text rest a b e same copied shorter (Some s) h = (
  e ∙ h.0,
  record { part = (same ∙ h.1.part.0, h.1.part.1); shorter = omega (arith, shorter, h.1.shorter); copies = copied ∙ h.1.copies },
)
