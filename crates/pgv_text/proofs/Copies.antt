-- Which parts stand in their text as they are.
use Rattle.std.proofs.Common.{◌≡◌, ◌<◌, ◌≤◌, ◌⊎◌, inl, inr, ℕ, zero, suc, ◌+◌, Bool, true, false, List, [], ◌∷◌, ◌++◌, length, drop, Option, Some, None, ap, sym, ◌∙◌, refl, subst, arith}
use Rattle.std.specs.List.{slice_index}
use Rattle.std.proofs.lemmas.Bool.{false≢true, false_from_ne_true}
use Rattle.std.proofs.lemmas.List.{drop_all, length-append}
use Rattle.std.proofs.lemmas.Option.{same_Some}
use Rattle.pgv_text.specs.declared.scanner.TextForm.{TextForm}
use Rattle.pgv_text.specs.declared.scanner.Class.{Class}
use Rattle.pgv_text.specs.declared.scanner.Class.TheVariants.{Quote, Backslash, Comma, Open, Close, Other}
use Rattle.pgv_text.specs.declared.scanner.Place.{Place}
use Rattle.pgv_text.specs.declared.scanner.Place.TheVariants.{Start, Outside, Quoted, AfterQuote, AfterBackslash, QuotedBackslash}
use Rattle.pgv_text.specs.declared.scanner.Cell.{Cell}
use Rattle.pgv_text.specs.declared.scanner.Cell.TheVariants.{Keep, Pass, Part, End, Refuse}
use Rattle.pgv_text.specs.NestPieces.{Form}
use Rattle.pgv_text.specs.Forms.{form_of}
use Rattle.pgv_text.specs.Scan.{class, cell, outside_cell, quoted_cell, after_quote_cell, ends, stops}
use Rattle.pgv_text.specs.Copies.{as_it_is, as_it_is_by, bare, bare_by, copies_after, copies_by, in_quotes, in_quotes_by, part_ends, stop_at, stop_by}

-- ---- bytes that are kept, in one step

module _ (form : TextForm) (p q : Place) (n : ℕ) where
  pub kept_stop : (text : List ℕ) (i : ℕ) → i < length text → cell (form_of form) p (class (form_of form) (slice_index text i)) ≡ Keep q →
      ((rest : List ℕ) → rest ≡ drop (i + 1) text → stop_at (form_of form) q rest ≡ stop_at (form_of form) q (drop n rest)) →
      stop_at (form_of form) p (drop i text) ≡ stop_at (form_of form) q (drop (i + (1 + n)) text)
  kept_stop [] i lt keeps run = absurd (omega (arith, lt))
  kept_stop (b ∷ bs) zero lt keeps run =
      let all : suc n ≡ 0 + (1 + n) = omega arith in
      ap (stop_by p (b ∷ bs) (λ r. stop_at (form_of form) r bs)) keeps ∙ run bs refl
      ∙ ap (λ (m : ℕ). stop_at (form_of form) q (drop m (b ∷ bs))) all
  kept_stop (b ∷ bs) (suc i) lt keeps run =
      let one : suc (i + 1) ≡ suc i + 1 = omega arith in
      let all : suc (i + (1 + n)) ≡ suc i + (1 + n) = omega arith in
      kept_stop bs i (omega (arith, lt)) keeps (λ rest e. run rest (e ∙ ap (λ (m : ℕ). drop m (b ∷ bs)) one))
      ∙ ap (λ (m : ℕ). stop_at (form_of form) q (drop m (b ∷ bs))) all

pub kept_stop_one : (form : TextForm) (p q : Place) (text : List ℕ) (i : ℕ) → i < length text → cell (form_of form) p (class (form_of form) (slice_index text i)) ≡ Keep q →
    stop_at (form_of form) p (drop i text) ≡ stop_at (form_of form) q (drop (i + 1) text)
kept_stop_one form p q text i lt keeps = kept_stop form p q 0 text i lt keeps (λ rest e. refl)

-- ---- the byte that isn't kept

pub ends_unstopped : (form : TextForm) (p q : Place) (text : List ℕ) (i : ℕ) → length text ≤ i → stop_at (form_of form) p text ≡ stop_at (form_of form) q (drop i text) → stop_at (form_of form) p text ≡ None
ends_unstopped form p q text i le same = same ∙ ap (stop_at (form_of form) q) (drop_all i text le)

module _ (form : Form) where
  -- it stands where it is found
  stops_here : (p : Place) (bs : List ℕ) (go : Place → Option (Place × List ℕ)) (k : Cell) → ((r : Place) → k ≡ Keep r → ⊥) → stop_by p bs go k ≡ Some (p, bs)
  stops_here p bs go (Keep q) n = absurd (n q refl)
  stops_here p bs go (Pass q) n = refl
  stops_here p bs go Part n = refl
  stops_here p bs go End n = refl
  stops_here p bs go Refuse n = refl

  pub found_stop : (p q : Place) (text bs rest : List ℕ) (b : ℕ) (k : Cell) → stop_at form p text ≡ stop_at form q bs → bs ≡ b ∷ rest → k ≡ cell form q (class form b) →
      ((r : Place) → k ≡ Keep r → ⊥) → stop_at form p text ≡ Some (q, b ∷ rest)
  found_stop p q text bs rest b k same split is n =
      same ∙ ap (stop_at form q) split ∙ ap (stop_by q (b ∷ rest) (λ r. stop_at form r rest)) (sym is) ∙ stops_here q (b ∷ rest) (λ r. stop_at form r rest) k n

  copies_step : (p q : Place) (b : ℕ) (bs t : List ℕ) (k : Cell) → k ≡ cell form p (class form b) →
      ((r : Place) → stop_at form r bs ≡ Some (q, t) → copies_after form r bs ≡ copies_after form q t) →
      stop_by p (b ∷ bs) (λ r. stop_at form r bs) k ≡ Some (q, t) → copies_by form bs (λ r. copies_after form r bs) k ≡ copies_after form q t
  copies_step p q b bs t (Keep r) is all e = all r e
  copies_step p q b bs t (Pass r) is all e = ap (copies_by form bs (λ r. copies_after form r bs)) is ∙ ap (λ (x : Place × List ℕ). copies_after form x.0 x.1) (same_Some {A = Place × List ℕ} (p, b ∷ bs) (q, t) e)
  copies_step p q b bs t Part is all e = ap (copies_by form bs (λ r. copies_after form r bs)) is ∙ ap (λ (x : Place × List ℕ). copies_after form x.0 x.1) (same_Some {A = Place × List ℕ} (p, b ∷ bs) (q, t) e)
  copies_step p q b bs t End is all e = ap (copies_by form bs (λ r. copies_after form r bs)) is ∙ ap (λ (x : Place × List ℕ). copies_after form x.0 x.1) (same_Some {A = Place × List ℕ} (p, b ∷ bs) (q, t) e)
  copies_step p q b bs t Refuse is all e = ap (copies_by form bs (λ r. copies_after form r bs)) is ∙ ap (λ (x : Place × List ℕ). copies_after form x.0 x.1) (same_Some {A = Place × List ℕ} (p, b ∷ bs) (q, t) e)

  -- what is copied after a part doesn't depend on what of the part was passed
  pub same_copies : (text t : List ℕ) (p q : Place) → stop_at form p text ≡ Some (q, t) → copies_after form p text ≡ copies_after form q t
  same_copies [] t p q e = absurd cc
  same_copies (b ∷ bs) t p q e = copies_step p q b bs t (cell form p (class form b)) refl (λ r. same_copies bs t r q) e

  pub copies_there : (p q : Place) (text rest : List ℕ) (b : ℕ) (k : Cell) → stop_at form p text ≡ Some (q, b ∷ rest) → k ≡ cell form q (class form b) →
      copies_after form p text ≡ copies_by form rest (λ r. copies_after form r rest) k
  copies_there p q text rest b k found is = same_copies text (b ∷ rest) p q found ∙ ap (copies_by form rest (λ r. copies_after form r rest)) (sym is)

  -- ---- the part in front, outside quotes

  abbrev pub outside : Place → Bool
  outside Start = true
  outside Outside = true
  outside _ = false

  pub outside_is : (p : Place) (k : Class) → outside p ≡ true → cell form p k ≡ outside_cell k
  outside_is Start k o = refl
  outside_is Outside k o = refl
  outside_is Quoted k o = absurd (false≢true o)
  outside_is AfterQuote k o = absurd (false≢true o)
  outside_is AfterBackslash k o = absurd (false≢true o)
  outside_is QuotedBackslash k o = absurd (false≢true o)

  -- what holds at a stop holds at the bytes before it that are kept
  at_stop : (p q : Place) (bs t : List ℕ) (A : Place → List ℕ → Type 0) → A p bs → ◌≡◌ {A = Option (Place × List ℕ)} (Some (p, bs)) (Some (q, t)) → A q t
  at_stop p q bs t A a e = subst (λ (x : Place × List ℕ). A x.0 x.1) (same_Some {A = Place × List ℕ} (p, bs) (q, t) e) a

  bare_step : (p q : Place) (b : ℕ) (bs t : List ℕ) (k : Class) → class form b ≡ k → outside p ≡ true →
      (stop_at form Outside bs ≡ Some (q, t) → (outside q ≡ true) × (bare form bs ≡ bare form t)) →
      stop_by p (b ∷ bs) (λ r. stop_at form r bs) (outside_cell k) ≡ Some (q, t) → (outside q ≡ true) × (bare_by (bare form bs) k ≡ bare form t)
  bare_step p q b bs t Other is o all e = all e
  bare_step p q b bs t Quote is o all e = at_stop p q (b ∷ bs) t (λ r u. (outside r ≡ true) × (bare_by (bare form bs) Quote ≡ bare form u)) (o, ap (bare_by (bare form bs)) (sym is)) e
  bare_step p q b bs t Backslash is o all e = at_stop p q (b ∷ bs) t (λ r u. (outside r ≡ true) × (bare_by (bare form bs) Backslash ≡ bare form u)) (o, ap (bare_by (bare form bs)) (sym is)) e
  bare_step p q b bs t Comma is o all e = at_stop p q (b ∷ bs) t (λ r u. (outside r ≡ true) × (bare_by (bare form bs) Comma ≡ bare form u)) (o, ap (bare_by (bare form bs)) (sym is)) e
  bare_step p q b bs t Open is o all e = at_stop p q (b ∷ bs) t (λ r u. (outside r ≡ true) × (bare_by (bare form bs) Open ≡ bare form u)) (o, ap (bare_by (bare form bs)) (sym is)) e
  bare_step p q b bs t Close is o all e = at_stop p q (b ∷ bs) t (λ r u. (outside r ≡ true) × (bare_by (bare form bs) Close ≡ bare form u)) (o, ap (bare_by (bare form bs)) (sym is)) e

  same_bare : (text t : List ℕ) (p q : Place) → outside p ≡ true → stop_at form p text ≡ Some (q, t) → (outside q ≡ true) × (bare form text ≡ bare form t)
  same_bare [] t p q o e = absurd cc
  same_bare (b ∷ bs) t p q o e =
      bare_step p q b bs t (class form b) refl o (same_bare bs t Outside q refl) (ap (stop_by p (b ∷ bs) (λ r. stop_at form r bs)) (sym (outside_is p (class form b) o)) ∙ e)

  never_step : (p : Place) (b : ℕ) (bs : List ℕ) (k : Class) → (stop_at form Outside bs ≡ None → bare form bs ≡ false) →
      stop_by p (b ∷ bs) (λ r. stop_at form r bs) (outside_cell k) ≡ None → (bare_by (bare form bs) k ≡ false) × (k ≡ Quote → ⊥)
  never_step p b bs Other all e = (all e, λ h. absurd cc)
  never_step p b bs Quote all e = absurd cc
  never_step p b bs Backslash all e = absurd cc
  never_step p b bs Comma all e = absurd cc
  never_step p b bs Open all e = absurd cc
  never_step p b bs Close all e = absurd cc

  never_bare : (text : List ℕ) → stop_at form Outside text ≡ None → bare form text ≡ false
  never_bare [] e = refl
  never_bare (b ∷ bs) e = (never_step Outside b bs (class form b) (never_bare bs) e).0

  as_bare : (quoted alone : Bool) (k : Class) → (k ≡ Quote → ⊥) → as_it_is_by quoted alone k ≡ alone
  as_bare quoted alone Quote n = absurd (n refl)
  as_bare quoted alone Backslash n = refl
  as_bare quoted alone Comma n = refl
  as_bare quoted alone Open n = refl
  as_bare quoted alone Close n = refl
  as_bare quoted alone Other n = refl

  -- the bytes end before the part does
  pub run_unended : (text : List ℕ) → stop_at form Start text ≡ None → as_it_is form text ≡ false
  run_unended [] e = refl
  run_unended (b ∷ bs) e =
      let h = never_step Start b bs (class form b) (never_bare bs) e in
      as_bare (in_quotes form bs) (bare form (b ∷ bs)) (class form b) h.1 ∙ h.0

  no_quote : (rest : Bool) (k : Class) → bare_by rest k ≡ true → k ≡ Quote → ⊥
  no_quote rest k h e = false≢true (ap (bare_by rest) (sym e) ∙ h)

  pub bare_is : (text : List ℕ) → bare form text ≡ true → as_it_is form text ≡ true
  bare_is [] h = absurd (false≢true h)
  bare_is (b ∷ bs) h = as_bare (in_quotes form bs) (bare form (b ∷ bs)) (class form b) (no_quote (bare form bs) (class form b) h) ∙ h

  ends_bare : (rest : Bool) (k : Class) → (outside_cell k ≡ Part) ⊎ (outside_cell k ≡ End) → bare_by rest k ≡ true
  ends_bare rest Quote e = elim e [ inl h ↦ absurd cc | inr h ↦ absurd cc ]
  ends_bare rest Backslash e = elim e [ inl h ↦ absurd cc | inr h ↦ absurd cc ]
  ends_bare rest Comma e = refl
  ends_bare rest Open e = elim e [ inl h ↦ absurd cc | inr h ↦ absurd cc ]
  ends_bare rest Close e = refl
  ends_bare rest Other e = elim e [ inl h ↦ absurd cc | inr h ↦ absurd cc ]

  goes_on_bare : (rest : Bool) (k : Class) → ((r : Place) → outside_cell k ≡ Keep r → ⊥) → (outside_cell k ≡ Part → ⊥) → (outside_cell k ≡ End → ⊥) → bare_by rest k ≡ false
  goes_on_bare rest Quote n m l = refl
  goes_on_bare rest Backslash n m l = refl
  goes_on_bare rest Comma n m l = absurd (m refl)
  goes_on_bare rest Open n m l = refl
  goes_on_bare rest Close n m l = absurd (l refl)
  goes_on_bare rest Other n m l = absurd (n Outside refl)

  opens_quoted : (quoted alone : Bool) (k : Class) → outside_cell k ≡ Pass Quoted → as_it_is_by quoted alone k ≡ quoted
  opens_quoted quoted alone Quote h = refl
  opens_quoted quoted alone Backslash h = absurd cc
  opens_quoted quoted alone Comma h = absurd cc
  opens_quoted quoted alone Open h = absurd cc
  opens_quoted quoted alone Close h = absurd cc
  opens_quoted quoted alone Other h = absurd cc

  not_kept : (k : Cell) → stops k ≡ true → (r : Place) → k ≡ Keep r → ⊥
  not_kept k s r e = false≢true (sym (ap stops e) ∙ s)

  nothing_before : (run t : List ℕ) → t ≡ run ++ t → run ≡ []
  nothing_before [] t e = refl
  nothing_before (c ∷ run) t e =
      let longer : length t ≡ length (c ∷ run) + length t = ap length e ∙ length-append (c ∷ run) t in
      absurd (omega (arith, longer))

  first_same : (c b : ℕ) (cs bs : List ℕ) → c ∷ cs ≡ b ∷ bs → c ≡ b
  first_same c b cs bs e = cc

  module _ (q : Place) (b : ℕ) (rest : List ℕ) (k : Cell) (is : k ≡ cell form q (class form b)) where
    -- where it stops, outside quotes
    module _ (text : List ℕ) (stop : stop_at form Start text ≡ Some (q, b ∷ rest)) where
      there : (k ≡ outside_cell (class form b)) × (bare form text ≡ bare_by (bare form rest) (class form b))
      there = let h = same_bare text (b ∷ rest) Start q refl stop in (is ∙ outside_is q (class form b) h.0, h.1)

      -- one run, and the part ends
      pub run_ends : (k ≡ Part) ⊎ (k ≡ End) → as_it_is form text ≡ true
      run_ends e = bare_is text (there.1 ∙ ends_bare (bare form rest) (class form b) (elim e [ inl h ↦ inl (sym there.0 ∙ h) | inr h ↦ inr (sym there.0 ∙ h) ]))

      -- an opening quote
      pub run_quoted : k ≡ Pass Quoted → text ≡ b ∷ rest → as_it_is form text ≡ in_quotes form rest
      run_quoted e same = ap (as_it_is form) same ∙ opens_quoted (in_quotes form rest) (bare form (b ∷ rest)) (class form b) (sym there.0 ∙ e)

    -- a quote in front stops
    stops_at_quote : (c : ℕ) (cs : List ℕ) → class form c ≡ Quote → stop_at form Start (c ∷ cs) ≡ Some (q, b ∷ rest) → (k ≡ Pass Quoted) × (c ∷ cs ≡ b ∷ rest)
    stops_at_quote c cs e stop =
        let here : ◌≡◌ {A = Place × List ℕ} (Start, c ∷ cs) (q, b ∷ rest) = same_Some {A = Place × List ℕ} (Start, c ∷ cs) (q, b ∷ rest) (ap (stop_by Start (c ∷ cs) (λ r. stop_at form r cs)) (ap outside_cell (sym e)) ∙ stop) in
        let same : c ∷ cs ≡ b ∷ rest = ap (λ (x : Place × List ℕ). x.1) here in
        let byte : c ≡ b = first_same c b cs rest same in
        ((there (c ∷ cs) stop).0 ∙ ap outside_cell (ap (class form) (sym byte) ∙ e), same)

    not_quoted : (bs run : List ℕ) → stop_at form Start bs ≡ Some (q, b ∷ rest) → bs ≡ run ++ b ∷ rest → (k ≡ Pass Quoted → run ≡ [] → ⊥) → bare form bs ≡ false → as_it_is form bs ≡ false
    not_quoted [] run stop whole n h = refl
    not_quoted (c ∷ cs) run stop whole n h =
        as_bare (in_quotes form cs) (bare form (c ∷ cs)) (class form c)
        (λ e. let at = stops_at_quote c cs e stop in n at.0 (nothing_before run (b ∷ rest) (sym at.1 ∙ whole)))
        ∙ h

    -- anything else
    pub run_goes_on : (text run : List ℕ) → stop_at form Start text ≡ Some (q, b ∷ rest) → text ≡ run ++ b ∷ rest →
        stops k ≡ true → (k ≡ Part → ⊥) → (k ≡ End → ⊥) → (k ≡ Pass Quoted → run ≡ [] → ⊥) → as_it_is form text ≡ false
    run_goes_on text run stop whole s m l o =
        let h = there text stop in
        not_quoted text run stop whole o
        (h.1 ∙ goes_on_bare (bare form rest) (class form b) (λ r e. not_kept k s r (h.0 ∙ e)) (λ e. m (h.0 ∙ e)) (λ e. l (h.0 ∙ e)))

  -- ---- the part in front, after an opening quote

  quoted_step : (q : Place) (b : ℕ) (bs t : List ℕ) (k : Class) → class form b ≡ k →
      (stop_at form Quoted bs ≡ Some (q, t) → (q ≡ Quoted) × (in_quotes form bs ≡ in_quotes form t)) →
      stop_by Quoted (b ∷ bs) (λ r. stop_at form r bs) (quoted_cell k) ≡ Some (q, t) → (q ≡ Quoted) × (in_quotes_by (part_ends form bs) (in_quotes form bs) k ≡ in_quotes form t)
  quoted_step q b bs t Quote is all e =
      at_stop Quoted q (b ∷ bs) t (λ r u. (r ≡ Quoted) × (in_quotes_by (part_ends form bs) (in_quotes form bs) Quote ≡ in_quotes form u)) (refl, ap (in_quotes_by (part_ends form bs) (in_quotes form bs)) (sym is)) e
  quoted_step q b bs t Backslash is all e =
      at_stop Quoted q (b ∷ bs) t (λ r u. (r ≡ Quoted) × (in_quotes_by (part_ends form bs) (in_quotes form bs) Backslash ≡ in_quotes form u)) (refl, ap (in_quotes_by (part_ends form bs) (in_quotes form bs)) (sym is)) e
  quoted_step q b bs t Comma is all e = all e
  quoted_step q b bs t Open is all e = all e
  quoted_step q b bs t Close is all e = all e
  quoted_step q b bs t Other is all e = all e

  same_quoted : (text t : List ℕ) (q : Place) → stop_at form Quoted text ≡ Some (q, t) → (q ≡ Quoted) × (in_quotes form text ≡ in_quotes form t)
  same_quoted [] t q e = absurd cc
  same_quoted (b ∷ bs) t q e = quoted_step q b bs t (class form b) refl (same_quoted bs t q) e

  unclosed_step : (b : ℕ) (bs : List ℕ) (k : Class) → (stop_at form Quoted bs ≡ None → in_quotes form bs ≡ false) →
      stop_by Quoted (b ∷ bs) (λ r. stop_at form r bs) (quoted_cell k) ≡ None → in_quotes_by (part_ends form bs) (in_quotes form bs) k ≡ false
  unclosed_step b bs Quote all e = absurd cc
  unclosed_step b bs Backslash all e = refl
  unclosed_step b bs Comma all e = all e
  unclosed_step b bs Open all e = all e
  unclosed_step b bs Close all e = all e
  unclosed_step b bs Other all e = all e

  -- the bytes end inside quotes
  pub quotes_unended : (text : List ℕ) → stop_at form Quoted text ≡ None → in_quotes form text ≡ false
  quotes_unended [] e = refl
  quotes_unended (b ∷ bs) e = unclosed_step b bs (class form b) (quotes_unended bs) e

  closes_quoted : (closed rest : Bool) (k : Class) → quoted_cell k ≡ Pass AfterQuote → in_quotes_by closed rest k ≡ closed
  closes_quoted closed rest Quote h = refl
  closes_quoted closed rest Backslash h = absurd cc
  closes_quoted closed rest Comma h = absurd cc
  closes_quoted closed rest Open h = absurd cc
  closes_quoted closed rest Close h = absurd cc
  closes_quoted closed rest Other h = absurd cc

  escapes_quoted : (closed rest : Bool) (k : Class) → ((r : Place) → quoted_cell k ≡ Keep r → ⊥) → (quoted_cell k ≡ Pass AfterQuote → ⊥) → in_quotes_by closed rest k ≡ false
  escapes_quoted closed rest Quote n m = absurd (m refl)
  escapes_quoted closed rest Backslash n m = refl
  escapes_quoted closed rest Comma n m = absurd (n Quoted refl)
  escapes_quoted closed rest Open n m = absurd (n Quoted refl)
  escapes_quoted closed rest Close n m = absurd (n Quoted refl)
  escapes_quoted closed rest Other n m = absurd (n Quoted refl)

  ends_by : (d : Bool) (k : Class) → ends k ≡ true → (after_quote_cell d k ≡ Part) ⊎ (after_quote_cell d k ≡ End)
  ends_by true Comma e = inl refl
  ends_by false Comma e = inl refl
  ends_by true Close e = inr refl
  ends_by false Close e = inr refl
  ends_by d Quote e = absurd (false≢true e)
  ends_by d Backslash e = absurd (false≢true e)
  ends_by d Open e = absurd (false≢true e)
  ends_by d Other e = absurd (false≢true e)

  ended_outside : (k : Class) → (outside_cell k ≡ Part) ⊎ (outside_cell k ≡ End) → ends k ≡ true
  ended_outside Quote e = ends_bare false Quote e
  ended_outside Backslash e = ends_bare false Backslash e
  ended_outside Comma e = refl
  ended_outside Open e = ends_bare false Open e
  ended_outside Close e = refl
  ended_outside Other e = ends_bare false Other e

  ended_after_quote : (d : Bool) (k : Class) → (after_quote_cell d k ≡ Part) ⊎ (after_quote_cell d k ≡ End) → ends k ≡ true
  ended_after_quote true Quote e = elim e [ inl h ↦ absurd cc | inr h ↦ absurd cc ]
  ended_after_quote true Backslash e = ended_outside Backslash e
  ended_after_quote true Comma e = refl
  ended_after_quote true Open e = ended_outside Open e
  ended_after_quote true Close e = refl
  ended_after_quote true Other e = ended_outside Other e
  ended_after_quote false k e = ended_outside k e

  never_in_quotes : (k : Class) → (quoted_cell k ≡ Part) ⊎ (quoted_cell k ≡ End) → ⊥
  never_in_quotes Quote e = elim e [ inl h ↦ absurd cc | inr h ↦ absurd cc ]
  never_in_quotes Backslash e = elim e [ inl h ↦ absurd cc | inr h ↦ absurd cc ]
  never_in_quotes Comma e = elim e [ inl h ↦ absurd cc | inr h ↦ absurd cc ]
  never_in_quotes Open e = elim e [ inl h ↦ absurd cc | inr h ↦ absurd cc ]
  never_in_quotes Close e = elim e [ inl h ↦ absurd cc | inr h ↦ absurd cc ]
  never_in_quotes Other e = elim e [ inl h ↦ absurd cc | inr h ↦ absurd cc ]

  -- a byte that ends a part is a comma or a closing bracket
  ended : (p : Place) (k : Class) → (cell form p k ≡ Part) ⊎ (cell form p k ≡ End) → ends k ≡ true
  ended Start k e = ended_outside k e
  ended Outside k e = ended_outside k e
  ended Quoted k e = absurd (never_in_quotes k e)
  ended AfterQuote k e = ended_after_quote form.doubles k e
  ended AfterBackslash k e = elim e [ inl h ↦ absurd cc | inr h ↦ absurd cc ]
  ended QuotedBackslash k e = elim e [ inl h ↦ absurd cc | inr h ↦ absurd cc ]

  module _ (q : Place) (b : ℕ) (rest : List ℕ) (k : Cell) (is : k ≡ cell form q (class form b)) where
    module _ (text : List ℕ) (stop : stop_at form Quoted text ≡ Some (q, b ∷ rest)) where
      inside : (k ≡ quoted_cell (class form b)) × (in_quotes form text ≡ in_quotes_by (part_ends form rest) (in_quotes form rest) (class form b))
      inside = let h = same_quoted text (b ∷ rest) q stop in (is ∙ ap (λ (p : Place). cell form p (class form b)) h.0, h.1)

      -- the closing quote
      pub quotes_close : k ≡ Pass AfterQuote → in_quotes form text ≡ part_ends form rest
      quotes_close e = inside.1 ∙ closes_quoted (part_ends form rest) (in_quotes form rest) (class form b) (sym inside.0 ∙ e)

      -- a backslash
      pub quotes_escape : stops k ≡ true → (k ≡ Pass AfterQuote → ⊥) → in_quotes form text ≡ false
      quotes_escape s m = inside.1 ∙ escapes_quoted (part_ends form rest) (in_quotes form rest) (class form b) (λ r e. not_kept k s r (inside.0 ∙ e)) (λ e. m (inside.0 ∙ e))

    -- after it: at once, where the part ends
    pub ends_at_once : (text : List ℕ) → text ≡ b ∷ rest → (k ≡ Part) ⊎ (k ≡ End) → part_ends form text ≡ true
    ends_at_once text same e = ap (part_ends form) same ∙ ended q (class form b) (elim e [ inl h ↦ inl (sym is ∙ h) | inr h ↦ inr (sym is ∙ h) ])

    ends_there : (c : ℕ) (cs : List ℕ) → ends (class form c) ≡ true → stop_at form AfterQuote (c ∷ cs) ≡ Some (q, b ∷ rest) → ((k ≡ Part) ⊎ (k ≡ End)) × (c ∷ cs ≡ b ∷ rest)
    ends_there c cs e stop =
        let kind = ends_by form.doubles (class form c) e in
        let keeps : (r : Place) → cell form AfterQuote (class form c) ≡ Keep r → ⊥ = elim kind [ inl h ↦ λ r l. absurd cc | inr h ↦ λ r l. absurd cc ] in
        let here : ◌≡◌ {A = Place × List ℕ} (AfterQuote, c ∷ cs) (q, b ∷ rest) =
        same_Some {A = Place × List ℕ} (AfterQuote, c ∷ cs) (q, b ∷ rest) (sym (stops_here AfterQuote (c ∷ cs) (λ r. stop_at form r cs) (cell form AfterQuote (class form c)) keeps) ∙ stop) in
        let place : AfterQuote ≡ q = ap (λ (x : Place × List ℕ). x.0) here in
        let same : c ∷ cs ≡ b ∷ rest = ap (λ (x : Place × List ℕ). x.1) here in
        let what : k ≡ cell form AfterQuote (class form c) = is ∙ ap (λ (p : Place). cell form p (class form b)) (sym place) ∙ ap (λ d. cell form AfterQuote (class form d)) (sym (first_same c b cs rest same)) in
        (elim kind [ inl h ↦ inl (what ∙ h) | inr h ↦ inr (what ∙ h) ], same)

    pub ends_later : (text run : List ℕ) → stop_at form AfterQuote text ≡ Some (q, b ∷ rest) → text ≡ run ++ b ∷ rest → ((k ≡ Part) ⊎ (k ≡ End) → run ≡ [] → ⊥) → part_ends form text ≡ false
    ends_later [] run stop whole n = refl
    ends_later (c ∷ cs) run stop whole n =
        false_from_ne_true (ends (class form c)) (λ e. let at = ends_there c cs e stop in n at.0 (nothing_before run (b ∷ rest) (sym at.1 ∙ whole)))

  -- the bytes end after the quote
  pub never_ends : (text : List ℕ) → stop_at form AfterQuote text ≡ None → part_ends form text ≡ false
  never_ends [] e = refl
  never_ends (c ∷ cs) e = false_from_ne_true (ends (class form c)) (λ h.
      let kind = ends_by form.doubles (class form c) h in
      let keeps : (r : Place) → cell form AfterQuote (class form c) ≡ Keep r → ⊥ = elim kind [ inl h ↦ λ r l. absurd cc | inr h ↦ λ r l. absurd cc ] in
      let here = sym (stops_here AfterQuote (c ∷ cs) (λ r. stop_at form r cs) (cell form AfterQuote (class form c)) keeps) ∙ e in
      absurd cc)
