-- Messages one after another, and what answers show.
use Rattle.std.proofs.Common.{◌≡◌, ℕ, List, [], ◌∷◌, ◌++◌, Result, Ok, Err, refl, sym, ap, ◌∙◌, append_assoc, append-nil, subst}
use Rattle.std.specs.Prelude.{◌==◌}
use Rattle.pgv_row.specs.ColumnView.{Column}
use Rattle.pgv_message.specs.MessageWriting.{Writing, ◌>>=◌, with_message}
use Rattle.pgv_message.specs.declared.error.MessageError.{MessageError}
use Rattle.pgquery.specs.Incoming.{Incoming}
use Rattle.pgquery.specs.RowLines.{ShowsAnswer, ShowsRows}
use Rattle.pgquery.specs.Statement.{described, description_among}
use Rattle.pgquery.specs.declared.options.Shown.{Shown}

-- ---- three messages

same_bytes : (xs ys : List ℕ) → (let r : Result (List ℕ) MessageError = Ok xs in r) ≡ Ok ys → xs ≡ ys
same_bytes xs ys h = cc

appended_is : (old new : List ℕ) (m : Writing (List ℕ)) → with_message old m ≡ Ok new → (bytes : List ℕ) × (m ≡ Ok bytes) × (new ≡ old ++ bytes)
appended_is old new (Ok bytes) h = (bytes, refl, sym (same_bytes _ _ h))
appended_is old new (Err e) h = absurd cc

-- the first of them is changed before the second is appended
pub three : (change : List ℕ → List ℕ) (a b c : Writing (List ℕ)) (x y z : List ℕ) → with_message [] a ≡ Ok x → with_message (change x) b ≡ Ok y → with_message y c ≡ Ok z →
    (a >>= λ p. b >>= λ q. c >>= λ r. Ok ((change p ++ q) ++ r)) ≡ Ok z
three change a b c x y z p q r =
    let i = appended_is [] x a p in
    let j = appended_is (change x) y b q in
    let k = appended_is y z c r in
    let whole : (change i.0 ++ j.0) ++ k.0 ≡ z = ap (λ (xs : List ℕ). (change xs ++ j.0) ++ k.0) (sym i.2) ∙ ap (λ (xs : List ℕ). xs ++ k.0) (sym j.2) ∙ sym k.2 in
    rw (i.1, j.1, k.1) (ap (λ (xs : List ℕ). let r : Writing (List ℕ) = Ok xs in r) whole)

-- ---- one more answer

pub description_more : (body : List ℕ) (ms : List Incoming) (m : Incoming) → description_among body (ms ++ m ∷ []) ≡ described (description_among body ms) m
description_more body [] m = refl
description_more body (n ∷ ms) m = description_more (described body n) ms m

pub shows_more : (shown : Shown) (columns : List Column) (ms : List Incoming) (m : Incoming) (text line : List ℕ) → ShowsRows shown columns ms text → ShowsAnswer (m.tag == 68) shown columns m.body line →
    ShowsRows shown columns (ms ++ m ∷ []) (text ++ line)
shows_more shown columns [] m text line none is = (line, [], ap (λ (xs : List ℕ). xs ++ line) none ∙ sym (append-nil line), is, refl)
shows_more shown columns (n ∷ ms) m text line shows is =
    (shows.0, shows.1 ++ line, ap (λ (xs : List ℕ). xs ++ line) shows.2 ∙ append_assoc shows.0 shows.1 line, shows.3, shows_more shown columns ms m shows.1 line shows.4 is)

-- ---- the message that says that the server is ready

pub ready_describes_nothing : (body : List ℕ) (m : Incoming) → m.tag ≡ 90 → described body m ≡ body
ready_describes_nothing body m is = rw is refl

pub ready_shows_nothing : (shown : Shown) (columns : List Column) (ms : List Incoming) (m : Incoming) (text : List ℕ) → ShowsRows shown columns ms text → m.tag ≡ 90 → ShowsRows shown columns (ms ++ m ∷ []) text
ready_shows_nothing shown columns ms m text shows is =
    let none : ShowsAnswer (m.tag == 68) shown columns m.body [] = rw is refl in
    subst (ShowsRows shown columns (ms ++ m ∷ [])) (append-nil text) (shows_more shown columns ms m text [] shows none)
