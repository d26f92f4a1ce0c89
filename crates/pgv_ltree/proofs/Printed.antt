-- Parts that are joined by a byte, and printed one after another.
use Rattle.std.proofs.Common.{◌≡◌, ℕ, List, [], ◌∷◌, ◌++◌, sym, refl, append_assoc, ◌∙◌, ◌+◌, ◌<◌, length, get_or, take, ap, map, true}
use Rattle.std.specs.List.{join_with_byte, list_all}
use Rattle.std.proofs.lemmas.List.{take_more, map_push}
use Rattle.std.specs.Prelude.{◌==◌, Bool, false, codes}
use Rattle.std.proofs.lemmas.List.Folds.{list_all-append}
use Rattle.std.proofs.lemmas.Bool.{false≢true, and_from}
use Rattle.pgv_ltree.specs.Queries.{Variant, none_of}
use Rattle.pgv_ltree.specs.QueryPrinted.{printed_level, printed_variants}

-- ---- parts that are joined by a byte

-- one more part
pub join-push : (c : ℕ) (x : List ℕ) (xs : List (List ℕ)) (y : List ℕ) → join_with_byte c (x ∷ (xs ++ y ∷ [])) ≡ join_with_byte c (x ∷ xs) ++ c ∷ y
join-push c x [] y = refl
join-push c x (z ∷ xs) y = rw (join-push c z xs y) (sym (append_assoc x (c ∷ join_with_byte c (z ∷ xs)) (c ∷ y)))

-- ---- parts that are taken one after another

-- one more part of a list
pub one_more : (d : ℕ) (first : List ℕ) (xs : List (List ℕ)) (i : ℕ) (x : List ℕ) → i < length xs → x ≡ get_or xs i x →
    join_with_byte d (first ∷ take (i + 1) xs) ≡ join_with_byte d (first ∷ take i xs) ++ d ∷ x
one_more d first xs i x l e =
    ap (λ ys. join_with_byte d (first ∷ ys)) (take_more xs i x l ∙ ap (λ y. take i xs ++ y ∷ []) (sym e)) ∙ join-push d first (take i xs) x

module _ {S : Type 0} (took : S → List ℕ → S → Type 0) where
  -- a text that is another
  pub taken_as : (a b : S) (x y : List ℕ) → x ≡ y → took a x b → took a y b
  taken_as a b x y e t = rw (← e) t

  module _ (both : (a b c : S) (x y : List ℕ) → took a x b → took b y c → took a (x ++ y) c) where
    -- two texts
    pub taken_two : (a b c : S) (x y whole : List ℕ) → took a x b → took b y c → whole ≡ x ++ y → took a whole c
    taken_two a b c x y whole first second e = taken_as a c (x ++ y) whole (sym e) (both a b c x y first second)

    -- three
    pub taken_three : (a b c d : S) (x y z whole : List ℕ) → took a x b → took b y c → took c z d → whole ≡ x ++ (y ++ z) → took a whole d
    taken_three a b c d x y z whole first second third e =
        taken_two a b d x (y ++ z) whole first (both b c d y z second third) e

-- ---- one more part of a list that is printed with a byte between its parts

pub one_more_printed : {X : Type 0} (d : ℕ) (print : X → List ℕ) (first : List ℕ) (xs : List X) (i : ℕ) (x : X) → i < length xs → x ≡ get_or xs i x →
    join_with_byte d (first ∷ map print (take (i + 1) xs)) ≡ join_with_byte d (first ∷ map print (take i xs)) ++ d ∷ print x
one_more_printed d print first xs i x l e =
    ap (λ ys. join_with_byte d (first ∷ map print ys)) (take_more xs i x l ∙ ap (λ y. take i xs ++ y ∷ []) (sym e))
    ∙ ap (λ ys. join_with_byte d (first ∷ ys)) (map_push print (take i xs) x) ∙ join-push d first (map print (take i xs)) (print x)

-- the same of parts that are seen as something else
pub one_more_seen : {X Y : Type 0} (d : ℕ) (print : Y → List ℕ) (see : X → Y) (first : List ℕ) (xs : List X) (i : ℕ) (x : X) → i < length xs → x ≡ get_or xs i x →
    join_with_byte d (first ∷ map print (map see (take (i + 1) xs))) ≡ join_with_byte d (first ∷ map print (map see (take i xs))) ++ d ∷ print (see x)
one_more_seen d print see first xs i x l e =
    ap (λ ys. join_with_byte d (first ∷ map print (map see ys))) (take_more xs i x l ∙ ap (λ y. take i xs ++ y ∷ []) (sym e))
    ∙ ap (λ ys. join_with_byte d (first ∷ map print ys)) (map_push see (take i xs) x)
    ∙ ap (λ ys. join_with_byte d (first ∷ ys)) (map_push print (map see (take i xs)) (see x)) ∙ join-push d first (map print (map see (take i xs))) (print (see x))

-- what is seen of one more part passes a test that the others pass
pub more_seen_pass : {X Y : Type 0} (p : Y → Bool) (see : X → Y) (xs : List X) (i : ℕ) (first : Y) (x : X) → i < length xs → x ≡ get_or xs i x → list_all p (first ∷ map see (take i xs)) ≡ true → p (see x) ≡ true →
    list_all p (first ∷ map see (take (i + 1) xs)) ≡ true
more_seen_pass p see xs i first x l e h k =
    ap (λ ys. list_all p (first ∷ map see ys)) (take_more xs i x l ∙ ap (λ y. take i xs ++ y ∷ []) (sym e))
    ∙ ap (λ ys. list_all p (first ∷ ys)) (map_push see (take i xs) x)
    ∙ list_all-append p (first ∷ map see (take i xs)) (see x ∷ []) ∙ and_from (list_all p (first ∷ map see (take i xs))) (list_all p (see x ∷ [])) h (and_from (p (see x)) true k refl)

-- there is a variant after `!`
pub printed_not : (vs : List Variant) → (length vs == 0) ≡ false → printed_level (none_of vs) ≡ codes "!" ++ printed_variants vs
printed_not [] e = absurd (false≢true (sym e))
printed_not (v ∷ vs) e = refl
