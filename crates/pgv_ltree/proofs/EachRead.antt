-- Texts that are read one after another.
use Rattle.std.proofs.Common.{◌≡◌, ◌⊎◌, inl, inr, ◌∙◌, ap, ℕ, zero, suc, ◌<◌, List, [], ◌∷◌, ◌++◌, length, get_or, take, drop, sym, refl, arith, ◌≢◌, Bool, true}
use Rattle.std.specs.Prelude.{Bool, true, false, Result, Ok, Err, ◌==◌}
use Rattle.std.proofs.lemmas.Bool.{false≢true, and_from}
use Rattle.pgv_value.specs.declared.tree_error.PgLTreeParseError.{PgLTreeParseError}
use Rattle.pgv_value.specs.declared.tree_error.PgLTreeParseError.TheVariants.{InvalidLtreeLabel, Memory}
use Rattle.pgv_ltree.specs.Labels.{is_label, label_read}
use Rattle.pgv_ltree.specs.TextsInTurn.{and_others, first_is, read_each}
use Rattle.std.specs.List.{AllZip, list_all, slice_split}
use Rattle.std.proofs.lemmas.List.Splits.{length-slice_split}
use Rattle.pgv_value.specs.Outcome.{Fails}
use Rattle.pgv_value.specs.TreeErrors.{tree_refused}
use Rattle.pgv_ltree.specs.Trees.{begins_with_label, parts, tree_read}
use Rattle.pgv_ltree.specs.TreesCodec.{tree_in_text}

-- what is read first of texts that are read
pub record First {M E : Type 0} (r : Result M E) (others : Result (List M) E) (ms : List M) : Type 0 where
  pub value : M
  pub more : List M
  pub is : r ≡ Ok value
  pub are : others ≡ Ok more
  pub whole : ms ≡ value ∷ more

pub first_of : {M E : Type 0} (r : Result M E) (others : Result (List M) E) (ms : List M) → and_others r others ≡ Ok ms → First r others ms
first_of (Err e) others ms h = absurd cc
first_of (Ok m) (Err e) ms h = absurd cc
first_of (Ok m) (Ok more) ms h = record { value = m; more = more; is = refl; are = refl; whole = cc }

module _ {X M E : Type 0} (read : X → Result M E) where
  -- one more text
  pub each-push : (xs : List X) (ms : List M) (x : X) (m : M) → read_each read xs ≡ Ok ms → read x ≡ Ok m → read_each read (xs ++ x ∷ []) ≡ Ok (ms ++ m ∷ [])
  each-push [] ms x m e f = let n : ms ≡ [] = cc in rw (f, n) refl
  each-push (y ∷ xs) ms x m e f =
      let g = first_of (read y) (read_each read xs) ms e in
      rw (g.is, each-push xs g.more x m g.are f) (ap (λ (zs : List M). let r : Result (List M) E = Ok (zs ++ m ∷ []) in r) (sym g.whole))

  -- the first that is refused
  each-fault : (xs : List X) (ms : List M) (x : X) (e : E) (rest : List X) → read_each read xs ≡ Ok ms → read x ≡ Err e → read_each read (xs ++ x ∷ rest) ≡ Err e
  each-fault [] ms x e rest h f = rw f refl
  each-fault (y ∷ xs) ms x e rest h f =
      let g = first_of (read y) (read_each read xs) ms h in
      rw (g.is, each-fault xs g.more x e rest g.are f) refl

-- a list at one of its elements
at_element : {X : Type 0} (all : List X) (n : ℕ) (x : X) → n < length all → x ≡ get_or all n x → all ≡ take n all ++ x ∷ drop (suc n) all
at_element [] n x l e = absurd (omega arith)
at_element (y ∷ all) zero x l e = ap (λ z. z ∷ all) (sym e)
at_element (y ∷ all) (suc n) x l e = ap (λ zs. y ∷ zs) (at_element all n x (omega arith) e)

-- What the text at a place is refused with refuses them all, where those before it are read; out of memory stays.
pub refused_by_one : {X M E : Type 0} (read : X → Result M E) (all done : List X) (ms : List M) (n : ℕ) (x : X) (e : E) →
    done ≡ take n all → n < length all → x ≡ get_or all n x → read_each read done ≡ Ok ms → read x ≡ Err e → read_each read all ≡ Err e
refused_by_one read all done ms n x e d l at h f =
    ap (read_each read) (at_element all n x l at) ∙ each-fault read (take n all) ms x e (drop (suc n) all) (ap (read_each read) (sym d) ∙ h) f

-- a text that is no label isn't read
pub unread_label : {A : Type 0} (text m : List ℕ) → is_label text ≡ false → label_read text ≡ Ok m → A
unread_label text m isnt e = by (rw isnt at e)
  where
    by : {A : Type 0} → (let r : Result (List ℕ) PgLTreeParseError = Err InvalidLtreeLabel in r) ≡ Ok m → A
    by f = absurd (cc)

module _ {X M E : Type 0} (read : X → Result M E) (good : X → Bool) (passes : (x : X) (m : M) → read x ≡ Ok m → good x ≡ true) where
  -- Where the first text doesn't pass a test that each text passes that is read, none was read: the text that is read
  -- now is the first.
  pub first_now : (all done : List X) (ms : List M) (n : ℕ) (x : X) → done ≡ take n all → n < length all → x ≡ get_or all n x →
      read_each read done ≡ Ok ms → first_is good all ≡ false → good x ≡ false
  first_now [] done ms n x d l at h isnt = absurd (omega arith)
  first_now (y ∷ all) done ms zero x d l at h isnt = rw at isnt
  first_now (y ∷ all) done ms (suc n) x d l at h isnt =
      let g = first_of (read y) (read_each read (take n all)) ms (ap (read_each read) (sym d) ∙ h) in
      absurd (false≢true (sym isnt ∙ passes y g.value g.is))

  -- where the text that is read now passes, the first did
  pub first_passed : (all done : List X) (ms : List M) (n : ℕ) (x : X) → done ≡ take n all → n < length all → x ≡ get_or all n x → read_each read done ≡ Ok ms → good x ≡ true → first_is good all ≡ true
  first_passed all done ms n x d l at h is = by (first_is good all) refl
    where
      by : (b : Bool) → first_is good all ≡ b → first_is good all ≡ true
      by true first = first
      by false first = absurd (false≢true (sym (first_now all done ms n x d l at h first) ∙ is))

  -- what refuses the text that is read now refuses them all, or memory ran out after the first passed
  pub each_gives : (memory : E) (all done : List X) (ms : List M) (n : ℕ) (x : X) (e : E) → done ≡ take n all → n < length all → x ≡ get_or all n x → read_each read done ≡ Ok ms →
      (read x ≡ Err e) ⊎ ((e ≡ memory) × (good x ≡ true)) → (read_each read all ≡ Err e) ⊎ ((e ≡ memory) × (first_is good all ≡ true))
  each_gives memory all done ms n x e d l at h (inl f) = inl (refused_by_one read all done ms n x e d l at h f)
  each_gives memory all done ms n x e d l at h (inr m) = inr (m.0, first_passed all done ms n x d l at h m.1)

  -- where all are read, the first passes it
  pub first_passes : (all : List X) (ms : List M) → read_each read all ≡ Ok ms → first_is good all ≡ true
  first_passes [] ms h = refl
  first_passes (y ∷ all) ms h = let g = first_of (read y) (read_each read all) ms h in passes y g.value g.is

pub read_is_label : (text m : List ℕ) → label_read text ≡ Ok m → is_label text ≡ true
read_is_label text m e = by (is_label text) refl
  where
    by : (b : Bool) → is_label text ≡ b → is_label text ≡ true
    by true is = is
    by false is = unread_label text m is e

-- ---- why texts are no labels

label_fault : (text : List ℕ) (e : PgLTreeParseError) → label_read text ≡ Err e → e ≡ InvalidLtreeLabel
label_fault text e r = by (is_label text) refl
  where
    same : (let s : Result (List ℕ) PgLTreeParseError = Err InvalidLtreeLabel in s) ≡ Err e → e ≡ InvalidLtreeLabel
    same f = cc

    other : {A : Type 0} → (let s : Result (List ℕ) PgLTreeParseError = Ok text in s) ≡ Err e → A
    other f = absurd (cc)

    by : (b : Bool) → is_label text ≡ b → e ≡ InvalidLtreeLabel
    by true is = other (rw is at r)
    by false isnt = same (rw isnt at r)

pub labels_fault : (texts : List (List ℕ)) (e : PgLTreeParseError) → read_each label_read texts ≡ Err e → e ≡ InvalidLtreeLabel
labels_fault [] e r = absurd (cc)
labels_fault (text ∷ texts) e r = by (label_read text) (read_each label_read texts) (label_fault text e) (labels_fault texts e) r
  where
    by : (first : Result (List ℕ) PgLTreeParseError) (others : Result (List (List ℕ)) PgLTreeParseError) → (first ≡ Err e → e ≡ InvalidLtreeLabel) → (others ≡ Err e → e ≡ InvalidLtreeLabel) →
        and_others first others ≡ Err e → e ≡ InvalidLtreeLabel
    by (Err d) others f g h = let d_is : d ≡ e = cc in f (ap (λ (c : PgLTreeParseError). let s : Result (List ℕ) PgLTreeParseError = Err c in s) d_is)
    by (Ok m) (Err d) f g h = let d_is : d ≡ e = cc in g (ap (λ (c : PgLTreeParseError). let s : Result (List (List ℕ)) PgLTreeParseError = Err c in s) d_is)
    by (Ok m) (Ok ms) f g h = absurd (cc)

-- ---- texts and what is read from them, one by one

pub each_is : {M E : Type 0} (read : List ℕ → Result M E) (P : List ℕ → M → Type 0) → ((text : List ℕ) (m : M) → read text ≡ Ok m → P text m) → (texts : List (List ℕ)) (ms : List M) → read_each read texts ≡ Ok ms → AllZip P texts ms
each_is read P h [] [] e = tt
each_is read P h [] (m ∷ ms) e = absurd cc
each_is read P h (text ∷ texts) [] e = let f = first_of (read text) (read_each read texts) [] e in let w = f.whole in absurd cc
each_is read P h (text ∷ texts) (m ∷ ms) e =
    let f = first_of (read text) (read_each read texts) (m ∷ ms) e in
    let w = f.whole in
    let a : f.value ≡ m = cc in
    let b : f.more ≡ ms = cc in
    (h text m (f.is ∙ rw a refl), each_is read P h texts ms (f.are ∙ rw b refl))

pub each_reads : {M E : Type 0} (read : List ℕ → Result M E) (P : List ℕ → M → Type 0) → ((text : List ℕ) (m : M) → P text m → read text ≡ Ok m) → (texts : List (List ℕ)) (ms : List M) → AllZip P texts ms → read_each read texts ≡ Ok ms
each_reads read P h [] [] z = refl
each_reads read P h [] (m ∷ ms) z = absurd z
each_reads read P h (text ∷ texts) [] z = absurd z
each_reads read P h (text ∷ texts) (m ∷ ms) z = rw (h text m z.0, each_reads read P h texts ms z.1) refl

pub each_text : {M : Type 0} (P : List ℕ → M → Type 0) (test : List ℕ → Bool) → ((text : List ℕ) (m : M) → P text m → test text ≡ true) → (texts : List (List ℕ)) (ms : List M) → AllZip P texts ms → list_all test texts ≡ true
each_text P test h [] [] z = refl
each_text P test h [] (m ∷ ms) z = absurd z
each_text P test h (text ∷ texts) [] z = absurd z
each_text P test h (text ∷ texts) (m ∷ ms) z = and_from (test text) (list_all test texts) (h text m z.0) (each_text P test h texts ms z.1)

pub each_value : {M : Type 0} (P : List ℕ → M → Type 0) (test : M → Bool) → ((text : List ℕ) (m : M) → P text m → test m ≡ true) → (texts : List (List ℕ)) (ms : List M) → AllZip P texts ms → list_all test ms ≡ true
each_value P test h [] [] z = refl
each_value P test h [] (m ∷ ms) z = absurd z
each_value P test h (text ∷ texts) [] z = absurd z
each_value P test h (text ∷ texts) (m ∷ ms) z = and_from (test m) (list_all test ms) (h text m z.0) (each_value P test h texts ms z.1)

pub no_nil : (d : ℕ) (text : List ℕ) → slice_split (λ c. c == d) text ≢ []
no_nil d text e =
    let l : length (slice_split (λ c. c == d) text) ≡ 0 = ap length e in
    omega (arith, length-slice_split (λ c. c == d) text)

-- a tree that isn't read
pub tree_fails : (text : List ℕ) (e : PgLTreeParseError) → (tree_read text ≡ Err e) ⊎ ((e ≡ Memory) × (begins_with_label text ≡ true)) → Fails (tree_refused e) (tree_in_text text)
tree_fails text e (inl r) = inl (rw (labels_fault (parts text) e r, r) refl)
tree_fails text e (inr m) = inr (inr (ap tree_refused m.0, rw m.1 refl))
