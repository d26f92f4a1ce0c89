-- What is appended of a tree and of a query.
use Rattle.std.proofs.Common.{◌≡◌, ◌∙◌, ◌+◌, ◌<◌, ℕ, List, [], ◌∷◌, ◌++◌, length, get_or, take, ap, sym, refl, Bool, true, Ok}
use Rattle.std.proofs.lemmas.List.{take_more}
use Rattle.std.proofs.lemmas.List.Folds.{list_all-append}
use Rattle.std.specs.List.{list_all}
use Rattle.std.proofs.lemmas.Bool.{and_from}
use Rattle.pgv_buf.specs.Tokens.{Token, Cell, blank, byte, bytes}
use Rattle.pgv_codec.specs.Encoding.{image_of, writes}
use Rattle.pgv_codec.specs.PlainBytes.{appended_parts}
use Rattle.pgv_ltree.specs.Labels.{is_label}
use Rattle.pgv_ltree.specs.Trees.{printed_tree}
use Rattle.pgv_ltree.specs.TreesCodec.{tree_image}
use Rattle.pgv_ltree.specs.Queries.{Level, is_query}
use Rattle.pgv_ltree.specs.QueryCodec.{query_image}
use Rattle.pgv_ltree.specs.QueryPrinted.{printed_query}

-- ---- what is appended of a tree

-- one more label of a list
more : {X : Type 0} (xs : List X) (i : ℕ) (x : X) → i < length xs → x ≡ get_or xs i x → take (i + 1) xs ≡ take i xs ++ x ∷ []
more xs i x l e = take_more xs i x l ∙ ap (λ y. take i xs ++ y ∷ []) (sym e)

-- it passes a test that the others pass
pub more_pass : {X : Type 0} (p : X → Bool) (xs : List X) (i : ℕ) (first x : X) → i < length xs → x ≡ get_or xs i x → list_all p (first ∷ take i xs) ≡ true → p x ≡ true → list_all p (first ∷ take (i + 1) xs) ≡ true
more_pass p xs i first x l e h k =
    ap (λ ys. list_all p (first ∷ ys)) (more xs i x l e) ∙ list_all-append p (first ∷ take i xs) (x ∷ []) ∙ and_from (list_all p (first ∷ take i xs)) (list_all p (x ∷ [])) h (and_from (p x) true k refl)

-- the version and all labels
pub written_tree : (was between now : List Cell) (tree labels : List (List ℕ)) → labels ≡ tree → list_all is_label labels ≡ true → between ≡ was ++ blank (byte 1 ∷ []) → now ≡ between ++ blank (bytes (printed_tree labels)) →
    (ts : List Token) × ((writes (tree_image tree)).answer ≡ Ok (image_of ts)) × (now ≡ was ++ blank ts)
written_tree was between now tree labels same each first second =
    let test : list_all is_label tree ≡ true = ap (list_all is_label) (sym same) ∙ each in
    let all = appended_parts was between now (1 ∷ []) (printed_tree labels) first second in
    (bytes (1 ∷ printed_tree tree), rw test refl, all ∙ ap (λ ls. was ++ blank (bytes (1 ∷ printed_tree ls))) same)

-- ---- what is appended of a query

-- the version and all levels
pub written_query : (was between now : List Cell) (query levels : List Level) → levels ≡ query → is_query levels ≡ true → between ≡ was ++ blank (byte 1 ∷ []) → now ≡ between ++ blank (bytes (printed_query levels)) →
    (ts : List Token) × ((writes (query_image query)).answer ≡ Ok (image_of ts)) × (now ≡ was ++ blank ts)
written_query was between now query levels same each first second =
    let test : is_query query ≡ true = ap is_query (sym same) ∙ each in
    let all = appended_parts was between now (1 ∷ []) (printed_query levels) first second in
    (bytes (1 ∷ printed_query query), rw test refl, all ∙ ap (λ ls. was ++ blank (bytes (1 ∷ printed_query ls))) same)
