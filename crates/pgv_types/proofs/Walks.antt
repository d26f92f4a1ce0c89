-- The walk gives the significant characters.
use Rattle.std.proofs.Common.{◌≡◌, ◌≢◌, ◌⊎◌, inl, inr, ℕ, ◌+◌, ◌%◌, Bool, true, false, not, cond, ◌==◌, List, [], ◌∷◌, ◌++◌, ap, ◌∙◌, sym, refl, arith, add-zero}
use Rattle.std.specs.List.{flat_map}
use Rattle.std.proofs.lemmas.Bool.{ne_eqb, eq-eqb}
use Rattle.std.proofs.lemmas.Bool.Decides.{eqb_tells}
use Rattle.pgv_types.specs.Names.{NameToken, letter, quote, switch, token_spelling, switches, AreTokens, Significant, chars_after, AreSignificant, walk}

-- an odd number of switches
abbrev pub odd : List NameToken → Bool
odd front = switches front % 2 == 1

switches_push : (front : List NameToken) (token : NameToken) → switches (front ++ token ∷ []) ≡ switches front + switches (token ∷ [])
switches_push [] (letter c) = refl
switches_push [] quote = refl
switches_push [] switch = refl
switches_push (letter c ∷ front) token = switches_push front token
switches_push (quote ∷ front) token = switches_push front token
switches_push (switch ∷ front) token =
    let e = switches_push front token in
    omega arith

odd_more : (n : ℕ) → ((n + 1) % 2 == 1) ≡ not (n % 2 == 1)
odd_more n = elim (eqb_tells (n % 2) 1) [
  | inl h ↦ ne_eqb ((n + 1) % 2) 1 (λ e. omega arith) ∙ ap not (sym h.0)
  | inr h ↦ eq-eqb ((n + 1) % 2) 1 (omega arith) ∙ ap not (sym h.0)
]

-- The characters of tokens, by whether the number of switches before is odd.
abbrev pub chars_of : Bool → List NameToken → List Significant
chars_of sensitive [] = []
chars_of sensitive (letter c ∷ tokens) = record { char = c; sensitive = sensitive } ∷ chars_of sensitive tokens
chars_of sensitive (quote ∷ tokens) = record { char = 34; sensitive = sensitive } ∷ chars_of sensitive tokens
chars_of sensitive (switch ∷ tokens) = chars_of (not sensitive) tokens

odd_push : (front : List NameToken) (token : NameToken) → odd (front ++ token ∷ []) ≡ ((switches front + switches (token ∷ [])) % 2 == 1)
odd_push front token = ap (λ n. n % 2 == 1) (switches_push front token)

pub counted : (tokens front : List NameToken) → chars_after front tokens ≡ chars_of (odd front) tokens
counted [] front = refl
counted (letter c ∷ tokens) front =
    ap (λ cs. record { char = c; sensitive = odd front } ∷ cs) (counted tokens (front ++ letter c ∷ []) ∙ ap (λ b. chars_of b tokens) (odd_push front (letter c) ∙ simp add-zero))
counted (quote ∷ tokens) front =
    ap (λ cs. record { char = 34; sensitive = odd front } ∷ cs) (counted tokens (front ++ quote ∷ []) ∙ ap (λ b. chars_of b tokens) (odd_push front quote ∙ simp add-zero))
counted (switch ∷ tokens) front =
    counted tokens (front ++ switch ∷ []) ∙ ap (λ b. chars_of b tokens) (odd_push front switch ∙ odd_more (switches front))

abbrev pub spelled : List NameToken → List ℕ
spelled tokens = flat_map token_spelling tokens

letter_walk : (sensitive pending : Bool) (c : ℕ) (cs : List ℕ) → c ≢ 34 → walk sensitive pending (c ∷ cs) ≡ cond pending (record { char = c; sensitive = not sensitive } ∷ walk (not sensitive) false cs) (record { char = c; sensitive = sensitive } ∷ walk sensitive false cs)
letter_walk sensitive pending c cs n = rw (ne_eqb c 34 n)

pub walked : (sensitive : Bool) (tokens : List NameToken) → AreTokens tokens → walk sensitive false (spelled tokens) ≡ chars_of sensitive tokens
walked sensitive [] h = refl
walked sensitive (letter c ∷ tokens) h = letter_walk sensitive false c (spelled tokens) h.0 ∙ ap (λ cs. record { char = c; sensitive = sensitive } ∷ cs) (walked sensitive tokens h.1)
walked sensitive (quote ∷ tokens) h = ap (λ cs. record { char = 34; sensitive = sensitive } ∷ cs) (walked sensitive tokens h)
walked sensitive (switch ∷ []) h = refl
walked sensitive (switch ∷ letter c ∷ tokens) h = letter_walk sensitive true c (spelled tokens) h.1.0 ∙ ap (λ cs. record { char = c; sensitive = not sensitive } ∷ cs) (walked (not sensitive) tokens h.1.1)
walked sensitive (switch ∷ quote ∷ tokens) h = absurd h.0
walked sensitive (switch ∷ switch ∷ tokens) h = absurd h.0

-- every text has tokens; at true, with a quote in front
pub record HasTokens (name : List ℕ) : Type 0 where
  pub tokens : List NameToken
  pub are : AreTokens tokens
  pub whole : name ≡ spelled tokens

abbrev with_quote : Bool → List ℕ → List ℕ
with_quote true cs = 34 ∷ cs
with_quote false cs = cs

tokens_at : (pending : Bool) (c : ℕ) (cs : List ℕ) → ((q : Bool) → HasTokens (with_quote q cs)) → (c ≡ 34) ⊎ (c ≢ 34) → HasTokens (with_quote pending (c ∷ cs))
tokens_at true c cs rest (inl e) = record { tokens = quote ∷ (rest false).tokens; are = (rest false).are; whole = ap (λ x. 34 ∷ x ∷ cs) e ∙ ap (λ t. 34 ∷ 34 ∷ t) (rest false).whole }
tokens_at true c cs rest (inr n) = record { tokens = switch ∷ letter c ∷ (rest false).tokens; are = (tt, (n, (rest false).are)); whole = ap (λ t. 34 ∷ c ∷ t) (rest false).whole }
tokens_at false c cs rest (inl e) = record { tokens = (rest true).tokens; are = (rest true).are; whole = ap (λ x. x ∷ cs) e ∙ (rest true).whole }
tokens_at false c cs rest (inr n) = record { tokens = letter c ∷ (rest false).tokens; are = (n, (rest false).are); whole = ap (λ t. c ∷ t) (rest false).whole }

is_quote : (c : ℕ) → (c ≡ 34) ⊎ (c ≢ 34)
is_quote c = elim (eqb_tells c 34) [ inl h ↦ inl h.1 | inr h ↦ inr h.1 ]

has_tokens : (cs : List ℕ) (pending : Bool) → HasTokens (with_quote pending cs)
has_tokens [] true = record { tokens = switch ∷ []; are = (tt, tt); whole = refl }
has_tokens [] false = record { tokens = []; are = tt; whole = refl }
has_tokens (c ∷ cs) pending = tokens_at pending c cs (has_tokens cs) (is_quote c)

pub walk_gives : (name : List ℕ) → AreSignificant name (walk false false name)
walk_gives name =
    let t = has_tokens name false in
    record { tokens = t.tokens; are = t.are; whole = t.whole; found_are = ap (walk false false) t.whole ∙ walked false t.tokens t.are ∙ sym (counted t.tokens []) }

pub only_walk : (name : List ℕ) (found : List Significant) → AreSignificant name found → found ≡ walk false false name
only_walk name found h = h.found_are ∙ counted h.tokens [] ∙ sym (walked false h.tokens h.are) ∙ ap (walk false false) (sym h.whole)
