-- Texts that are read one after another: the first that is refused refuses them all.
use Rattle.std.specs.Prelude.{◌≡◌, ◌⊎◌, Bool, true, List, [], ◌∷◌, Result, Ok, Err}

-- what is read first, and then the others
abbrev pub and_others : {M E : Type 0} → Result M E → Result (List M) E → Result (List M) E
and_others (Err e) others = Err e
and_others (Ok m) (Err e) = Err e
and_others (Ok m) (Ok ms) = Ok (m ∷ ms)

abbrev pub read_each : {X M E : Type 0} → (X → Result M E) → List X → Result (List M) E
read_each read [] = Ok []
read_each read (x ∷ xs) = and_others (read x) (read_each read xs)

-- whether the first passes a test, where there is one
abbrev pub first_is : {X : Type 0} → (X → Bool) → List X → Bool
first_is good [] = true
first_is good (x ∷ xs) = good x

-- what was returned, seen by view, is what a text is read as, unless memory ran out where it may have been asked for
abbrev pub GivesRead : {V M E : Type 0} → (V → M) → E → Bool → Result M E → Result V E → Type 0
GivesRead view memory may_alloc read (Ok v) = read ≡ Ok (view v)
GivesRead view memory may_alloc read (Err e) = (read ≡ Err e) ⊎ ((e ≡ memory) × (may_alloc ≡ true))

-- the same where memory isn't asked for
abbrev pub GivesAs : {V M E : Type 0} → (V → M) → Result M E → Result V E → Type 0
GivesAs view read (Ok v) = read ≡ Ok (view v)
GivesAs view read (Err e) = read ≡ Err e
