-- What a reader that asks for no memory gives: what it read, or why it reads nothing.
use Rattle.std.specs.Prelude.{◌≡◌, Option, Some, None, Result, Ok, Err, IfOk}
use Rattle.pgv_value.specs.declared.error.CodecError.{CodecError}

-- what is read, or why nothing is
abbrev pub Parsed : Type 0 → Type 0
Parsed M = Result M CodecError

-- one step after the other, unless it fails
infixl 10 ◌>>=◌
abbrev pub ◌>>=◌ : {A B : Type 0} → Parsed A → (A → Parsed B) → Parsed B
(Ok x) >>= next = next x
(Err e) >>= next = Err e

-- what was returned, seen by view, is exactly what is read
abbrev pub GivesExactly : {V M : Type 0} → (V → M) → Parsed M → Result V CodecError → Type 0
GivesExactly view parsed (Ok v) = parsed ≡ Ok (view v)
GivesExactly view parsed (Err e) = parsed ≡ Err e

-- what was returned, seen by view, is what is there, or exactly this error where nothing is
abbrev pub GivesOr : {V M : Type 0} → (V → M) → Option M → CodecError → Result V CodecError → Type 0
GivesOr view found why (Ok v) = found ≡ Some (view v)
GivesOr view found why (Err e) = (e ≡ why) × (found ≡ None)

-- what a reader of what is in front gives: this, and how long the rest after it is, so that a loop over rests ends
pub record GivesFront {V E : Type 0} (Is : Result V E → Type 0) (Left : V → Type 0) (given : Result V E) : Type 0 where
  pub exact : Is given
  pub shorter : IfOk given Left
